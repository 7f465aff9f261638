use Rattle.std.proofs.Common.{rules, refl, sym, ◌∙◌}
use Rattle.std.proofs.lemmas.Bool.{true≢false}
use Rattle.vs_machine.specs.Answers.{meaning_at}
use Rattle.vs_machine.specs.Machine as machine
use Rattle.vs_machine.specs.Machine.{current_of}
use Rattle.vs_machine.specs.declared.command.Mark.{Mark}
use Rattle.vs_machine.specs.declared.command.Outcome.TheVariants.{Done}
use Rattle.vs_session.specs.Session.{keep_of}
use Rattle.vs_session.proofs.Calls.{goes_reading}
use Rattle.vs_session.proofs.SessionLemmas.{counted_is, counted_same, kept_alike, saved_is_left, stands_kept, stays_set}
use Rattle.vs_session.proofs.session.Session.run_machine.Goals as goal

pub answer_text-requires-clause-fits : goal.answer_text-requires-clause-fits
answer_text-requires-clause-fits g c = record { counts = c.requires.usable.undo; fits = λ told. let given = c.requires.usable.fits told in (given.0.machine, given.1, given.2.stands) }

pub returns-in-Ok-clause-reply : goal.returns-in-Ok-clause-reply
returns-in-Ok-clause-reply g c told state syncs instruction fits is = c.in-Ok.ensures.reply told state.machine syncs instruction fits.stands fits.cursor is

pub returns-in-Ok-clause-fits : goal.returns-in-Ok-clause-fits
returns-in-Ok-clause-fits g c told state syncs instruction fits is =
    let mark : Mark = record { outcome = Done; at = c.args.at } in
    let meaning = meaning_at state.machine instruction in
    let alike = kept_alike c.args.self.now (g.F.World.scene c.args.host.now).folder state syncs mark _ fits c.from-levels.ensures in
    let after = stands_kept alike _ _ _ state.machine syncs meaning _ (c.in-Ok.ensures.state told state.machine syncs instruction fits.stands fits.cursor is) in
    let oldest = c.in-Ok.ensures.oldest told state.machine syncs instruction fits.stands fits.cursor is in
    record {
      stands = after.0;
      name = fits.name;
      cursor = after.1;
      saved = saved_is_left alike state.machine meaning _ _ _ _ oldest fits.saved (c.saved_after-self.ensures.history _ _ after.0.history);
      saved_format = fits.saved_format;
      steps = c.counted-self.ensures.count ∙ counted_is c.args.self.now _ (g.F.World.scene c.args.host.now).folder state (machine.done_state state.machine (keep_of state mark) meaning) syncs c.current-before.result c.current.result fits after.0.history c.current-before.ensures c.current.ensures;
      options = stays_set c.args.self.now _ state syncs instruction _ fits is.parsed c.requires.own;
      acknowledged = fits.acknowledged;
    }

pub returns-in-Err-NoMemory-clause-fits : goal.returns-in-Err-NoMemory-clause-fits
returns-in-Err-NoMemory-clause-fits g c told state syncs instruction fits is = record {
  stands = c.in-Err-NoMemory.ensures.err told state.machine syncs fits.stands;
  name = fits.name;
  cursor = fits.cursor;
  saved = fits.saved;
  saved_format = fits.saved_format;
  steps = fits.steps ∙ sym (counted_same state.steps (current_of state.machine));
  options = fits.options;
  acknowledged = fits.acknowledged;
}

pub returns-in-Err-Failed-clause-fits : goal.returns-in-Err-Failed-clause-fits
returns-in-Err-Failed-clause-fits g c told state syncs instruction fits is = record {
  stands = c.in-Err-Failed.ensures.err told state.machine syncs fits.stands;
  name = fits.name;
  cursor = fits.cursor;
  saved = fits.saved;
  saved_format = fits.saved_format;
  steps = fits.steps ∙ sym (counted_same state.steps (current_of state.machine));
  options = fits.options;
  acknowledged = fits.acknowledged;
}

pub returns-in-Ok-clause-works : goal.returns-in-Ok-clause-works
returns-in-Ok-clause-works g c told state syncs instruction fits is = c.in-Ok.ensures.works told state.machine syncs instruction fits.stands fits.cursor is

pub returns-in-Err-NoMemory-clause-works : goal.returns-in-Err-NoMemory-clause-works
returns-in-Err-NoMemory-clause-works g c told state syncs instruction fits is = c.in-Err-NoMemory.ensures.idle told

pub returns-in-Err-Failed-clause-works : goal.returns-in-Err-Failed-clause-works
returns-in-Err-Failed-clause-works g c told state syncs instruction fits is = c.in-Err-Failed.ensures.idle told

pub returns-in-Ok-clause-kept : goal.returns-in-Ok-clause-kept
returns-in-Ok-clause-kept g c =
    let kept = c.in-Ok.ensures.kept in
    goes_reading g.F.World.tells _ _ c.args.self.now _ (g.F.World.scene c.args.host.now) (g.F.World.scene c.answer_text.new.host) refl refl kept.keeps kept.counts kept.cause
    (λ failed. absurd (cc)) (λ failed. absurd (true≢false (sym failed)))

pub returns-in-Err-NoMemory-clause-kept : goal.returns-in-Err-NoMemory-clause-kept
returns-in-Err-NoMemory-clause-kept g c =
    let kept = c.in-Err-NoMemory.ensures.kept in
    goes_reading g.F.World.tells _ _ c.args.self.now _ (g.F.World.scene c.args.host.now) (g.F.World.scene c.answer_text.new.host) refl refl kept.keeps kept.counts kept.cause
    (λ failed. let is = c.in-Err-NoMemory.field-0-is in absurd (cc)) (λ failed. absurd (true≢false (sym failed)))

pub returns-in-Err-Failed-clause-kept : goal.returns-in-Err-Failed-clause-kept
returns-in-Err-Failed-clause-kept g c =
    let kept = c.in-Err-Failed.ensures.kept in
    goes_reading g.F.World.tells _ _ c.args.self.now _ (g.F.World.scene c.args.host.now) (g.F.World.scene c.answer_text.new.host) refl refl kept.keeps kept.counts kept.cause
    (λ failed. refl) (λ failed. search rules)

pub returns-in-Ok-clause-reads : goal.returns-in-Ok-clause-reads
returns-in-Ok-clause-reads g c told = c.in-Ok.ensures.kept.keeps.reads told

pub returns-in-Err-NoMemory-clause-reads : goal.returns-in-Err-NoMemory-clause-reads
returns-in-Err-NoMemory-clause-reads g c told = c.in-Err-NoMemory.ensures.kept.keeps.reads told

pub returns-in-Err-Failed-clause-reads : goal.returns-in-Err-Failed-clause-reads
returns-in-Err-Failed-clause-reads g c told = c.in-Err-Failed.ensures.kept.keeps.reads told
