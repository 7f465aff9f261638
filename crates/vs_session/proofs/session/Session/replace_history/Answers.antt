use Rattle.std.proofs.Common.{Ok, Err, refl, sym, ap, ◌∙◌}
use Rattle.std.proofs.lemmas.Bool.{true≢false}
use Rattle.vs_faults.proofs.Causes.{HasCause-weaker}
use Rattle.vs_backup.proofs.Stops.{stops_as}
use Rattle.vs_session.specs.Session.{is_fault}
use Rattle.vs_session.proofs.Replaced.{err_taken, failed_taken, fault_taken, fits_replaced, read_line}
use Rattle.vs_paged.proofs.TurnLemmas.{keeps_known}
use Rattle.vs_session.proofs.session.Session.replace_history.Goals as goal

pub returns-in-Ok-clause-read : goal.returns-in-Ok-clause-read
returns-in-Ok-clause-read g c told state syncs fits =
    let new = g.F.World.scene c.take_undo.new.host in
    let taken = c.in-Ok.ensures.taken told state syncs fits in (
      Ok taken.0,
      taken.1,
      refl,
      c.undo_file_read-reply.ensures ∙ read_line c.in-Ok.field-0.tree state.machine.text taken.0 _ _ taken.2 c.current.ensures taken.3,
      fits_replaced c.take_undo.new.self _ c.in-Ok.field-0.tree new.folder state syncs taken.0 (c.in-Ok.ensures.fits told state syncs fits) taken.2 refl refl refl refl refl refl refl refl c.saved_in-saved.ensures,
    )

pub returns-in-Err-clause-read : goal.returns-in-Err-clause-read
returns-in-Err-clause-read g c told state syncs fits =
    (Err c.in-Err.error, c.in-Err.ensures.refused told state syncs fits, c.refused.ensures.outcome, c.refused.ensures.reply, c.in-Err.ensures.fits told state syncs fits)

pub returns-in-Err-clause-kept : goal.returns-in-Err-clause-kept
returns-in-Err-clause-kept g c = record {
  frame = c.in-Err.ensures.reads.frame;
  looks = c.in-Err.ensures.reads.looks;
  stops = stops_as _ _ _ _ _ (λ calm failed. calm (ap is_fault c.refused.ensures.outcome ∙ fault_taken c.in-Err.error failed)) c.in-Err.ensures.reads.stops;
  file = c.in-Err.ensures.file;
  generation = c.in-Err.ensures.generation;
  known = keeps_known c.args.self.now.text.pair _ c.in-Err.ensures.files;
  undo = c.in-Err.ensures.undo c.requires.usable.undo;
  cause = HasCause-weaker c.in-Err.ensures.reads.cause (λ fault. ap err_taken (failed_taken c.in-Err.error _ c.refused.ensures.outcome fault));
}

pub returns-in-Ok-clause-kept : goal.returns-in-Ok-clause-kept
returns-in-Ok-clause-kept g c =
    let reads = c.in-Ok.ensures.reads in
    let file = c.in-Ok.ensures.file in
    record {
      frame = reads.frame;
      looks = reads.looks;
      stops = stops_as _ _ _ _ _ (λ _ e. cc) reads.stops;
      file = record { name = file.name; found = file.found; names = file.names };
      generation = c.in-Ok.ensures.generation;
      known = keeps_known c.args.self.now.text.pair _ c.in-Ok.ensures.files;
      undo = c.in-Ok.ensures.counts;
      cause = record { later = reads.cause.later; risen = λ e. absurd (true≢false (sym e)) };
    }
