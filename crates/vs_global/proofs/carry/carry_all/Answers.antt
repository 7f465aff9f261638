-- Each turn takes the first mark away, and what is left of the run stays the same.
use Rattle.std.proofs.Common.{◌∙◌, ◌+◌, ◌-◌, ℕ, ap, sym, subst, arith}
use Rattle.vs_edit.proofs.Steps.{SameText-trans}
use Rattle.vs_exparse.specs.Command.{command_of}
use Rattle.std.proofs.Common.{Result}
use Rattle.vs_exparse.specs.declared.command.ExErr.{ExErr}
use Rattle.vs_global.specs.Carry.{IsRefused}
use Rattle.vs_global.specs.Global.{Marked, all_marked, without_first}
use Rattle.vs_global.proofs.CarryLemmas.{ended, next, one-more, one-refused, turns}
use Rattle.vs_global.proofs.carry.carry_all.Goals as goal

pub returns-in-None-clause-ends : goal.returns-in-None-clause-ends
returns-in-None-clause-ends g c = λ start here.
    ended g.S.LineStore (command_of c.args.nested.now) c.args.count (c.args.count - c.loop.counter) start c.loop.view c.loop.marks c.take_first.new.self c.loop.run
    (c.loop.invariant.reaches start here) c.in-None.ensures.none c.in-None.ensures.stays

pub returns-in-Err-clause-refused : goal.returns-in-Err-clause-refused
returns-in-Err-clause-refused g c = λ start here.
    let command = command_of c.args.nested.now in
    let reached = c.loop.invariant.reaches start here in
    let line = c.in-Some.line in
    let left = c.args.count - (c.loop.counter + 1) in
    let below = turns c.args.count c.loop.counter c.loop-test.true in
    let is_next = next g.S.LineStore c.loop.view c.loop.marks c.take_first.new.self c.loop.run reached.now line reached.at c.in-Some.ensures.some in
    let refused = c.in-Err.ensures.refused (record reached.now { marks = without_first reached.now.marks }) is_next.at in
    subst (λ (meant : Result Marked ExErr). IsRefused meant c.in-Err.error) (ap (λ (k : ℕ). all_marked k command reached.now) (sym below) ∙ reached.rest)
    (one-refused command left reached.now line c.in-Err.error is_next.first refused)

pub loop-preserved : goal.loop-preserved
loop-preserved g c =
    let law = g.met.S.LineStore in
    let before = c.loop.invariant in
    let done = c.in_default.ensures in
    let some = c.in-Some.ensures in
    record {
      ready = done.ready;
      low = omega (arith, before.low, some.lead, done.lead.low);
      high = omega (arith, before.high, some.lead, done.lead.high);
      reaches = λ start here.
          let command = command_of c.args.nested.now in
          let reached = before.reaches start here in
          let line = c.in-Some.line in
          let left = c.args.count - (c.loop.counter + 1) in
          let below = turns c.args.count c.loop.counter c.loop-test.true in
          let is_next = next g.S.LineStore c.loop.view c.loop.marks c.take_first.new.self c.loop.run reached.now line reached.at some.some in
          let carried = done.carried (record reached.now { marks = without_first reached.now.marks }) is_next.at in
          record {
            now = carried.after;
            at = carried.at;
            covers = λ first same. carried.covers first (reached.covers first same);
            rest = sym (one-more command left reached.now line carried.after is_next.first carried.is) ∙ ap (λ (k : ℕ). all_marked k command reached.now) (sym below) ∙ reached.rest;
          };
      within = λ start was. done.within start (before.within start was);
      kept = record {
        valid = done.ready.valid;
        stays = law.stays_on c.args.view.now c.loop.view c.carry-carried.new.view before.kept.stays done.kept.stays;
        committed = SameText-trans before.kept.committed done.kept.committed;
      };
      faults = done.cause.none (λ failed. absurd (cc)) ∙ before.faults;
    }
