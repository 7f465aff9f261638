-- Each turn adds a number.
use Rattle.std.proofs.Common.{◌-◌, ◌≤◌, arith}
use Rattle.vs_global.proofs.MarkingLemmas.{none-pushed, number-pushed}
use Rattle.vs_global.proofs.marking.push_numbers.Goals as goal

pub returns-then-not-takes : goal.returns-then-not-takes
returns-then-not-takes c = none-pushed c.args.takes c.args.from (c.args.to - c.args.from) c.args.taken.now.items (cc)

pub loop-number-preserved : goal.loop-number-preserved
loop-number-preserved c =
    let before = c.loop-number.invariant in
    record {
      low = omega (arith, before.low);
      numbers = number-pushed c.args.from c.loop-number.number c.args.taken.now.items c.loop-number.taken.items c.push.new.self.items before.low before.numbers c.in_ok-push.ensures.items;
    }
