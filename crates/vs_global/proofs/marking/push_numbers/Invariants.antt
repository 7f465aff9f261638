use Rattle.std.proofs.Common.{◌≡◌, ◌≤◌, ◌++◌, ◌-◌, true, replicate}
use Rattle.vs_global.specs.Global.{places}
use Rattle.vs_global.proofs.marking.push_numbers.Given as goal

abbrev pub invariant-loop-number : goal.invariant-loop-number
invariant-loop-number l = record {
  low : l.from ≤ l.number;
  numbers : l.taken.items ≡ l.fn.taken.items ++ places l.from (replicate (l.number - l.from) true);
}
