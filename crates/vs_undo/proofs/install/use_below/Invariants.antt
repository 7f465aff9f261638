use Rattle.std.proofs.Common.{◌≡◌, drop}
use Rattle.std.specs.List.Sorted.{IsStrictlyIncreasing}
use Rattle.vs_undo.specs.Meetings.{used_below}
use Rattle.vs_undo.specs.Numbers.{numbers}
use Rattle.vs_undo.proofs.install.use_below.Given as goal

abbrev pub invariant-loop-k : goal.invariant-loop-k
invariant-loop-k l = record {
  used : used_below (drop l.k l.way) l.top l.parts ≡ used_below l.way l.top l.initial.parts;
  rising : IsStrictlyIncreasing (numbers l.parts.nodes);
}
