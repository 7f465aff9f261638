use Rattle.std.proofs.Common.{◌≡◌}
use Rattle.vs_mutate.specs.Tallies.{IsTally, answers}
use Rattle.vs_mutate.proofs.reading.read_all.Given as goal

abbrev pub invariant-loop-number : goal.invariant-loop-number
invariant-loop-number l = record {
  count : answers l.tally ≡ l.number;
  told : IsTally l.number l.tally;
}
