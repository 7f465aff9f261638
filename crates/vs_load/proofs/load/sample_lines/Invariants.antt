use Rattle.std.proofs.Common.{◌≡◌}
use Rattle.vs_load.specs.Loads.{samples}
use Rattle.vs_load.proofs.load.sample_lines.Given as goal

abbrev pub invariant-loop : goal.invariant-loop
invariant-loop l = l.lines.items ≡ samples l.counter
