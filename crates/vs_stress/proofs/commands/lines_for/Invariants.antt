use Rattle.std.proofs.Common.{◌≡◌}
use Rattle.vs_stress.specs.Commands.{block_to}
use Rattle.vs_stress.proofs.commands.lines_for.Given as goal

abbrev pub invariant-digits : goal.invariant-digits
invariant-digits l = l.lines.items ≡ block_to l.fn.number l.digit
