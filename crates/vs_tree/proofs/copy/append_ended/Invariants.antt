use Rattle.std.proofs.Common.{◌-◌}
use Rattle.vs_tree.specs.Reads.{AddsEnded}
use Rattle.vs_tree.proofs.copy.append_ended.Given as goal

abbrev pub invariant-lines : goal.invariant-lines
invariant-lines l = AddsEnded l.block l.fn.into.items l.into.items l.from (l.line - l.from)
