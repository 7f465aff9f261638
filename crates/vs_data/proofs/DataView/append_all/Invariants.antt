use Rattle.std.proofs.Common.{◌-◌, length}
use Rattle.vs_data.specs.Blocks.{PutsLast, headed}
use Rattle.vs_data.proofs.DataView.append_all.Given as goal

abbrev pub invariant-lines : goal.invariant-lines
invariant-lines l = PutsLast l.fn.block (headed l.block l.self) l.fn.self l.self l.lines l.taken

abbrev pub decreases-lines : goal.decreases-lines
decreases-lines l = length l.lines - l.taken
