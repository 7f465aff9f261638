use Rattle.std.proofs.Common.{◌≡◌, ◌++◌, ◌-◌, length}
use Rattle.vs_gap.proofs.lines.draw.Given as goal

abbrev pub invariant-lines : goal.invariant-lines
invariant-lines l = l.lines ++ l.ahead ≡ l.initial.lines ++ l.initial.ahead

abbrev pub decreases-lines : goal.decreases-lines
decreases-lines l = l.count - length l.lines
