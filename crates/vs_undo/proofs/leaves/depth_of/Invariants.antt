use Rattle.std.proofs.Common.{ℕ, ◌≡◌, ◌-◌, List, length}
use Rattle.vs_undo.specs.Ways.{Follows}
use Rattle.vs_undo.proofs.leaves.depth_of.Given as goal

abbrev pub invariant-loop-passed : goal.invariant-loop-passed
invariant-loop-passed l = (way : List ℕ) × ((length way ≡ l.passed) × Follows l.nodes l.number way l.at (length l.nodes - l.passed))
