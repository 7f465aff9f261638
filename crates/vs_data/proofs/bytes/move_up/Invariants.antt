use Rattle.std.proofs.Common.{◌≡◌, ◌-◌, ◌≤◌}
use Rattle.vs_data.proofs.Moves.{moved}
use Rattle.vs_data.proofs.bytes.move_up.Given as goal

abbrev pub invariant-parts : goal.invariant-parts
invariant-parts l = (l.left ≤ l.end - l.start) × (l.block ≡ moved l.fn.block l.start (l.end - l.start) l.to l.left)

abbrev pub decreases-parts : goal.decreases-parts
decreases-parts l = l.left
