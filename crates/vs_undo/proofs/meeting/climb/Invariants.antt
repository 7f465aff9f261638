use Rattle.std.proofs.Common.{◌+◌, ◌-◌, length}
use Rattle.vs_undo.specs.Ways.{Follows}
use Rattle.vs_undo.proofs.meeting.climb.Given as goal

abbrev pub invariant-climb : goal.invariant-climb
invariant-climb l = record {
  from : Follows l.nodes l.from l.up.items l.from_at (length l.nodes - length l.up.items);
  to : Follows l.nodes l.to l.down.items l.to_at (length l.nodes - length l.down.items);
}

abbrev pub decreases-climb : goal.decreases-climb
decreases-climb l = (length l.nodes - length l.up.items) + (length l.nodes - length l.down.items)
