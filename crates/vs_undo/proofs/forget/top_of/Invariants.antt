use Rattle.std.proofs.Common.{◌≡◌, length, unwrap_or}
use Rattle.vs_undo.specs.Forgetting.{top_of}
use Rattle.vs_undo.specs.Ways.{parent_at, way_of, IsKept}
use Rattle.vs_undo.proofs.forget.top_of.Given as goal

abbrev pub invariant-climb : goal.invariant-climb
invariant-climb l = record {
  kept : IsKept l.nodes l.at;
  above : l.above ≡ unwrap_or (parent_at l.nodes l.at) 0;
  top : top_of (way_of l.nodes l.at) ≡ top_of (way_of l.nodes l.number);
}

abbrev pub decreases-climb : goal.decreases-climb
decreases-climb l = length (way_of l.nodes l.at)
