use Rattle.std.proofs.Common.{◌≡◌, ◌-◌, length, take}
use Rattle.vs_edit.specs.Calls.{Continues}
use Rattle.vs_outward.specs.Trails.{IsOnTrail}
use Rattle.vs_outward.proofs.trail.go_in.Given as goal

abbrev pub invariant-loop : goal.invariant-loop
invariant-loop g l = let old = l.initial in record {
  on : (first : g.row.S.Denot) → IsOnTrail g.S.LineStore l.nodes first old.trail.items old.store → IsOnTrail g.S.LineStore l.nodes first l.trail.items l.store;
  less : l.trail.items ≡ take (length old.trail.items - l.counter) old.trail.items;
  valid : g.S.LineStore.valid l.store;
  kept : Continues g.S.LineStore old.store l.store;
  faults : (g.S.LineStore.shows l.store).faults ≡ (g.S.LineStore.shows old.store).faults;
}
