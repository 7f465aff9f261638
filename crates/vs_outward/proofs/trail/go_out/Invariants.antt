use Rattle.std.proofs.Common.{◌≡◌, map, take}
use Rattle.vs_edit.specs.Calls.{Continues}
use Rattle.vs_outward.specs.declared.trail.Step.{Step}
use Rattle.vs_outward.specs.Trails.{IsOnTrail}
use Rattle.vs_outward.proofs.trail.go_out.Given as goal

abbrev pub invariant-loop-k : goal.invariant-loop-k
invariant-loop-k g l = let old = l.initial in record {
  on : (first : g.row.S.Denot) → IsOnTrail g.S.LineStore l.nodes first old.trail.items old.store → IsOnTrail g.S.LineStore l.nodes first l.trail.items l.store;
  begun : map (λ (step : Step). step.number) l.trail.items ≡ take l.k l.path;
  valid : g.S.LineStore.valid l.store;
  kept : Continues g.S.LineStore old.store l.store;
  faults : (g.S.LineStore.shows l.store).faults ≡ (g.S.LineStore.shows old.store).faults;
}
