use Rattle.std.proofs.Common.{◌≡◌, ◌<◌, ℕ, get_or}
use Rattle.vs_edit.specs.Calls.{Continues}
use Rattle.vs_undo.specs.declared.parts.Node.{Node}
use Rattle.vs_outward.specs.Trails.{IsPath, IsSearch, IsSettledAt}
use Rattle.vs_outward.proofs.fitting.find_misfit.Given as goal

abbrev pub invariant-loop-place : goal.invariant-loop-place
invariant-loop-place g l = let old = l.fn.store in record {
  path : IsPath l.parts l.way.changes.items l.search;
  search : IsSearch g.S.LineStore l.parts old l.search l.store;
  root : IsSettledAt g.S.LineStore l.parts old l.search.least 0;
  seen : (k : ℕ) (node : Node) → k < l.place-index → IsSettledAt g.S.LineStore l.parts old l.search.least (get_or l.parts.nodes (get_or l.place-items k 0) node).number;
  valid : g.S.LineStore.valid l.store;
  kept : Continues g.S.LineStore old l.store;
  faults : (g.S.LineStore.shows l.store).faults ≡ (g.S.LineStore.shows old).faults;
}
