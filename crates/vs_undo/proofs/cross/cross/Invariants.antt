use Rattle.std.proofs.Common.{◌≡◌, ◌<◌, ℕ, List, [], length, get_or, max, drop}
use Rattle.vs_edit.specs.Calls.{Continues}
use Rattle.vs_edit.specs.State.{SameText}
use Rattle.vs_entries.specs.Entries.{Leads, LeadsCount}
use Rattle.vs_undo.specs.Ways.{parent_at}
use Rattle.vs_undo.specs.Turns.{AreLedBack}
use Rattle.vs_undo.specs.Walks.{Crosses, IsWalk, AreTurned}
use Rattle.vs_undo.proofs.cross.cross.Given as goal

abbrev pub invariant-loop-number : goal.invariant-loop-number
invariant-loop-number g l = let old = l.initial.store in record {
  counts : (c : Crosses LeadsCount l.nodes l.path (max 1 ((g.S.LineStore.shows old).present.lines)))
      → (at : ℕ) × (IsWalk (λ k. parent_at l.nodes k) c.back at (drop l.number-index l.path) c.to
      × (max 1 ((g.S.LineStore.shows l.store).present.lines) ≡ c.states at)
      × AreTurned LeadsCount l.nodes c.back c.states l.path l.turned.items l.number-index);
  texts : (text : List (List ℕ)) → (g.S.LineStore.shows old).present.Is text → (c : Crosses Leads l.nodes l.path text)
      → (at : ℕ) × (IsWalk (λ k. parent_at l.nodes k) c.back at (drop l.number-index l.path) c.to
      × (g.S.LineStore.shows l.store).present.Is (c.states at)
      × AreTurned Leads l.nodes c.back c.states l.path l.turned.items l.number-index
      × ((j : ℕ) → j < l.number-index → AreLedBack l.nodes c.back c.states (get_or l.path j 0) (get_or l.turned.items j [])));
  count : length l.turned.items ≡ l.number-index;
  some : (i : ℕ) → i < l.number-index → 0 < length (get_or l.turned.items i []);
  still : l.number-index ≡ 0 → SameText (g.S.LineStore.shows old).present (g.S.LineStore.shows l.store).present;
  valid : g.S.LineStore.valid l.store;
  kept : Continues g.S.LineStore old l.store;
  faults : (g.S.LineStore.shows l.store).faults ≡ (g.S.LineStore.shows old).faults;
}
