use Rattle.std.proofs.Common.{◌≡◌, ℕ, List, max, drop, reverse}
use Rattle.vs_edit.specs.Calls.{Continues}
use Rattle.vs_entries.specs.Entries.{Leads, LeadsCount}
use Rattle.vs_undo.specs.Edges.{IsLed}
use Rattle.vs_outward.proofs.crossing.try_all.Given as goal

abbrev pub invariant-loop-entry : goal.invariant-loop-entry
invariant-loop-entry g l = let old = l.initial.store in record {
  ahead_counts : (to : ℕ) → IsLed LeadsCount (drop l.entry-index l.entries) (max 1 (g.S.LineStore.shows l.store).present.lines) to
      → IsLed LeadsCount l.entries (max 1 (g.S.LineStore.shows old).present.lines) to;
  back_counts : IsLed LeadsCount (reverse l.back.items) (max 1 (g.S.LineStore.shows l.store).present.lines) (max 1 (g.S.LineStore.shows old).present.lines);
  texts : (text : List (List ℕ)) → (g.S.LineStore.shows old).present.Is text → (here : List (List ℕ)) × ((g.S.LineStore.shows l.store).present.Is here
      × ((to : List (List ℕ)) → IsLed Leads (drop l.entry-index l.entries) here to → IsLed Leads l.entries text to)
      × ((to : List (List ℕ)) → IsLed Leads l.entries text to → IsLed Leads (drop l.entry-index l.entries) here to)
      × IsLed Leads (reverse l.back.items) here text);
  valid : g.S.LineStore.valid l.store;
  kept : Continues g.S.LineStore old l.store;
  faults : (g.S.LineStore.shows l.store).faults ≡ (g.S.LineStore.shows old).faults;
}
