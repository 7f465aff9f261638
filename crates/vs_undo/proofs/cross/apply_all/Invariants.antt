use Rattle.std.proofs.Common.{◌≡◌, ℕ, List, length, max, drop, reverse, ◌++◌}
use Rattle.vs_edit.specs.Calls.{Continues}
use Rattle.vs_entries.specs.Entries.{Leads, LeadsCount}
use Rattle.vs_undo.specs.Edges.{IsLed}
use Rattle.vs_undo.specs.Turns.{all_led_back}
use Rattle.vs_undo.proofs.cross.apply_all.Given as goal

abbrev pub invariant-loop-entry : goal.invariant-loop-entry
invariant-loop-entry g l = let old = l.initial.store in record {
  counts : (to : ℕ) → IsLed LeadsCount l.entries (max 1 (g.S.LineStore.shows old).present.lines) to
      → IsLed LeadsCount (drop l.entry-index l.entries) (max 1 (g.S.LineStore.shows l.store).present.lines) to
      × IsLed LeadsCount (reverse l.back.items) (max 1 (g.S.LineStore.shows l.store).present.lines) (max 1 (g.S.LineStore.shows old).present.lines);
  texts : (text to : List (List ℕ)) → (g.S.LineStore.shows old).present.Is text → IsLed Leads l.entries text to
      → (now : List (List ℕ)) × ((g.S.LineStore.shows l.store).present.Is now × IsLed Leads (drop l.entry-index l.entries) now to × IsLed Leads (reverse l.back.items) now text
      × (all_led_back l.entries text ≡ all_led_back (drop l.entry-index l.entries) now ++ reverse l.back.items));
  count : length l.back.items ≡ l.entry-index;
  valid : g.S.LineStore.valid l.store;
  kept : Continues g.S.LineStore old l.store;
  faults : (g.S.LineStore.shows l.store).faults ≡ (g.S.LineStore.shows old).faults;
}
