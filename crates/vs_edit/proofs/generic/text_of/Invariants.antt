use Rattle.std.proofs.Common.{◌≡◌, ℕ, List, length, take}
use Rattle.vs_edit.specs.Calls.{OnlyReads}
use Rattle.vs_edit.proofs.generic.text_of.Given as goal

abbrev pub invariant-loop-at : goal.invariant-loop-at
invariant-loop-at g l = let old = l.initial.store in record {
  text : (text : List (List ℕ)) → (g.S.LineStore.shows old).present.Is text → l.lines.items ≡ take l.at text;
  count : length l.lines.items ≡ l.at;
  kept : OnlyReads g.S.LineStore old l.store;
  faults : (g.S.LineStore.shows l.store).faults ≡ (g.S.LineStore.shows old).faults;
}
