use Rattle.std.proofs.Common.{◌≡◌, ℕ, List}
use Rattle.vs_text.specs.Text.{file_of}
use Rattle.vs_edit.specs.Splices.{cut_out, HoldsLines}
use Rattle.vs_edit.specs.Calls.{OnlyReads}
use Rattle.vs_edit.proofs.store.LineStore.copy_lines.Given as goal

abbrev pub invariant-loop-i : goal.invariant-loop-i
invariant-loop-i g l = let old = l.initial.self in record {
  lines : (text : List (List ℕ)) → (g.Self.LineStore.shows old).present.Is text → l.into.items ≡ file_of (cut_out text l.at l.i);
  are_lines : HoldsLines l.i l.into.items;
  kept : OnlyReads g.Self.LineStore old l.self;
  faults : (g.Self.LineStore.shows l.self).faults ≡ (g.Self.LineStore.shows old).faults;
}
