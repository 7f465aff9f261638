-- The lines that were read are numbered.
use Rattle.std.proofs.Common.{◌≡◌, ◌<◌, ◌+◌, ◌-◌, List, ℕ, length}
use Rattle.vs_text.specs.Text.{file_of}
use Rattle.vs_edit.specs.Calls.{OnlyReads}
use Rattle.vs_edit.specs.Splices.{cut_out}
use Rattle.vs_reads.specs.Reading.{HasCopied, IsAt}
use Rattle.vs_machine.specs.Shown.{numbered}
use Rattle.vs_machine.proofs.shown.printed_with_numbers.Given as goal

abbrev pub invariant-loop-i : goal.invariant-loop-i
invariant-loop-i g l = let old = l.fn.store in record {
  lines : (text : List (List ℕ)) → (g.S.LineStore.shows old).present.Is text → l.bytes.items ≡ file_of (numbered l.span.first (cut_out text (l.span.first - 1) l.i));
  some : 0 < l.i → 0 < length l.bytes.items;
  at : IsAt l.reader ((l.span.first - 1) + l.i) l.span.last;
  copied : (text : List (List ℕ)) → (g.S.LineStore.shows old).present.Is text → HasCopied text l.reader;
  kept : OnlyReads g.S.LineStore old l.store;
  faults : (g.S.LineStore.shows l.store).faults ≡ (g.S.LineStore.shows old).faults;
}
