use Rattle.std.proofs.Common.{◌≡◌, ◌≤◌, ◌+◌, ◌*◌, ℕ, List}
use Rattle.vs_text.specs.Text.{bytes_of}
use Rattle.vs_edit.specs.Calls.{OnlyReads}
use Rattle.vs_edit.specs.Splices.{cut_out}
use Rattle.vs_reads.specs.Reading.{HasCopied, IsAt}
use Rattle.vs_reads.proofs.lines.bytes_in.Given as goal

abbrev pub invariant-loop : goal.invariant-loop
invariant-loop g l = let old = l.fn.view in record {
  small : l.bytes ≤ 1048577 * l.counter;
  bytes : (text : List (List ℕ)) → (g.S.LineStore.shows old).present.Is text → l.bytes ≡ bytes_of (cut_out text l.top l.counter);
  at : IsAt l.reader (l.top + l.counter) (l.top + l.count);
  copied : (text : List (List ℕ)) → (g.S.LineStore.shows old).present.Is text → HasCopied text l.reader;
  kept : OnlyReads g.S.LineStore old l.view;
  faults : (g.S.LineStore.shows l.view).faults ≡ (g.S.LineStore.shows old).faults;
}
