use Rattle.std.proofs.Common.{◌≡◌, ◌+◌, ◌++◌, ℕ, List, All, length}
use Rattle.vs_text.specs.Limits.{IsShort}
use Rattle.vs_edit.specs.Calls.{OnlyReads}
use Rattle.vs_edit.specs.Splices.{cut_out}
use Rattle.vs_reads.specs.Reading.{HasCopied, IsAt}
use Rattle.vs_reads.proofs.lines.push_lines.Given as goal

abbrev pub invariant-loop : goal.invariant-loop
invariant-loop g l = let old = l.fn.view in record {
  lines : (text : List (List ℕ)) → (g.S.LineStore.shows old).present.Is text → l.into.items ≡ l.fn.into.items ++ cut_out text l.top l.counter;
  count : length l.into.items ≡ length l.fn.into.items + l.counter;
  short : All IsShort l.fn.into.items → All IsShort l.into.items;
  at : IsAt l.reader (l.top + l.counter) (l.top + l.count);
  copied : (text : List (List ℕ)) → (g.S.LineStore.shows old).present.Is text → HasCopied text l.reader;
  kept : OnlyReads g.S.LineStore old l.view;
  faults : (g.S.LineStore.shows l.view).faults ≡ (g.S.LineStore.shows old).faults;
}
