use Rattle.std.proofs.Common.{◌≡◌, ◌+◌, ◌-◌, ℕ, List}
use Rattle.vs_text.specs.Text.{IsLine}
use Rattle.vs_edit.specs.Calls.{OnlyReads}
use Rattle.vs_edit.specs.Splices.{cut_out}
use Rattle.vs_excmd.specs.Join.{joined_lines}
use Rattle.vs_reads.specs.Reading.{HasCopied, IsAt}
use Rattle.vs_excmd.proofs.joining.join_span.Given as goal

abbrev pub invariant-loop : goal.invariant-loop
invariant-loop g l = let old = l.fn.view in record {
  line : IsLine l.left.items;
  joined : (text : List (List ℕ)) → (g.S.LineStore.shows old).present.Is text → l.left.items ≡ joined_lines l.bang (cut_out text (l.first - 1) (l.counter + 1));
  at : IsAt l.reader (l.first + l.counter) l.last;
  copied : (text : List (List ℕ)) → (g.S.LineStore.shows old).present.Is text → HasCopied text l.reader;
  kept : OnlyReads g.S.LineStore old l.view;
  faults : (g.S.LineStore.shows l.view).faults ≡ (g.S.LineStore.shows old).faults;
}
