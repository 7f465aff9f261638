use Rattle.std.proofs.Common.{◌≡◌, ◌≤◌, ◌+◌, ◌*◌, length, ℕ, List, false}
use Rattle.std.specs.List.{list_any}
use Rattle.vs_text.specs.Text.{bytes_of}
use Rattle.vs_edit.specs.Calls.{OnlyReads}
use Rattle.vs_edit.specs.Splices.{cut_out}
use Rattle.vs_reads.specs.Reading.{HasCopied, IsAt}
use Rattle.vs_excmd.specs.Rewriting.{IsRewriting, StandsIn, is_long}
use Rattle.vs_excmd.specs.Substitute.{has_match, replaced}
use Rattle.vs_excmd.proofs.substituting.rewrite.Given as goal

abbrev pub invariant-loop-i : goal.invariant-loop-i
invariant-loop-i g l = let old = l.fn.view in record {
  within : l.i ≤ l.count;
  few : l.state.before + length l.state.lines.items ≤ l.i;
  few_bytes : l.state.bytes ≤ 1048577 * l.i;
  counted : l.state.bytes ≡ bytes_of l.state.lines.items;
  lines : (text : List (List ℕ)) (whole : List ℕ) → (g.S.LineStore.shows old).present.Is text → StandsIn l.new whole →
      IsRewriting (has_match l.finder) (replaced l.all l.finder whole) (cut_out text l.top l.i) l.state.before l.state.lines.items l.state.kept;
  none : (text : List (List ℕ)) (whole : List ℕ) → (g.S.LineStore.shows old).present.Is text → StandsIn l.new whole →
      list_any (is_long (has_match l.finder) (replaced l.all l.finder whole)) (cut_out text l.top l.i) ≡ false;
  at : IsAt l.reader (l.top + l.i) (l.top + l.count);
  copied : (text : List (List ℕ)) → (g.S.LineStore.shows old).present.Is text → HasCopied text l.reader;
  kept : OnlyReads g.S.LineStore old l.view;
  faults : (g.S.LineStore.shows l.view).faults ≡ (g.S.LineStore.shows old).faults;
}
