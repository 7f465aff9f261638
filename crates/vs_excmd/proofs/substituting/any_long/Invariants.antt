use Rattle.std.proofs.Common.{◌≡◌, ◌+◌, ℕ, List, false}
use Rattle.std.specs.List.{list_any}
use Rattle.vs_edit.specs.Calls.{OnlyReads}
use Rattle.vs_edit.specs.Splices.{cut_out}
use Rattle.vs_reads.specs.Reading.{HasCopied, IsAt}
use Rattle.vs_excmd.specs.Rewriting.{StandsIn, is_long}
use Rattle.vs_excmd.specs.Substitute.{has_match, replaced}
use Rattle.vs_excmd.proofs.substituting.any_long.Given as goal

abbrev pub invariant-loop : goal.invariant-loop
invariant-loop g l = let old = l.fn.view in record {
  none : (text : List (List ℕ)) (whole : List ℕ) → (g.S.LineStore.shows old).present.Is text → StandsIn l.new whole →
      list_any (is_long (has_match l.finder) (replaced l.all l.finder whole)) (cut_out text l.top l.counter) ≡ false;
  at : IsAt l.reader (l.top + l.counter) (l.top + l.count);
  copied : (text : List (List ℕ)) → (g.S.LineStore.shows old).present.Is text → HasCopied text l.reader;
  kept : OnlyReads g.S.LineStore old l.view;
  faults : (g.S.LineStore.shows l.view).faults ≡ (g.S.LineStore.shows old).faults;
}
