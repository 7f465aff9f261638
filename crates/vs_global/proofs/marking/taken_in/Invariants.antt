-- What was taken so far are the lines that were looked at so far.
use Rattle.std.proofs.Common.{◌≡◌, ◌+◌, ℕ, List, map, ◌≤◌, ◌-◌, []}
use Rattle.vs_edit.specs.Calls.{OnlyReads}
use Rattle.vs_reads.specs.Reading.{HasCopied, IsAt, StopsWithin}
use Rattle.vs_global.specs.Taking.{TakesAll}
use Rattle.vs_global.proofs.MarkingLemmas.{AreTaken}
use Rattle.vs_global.proofs.marking.taken_in.Given as goal

abbrev pub invariant-lines : goal.invariant-lines
invariant-lines g l = let old = l.fn.view in record {
  taken : (text : List (List ℕ)) → (g.S.LineStore.shows old).present.Is text → TakesAll l.invert l.finder text l.top l.reader.at [] l.taken.items;
  are : AreTaken l.top (l.reader.at - l.top) l.taken.items;
  at : IsAt l.reader l.reader.at (l.top + l.count);
  later : l.top ≤ l.reader.at;
  stops : StopsWithin l.reader;
  copied : (text : List (List ℕ)) → (g.S.LineStore.shows old).present.Is text → HasCopied text l.reader;
  kept : OnlyReads g.S.LineStore old l.view;
  faults : (g.S.LineStore.shows l.view).faults ≡ (g.S.LineStore.shows old).faults;
}

abbrev pub decreases-lines : goal.decreases-lines
decreases-lines g l = l.reader.end - l.reader.at
