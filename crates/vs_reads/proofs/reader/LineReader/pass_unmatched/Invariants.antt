use Rattle.std.proofs.Common.{◌≡◌, ◌≤◌, ◌-◌, ℕ, List, All}
use Rattle.vs_edit.specs.Calls.{OnlyReads}
use Rattle.vs_edit.specs.Splices.{cut_out}
use Rattle.vs_reads.specs.Reading.{HasCopied, IsAt, StopsWithin}
use Rattle.vs_reads.specs.Searching.{Lacks}
use Rattle.vs_reads.proofs.reader.LineReader.pass_unmatched.Given as goal

abbrev pub invariant-runs : goal.invariant-runs
invariant-runs g l = let old = l.fn.view in record {
  lacking : (text : List (List ℕ)) → (g.S.LineStore.shows old).present.Is text → HasCopied text l.fn.self →
      All (Lacks l.finder) (cut_out text l.fn.self.at (l.self.at - l.fn.self.at));
  copied : (text : List (List ℕ)) → (g.S.LineStore.shows old).present.Is text → HasCopied text l.fn.self → HasCopied text l.self;
  at : IsAt l.self l.self.at l.fn.self.end;
  later : l.fn.self.at ≤ l.self.at;
  stops : StopsWithin l.self;
  kept : OnlyReads g.S.LineStore old l.view;
  faults : (g.S.LineStore.shows l.view).faults ≡ (g.S.LineStore.shows old).faults;
}

abbrev pub decreases-runs : goal.decreases-runs
decreases-runs g l = l.self.end - l.self.at
