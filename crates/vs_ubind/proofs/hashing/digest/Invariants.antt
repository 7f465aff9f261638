use Rattle.std.proofs.Common.{◌≡◌, ℕ, List}
use Rattle.sha2.specs.Hashers.{Holds256}
use Rattle.vs_edit.specs.Calls.{OnlyReads}
use Rattle.vs_reads.specs.Reading.{HasCopied, IsAt}
use Rattle.vs_ubind.proofs.Fed.{ended_before}
use Rattle.vs_ubind.proofs.hashing.digest.Given as goal

abbrev pub invariant-lines : goal.invariant-lines
invariant-lines g l = let old = l.initial.text in record {
  fed : (lines : List (List ℕ)) → (g.S.LineStore.shows old).present.Is lines → Holds256 l.hasher (ended_before lines l._at);
  at : IsAt l.reader l._at l.count;
  copied : (lines : List (List ℕ)) → (g.S.LineStore.shows old).present.Is lines → HasCopied lines l.reader;
  kept : OnlyReads g.S.LineStore old l.text;
  faults : (g.S.LineStore.shows l.text).faults ≡ (g.S.LineStore.shows old).faults;
}
