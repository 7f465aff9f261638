use Rattle.std.proofs.Common.{◌≡◌, ◌≤◌, ◌<◌, ◌+◌, ◌-◌, ℕ, List, drop, length, take}
use Rattle.vs_text.specs.Text.{IsText, bytes_of, file_of}
use Rattle.vs_reads.specs.Reading.{IsAt, rest_of}
use Rattle.vs_reads.proofs.reader.LineReader.pass_before.Given as goal

abbrev pub invariant-lines : goal.invariant-lines
invariant-lines l = let old = l.fn.self in record {
  at : IsAt l.self (old.at + (old.held - l.self.held)) old.end;
  less : l.self.held ≤ old.held;
  within : l.left < length (rest_of l.self);
  passed : (lines : List (List ℕ)) → IsText lines → length lines ≡ old.held → rest_of old ≡ file_of lines
      → (bytes_of (take (old.held - l.self.held) lines) + l.left ≡ l.place) × (rest_of l.self ≡ file_of (drop (old.held - l.self.held) lines));
}

abbrev pub decreases-lines : goal.decreases-lines
decreases-lines l = l.left
