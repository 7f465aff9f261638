-- The index entries of some lines, moved one after the other.
use Rattle.std.proofs.Common.{◌≡◌, ℕ, ◌+◌, ◌-◌, ◌*◌, ◌^◌, ◌<◌, ◌≤◌, List, length, refl, ap, inl, ⊎_elim, arith}
use Rattle.std.proofs.lemmas.Bool.{cases_lt}
use Rattle.vs_bytes.specs.Fields.{Little, bytes_of, number_of, with_number}
use Rattle.vs_bytes.proofs.FieldLaws.{length-bytes_of, number_at-with_number, number_at-with_number_apart}
use Rattle.vs_data.specs.Blocks.{entry_at}
use Rattle.vs_data.proofs.Moves.{Keeps, field_after, field_before, kept_by_write, kept_in_more, kept_on}

-- an index entry beside the bytes that changed
pub entry_before : (old new : List ℕ) (from to line : ℕ) → Keeps old new from to → 24 + 4 * (line + 1) ≤ from → entry_at new line ≡ entry_at old line
entry_before old new from to line h apart =
    ap (number_of Little 4) (field_before old new from to (24 + 4 * line) 4 h (omega arith))

pub entry_after : (old new : List ℕ) (from to line : ℕ) → Keeps old new from to → to ≤ 24 + 4 * line → entry_at new line ≡ entry_at old line
entry_after old new from to line h apart = ap (number_of Little 4) (field_after old new from to (24 + 4 * line) 4 h apart)

-- the entries from `first` up to `past` are moved, and all other bytes are as they were
pub record EntriesMoved (old new : List ℕ) (first past start to : ℕ) : Type 0 where
  pub moved : (k : ℕ) → first ≤ k → k < past → entry_at new k + start ≡ entry_at old k + to
  pub keeps : Keeps old new (24 + 4 * first) (24 + 4 * past)

pub none_moved : (old : List ℕ) (first start to : ℕ) → EntriesMoved old old first first start to
none_moved old first start to =
    record {
      moved = λ k low high. absurd (omega arith);
      keeps = record { same_length = refl; before = refl; after = refl };
    }

pub one_more_moved : (old mid : List ℕ) (first line start to : ℕ) → EntriesMoved old mid first line start to → first ≤ line → 24 + 4 * (line + 1) ≤ length mid
    → start ≤ entry_at mid line → entry_at mid line - start + to < 2 ^ 32
    → EntriesMoved old (with_number Little 4 mid (24 + 4 * line) (entry_at mid line - start + to)) first (line + 1) start to
one_more_moved old mid first line start to h low within above fits =
    let place : ℕ = 24 + 4 * line in
    let value : ℕ = entry_at mid line - start + to in
    let new : List ℕ = with_number Little 4 mid place value in
    let wide : length (bytes_of Little 4 value) ≡ 4 = length-bytes_of Little 4 value in
    let was : entry_at mid line ≡ entry_at old line = entry_after old mid (24 + 4 * first) place line h.keeps (omega arith) in
    let is : entry_at new line ≡ value = number_at-with_number Little 4 mid place value (omega arith) fits in
    let others : (k : ℕ) → k < line → entry_at new k ≡ entry_at mid k =
    λ k below. number_at-with_number_apart Little 4 mid place value Little 4 (24 + 4 * k) (omega arith) (inl (omega arith)) in
    record {
      moved = λ k from until. ⊎_elim
          (λ (below : k < line). omega (arith, others k below, h.moved k from below))
          (λ (here : line ≤ k). let same : k ≡ line = omega arith in rw same (omega arith))
          (cases_lt k line);
      keeps = kept_on old mid new (24 + 4 * first) (24 + 4 * (line + 1))
          (kept_in_more old mid (24 + 4 * first) place (24 + 4 * first) (24 + 4 * (line + 1)) h.keeps (omega arith) (omega arith))
          (kept_by_write mid place (bytes_of Little 4 value) (24 + 4 * first) (24 + 4 * (line + 1)) (omega arith) (omega arith) (omega arith));
    }
