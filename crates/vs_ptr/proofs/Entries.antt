-- An entry is read back from the bytes that are written for it: each field is read back, and the writes of the others leave it.
use Rattle.std.proofs.Common.{◌≡◌, ℕ, zero, ◌+◌, ◌≤◌, ◌⊎◌, ℤ, List, ◌∷◌, length, take, drop, map, replicate, suc, FitsSigned, refl, ap, ◌∙◌, arith, inl}
use Rattle.std.proofs.lemmas.List.{length-replicate, map-append, take-map, drop-map}
use Rattle.std.specs.Prelude.{insert, remove}
use Rattle.std.specs.Int.{Width, w32, w64, byte_len, cast_signed, cast_unsigned}
use Rattle.vs_bytes.specs.Fields.{Little, signed_at, with_signed}
use Rattle.vs_bytes.proofs.FieldLaws.{length-with_signed, signed_at-with_signed, number_at-with_number_apart}
use Rattle.vs_ptr.specs.declared.PtrEntry.{PtrEntry}
use Rattle.vs_ptr.specs.Blocks.{entry_of, bytes_of_entry}

-- another field is as it was
signed_at-with_signed_apart : (w v : Width) (bytes : List ℕ) (at place : ℕ) (value : ℤ) → at + byte_len w ≤ length bytes → (place + byte_len v ≤ at) ⊎ (at + byte_len w ≤ place)
    → signed_at Little v (with_signed Little w bytes at value) place ≡ signed_at Little v bytes place
signed_at-with_signed_apart w v bytes at place value within apart =
    ap (cast_signed v) (number_at-with_number_apart Little (byte_len w) bytes at (cast_unsigned w value) Little (byte_len v) place within apart)

-- each field is a number of its type
pub record IsEntry (entry : PtrEntry) : Type 0 where
  pub block : FitsSigned w64 entry.block
  pub lines : FitsSigned w64 entry.lines
  pub old : FitsSigned w64 entry.old
  pub pages : FitsSigned w32 entry.pages

-- the four fields, written one after the other over 32 bytes
record AreWritten (entry : PtrEntry) (now : List ℕ) : Type 0 where
  block : signed_at Little w64 now 0 ≡ entry.block
  lines : signed_at Little w64 now 8 ≡ entry.lines
  old : signed_at Little w64 now 16 ≡ entry.old
  pages : signed_at Little w32 now 24 ≡ entry.pages

fields_written : (slot : List ℕ) (entry : PtrEntry) → length slot ≡ 32 → IsEntry entry
    → AreWritten entry (with_signed Little w32 (with_signed Little w64 (with_signed Little w64 (with_signed Little w64 slot 0 entry.block) 8 entry.lines) 16 entry.old) 24 entry.pages)
fields_written slot entry long fits =
    let a = with_signed Little w64 slot 0 entry.block in
    let b = with_signed Little w64 a 8 entry.lines in
    let c = with_signed Little w64 b 16 entry.old in
    let a_long : length a ≡ 32 = length-with_signed Little w64 slot 0 entry.block (omega arith) ∙ long in
    let b_long : length b ≡ 32 = length-with_signed Little w64 a 8 entry.lines (omega arith) ∙ a_long in
    let c_long : length c ≡ 32 = length-with_signed Little w64 b 16 entry.old (omega arith) ∙ b_long in
    let past_pages = λ (place : ℕ) (before : place + 8 ≤ 24). signed_at-with_signed_apart w32 w64 c 24 place entry.pages (omega arith) (inl before) in
    let past_old = λ (place : ℕ) (before : place + 8 ≤ 16). signed_at-with_signed_apart w64 w64 b 16 place entry.old (omega arith) (inl before) in
    let past_lines = signed_at-with_signed_apart w64 w64 a 8 0 entry.lines (omega arith) (inl (omega arith)) in
    record {
      block = past_pages 0 (omega arith) ∙ past_old 0 (omega arith) ∙ past_lines ∙ signed_at-with_signed Little w64 slot 0 entry.block (omega arith) fits.block;
      lines = past_pages 8 (omega arith) ∙ past_old 8 (omega arith) ∙ signed_at-with_signed Little w64 a 8 entry.lines (omega arith) fits.lines;
      old = past_pages 16 (omega arith) ∙ signed_at-with_signed Little w64 b 16 entry.old (omega arith) fits.old;
      pages = signed_at-with_signed Little w32 c 24 entry.pages (omega arith) fits.pages;
    }

pub entry_of-bytes_of_entry : (entry : PtrEntry) → IsEntry entry → entry_of (bytes_of_entry entry) ≡ entry
unfolding entry_of bytes_of_entry
entry_of-bytes_of_entry entry fits =
    let now = fields_written (replicate 32 0) entry (length-replicate 32 zero) fits in
    rw (now.block, now.lines, now.old, now.pages) refl

-- the list of what a function gives follows each edit of a list
pub map-insert : {X Y : Type 0} (f : X → Y) (xs : List X) (i : ℕ) (x : X) → map f (insert xs i x) ≡ insert (map f xs) i (f x)
map-insert f xs i x = map-append f (take i xs) (x ∷ drop i xs) ∙ rw (take-map f i xs, drop-map f i xs) refl

pub map-remove : {X Y : Type 0} (f : X → Y) (xs : List X) (i : ℕ) → map f (remove xs i) ≡ remove (map f xs) i
map-remove f xs i = map-append f (take i xs) (drop (suc i) xs) ∙ rw (take-map f i xs, drop-map f (suc i) xs) refl
