-- Bytes that are written over those of a page, and put back.
use Rattle.std.proofs.Common.{◌≡◌, ℕ, ◌+◌, ◌≤◌, Bool, true, false, List, [], ◌∷◌, ◌++◌, length, take, drop, Option, None, Some, refl, sym, ap, ◌∙◌, subst, arith}
use Rattle.std.specs.Prelude.{if◌then◌else◌}
use Rattle.std.proofs.lemmas.List.{length-take}
use Rattle.vs_bytes.specs.Fields.{with_field}
use Rattle.vs_bytes.proofs.FieldLaws.{length-with_field, with_field-append}
use Rattle.vs_pages.specs.Cells.{Blank, Away, Kept, Cell, Cells, put_cell, rewritten, IsWritten}
use Rattle.vs_pages.proofs.CellLemmas.{cell-itself, cell-cell, cell-same}

field_back : (page bytes was : List ℕ) (from : ℕ) → from + length bytes ≤ length page → length was ≡ length bytes → with_field (with_field page from bytes) from was ≡ with_field page from was
field_back page bytes was from within same =
    with_field-append (take from page) bytes (drop (from + length bytes) page) was from (omega (arith, length-take from page, within)) (sym same)
    ∙ ap (λ n. (take from page ++ was) ++ drop (from + n) page) (sym same)

back_at : (kept : Option Cell) (from : ℕ) (bytes was : List ℕ) → IsWritten kept → from + length bytes ≤ 4096 → length was ≡ length bytes
    → rewritten (rewritten kept from bytes) from was ≡ rewritten kept from was
back_at None from bytes was written within same = refl
back_at (Some Blank) from bytes was written within same = refl
back_at (Some Away) from bytes was written within same = refl
back_at (Some (Kept page)) from bytes was written within same = ap (λ (b : List ℕ). Some (Kept b)) (field_back page bytes was from (omega (arith, written, within)) same)

written_at : (kept : Option Cell) (from : ℕ) (bytes : List ℕ) → IsWritten kept → from + length bytes ≤ 4096 → IsWritten (rewritten kept from bytes)
written_at None from bytes written within = written
written_at (Some Blank) from bytes written within = written
written_at (Some Away) from bytes written within = written
written_at (Some (Kept page)) from bytes written within = length-with_field page from bytes (omega (arith, written, within)) ∙ written

module _ (m n : Cells) (at from : ℕ) (bytes : List ℕ) (is : n ≡ put_cell m at (rewritten (m at) from bytes)) (written : IsWritten (m at)) (within : from + length bytes ≤ 4096) where
  now_at : n at ≡ rewritten (m at) from bytes
  now_at = ap (λ (o : Cells). o at) is ∙ cell-same m at (rewritten (m at) from bytes)

  pub patch_written : IsWritten (n at)
  patch_written = subst IsWritten (sym now_at) (written_at (m at) from bytes written within)

  -- what was there put back
  pub patch_back : (was : List ℕ) → length was ≡ length bytes → m at ≡ rewritten (m at) from was → put_cell n at (rewritten (n at) from was) ≡ m
  patch_back was same itself =
      ap (λ (v : Option Cell). put_cell n at (rewritten v from was)) now_at
      ∙ ap (λ (v : Option Cell). put_cell n at v) (back_at (m at) from bytes was written within same ∙ sym itself)
      ∙ ap (λ (o : Cells). put_cell o at (m at)) is ∙ cell-cell m at (rewritten (m at) from bytes) (m at) ∙ cell-itself m at

-- a push that has room
pub pushed : {X : Type 0} (room : Bool) (old new : List X) (x : X) → new ≡ (if room then old ++ x ∷ [] else old) → room ≡ true → new ≡ old ++ x ∷ []
pushed true old new x is some = is
pushed false old new x is some = absurd (cc)
