-- Laws of changes: that they can be taken back has one proof at most, as a fact in a struct must, and what was before them are pages too.
use Rattle.std.specs.Prelude.{◌≡◌, ◌≢◌, ℕ, ◌+◌, ◌≤◌, false, List, [], ◌∷◌, length, Option, None, Some, IsTrue, is_some, reverse}
use Rattle.std.proofs.Common.{refl, sym, ap, subst, ◌∙◌, inl, inr, arith}
use Rattle.std.proofs.Props.{props}
use Rattle.std.proofs.lemmas.Bool.{cases_eq}
use Rattle.std.proofs.lemmas.Bool.Decides.{nat_tests}
use mathlib.Core.HLevel.{×_prop, Unit-prop}
use Rattle.vs_bytes.proofs.FieldLaws.{length-with_field}
use Rattle.vs_pages.specs.Cells.{Blank, Away, Kept, Cell, Cells, is_away, put_cell, rewritten, IsEndOf, IsWritten}
use Rattle.vs_pages.specs.State.{AreMade}
use Rattle.vs_pages.specs.Table.{cell_of, cells_of}
use Rattle.vs_pages.specs.History.{AreSteps, EachHasNoGap, HaveNoGaps, first_of, places_before, put_places, undone, CanUndo, CanUndoAll}
use Rattle.vs_pages.specs.declared.page.Page.{Page}
use Rattle.vs_pages.specs.declared.page.Page.TheVariants as pages
use Rattle.vs_pages.specs.declared.change.Change.{Change}
use Rattle.vs_pages.specs.declared.change.Change.TheVariants as kinds

CanUndo-prop : (m : Cells) (n : ℕ) (c : Change) → IsProp (CanUndo m n c)
CanUndo-prop m n (kinds.Run run) = hlevel props
CanUndo-prop m n (kinds.Patch patch) = hlevel props

CanUndoAll-prop : (m : Cells) (n : ℕ) (cs : List Change) → IsProp (CanUndoAll m n cs)
CanUndoAll-prop m n [] = Unit-prop
CanUndoAll-prop m n (c ∷ cs) = ×_prop (CanUndo-prop m n c) (CanUndoAll-prop (undone c m) (places_before c n) cs)

pub AreSteps-prop : (places : List (Option Page)) (log : List Change) → IsProp (AreSteps places log)
AreSteps-prop places log = CanUndoAll-prop (cells_of places) (length places) (reverse log)

EachHasNoGap-prop : (m : Cells) (cs : List Change) → IsProp (EachHasNoGap m cs)
EachHasNoGap-prop m [] = Unit-prop
EachHasNoGap-prop m (c ∷ cs) = ×_prop (hlevel props) (EachHasNoGap-prop (undone c m) cs)

pub HaveNoGaps-prop : (places : List (Option Page)) (log : List Change) → IsProp (HaveNoGaps places log)
HaveNoGaps-prop places log = EachHasNoGap-prop (cells_of places) (reverse log)

pub IsEndOf-prop : (m : Cells) (end : ℕ) → IsProp (IsEndOf m end)
unfolding IsEndOf
IsEndOf-prop m end = hlevel props

pub AreMade-prop : (count : ℕ) (last : ℕ → ℕ) → IsProp (AreMade (record { count = count; last = last }))
AreMade-prop count last = hlevel props

put_same : (m : Cells) (at : ℕ) (v : Option Cell) → put_cell m at v at ≡ v
put_same m at v = grind (arith, nat_tests)

put_other : (m : Cells) (at : ℕ) (v : Option Cell) (k : ℕ) → k ≢ at → put_cell m at v k ≡ m k
put_other m at v k ne = grind (arith, nat_tests)

-- what a place past the table had before a change: nothing
undone_past : (m : Cells) (n : ℕ) (c : Change) → CanUndo m n c → ((k : ℕ) → n ≤ k → is_some (m k) ≡ false)
    → (k : ℕ) → places_before c n ≤ k → is_some (undone c m k) ≡ false
undone_past m n (kinds.Run run) can none k past = can.past k past
undone_past m n (kinds.Patch patch) can none k past =
    let now = rewritten (m patch.at) patch.from patch.was.items in
    ap (λ (o : Option Cell). is_some o) (put_other m patch.at now k (λ e. omega (arith, e, past, can.inside))) ∙ none k past

fewer_before : (m : Cells) (n : ℕ) (c : Change) → CanUndo m n c → places_before c n ≤ n
fewer_before m n (kinds.Run run) can = can.fewer
fewer_before m n (kinds.Patch patch) can = omega arith

-- at first there was nothing past the table
pub first_past : (m : Cells) (n : ℕ) (cs : List Change) → CanUndoAll m n cs → ((k : ℕ) → n ≤ k → is_some (m k) ≡ false)
    → (k : ℕ) → n ≤ k → is_some (first_of m cs k) ≡ false
first_past m n [] can none k past = none k past
first_past m n (c ∷ cs) can none k past =
    first_past (undone c m) (places_before c n) cs can.1 (undone_past m n c can.0 none) k (omega (arith, past, fewer_before m n c can.0))

-- The bytes that are kept are those of a page.
abbrev pub IsWhole : Option Cell → Type 0
IsWhole None = Unit {0}
IsWhole (Some Blank) = Unit {0}
IsWhole (Some Away) = Unit {0}
IsWhole (Some (Kept page)) = length page ≡ 4096

pub place_whole : (place : Option Page) → IsWhole (cell_of place)
place_whole None = tt
place_whole (Some pages.Zeros) = tt
place_whole (Some pages.Away) = tt
place_whole (Some (pages.Written buffer)) = buffer.size

put_whole : (m : Cells) (at : ℕ) (v : Option Cell) (k : ℕ) → IsWhole v → IsWhole (m k) → IsWhole (put_cell m at v k)
put_whole m at v k new old = elim (cases_eq k at) [
  | inl e ↦ subst IsWhole (sym (ap (λ j. put_cell m at v j) e ∙ put_same m at v)) new
  | inr ne ↦ subst IsWhole (sym (put_other m at v k ne)) old
]

places_whole : (m : Cells) (at : ℕ) (ps : List (Option Page)) (k : ℕ) → IsWhole (m k) → IsWhole (put_places m at ps k)
places_whole m at [] k old = old
places_whole m at (p ∷ ps) k old = put_whole (put_places m (at + 1) ps) at (cell_of p) k (place_whole p) (places_whole m (at + 1) ps k old)

patch_whole : (kept : Option Cell) (from : ℕ) (bytes : List ℕ) → from + length bytes ≤ 4096 → IsWritten kept → IsWhole (rewritten kept from bytes)
patch_whole None from bytes within written = tt
patch_whole (Some Blank) from bytes within written = tt
patch_whole (Some Away) from bytes within written = tt
patch_whole (Some (Kept page)) from bytes within written = length-with_field page from bytes (omega (arith, within, written)) ∙ written

undone_whole : (m : Cells) (n : ℕ) (c : Change) (k : ℕ) → CanUndo m n c → IsWhole (m k) → IsWhole (undone c m k)
undone_whole m n (kinds.Run run) k can old = places_whole m run.at run.was.items k old
undone_whole m n (kinds.Patch patch) k can old =
    put_whole m patch.at (rewritten (m patch.at) patch.from patch.was.items) k
    (patch_whole (m patch.at) patch.from patch.was.items can.within can.written) old

pub first_whole : (m : Cells) (n : ℕ) (cs : List Change) (k : ℕ) → CanUndoAll m n cs → IsWhole (m k) → IsWhole (first_of m cs k)
first_whole m n [] k can old = old
first_whole m n (c ∷ cs) k can old = first_whole (undone c m) (places_before c n) cs k can.1 (undone_whole m n c k can.0 old)

-- ---- pages that are away

rewritten_away : (kept : Option Cell) (from : ℕ) (bytes : List ℕ) → is_away (rewritten kept from bytes) ≡ is_away kept
rewritten_away None from bytes = refl
rewritten_away (Some Blank) from bytes = refl
rewritten_away (Some Away) from bytes = refl
rewritten_away (Some (Kept page)) from bytes = refl

undone_away : (m : Cells) (n : ℕ) (c : Change) (k : ℕ) → CanUndo m n c → IsTrue (is_away (m k)) → IsTrue (is_away (undone c m k))
undone_away m n (kinds.Run run) k can away = can.away k away
undone_away m n (kinds.Patch patch) k can away = elim (cases_eq k patch.at) [
  | inl e ↦
      ap (λ j. is_away (put_cell m patch.at (rewritten (m patch.at) patch.from patch.was.items) j)) e
      ∙ ap (λ (o : Option Cell). is_away o) (put_same m patch.at (rewritten (m patch.at) patch.from patch.was.items))
      ∙ rewritten_away (m patch.at) patch.from patch.was.items ∙ ap (λ j. is_away (m j)) (sym e) ∙ away
  | inr ne ↦ ap (λ (o : Option Cell). is_away o) (put_other m patch.at (rewritten (m patch.at) patch.from patch.was.items) k ne) ∙ away
]

-- what is away was so at first
pub first_away : (m : Cells) (n : ℕ) (cs : List Change) (k : ℕ) → CanUndoAll m n cs → IsTrue (is_away (m k)) → IsTrue (is_away (first_of m cs k))
first_away m n [] k can away = away
first_away m n (c ∷ cs) k can away = first_away (undone c m) (places_before c n) cs k can.1 (undone_away m n c k can.0 away)
