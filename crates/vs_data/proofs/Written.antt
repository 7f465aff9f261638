-- For a caller that holds a block as it is written: a call that keeps the frame leaves it so where the marks are none.
use Rattle.std.proofs.Common.{◌≡◌, ◌==◌, ℕ, zero, suc, ◌+◌, ◌*◌, ◌^◌, ◌<◌, List, [], ◌∷◌, ◌++◌, length, take, drop, map, replicate, insert, remove, true, Ok, All, refl, sym, ap, subst, ◌∙◌, arith, length-append}
use Rattle.std.specs.Bool.{Decides}
use Rattle.std.specs.List.{AllByRecursion, list_all, range_with_len}
use Rattle.std.proofs.lemmas.Bool.Decides.{Decides-and, Decides-by_and, Decides-eqb}
use Rattle.std.proofs.lemmas.List.Elements.{All-append, All-take, All-drop, All-from_recursion, All-nil, All-replicate, recursion_from_All}
use Rattle.std.proofs.lemmas.List.{length-replicate}
use Rattle.std.proofs.lemmas.Slice.Eq.{bytes_eq-Decides}
use Rattle.vs_bytes.specs.Fields.{Little, bytes_of, number_of, with_field}
use Rattle.vs_bytes.proofs.FieldLaws.{field_at-append_right, length-bytes_of, take-with_field}
use Rattle.vs_data.specs.declared.DataView.{DataView}
use Rattle.vs_data.specs.Blocks.{KeepsFrame, HasRest, PutsLast, free_field, free_space, header_of, id_bytes, is_as_written, mark_at, marks_in, put_in, text_end_in, view_in, view_of}
use Rattle.vs_data.proofs.Headers.{length-header_of, number_ahead, number_last}
use Rattle.vs_data.proofs.Keeping.{gap_changed, kept_marks, kept_view}
use Rattle.vs_data.proofs.Moves.{Keeps, field_before, kept_by_write}
use Rattle.vs_data.proofs.Reading.{has_view, view_bounds}

-- what the test says
pub record IsAsWritten (block : List ℕ) : Type 0 where
  pub front : take 4 block ≡ id_bytes
  pub free : free_field block ≡ free_space (view_of block)
  pub end : text_end_in block ≡ length block
  pub marks : All (λ mark. mark ≡ 0) (marks_in block)

no_marks : (marks : List ℕ) → Decides (list_all (λ mark. mark == 0) marks) (All (λ mark. mark ≡ 0) marks)
no_marks marks = Decides-by_and (λ mark. mark == 0) (λ mark. mark ≡ 0) (list_all (λ mark. mark == 0)) (λ mark. Decides-eqb mark 0) refl (λ x xs. refl) marks

tests : (block : List ℕ)
    → Decides (is_as_written block)
    ((take 4 block ≡ id_bytes) × ((free_field block ≡ free_space (view_of block)) × ((text_end_in block ≡ length block) × All (λ mark. mark ≡ 0) (marks_in block))))
tests block =
    Decides-and _ _ (bytes_eq-Decides (take 4 block) id_bytes)
    (Decides-and _ _ (Decides-eqb (free_field block) (free_space (view_of block)))
    (Decides-and _ _ (Decides-eqb (text_end_in block) (length block)) (no_marks (marks_in block))))

pub written_says : (block : List ℕ) → is_as_written block ≡ true → IsAsWritten block
written_says block is = let t = (tests block).0 is in record { front = t.0; free = t.1.0; end = t.1.1.0; marks = t.1.1.1 }

pub written_is : (block : List ℕ) → IsAsWritten block → is_as_written block ≡ true
written_is block w = (tests block).1 (w.front, (w.free, (w.end, w.marks)))

-- the header of a block is that of its view
view_is : (block : List ℕ) (view : DataView) → view_in block ≡ Ok view → view_of block ≡ view
view_is block view is =
    let v = has_view block view (view_bounds block view is) in
    λ i. record { count = sym v.count i; text_start = sym v.start i; text_end = sym v.end i }

-- a block with this header
pub written_by : (block : List ℕ) (view : DataView) → view_in block ≡ Ok view → take 4 block ≡ id_bytes → free_field block ≡ free_space view
    → view.text_end ≡ length block → All (λ mark. mark ≡ 0) (marks_in block) → is_as_written block ≡ true
written_by block view is front free end marks =
    let same : view_of block ≡ view = view_is block view is in
    written_is block (record {
      front = front;
      free = free ∙ ap (λ (v : DataView). free_space v) (sym same);
      end = ap (λ (v : DataView). v.text_end) same ∙ end;
      marks = marks;
    })

-- a call that keeps the frame
pub written_after : (old new : List ℕ) (before after : DataView) → is_as_written old ≡ true → view_in old ≡ Ok before → view_in new ≡ Ok after → KeepsFrame old new after
    → after.text_end ≡ before.text_end → length new ≡ length old → All (λ mark. mark ≡ 0) (marks_in new) → is_as_written new ≡ true
written_after old new before after was old_is new_is frame end size marks =
    let w = written_says old was in
    let v = has_view old before (view_bounds old before old_is) in
    written_by new after new_is (frame.front ∙ w.front) frame.free (end ∙ v.end ∙ w.end ∙ sym size) marks

pub marks_written : (block : List ℕ) → is_as_written block ≡ true → All (λ mark. mark ≡ 0) (marks_in block)
marks_written block was = (written_says block was).marks

-- ---- a fresh block

free_first : (view : DataView) (rest : List ℕ) → free_space view < 256 ^ 4 → free_field ((id_bytes ++ header_of view) ++ rest) ≡ free_space view
free_first view rest fits =
    let free : List ℕ = bytes_of Little 4 (free_space view) in
    let start : List ℕ = bytes_of Little 4 view.text_start in
    let end : List ℕ = bytes_of Little 4 view.text_end in
    let count : List ℕ = bytes_of Little 8 view.count in
    let free_wide : length free ≡ 4 = length-bytes_of Little 4 (free_space view) in
    let wide : length (id_bytes ++ header_of view) ≡ 24 = omega (arith, length-append id_bytes (header_of view), length-header_of view) in
    number_ahead (id_bytes ++ header_of view) rest 4 4 (omega arith) ∙ ap (number_of Little 4) (field_at-append_right id_bytes (header_of view) 0 4 4 refl)
    ∙ number_ahead ((free ++ start) ++ end) count 4 0 (omega (arith, length-append {A = ℕ})) ∙ number_ahead (free ++ start) end 4 0 (omega (arith, length-append {A = ℕ}))
    ∙ number_ahead free start 4 0 (omega arith) ∙ number_last [] 4 (free_space view) 0 refl fits

pub fresh_written : (block rest : List ℕ) (view : DataView) → block ≡ (id_bytes ++ header_of view) ++ rest → view_in block ≡ Ok view → view.count ≡ 0
    → view.text_end ≡ length block → length block < 2 ^ 32 → is_as_written block ≡ true
fresh_written block rest view is reads none end small =
    let v = has_view block view (view_bounds block view reads) in
    let bounds = v.bounds in
    let fits : free_space view < 256 ^ 4 = omega (arith, bounds.index, bounds.text, bounds.within, v.count, v.start, v.end) in
    let marks : marks_in block ≡ [] = ap (λ n. map (λ line. mark_at block line) (range_with_len 0 n)) (sym v.count ∙ none) in
    written_by block view reads (ap (take 4) is ∙ refl) (ap free_field is ∙ free_first view rest fits) end
    (subst (λ xs. All (λ mark. mark ≡ 0) xs) (sym marks) (All-nil (λ mark. mark ≡ 0)))

-- ---- lines put last, and the free space cleared

pub put_written : (old new : List ℕ) (before after : DataView) (bytes : List ℕ) (taken : ℕ) → PutsLast old new before after bytes taken → view_in old ≡ Ok before
    → is_as_written old ≡ true → length new ≡ length old → is_as_written new ≡ true
put_written old new before after bytes taken put is was size =
    let w = written_says old was in
    let v = has_view old before (view_bounds old before is) in
    written_by new after put.view (put.front ∙ w.front) put.free (put.end ∙ v.end ∙ w.end ∙ sym size)
    (subst (λ xs. All (λ mark. mark ≡ 0) xs) (sym put.marks)
    (All-append (λ mark. mark ≡ 0) (marks_in old) (replicate (length put.put) 0) w.marks (All-replicate (λ mark. mark ≡ 0) (length put.put) 0 refl)))

pub cleared_written : (block new : List ℕ) (view : DataView) → new ≡ with_field block (24 + 4 * view.count) (replicate (free_space view) 0) → view_in block ≡ Ok view
    → is_as_written block ≡ true → is_as_written new ≡ true
cleared_written block new view bytes is was =
    let w = written_says block was in
    let v = has_view block view (view_bounds block view is) in
    let bounds = v.bounds in
    let place : ℕ = 24 + 4 * view.count in
    let zeros : List ℕ = replicate (free_space view) 0 in
    let wide : length zeros ≡ free_space view = length-replicate (free_space view) 0 in
    let keeps : Keeps block new place view.text_start = rw bytes (kept_by_write block place zeros place view.text_start (omega arith) (omega arith) (omega arith)) in
    let same = gap_changed block new view is keeps in
    written_by new view (kept_view block new view is same)
    (ap (take 4) bytes ∙ take-with_field block place zeros 4 (omega arith) (omega arith) ∙ w.front)
    (ap (number_of Little 4) (field_before block new place view.text_start 4 4 keeps (omega arith)) ∙ w.free ∙ ap (λ (x : DataView). free_space x) (view_is block view is))
    (v.end ∙ w.end ∙ sym keeps.same_length)
    (subst (λ xs. All (λ mark. mark ≡ 0) xs) (sym (kept_marks block new view is same)) w.marks)

-- the rest of a block that is split
pub rest_written : (old new : List ℕ) (from : ℕ) (view : DataView) → HasRest old from new view → is_as_written old ≡ true → length new ≡ length old → is_as_written new ≡ true
rest_written old new from view rest was size =
    let w = written_says old was in
    written_by new view rest.answer rest.front rest.free (rest.end ∙ sym size)
    (subst (λ xs. All (λ mark. mark ≡ 0) xs) (sym rest.marks) (All-drop (λ mark. mark ≡ 0) from (marks_in old) w.marks))

-- ---- no mark comes by these edits

module _ {X : Type 0} (P : X → Type 0) where
  put : (xs : List X) (at : ℕ) (x : X) → AllByRecursion P xs → P x → AllByRecursion P (insert xs at x)
  put [] zero x each here = (here, tt)
  put [] (suc at) x each here = (here, tt)
  put (y ∷ xs) zero x each here = (here, each)
  put (y ∷ xs) (suc at) x each here = (each.0, put xs at x each.1 here)

  out : (xs : List X) (at : ℕ) → AllByRecursion P xs → AllByRecursion P (remove xs at)
  out [] zero each = tt
  out [] (suc at) each = tt
  out (y ∷ xs) zero each = each.1
  out (y ∷ xs) (suc at) each = (each.0, out xs at each.1)

  pub All-insert : (xs : List X) (at : ℕ) (x : X) → All P xs → P x → All P (insert xs at x)
  All-insert xs at x each here = All-from_recursion P (insert xs at x) (put xs at x (recursion_from_All P xs each) here)

  pub All-remove : (xs : List X) (at : ℕ) → All P xs → All P (remove xs at)
  All-remove xs at each = All-from_recursion P (remove xs at) (out xs at (recursion_from_All P xs each))

  pub All-put_in : (xs more : List X) (at : ℕ) → All P xs → All P more → All P (put_in xs at more)
  All-put_in xs more at each all = All-append P (take at xs) (more ++ drop at xs) (All-take P at xs each) (All-append P more (drop at xs) all (All-drop P at xs each))
