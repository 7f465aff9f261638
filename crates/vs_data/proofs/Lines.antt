-- The lines of a block, and the space that they take: what the ends of the lines fall by.
use Rattle.std.proofs.Common.{◌≡◌, ℕ, zero, suc, ◌+◌, ◌-◌, ◌*◌, ◌<◌, ◌≤◌, true, List, length, drop, None, Some, Ok, Err, IsSomeAnd, refl, ap, ◌∙◌, arith, length-drop, map, add-one, add-zero, zero-add, not, ◌==◌, ◌≢◌, slice_range, slice_get}
use Rattle.std.proofs.lemmas.List.{length-take-le}
use Rattle.std.proofs.lemmas.List.FromFn.{length-map-range_with_len, sum_by-map-range_with_len_more}
use Rattle.std.specs.List.{All, list_all, range_with_len}
use Rattle.std.proofs.lemmas.List.Sums.{AllPass-from_list_all}
use Rattle.std.proofs.lemmas.Bool.Decides.{nat_tests}
use Rattle.vs_data.specs.declared.DataView.{DataView}
use Rattle.vs_data.specs.declared.DataErr.{DataErr}
use Rattle.vs_data.specs.Blocks.{Measures, count_in, each_line, end_at, is_line, line_at, lines_in, space_of, start_at, text_end_in, view_in}
use Rattle.std.specs.Option.{option_and_then}
use Rattle.vs_data.proofs.Reading.{IsBlock, LiesWithin, good_entry, has_view, lies_within, text_starts, view_bounds, view_holds}

pub lines_are : (block : List ℕ) (view : DataView) → view_in block ≡ Ok view → lines_in block ≡ Some (each_line block (λ line. line_at block line))
unfolding lines_in
lines_are block view e = rw e refl

pub no_lines : (block : List ℕ) (refusal : DataErr) → view_in block ≡ Err refusal → lines_in block ≡ None
unfolding lines_in
no_lines block refusal e = rw e refl

-- a line has all of its bytes but one
pub length-line_at : (block : List ℕ) (line : ℕ) → LiesWithin block line → length (line_at block line) + 1 + start_at block line ≡ end_at block line
length-line_at block line h =
    let rest : length (drop (start_at block line) block) ≡ length block - start_at block line = length-drop (start_at block line) block in
    let cut : length (line_at block line) ≡ end_at block line - 1 - start_at block line = length-take-le _ (drop (start_at block line) block) (omega arith) in
    omega arith

-- the space of the first lines, and the end of the line after them
space_so_far : (block : List ℕ) (n : ℕ) → IsBlock block → n ≤ count_in block
    → space_of (map (λ line. line_at block line) (range_with_len 0 n)) + end_at block n ≡ text_end_in block + 4 * n
space_so_far block zero h within = omega arith
space_so_far block (suc n) h within =
    let before = space_so_far block n h (omega arith) in
    let lines : ℕ → List (List ℕ) = λ k. map (λ line. line_at block line) (range_with_len 0 k) in
    let more : space_of (lines (n + 1)) ≡ space_of (lines n) + (length (line_at block n) + 5) =
    sum_by-map-range_with_len_more (λ (line : List ℕ). length line + 5) (λ line. line_at block line) 0 n n (omega arith) in
    let more' = rw (add-one n) at more in
    let wide = length-line_at block n (lies_within block n h (omega arith)) in
    omega arith

pub measured : (block : List ℕ) (view : DataView) → view_in block ≡ Ok view → IsSomeAnd (lines_in block) (Measures view)
measured block view e =
    let held = view_holds block view e in
    let bounds = held.0.bounds in
    let all = space_so_far block (count_in block) held.0 (omega arith) in
    let starts = text_starts block held.0 in
    let many = length-map-range_with_len (λ line. line_at block line) 0 (count_in block) in
    rw (lines_are block view e, held.1) (record { count = many; space = omega arith })

-- what a list made line by line has at a line
slice_get-map-range : {X : Type 0} (f : ℕ → X) (a n k : ℕ) → k < n → slice_get (map f (range_with_len a n)) k ≡ Some (f (a + k))
slice_get-map-range f a zero k within = absurd (omega arith)
slice_get-map-range f a (suc n) zero within = rw add-zero refl
slice_get-map-range f a (suc n) (suc k) within =
    let moved : a + 1 + k ≡ a + suc k = omega arith in
    slice_get-map-range f (a + 1) n k (omega arith) ∙ ap (λ (i : ℕ). Some (f i)) moved

pub each_line_at : {X : Type 0} (block : List ℕ) (f : ℕ → X) (line : ℕ) → line < count_in block → slice_get (each_line block f) line ≡ Some (f line)
each_line_at block f line within =
    slice_get-map-range f 0 (count_in block) line within ∙ ap (λ (i : ℕ). Some (f i)) (zero-add line)

-- a line has no zero byte
pub line_has_no_zero : (block : List ℕ) (start end : ℕ) → is_line block start end ≡ true → All (λ byte. byte ≢ 0) (slice_range block start (end - 1))
unfolding is_line
line_has_no_zero block start end e =
    let bytes : List ℕ = slice_range block start (end - 1) in
    let each : list_all (λ byte. not (byte == 0)) bytes ≡ true = grind (arith, nat_tests) in
    let passes = AllPass-from_list_all (λ (byte : ℕ). not (byte == 0)) bytes each in
    λ k d within. (let pass = passes k d within in grind (arith, nat_tests))

-- the line that the view's `line` gives
pub line_of_lines : (block : List ℕ) (view : DataView) (line : ℕ) → view_in block ≡ Ok view → line < view.count
    → option_and_then (λ lines. slice_get lines line) (lines_in block) ≡ Some (line_at block line)
line_of_lines block view line e within =
    let v = has_view block view (view_bounds block view e) in
    rw (lines_are block view e) (each_line_at block (λ k. line_at block k) line (omega arith))

pub no_zero_in_line : (block : List ℕ) (view : DataView) (line : ℕ) → view_in block ≡ Ok view → line < view.count → All (λ byte. byte ≢ 0) (line_at block line)
no_zero_in_line block view line e within =
    let v = has_view block view (view_bounds block view e) in
    let good = good_entry block line ((view_holds block view e).0.entries line (omega arith)) in
    line_has_no_zero block (start_at block line) (end_at block line) good.is
