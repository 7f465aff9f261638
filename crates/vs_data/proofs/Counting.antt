-- Lines that each end with a zero have no other one where the text has as many zeros as lines: zeros are counted up to each place.
use Rattle.std.proofs.Common.{◌≡◌, ℕ, zero, suc, ◌+◌, ◌-◌, ◌<◌, ◌≤◌, true, not, ◌&&◌, ◌==◌, Bool, false, List, [], ◌∷◌, ◌++◌, length, take, drop, slice_index, slice_range, None, refl, sym, ap, ◌∙◌, arith, ⊎_elim, if◌then◌else◌}
use Rattle.std.specs.List.{list_all}
use Rattle.std.proofs.lemmas.Bool.{cases_lt}
use Rattle.std.proofs.lemmas.Bool.Decides.{nat_tests}
use Rattle.std.proofs.lemmas.List.{drop-take, length-take, take-append-drop, take-take}
use Rattle.std.proofs.lemmas.List.Sums.{sum_by-append, sum_by-cons, sum_by_more}
use Rattle.vs_data.specs.Blocks.{EndsLines, count_in, end_at, first_bad, is_line, start_at, text_end_in, text_start_in, zeros_in}
use Rattle.vs_data.proofs.Reading.{HasBounds, block_from_lines, good_entries, good_entry, no_bad, text_starts}

-- the first lines are as `EndsLines` says
pub record EndsFirst (block : List ℕ) (n : ℕ) : Type 0 where
  pub order : (line : ℕ) → line < n → start_at block line < end_at block line
  pub zeros : (line : ℕ) → line < n → slice_index block (end_at block line - 1) ≡ 0

pub ends_none : (block : List ℕ) → EndsFirst block 0
ends_none block = record { order = λ line below. absurd (omega arith); zeros = λ line below. absurd (omega arith) }

pub ends_more : (block : List ℕ) (n : ℕ) → EndsFirst block n → start_at block n < end_at block n → slice_index block (end_at block n - 1) ≡ 0 → EndsFirst block (n + 1)
ends_more block n h below zero_at =
    record {
      order = λ line within. ⊎_elim (λ (past : line < n). h.order line past) (λ (here : n ≤ line). let is : line ≡ n = omega arith in rw is below) (cases_lt line n);
      zeros = λ line within. ⊎_elim (λ (past : line < n). h.zeros line past) (λ (here : n ≤ line). let is : line ≡ n = omega arith in rw is zero_at) (cases_lt line n);
    }

ends_fewer : (block : List ℕ) (n : ℕ) → EndsFirst block (suc n) → EndsFirst block n
ends_fewer block n h = record { order = λ line below. h.order line (omega arith); zeros = λ line below. h.zeros line (omega arith) }

-- so the next line ends within the text
pub end_within : (block : List ℕ) (n : ℕ) → EndsFirst block n → end_at block n ≤ text_end_in block
end_within block zero h = omega arith
end_within block (suc n) h =
    let above = end_within block n (ends_fewer block n h) in
    let falls = h.order n (omega arith) in
    omega arith

-- ---- the zeros before a place

abbrev zero_of : ℕ → ℕ
zero_of byte = if byte == 0 then 1 else 0

abbrev before : List ℕ → ℕ → ℕ
before block place = zeros_in (take place block)

counted : (block : List ℕ) (a b : ℕ) → a ≤ b → before block a + zeros_in (slice_range block a b) ≡ before block b
counted block a b low =
    let is : a + (b - a) ≡ b = omega arith in
    let front : take a (take b block) ≡ take a block = take-take a b block low in
    let back : drop a (take b block) ≡ take (b - a) (drop a block) = ap (λ n. drop a (take n block)) (sym is) ∙ drop-take a (b - a) block in
    sym (sum_by-append zero_of (take a block) (take (b - a) (drop a block)))
    ∙ ap zeros_in (ap (λ xs. xs ++ take (b - a) (drop a block)) (sym front) ∙ ap (λ xs. take a (take b block) ++ xs) (sym back) ∙ take-append-drop a (take b block))

zero_of_other : (byte : ℕ) → zero_of byte ≡ 0 → not (byte == 0) ≡ true
zero_of_other byte e = grind (arith, nat_tests)

other_has_none : (byte : ℕ) → not (byte == 0) ≡ true → zero_of byte ≡ 0
other_has_none byte e = grind (arith, nat_tests)

no_zeros : (bytes : List ℕ) → zeros_in bytes ≡ 0 → list_all (λ byte. not (byte == 0)) bytes ≡ true
no_zeros [] e = refl
no_zeros (byte ∷ bytes) e =
    let parts : zeros_in (byte ∷ bytes) ≡ zero_of byte + zeros_in bytes = sum_by-cons zero_of byte bytes in
    rw (zero_of_other byte (omega arith)) (no_zeros bytes (omega arith))

none_counted : (bytes : List ℕ) → list_all (λ byte. not (byte == 0)) bytes ≡ true → zeros_in bytes ≡ 0
none_counted [] e = refl
none_counted (byte ∷ bytes) e =
    let both = and_both (not (byte == 0)) (list_all (λ byte'. not (byte' == 0)) bytes) e in
    let parts : zeros_in (byte ∷ bytes) ≡ zero_of byte + zeros_in bytes = sum_by-cons zero_of byte bytes in
    let here = other_has_none byte both.0 in
    let rest = none_counted bytes both.1 in
    omega arith
  where
    and_both : (a b : Bool) → (a && b) ≡ true → (a ≡ true) × (b ≡ true)
    and_both true b e = (refl, e)
    and_both false b e = cc

-- there are no more zeros than bytes
pub zeros_few : (bytes : List ℕ) → zeros_in bytes ≤ length bytes
zeros_few [] = omega arith
zeros_few (byte ∷ bytes) =
    let parts : zeros_in (byte ∷ bytes) ≡ zero_of byte + zeros_in bytes = sum_by-cons zero_of byte bytes in
    let most : zero_of byte ≤ 1 = grind (arith, nat_tests) in
    let rest = zeros_few bytes in
    omega arith

pub zeros_before : (bytes : List ℕ) (k : ℕ) → zeros_in (take k bytes) ≤ k
zeros_before bytes k = let few = zeros_few (take k bytes) in let short = length-take k bytes in omega arith

-- a line's zeros: that at its end, and those before it
line_counted : (block : List ℕ) (n : ℕ) → HasBounds block → EndsFirst block (suc n)
    → before block (start_at block n) + zeros_in (slice_range block (start_at block n) (end_at block n - 1)) + 1 ≡ before block (end_at block n)
line_counted block n bounds h =
    let place : ℕ = end_at block n - 1 in
    let within = end_within block n (ends_fewer block n h) in
    let order = h.order n (omega arith) in
    let room = bounds.within in
    let more : before block (place + 1) ≡ before block place + zero_of (slice_index block place) = sum_by_more zero_of block place 0 (omega arith) in
    let one : zero_of (slice_index block place) ≡ 1 = ap zero_of (h.zeros n (omega arith)) in
    let is : place + 1 ≡ end_at block n = omega arith in
    let line = counted block (start_at block n) place (omega arith) in
    let last : before block (end_at block n) ≡ before block place + 1 = ap (λ k. before block k) (sym is) ∙ more ∙ ap (λ k. before block place + k) one in
    omega arith

-- the first lines have a zero each at least
at_least : (block : List ℕ) (n : ℕ) → HasBounds block → EndsFirst block n → before block (end_at block n) + n ≤ before block (text_end_in block)
at_least block zero bounds h = omega arith
at_least block (suc n) bounds h =
    let one = line_counted block n bounds h in
    let others = at_least block n bounds (ends_fewer block n h) in
    omega arith

-- where they have no more, each is a line
each_is_line : (block : List ℕ) (n : ℕ) → HasBounds block → EndsFirst block n → before block (end_at block n) + n ≡ before block (text_end_in block)
    → (line : ℕ) → line < n → is_line block (start_at block line) (end_at block line) ≡ true
unfolding is_line
each_is_line block zero bounds h e line below = absurd (omega arith)
each_is_line block (suc n) bounds h e line below =
    let one = line_counted block n bounds h in
    let others = at_least block n bounds (ends_fewer block n h) in
    let none = no_zeros (slice_range block (start_at block n) (end_at block n - 1)) (omega arith) in
    let order = h.order n (omega arith) in
    let last = h.zeros n (omega arith) in
    ⊎_elim (λ (past : line < n). each_is_line block n bounds (ends_fewer block n h) (omega arith) line past)
    (λ (here : n ≤ line). let is : line ≡ n = omega arith in rw is (grind (arith, nat_tests)))
    (cases_lt line n)

-- and lines have no more
no_more : (block : List ℕ) (n : ℕ) → HasBounds block → EndsFirst block n → ((line : ℕ) → line < n → is_line block (start_at block line) (end_at block line) ≡ true)
    → before block (end_at block n) + n ≡ before block (text_end_in block)
unfolding is_line
no_more block zero bounds h lines = omega arith
no_more block (suc n) bounds h lines =
    let one = line_counted block n bounds h in
    let others = no_more block n bounds (ends_fewer block n h) (λ line below. lines line (omega arith)) in
    let line = lines n (omega arith) in
    let all : list_all (λ byte. not (byte == 0)) (slice_range block (start_at block n) (end_at block n - 1)) ≡ true = grind (arith, nat_tests) in
    let none = none_counted (slice_range block (start_at block n) (end_at block n - 1)) all in
    omega arith

-- ---- the whole index

ends_all : (block : List ℕ) → EndsLines block → EndsFirst block (count_in block)
ends_all block h = record { order = h.order; zeros = h.zeros }

pub whole_if_counted : (block : List ℕ) → HasBounds block → EndsLines block → zeros_in (slice_range block (text_start_in block) (text_end_in block)) ≡ count_in block
    → first_bad block ≡ None
whole_if_counted block bounds h e =
    let all = counted block (text_start_in block) (text_end_in block) bounds.text in
    let begins : before block (end_at block (count_in block)) ≡ before block (text_start_in block) = ap (λ place. before block place) h.start in
    no_bad block (block_from_lines block bounds h.start (each_is_line block (count_in block) bounds (ends_all block h) (omega arith))).entries

pub counted_if_whole : (block : List ℕ) → HasBounds block → EndsLines block → first_bad block ≡ None
    → zeros_in (slice_range block (text_start_in block) (text_end_in block)) ≡ count_in block
counted_if_whole block bounds h none =
    let all = counted block (text_start_in block) (text_end_in block) bounds.text in
    let begins : before block (end_at block (count_in block)) ≡ before block (text_start_in block) = ap (λ place. before block place) h.start in
    let lines = no_more block (count_in block) bounds (ends_all block h) (λ line below. (good_entry block line (good_entries block none line below)).is) in
    omega arith

-- a whole index has such lines
pub ends_if_whole : (block : List ℕ) → HasBounds block → first_bad block ≡ None → EndsLines block
unfolding is_line
ends_if_whole block bounds none =
    let good = good_entries block none in
    record {
      order = λ line below. (good_entry block line (good line below)).below;
      zeros = λ line below. (let is = (good_entry block line (good line below)).is in grind (arith, nat_tests));
      start = text_starts block (record { bounds = bounds; entries = good });
    }
