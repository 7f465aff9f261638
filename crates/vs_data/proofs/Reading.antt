-- What the answers of `bounds` and `read` say, as facts on numbers in place of tests.
use Rattle.std.proofs.Common.{◌≡◌, ℕ, zero, suc, ◌+◌, ◌*◌, ◌<◌, ◌≤◌, ◌⊎◌, Bool, true, false, not, List, length, Option, None, Some, Result, Ok, Err, refl, sym, ap, subst, arith, ⊎_elim, cond}
use Rattle.std.proofs.lemmas.Bool.Decides.{nat_tests}
use Rattle.std.proofs.lemmas.Bool.{cases_lt}
use Rattle.std.specs.List.{find, range_with_len}
use Rattle.vs_bytes.specs.Fields.{Little, number_at}
use Rattle.vs_data.specs.declared.DataView.{DataView}
use Rattle.vs_data.specs.declared.DataErr.{DataErr}
use Rattle.vs_data.specs.Blocks.{bounds_in, count_in, end_at, first_bad, is_good_entry, is_line, start_at, text_end_in, text_start_in, view_in, view_of, with_index}

-- what `bounds` looks at
pub record HasBounds (block : List ℕ) : Type 0 where
  pub header : 24 ≤ length block
  pub id : number_at Little 2 block 0 ≡ 0x6461
  pub index : 24 + 4 * count_in block ≤ text_start_in block
  pub text : text_start_in block ≤ text_end_in block
  pub within : text_end_in block ≤ length block
  pub empty : (0 < count_in block) ⊎ (text_start_in block ≡ text_end_in block)

-- what `read` looks at
pub record IsBlock (block : List ℕ) : Type 0 where
  pub bounds : HasBounds block
  pub entries : (line : ℕ) → line < count_in block → is_good_entry block line ≡ true

pub bounds_hold : (block : List ℕ) (view : DataView) → bounds_in block ≡ Ok view → HasBounds block × (view ≡ view_of block)
unfolding bounds_in
bounds_hold block view e = grind (arith, nat_tests)

pub bounds_answer : (block : List ℕ) → HasBounds block → bounds_in block ≡ Ok (view_of block)
unfolding bounds_in
bounds_answer block h = grind (arith, nat_tests)

-- the same, field by field
pub record HasView (block : List ℕ) (view : DataView) : Type 0 where
  pub bounds : HasBounds block
  pub count : view.count ≡ count_in block
  pub start : view.text_start ≡ text_start_in block
  pub end : view.text_end ≡ text_end_in block

pub has_view : (block : List ℕ) (view : DataView) → bounds_in block ≡ Ok view → HasView block view
has_view block view e =
    let held = bounds_hold block view e in
    record {
      bounds = held.0;
      count = ap (λ (v : DataView). v.count) held.1;
      start = ap (λ (v : DataView). v.text_start) held.1;
      end = ap (λ (v : DataView). v.text_end) held.1;
    }

-- a search through numbers in a row that passes over all of them
found_none : (test : ℕ → Bool) (a n : ℕ) → ((k : ℕ) → a ≤ k → k < a + n → test k ≡ false) → find test (range_with_len a n) ≡ None
found_none test a zero h = refl
found_none test a (suc n) h =
    rw (h a (omega arith) (omega arith)) (found_none test (a + 1) n (λ k low high. h k (omega arith) (omega arith)))

not_first : (passes : Bool) (a : ℕ) (rest : Option ℕ) → cond passes (Some a) rest ≡ None → (passes ≡ false) × (rest ≡ None)
not_first true a rest e = cc
not_first false a rest e = (refl, e)

-- a search that found nothing passed over each number
passed_over : (test : ℕ → Bool) (a n : ℕ) → find test (range_with_len a n) ≡ None → (k : ℕ) → a ≤ k → k < a + n → test k ≡ false
passed_over test a zero e k low high = absurd (omega arith)
passed_over test a (suc n) e k low high =
    let here = not_first (test a) a (find test (range_with_len (a + 1) n)) e in
    ⊎_elim (λ (past : a < k). passed_over test (a + 1) n here.1 k (omega arith) (omega arith)) (λ (first : k ≤ a). let is : k ≡ a = omega arith in rw is here.0) (cases_lt a k)

-- a search that stops at one of the numbers
found_first : (test : ℕ → Bool) (a n at : ℕ) → a ≤ at → at < a + n → ((k : ℕ) → a ≤ k → k < at → test k ≡ false) → test at ≡ true
    → find test (range_with_len a n) ≡ Some at
found_first test a zero at low high h e = absurd (omega arith)
found_first test a (suc n) at low high h e =
    ⊎_elim
    (λ (past : a < at). rw (h a (omega arith) past) (found_first test (a + 1) n at (omega arith) (omega arith) (λ k from below. h k (omega arith) below) e))
    (λ (first : at ≤ a). let is : a ≡ at = omega arith in rw (is, e) refl)
    (cases_lt a at)

pub no_bad : (block : List ℕ) → ((line : ℕ) → line < count_in block → is_good_entry block line ≡ true) → first_bad block ≡ None
unfolding first_bad
no_bad block h = found_none _ 0 (count_in block) (λ k low high. ap not (h k (omega arith)))

pub bad_at : (block : List ℕ) (at : ℕ) → at < count_in block → ((line : ℕ) → line < at → is_good_entry block line ≡ true) → is_good_entry block at ≡ false
    → first_bad block ≡ Some at
unfolding first_bad
bad_at block at within h e =
    found_first _ 0 (count_in block) at (omega arith) (omega arith) (λ k low high. ap not (h k high)) (ap not e)

with_index-ok : (answer : Result DataView DataErr) (bad : Option ℕ) (view : DataView) → with_index answer bad ≡ Ok view → (answer ≡ Ok view) × (bad ≡ None)
with_index-ok (Err refusal) bad view e = cc
with_index-ok (Ok view') None view e = (e, refl)
with_index-ok (Ok view') (Some line) view e = cc

pub good_entries : (block : List ℕ) → first_bad block ≡ None → (line : ℕ) → line < count_in block → is_good_entry block line ≡ true
unfolding first_bad
good_entries block e line within =
    good_from_not (is_good_entry block line) (passed_over _ 0 (count_in block) e line (omega arith) (omega arith))
  where
    good_from_not : (good : Bool) → not good ≡ false → good ≡ true
    good_from_not true h = refl
    good_from_not false h = cc

-- `read` refuses what `bounds` refuses
pub view_refused : (block : List ℕ) (refusal : DataErr) → bounds_in block ≡ Err refusal → view_in block ≡ Err refusal
unfolding view_in
view_refused block refusal e = rw e refl

-- and else answers by what it finds in the index
pub view_found : (block : List ℕ) (view : DataView) (bad : Option ℕ) → bounds_in block ≡ Ok view → bad ≡ first_bad block → view_in block ≡ with_index (Ok view) bad
unfolding view_in
view_found block view bad e found = rw (e, found) refl

-- a block that `read` takes, and its view
pub view_holds : (block : List ℕ) (view : DataView) → view_in block ≡ Ok view → IsBlock block × (view ≡ view_of block)
unfolding view_in
view_holds block view e =
    let parts = with_index-ok (bounds_in block) (first_bad block) view e in
    let bounds = bounds_hold block view parts.0 in
    (record { bounds = bounds.0; entries = good_entries block parts.1 }, bounds.1)

-- `bounds` takes it too
pub view_bounds : (block : List ℕ) (view : DataView) → view_in block ≡ Ok view → bounds_in block ≡ Ok view
unfolding view_in
view_bounds block view e = (with_index-ok (bounds_in block) (first_bad block) view e).0

pub view_answer : (block : List ℕ) → IsBlock block → view_in block ≡ Ok (view_of block)
unfolding view_in
view_answer block h = rw (bounds_answer block h.bounds, no_bad block h.entries) refl

-- what a good index entry says
pub record IsGood (block : List ℕ) (line : ℕ) : Type 0 where
  pub below : start_at block line < end_at block line
  pub is : is_line block (start_at block line) (end_at block line) ≡ true
  pub last : line + 1 ≡ count_in block → start_at block line ≡ text_start_in block

pub good_entry : (block : List ℕ) (line : ℕ) → is_good_entry block line ≡ true → IsGood block line
unfolding is_line
good_entry block line e =
    record { below = grind (arith, nat_tests); is = grind (arith, nat_tests); last = grind (arith, nat_tests) }

-- where the bytes of a line and of those after it end
pub ends_fall : (block : List ℕ) (i j : ℕ) → ((k : ℕ) → k < j → is_good_entry block k ≡ true) → i ≤ j → end_at block j ≤ end_at block i
ends_fall block i zero h low = let is : i ≡ zero = omega arith in rw is (omega arith)
ends_fall block i (suc j) h low =
    ⊎_elim
    (λ (past : i < suc j).
    let good = good_entry block j (h j (omega arith)) in
    let before = ends_fall block i j (λ k below. h k (omega arith)) (omega arith) in
    omega arith)
    (λ (same : suc j ≤ i). let is : i ≡ suc j = omega arith in rw is (omega arith))
    (cases_lt i (suc j))

-- the text begins where the last line's bytes begin
last_end : (block : List ℕ) (n : ℕ) → IsBlock block → count_in block ≡ n → end_at block n ≡ text_start_in block
last_end block zero h e = ⊎_elim (λ (some : 0 < count_in block). absurd (omega arith)) (λ same. sym same) h.bounds.empty
last_end block (suc n) h e = (good_entry block n (h.entries n (omega arith))).last (omega arith)

pub text_starts : (block : List ℕ) → IsBlock block → end_at block (count_in block) ≡ text_start_in block
text_starts block h = last_end block (count_in block) h refl

-- a block that has its bounds and a line at each index entry, and whose last line begins at the text start
pub block_from_lines : (block : List ℕ) → HasBounds block → end_at block (count_in block) ≡ text_start_in block
    → ((line : ℕ) → line < count_in block → is_line block (start_at block line) (end_at block line) ≡ true) → IsBlock block
block_from_lines block bounds last lines =
    let at_last : (line : ℕ) → line + 1 ≡ count_in block → start_at block line ≡ text_start_in block =
    λ line e. (let is : count_in block ≡ suc line = omega arith in subst (λ n. end_at block n ≡ text_start_in block) is last) in
    record {
      bounds = bounds;
      entries = λ line within. (let is = lines line within in let starts = at_last line in grind (arith, nat_tests));
    }

-- the place where a line ends, or where the text after the last line would
pub record EndsWithin (block : List ℕ) (line : ℕ) : Type 0 where
  pub low : text_start_in block ≤ end_at block line
  pub high : end_at block line ≤ text_end_in block

pub ends_within : (block : List ℕ) (line : ℕ) → IsBlock block → line ≤ count_in block → EndsWithin block line
ends_within block line h within =
    let above = ends_fall block 0 line (λ k below. h.entries k (omega arith)) (omega arith) in
    let below = ends_fall block line (count_in block) h.entries within in
    let last = text_starts block h in
    record { low = omega arith; high = omega arith }

-- the places of a line that the header counts
pub record LiesWithin (block : List ℕ) (line : ℕ) : Type 0 where
  pub order : start_at block line < end_at block line
  pub end : end_at block line ≤ text_end_in block
  pub start : text_start_in block ≤ start_at block line
  pub length : text_end_in block ≤ length block

pub lies_within : (block : List ℕ) (line : ℕ) → IsBlock block → line < count_in block → LiesWithin block line
lies_within block line h within =
    let good = good_entry block line (h.entries line within) in
    let ends = ends_within block line h (omega arith) in
    let starts = ends_within block (suc line) h (omega arith) in
    let bounds = h.bounds in
    record { order = omega arith; end = omega arith; start = omega arith; length = omega arith }

-- the same by the view that `read` answers
pub line_within : (block : List ℕ) (view : DataView) (line : ℕ) → view_in block ≡ Ok view → line < view.count → LiesWithin block line
line_within block view line e within =
    let v = has_view block view (view_bounds block view e) in
    lies_within block line (view_holds block view e).0 (omega arith)
