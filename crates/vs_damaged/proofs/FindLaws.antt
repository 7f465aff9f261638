-- What the lines and entries of blocks give, one after the other.
use Rattle.std.proofs.Common.{◌≡◌, ◌≢◌, ◌≤◌, ◌<◌, ◌+◌, ℕ, List, [], ◌∷◌, ◌++◌, length, take, drop, get_or, reverse, Bool, true, false, Some, None, refl, sym, ap, ◌∙◌, arith, inl, inr}
use Rattle.std.specs.Prelude.{ℤ, pos, negsuc, ◌==◌, ◌&&◌, nat_le, nat_lt, if◌then◌else◌, Result, Ok, Err, OnOk}
use Rattle.std.specs.List.{before_first}
use Rattle.std.proofs.lemmas.Bool.{cases_eq, false_from_ne_true}
use Rattle.std.proofs.lemmas.Bool.Decides.{nat_tests}
use Rattle.std.proofs.Math.Seq.{take-length}
use Rattle.std.proofs.lemmas.List.{reverse-append, drop_more}
use Rattle.std.proofs.lemmas.List.Sums.{position_or_len_is}
use Rattle.memchr.specs.Find.{IsFirstByte, is_byte}
use Rattle.vs_ptr.specs.declared.PtrView.{PtrView}
use Rattle.vs_ptr.specs.Blocks.{entries_in, entries_of, view_in}
use Rattle.vs_ptr.proofs.Headers.{count_of_entries, header_from_view}
use Rattle.vs_damaged.specs.declared.shown.Marker.TheVariants.{LineCountWrong}
use Rattle.vs_damaged.specs.Finds.{if_other_count}
use Rattle.vs_damaged.specs.Items.{Item, TheMarker}

pub before_some : (bytes : List ℕ) (k : ℕ) → IsFirstByte (is_byte 0) bytes (Some k) → take k bytes ≡ before_first (λ byte. byte == 0) bytes
before_some bytes k is = ap (λ n. take n bytes)
    (sym (position_or_len_is (λ byte. byte == 0) bytes k 0 (omega (arith, is.0.high)) (λ j lt. false_from_ne_true (get_or bytes j 0 == 0) (λ passes. is.0.before j (omega arith) lt passes)) (λ lt. is.1)))

pub before_none : (bytes : List ℕ) → IsFirstByte (is_byte 0) bytes None → bytes ≡ before_first (λ byte. byte == 0) bytes
before_none bytes is = sym (take-length bytes) ∙ ap (λ n. take n bytes)
    (sym (position_or_len_is (λ byte. byte == 0) bytes (length bytes) 0 (omega arith) (λ j lt. false_from_ne_true (get_or bytes j 0 == 0) (λ passes. is j (omega arith) lt passes)) (λ lt. absurd (omega arith))))

pub picks_first : (low at high : ℕ) (x y : Item) → low ≤ at → at < high → (if nat_le low at && nat_lt at high then x else y) ≡ x
picks_first low at high x y le lt = grind (arith, nat_tests)

pub picks_second : (low at high : ℕ) (x y : Item) → (low ≤ at → at < high → ⊥) → (if nat_le low at && nat_lt at high then x else y) ≡ y
picks_second low at high x y out = grind (arith, nat_tests)

pub count_same : (said : ℤ) (count : ℕ) → pos count ≡ said → if_other_count said count ≡ []
count_same (pos n) count is = let e : count ≡ n = cc in rw e (grind (arith, nat_tests))
count_same (negsuc n) count is = absurd (cc)

pub count_other : (said : ℤ) (count : ℕ) → pos count ≢ said → if_other_count said count ≡ TheMarker LineCountWrong ∷ []
count_other (pos n) count other = elim (cases_eq n count) [
  | inl e ↦ absurd (other (ap pos (sym e)))
  | inr ne ↦ grind (arith, nat_tests)
]
count_other (negsuc n) count other = refl

pub reversed_more : {X : Type 0} (left more all : List X) (x d : X) (at : ℕ) → at < length all → x ≡ get_or all at d → reverse left ≡ drop (at + 1) all ++ more → reverse (left ++ x ∷ []) ≡ drop at all ++ more
reversed_more left more all x d at lt is before =
    reverse-append left (x ∷ []) ∙ (ap (λ ys. x ∷ ys) before ∙ (ap (λ y. y ∷ (drop (at + 1) all ++ more)) is ∙ ap (λ ys. ys ++ more) (sym (drop_more all at d lt))))

-- the header of a pointer block counts its entries
pub entries_len : (block : List ℕ) (view : PtrView) → view_in block ≡ Ok view → length (entries_of block) ≡ view.count
unfolding entries_in
entries_len block view is = rw is (count_of_entries block ∙ (header_from_view block view is).count)
