-- Bytes with one byte throughout some ranges, made range by range; compared place by place.
use Rattle.std.proofs.Common.{◌≡◌, ◌⊎◌, inl, inr, ℕ, ◌+◌, ◌<◌, ◌≤◌, Bool, true, false, cond, List, [], ◌∷◌, ◌++◌, map, length, get_or, sym, ap, ◌∙◌, arith, nat_le, nat_lt, ◌&&◌, ◌||◌}
use Rattle.std.specs.Prelude.{if◌then◌else◌}
use Rattle.std.proofs.lemmas.List.{ext_get_or, reverse-append}
use Rattle.std.proofs.lemmas.List.FromFn.{length-map-range_with_len, get_or-map-range_with_len}
use Rattle.std.proofs.lemmas.Bool.{cases_Bool, cond-true, and_cases, leb-false, ltb-false}
use Rattle.std.proofs.lemmas.Bool.Decides.{nat_tests}
use Rattle.vs_host.specs.File.{covers}
use Rattle.vs_memory.specs.declared.file.Changed.{Changed}
use Rattle.vs_memory.specs.Folders.{ranges_of}
use Rattle.vs_memory.specs.Images.{filled}

pub size : (ranges : List (ℕ × ℕ)) (byte : ℕ) (bytes : List ℕ) → length (filled ranges byte bytes) ≡ length bytes
size ranges byte bytes = length-map-range_with_len (λ k. if covers ranges k then byte else get_or bytes k 0) 0 (length bytes)

pub at_place : (ranges : List (ℕ × ℕ)) (byte : ℕ) (bytes : List ℕ) (k : ℕ) → k < length bytes → get_or (filled ranges byte bytes) k 0 ≡ cond (covers ranges k) byte (get_or bytes k 0)
at_place ranges byte bytes k lt = get_or-map-range_with_len (λ k. if covers ranges k then byte else get_or bytes k 0) 0 (length bytes) k k 0 lt (omega arith)

pub filled_none : (byte : ℕ) (bytes : List ℕ) → filled (ranges_of []) byte bytes ≡ bytes
filled_none byte bytes = ext_get_or 0 (filled [] byte bytes) bytes (size [] byte bytes) (λ k lt. at_place [] byte bytes k (omega (arith, size [] byte bytes)))

one_more : (ranges : List Changed) (range : Changed) → ranges_of (ranges ++ range ∷ []) ≡ (range.at, range.len) ∷ ranges_of ranges
one_more ranges range = ap (λ (rs : List Changed). map (λ (r : Changed). (r.at, r.len)) rs) (reverse-append ranges (range ∷ []))

-- in a range or outside of it
place : (at len k : ℕ) → (((nat_le at k && nat_lt k (at + len)) ≡ true) × ((at ≤ k) × (k < at + len))) ⊎ (((nat_le at k && nat_lt k (at + len)) ≡ false) × ((k < at) ⊎ (at + len ≤ k)))
place at len k = elim (cases_Bool (nat_le at k && nat_lt k (at + len))) [
  | inl yes_in ↦ inl (yes_in, (grind (arith, nat_tests), grind (arith, nat_tests)))
  | inr none ↦ inr (
    none,
    elim (and_cases (nat_le at k) (nat_lt k (at + len)) none) [
      | inl below ↦ inl (leb-false at k below)
      | inr past ↦ inr (ltb-false k (at + len) past)
    ],
  )
]

pub filled_more : (old mid new : List ℕ) (ranges : List Changed) (range : Changed) (byte : ℕ) → mid ≡ filled (ranges_of ranges) byte old → length new ≡ length mid
    → ((k : ℕ) → k < length mid → range.at ≤ k → k < range.at + range.len → get_or new k 0 ≡ byte)
    → ((k : ℕ) → (k < range.at) ⊎ (range.at + range.len ≤ k) → get_or new k 0 ≡ get_or mid k 0)
    → new ≡ filled (ranges_of (ranges ++ range ∷ [])) byte old
filled_more old mid new ranges range byte is long inside outside =
    let rs = ranges_of ranges in
    let all : List (ℕ × ℕ) = (range.at, range.len) ∷ ranges_of ranges in
    let mid_long : length mid ≡ length old = ap (λ (l : List ℕ). length l) is ∙ size (ranges_of ranges) byte old in
    ext_get_or 0 new (filled all byte old) (long ∙ mid_long ∙ sym (size all byte old)) (λ k lt.
    let within : k < length old = omega (arith, lt, long, mid_long) in
    let was : get_or mid k 0 ≡ cond (covers (ranges_of ranges) k) byte (get_or old k 0) = ap (λ (l : List ℕ). get_or l k 0) is ∙ at_place (ranges_of ranges) byte old k within in
    (elim (place range.at range.len k) [
      | inl here ↦
          inside k (omega (arith, within, mid_long)) here.1.0 here.1.1
          ∙ sym (cond-true (covers all k) byte (get_or old k 0) (ap (λ (b : Bool). b || covers (ranges_of ranges) k) here.0))
      | inr there ↦
          outside k there.1 ∙ was ∙ ap (λ (b : Bool). cond (b || covers (ranges_of ranges) k) byte (get_or old k 0)) (sym there.0)
    ]) ∙ sym (at_place all byte old k within))
    ∙ ap (λ (l : List (ℕ × ℕ)). filled l byte old) (sym (one_more ranges range))
