-- The first bytes of a line say whose it is, and decide what it means.
use Rattle.std.proofs.Common.{◌≡◌, ℕ, zero, suc, ◌+◌, ◌-◌, Bool, true, false, nat_eq, List, [], ◌∷◌, length, take, drop, codes, refl, sym, ◌∙◌, ap, arith}
use Rattle.std.specs.List.{starts_with}
use Rattle.std.proofs.lemmas.List.{length-drop, length-take, take_all}
use Rattle.vs_script.specs.Ahead.{MeanSame, kept_of}
use Rattle.vs_family.specs.declared.which.Which.TheVariants.{One, Two}
use Rattle.vs_split.specs.Tags.{LineOf, LineOfNone, tag_of}

-- what is kept of a line has the same two first bytes
begins_same : (n byte : ℕ) (more : List ℕ) → starts_with nat_eq (take (suc (suc n)) more) (byte ∷ 58 ∷ []) ≡ starts_with nat_eq more (byte ∷ 58 ∷ [])
begins_same n byte [] = refl
begins_same n byte (a ∷ []) = refl
begins_same n byte (a ∷ b ∷ rest) = refl

take_none : (n : ℕ) → take {A = ℕ} n [] ≡ []
take_none zero = refl
take_none (suc n) = refl

-- and after these what is kept of the rest
rest_same : (n : ℕ) (more : List ℕ) → drop 2 (take (suc (suc n)) more) ≡ take n (drop 2 more)
rest_same n [] = sym (take_none n)
rest_same n (a ∷ []) = sym (take_none n)
rest_same n (a ∷ b ∷ rest) = refl

begins_more : (byte : ℕ) (is : Bool) (line more : List ℕ) → line ≡ take (2 + 1048577) more → starts_with nat_eq line (byte ∷ 58 ∷ []) ≡ is → starts_with nat_eq more (byte ∷ 58 ∷ []) ≡ is
begins_more byte is line more kept begins = sym (begins_same 1048577 byte more) ∙ ap (λ (l : List ℕ). starts_with nat_eq l (byte ∷ 58 ∷ [])) (sym kept) ∙ begins

-- the bytes after the first two, as a slice has them
own_is : (line : List ℕ) → take (length line - 2) (drop 2 line) ≡ drop 2 line
own_is line = take_all (length line - 2) (drop 2 line) (omega (arith, length-drop 2 line))

means_rest : (line more : List ℕ) → line ≡ take (2 + 1048577) more → MeanSame (drop 2 line) (drop 2 more)
means_rest line more kept =
    let rest : drop 2 line ≡ kept_of (drop 2 more) = ap (λ (l : List ℕ). drop 2 l) kept ∙ rest_same 1048577 more in
    ap kept_of rest ∙ take_all 1048577 (kept_of (drop 2 more)) (omega (arith, length-take 1048577 (drop 2 more)))

means_same : (line more : List ℕ) → line ≡ take (2 + 1048577) more → MeanSame (take (length line - 2) (drop 2 line)) (drop 2 more)
means_same line more kept = ap kept_of (own_is line) ∙ means_rest line more kept

pub tag_one : (line more : List ℕ) → line ≡ take (2 + 1048577) more → starts_with nat_eq line (codes "1:") ≡ true
    → (rest : List ℕ) × (tag_of more ≡ LineOf One rest) × MeanSame (take (length line - 2) (drop 2 line)) rest
tag_one line more kept begins = (drop 2 more, rw (begins_more 49 true line more kept begins) refl, means_same line more kept)

pub tag_two : (line more : List ℕ) → line ≡ take (2 + 1048577) more → starts_with nat_eq line (codes "1:") ≡ false → starts_with nat_eq line (codes "2:") ≡ true
    → (rest : List ℕ) × (tag_of more ≡ LineOf Two rest) × MeanSame (take (length line - 2) (drop 2 line)) rest
tag_two line more kept not_one begins = (drop 2 more, rw (begins_more 49 false line more kept not_one, begins_more 50 true line more kept begins) refl, means_same line more kept)

pub tag_none : (line more : List ℕ) → line ≡ take (2 + 1048577) more → starts_with nat_eq line (codes "1:") ≡ false → starts_with nat_eq line (codes "2:") ≡ false → tag_of more ≡ LineOfNone
tag_none line more kept not_one not_two = rw (begins_more 49 false line more kept not_one, begins_more 50 false line more kept not_two) refl
