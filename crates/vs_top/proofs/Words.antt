-- A list with two or three members is the list of these.
use Rattle.std.proofs.Common.{◌≡◌, List, [], ◌∷◌, length, get_or, sym, ap, ◌∙◌, arith}

pub two_members : {A : Type 0} (xs : List A) (a b : A) → length xs ≡ 2 → a ≡ get_or xs 0 a → b ≡ get_or xs 1 b → xs ≡ a ∷ b ∷ []
two_members [] a b two first second = absurd (omega (arith, two))
two_members (x ∷ []) a b two first second = absurd (omega (arith, two))
two_members {A} (x ∷ y ∷ []) a b two first second = ap (λ (z : A). z ∷ y ∷ []) (sym first) ∙ ap (λ (z : A). a ∷ z ∷ []) (sym second)
two_members (x ∷ y ∷ z ∷ xs) a b two first second = absurd (omega (arith, two))

-- two lists of two members that are the same have the same second one
pub same_second : {A : Type 0} (a b c d : A) → a ∷ b ∷ [] ≡ c ∷ d ∷ [] → b ≡ d
same_second {A} a b c d same = ap (λ (xs : List A). get_or xs 1 b) same

pub three_members : {A : Type 0} (xs : List A) (a b c : A) → length xs ≡ 3 → a ≡ get_or xs 0 a → b ≡ get_or xs 1 b → c ≡ get_or xs 2 c → xs ≡ a ∷ b ∷ c ∷ []
three_members [] a b c three first second third = absurd (omega (arith, three))
three_members (x ∷ []) a b c three first second third = absurd (omega (arith, three))
three_members (x ∷ y ∷ []) a b c three first second third = absurd (omega (arith, three))
three_members {A} (x ∷ y ∷ z ∷ []) a b c three first second third =
    ap (λ (w : A). w ∷ y ∷ z ∷ []) (sym first) ∙ ap (λ (w : A). a ∷ w ∷ z ∷ []) (sym second) ∙ ap (λ (w : A). a ∷ b ∷ w ∷ []) (sym third)
three_members (x ∷ y ∷ z ∷ w ∷ xs) a b c three first second third = absurd (omega (arith, three))
