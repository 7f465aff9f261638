-- Lines that were added at the end are turned into their place.
use Rattle.std.proofs.Common.{◌≡◌, ℕ, ◌-◌, ◌≤◌, List, ◌++◌, length, take, drop, refl, sym, ap, ◌∙◌, arith, length-append, append_assoc}
use Rattle.std.proofs.lemmas.List.{take_at, drop_at, length-take, length-drop, take-append-le, drop-append-le}

-- a turn to the right by the length of the last part
pub turned_right : {X : Type 0} (a b whole : List X) (k : ℕ) → whole ≡ a ++ b → k ≡ length b
    → drop (length whole - k) whole ++ take (length whole - k) whole ≡ b ++ a
turned_right a b whole k is count =
    let front : length a ≡ length whole - k = omega (arith, length-append a b, ap length is) in
    let parts : drop (length whole - k) (a ++ b) ++ take (length whole - k) (a ++ b) ≡ b ++ a =
    rw (drop_at a b (length whole - k) front, take_at a b (length whole - k) front) refl in
    ap (λ xs. drop (length whole - k) xs ++ take (length whole - k) xs) is ∙ parts

-- what stands in the vector, where `turned` is its end from `at` on after the turn
pub put_in_place : {X : Type 0} (old new whole front back turned past : List X) (at n : ℕ)
    → whole ≡ old ++ new → at ≤ length old → n ≡ length whole → front ≡ take at whole → back ≡ drop at whole
    → turned ≡ drop (length back - length new) back ++ take (length back - length new) back
    → take n (front ++ turned ++ past) ≡ take at old ++ new ++ drop at old
put_in_place {X = X} old new whole front back turned past at n is within count front_is back_is turned_is =
    let first : front ≡ take at old = front_is ∙ (ap (take at) is ∙ take-append-le at old new within) in
    let rest : back ≡ drop at old ++ new = back_is ∙ (ap (drop at) is ∙ drop-append-le at old new within) in
    let last : turned ≡ new ++ drop at old = turned_is ∙ turned_right (drop at old) new back (length new) rest refl in
    let whole_is : front ++ turned ≡ take at old ++ new ++ drop at old =
    ap (λ xs. xs ++ turned) first ∙ (ap (λ xs. take at old ++ xs) last ∙ sym (append_assoc (take at old) new (drop at old))) in
    let long : length (front ++ turned) ≡ n =
    omega (arith, ap length whole_is, ap length is, length-append {A = X}, length-take {A = X}, length-drop {A = X}) in
    take_at (front ++ turned) past n long ∙ whole_is
