-- Lists of which so many elements at the front are left out.
use Rattle.std.proofs.Common.{◌≡◌, ℕ, suc, ◌+◌, ◌≤◌, ◌++◌, List, length, take, drop, sym, ap, ◌∙◌, arith}
use Rattle.std.specs.List.{remove}
use Rattle.std.proofs.lemmas.List.{drop-append-le, drop-take, drop-drop, length-take}

pub drop-remove : {X : Type 0} (count place : ℕ) (xs : List X) → count ≤ length xs → drop count (remove xs (count + place)) ≡ remove (drop count xs) place
drop-remove count place xs within =
    let inside : count ≤ length (take (count + place) xs) = simp length-take (omega (arith, within)) in
    let next : suc (count + place) ≡ count + suc place = omega arith in
    drop-append-le count (take (count + place) xs) (drop (suc (count + place)) xs) inside
    ∙ (ap (λ ys. ys ++ drop (suc (count + place)) xs) (drop-take count place xs)
    ∙ ap (λ ys. take place (drop count xs) ++ ys) (ap (λ k. drop k xs) next ∙ sym (drop-drop (suc place) count xs)))
