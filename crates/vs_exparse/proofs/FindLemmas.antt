-- The place of the first element that passes a test, and the element.
use Rattle.std.proofs.Common.{◌≡◌, ◌≤◌, ◌+◌, ℕ, zero, suc, List, [], ◌∷◌, Bool, true, false, refl, ap, sym, ◌∙◌, arith, Some, map, slice_get, find, option_map, position}
use Rattle.std.specs.List.{position_from}
use Rattle.std.proofs.lemmas.Iterator.Adapters.{position_from-zero}

from-by : {X : Type 0} (p : X → Bool) (x : X) (b : Bool) (xs : List X) (n m : ℕ) → p x ≡ b → ((k : ℕ) → position_from p k xs ≡ Some m → k ≤ m) →
    position_from p n (x ∷ xs) ≡ Some m → n ≤ m
from-by p x true xs n m is more found = let same : Some n ≡ Some m = rw is at found in let equal : n ≡ m = cc in omega arith
from-by p x false xs n m is more found = let later : n + 1 ≤ m = more (n + 1) (rw is at found) in omega arith

-- a place is not before the start
pub position_from-least : {X : Type 0} (p : X → Bool) (xs : List X) (n m : ℕ) → position_from p n xs ≡ Some m → n ≤ m
position_from-least p [] n m found = cc
position_from-least p (x ∷ xs) n m found = from-by p x (p x) xs n m refl (λ k. position_from-least p xs k m) found

found-by : {X Y Z : Type 0} (f : X → Y) (g : X → Z) (p : Y → Bool) (x : X) (b : Bool) (xs : List X) (n i : ℕ) (z : Z) → p (f x) ≡ b →
    ((j : ℕ) → position_from p (n + 1) (map f xs) ≡ Some ((n + 1) + j) → slice_get (map g xs) j ≡ Some z → option_map g (find (λ x. p (f x)) xs) ≡ Some z) →
    position_from p n (f x ∷ map f xs) ≡ Some (n + i) → slice_get (g x ∷ map g xs) i ≡ Some z → option_map g (find (λ x. p (f x)) (x ∷ xs)) ≡ Some z
found-by f g p x true xs n zero z is rest found at = rw is at
found-by f g p x true xs n (suc i) z is rest found at = let same : Some n ≡ Some (n + suc i) = rw is at found in let equal : n ≡ n + suc i = cc in absurd (omega arith)
found-by f g p x false xs n zero z is rest found at =
    let later : n + 1 ≤ n + 0 = position_from-least p (map f xs) (n + 1) (n + 0) (rw is at found) in absurd (omega arith)
found-by f g p x false xs n (suc i) z is rest found at =
    let next : n + suc i ≡ (n + 1) + i = omega arith in
    let moved : position_from p (n + 1) (map f xs) ≡ Some (n + suc i) = rw is at found in
    rw is (rest i (moved ∙ ap (λ k. Some k) next) at)

found-from : {X Y Z : Type 0} (f : X → Y) (g : X → Z) (p : Y → Bool) (xs : List X) (n i : ℕ) (z : Z) →
    position_from p n (map f xs) ≡ Some (n + i) → slice_get (map g xs) i ≡ Some z → option_map g (find (λ x. p (f x)) xs) ≡ Some z
found-from f g p [] n i z found at = cc
found-from f g p (x ∷ xs) n i z found at = found-by f g p x (p (f x)) xs n i z refl (λ j. found-from f g p xs (n + 1) j z) found at

-- what stands at the place of the first element that passes is what is made of that element
pub found-at : {X Y Z : Type 0} (f : X → Y) (g : X → Z) (p : Y → Bool) (xs : List X) (i : ℕ) (z : Z) →
    Some i ≡ position p (map f xs) → slice_get (map g xs) i ≡ Some z → Some z ≡ option_map g (find (λ x. p (f x)) xs)
found-at f g p xs i z found at =
    let zero_on : i ≡ 0 + i = omega arith in
    sym (found-from f g p xs 0 i z (sym (position_from-zero p (map f xs)) ∙ sym found ∙ ap (λ k. Some k) zero_on) at)
