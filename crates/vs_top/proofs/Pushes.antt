-- One mark more, and whether all went well.
use Rattle.std.proofs.Common.{◌≡◌, Bool, true, false, not, ◌&&◌, ◌||◌, List, [], ◌∷◌, ◌++◌, map, refl, ap}

pub and_not : (errors done error : Bool) → ((not errors) && (done && not error)) ≡ not (errors || (not done || error))
and_not true done error = refl
and_not false true true = refl
and_not false true false = refl
and_not false false error = refl

pub map_push : {A B : Type 0} → (f : A → B) (xs : List A) (y : A) → map f (xs ++ y ∷ []) ≡ map f xs ++ f y ∷ []
map_push f [] y = refl
map_push {A} {B} f (x ∷ xs) y = ap (λ (l : List B). f x ∷ l) (map_push f xs y)

pub flip_clean : (clean errors : Bool) → clean ≡ not errors → errors ≡ not clean
flip_clean true true is = absurd (cc)
flip_clean true false is = refl
flip_clean false true is = refl
flip_clean false false is = absurd (cc)
