-- The rows of a table that is kept as two lists.
use Rattle.std.proofs.Common.{◌≡◌, ◌&&◌, ◌<◌, ◌≤◌, ◌+◌, ℕ, zero, suc, List, [], ◌∷◌, length, get_or, drop, Bool, refl, ap, sym, arith, add-one, Some, None, if◌then◌else◌, position}
use Rattle.std.specs.Borrow.{Bor}
use Rattle.std.specs.List.{position_from, list_all}
use Rattle.std.proofs.lemmas.List.{drop_all}
use Rattle.std.proofs.lemmas.Iterator.Adapters.{position_from-zero}
use Rattle.vs_exparse.specs.Table.{Row, rows_of, no_clash, tells_apart}

pub length-rows_of : (names : List (Bor (List ℕ))) (shortest : List ℕ) → length names ≡ length shortest → length (rows_of names shortest) ≡ length names
length-rows_of [] shortest same = refl
length-rows_of (name ∷ names) [] same = omega arith
length-rows_of (name ∷ names) (s ∷ shortest) same = ap (λ n. suc n) (length-rows_of names shortest (omega arith))

pub rows-from : (names : List (Bor (List ℕ))) (shortest : List ℕ) (i : ℕ) (d : Bor (List ℕ)) → i < length names → length names ≡ length shortest →
    drop i (rows_of names shortest) ≡ ((get_or names i d).now, get_or shortest i 0) ∷ drop (suc i) (rows_of names shortest)
rows-from [] shortest i d below same = absurd (omega arith)
rows-from (name ∷ names) [] i d below same = absurd (omega arith)
rows-from (name ∷ names) (s ∷ shortest) zero d below same = refl
rows-from (name ∷ names) (s ∷ shortest) (suc i) d below same = rows-from names shortest i d (omega arith) (omega arith)

-- one step of a search
pub position-step : (test : Row → Bool) (names : List (Bor (List ℕ))) (shortest : List ℕ) (i : ℕ) (d : Bor (List ℕ)) → i < length names → length names ≡ length shortest →
    position_from test i (drop i (rows_of names shortest)) ≡
    (if test ((get_or names i d).now, get_or shortest i 0) then Some i else position_from test (i + 1) (drop (i + 1) (rows_of names shortest)))
position-step test names shortest i d below same =
    rw (rows-from names shortest i d below same) (rw add-one refl)

-- the end of a search
pub position-end : (test : Row → Bool) (names : List (Bor (List ℕ))) (shortest : List ℕ) (i : ℕ) → length names ≤ i → length names ≡ length shortest →
    position_from test i (drop i (rows_of names shortest)) ≡ None
position-end test names shortest i past same =
    let none : drop i (rows_of names shortest) ≡ [] = drop_all i (rows_of names shortest) (omega (arith, length-rows_of names shortest same)) in
    rw none refl

-- the search from the first row on
pub position-start : (test : Row → Bool) (rows : List Row) → position_from test 0 rows ≡ position test rows
position-start test rows = sym (position_from-zero test rows)

rows-none : (names : List (Bor (List ℕ))) → [] ≡ rows_of names []
rows-none [] = refl
rows-none (name ∷ names) = refl

pub rows-drop : (n : ℕ) (names : List (Bor (List ℕ))) (shortest : List ℕ) → drop n (rows_of names shortest) ≡ rows_of (drop n names) (drop n shortest)
rows-drop zero names shortest = refl
rows-drop (suc n) [] shortest = refl
rows-drop (suc n) (name ∷ names) [] = rows-none (drop n names)
rows-drop (suc n) (name ∷ names) (s ∷ shortest) = rows-drop n names shortest

pub clear-step : (test : Row → Bool) (names : List (Bor (List ℕ))) (shortest : List ℕ) (i : ℕ) (d : Bor (List ℕ)) → i < length names → length names ≡ length shortest →
    list_all test (drop i (rows_of names shortest)) ≡ (test ((get_or names i d).now, get_or shortest i 0) && list_all test (drop (i + 1) (rows_of names shortest)))
clear-step test names shortest i d below same = rw (rows-from names shortest i d below same) (rw add-one refl)

pub clash-step : (names : List (Bor (List ℕ))) (shortest : List ℕ) (i : ℕ) (d : Bor (List ℕ)) → i < length names → length names ≡ length shortest →
    no_clash (drop i (rows_of names shortest)) ≡
    (list_all (tells_apart ((get_or names i d).now, get_or shortest i 0)) (drop (i + 1) (rows_of names shortest)) && no_clash (drop (i + 1) (rows_of names shortest)))
clash-step names shortest i d below same = rw (rows-from names shortest i d below same) (rw add-one refl)

pub rows-end : (names : List (Bor (List ℕ))) (shortest : List ℕ) (i : ℕ) → length names ≤ i → length names ≡ length shortest → drop i (rows_of names shortest) ≡ []
rows-end names shortest i past same = drop_all i (rows_of names shortest) (omega (arith, length-rows_of names shortest same))
