-- How the numbers of pages and the cells of a table follow its places.
use Rattle.std.proofs.lemmas.List.{length-map, length-take, get_or-take}
use Rattle.std.proofs.Common.{map, ◌≡◌, ℕ, zero, suc, ◌+◌, ◌<◌, ◌≤◌, length, get_or, set, take, List, [], ◌∷◌, ◌++◌, Option, Some, None, IsSome, IsTrue, is_some, Bool, true, false, refl, sym, ap, ◌∙◌, inl, inr, arith}
use Rattle.std.specs.Prelude.{if◌then◌else◌, IsSomeAnd}
use Rattle.std.proofs.lemmas.Bool.{cases_eq, cases_lt}
use Rattle.std.proofs.lemmas.Bool.Decides.{nat_tests}
use Rattle.std.proofs.lemmas.Grind.{common_steps}
use mathlib.Core.Path.{fun_ext}
use Rattle.vs_pages.specs.Cells.{is_away, put_cell, seen, shown, IsWritten}
use Rattle.vs_pages.specs.Maps.{Map, lacks, one, total, HasPages}
use Rattle.vs_pages.specs.Table.{away_count, away_in, cell_of, cells_of, here_count, here_in}
use Rattle.vs_pages.specs.declared.page.Page.{Page}
use Rattle.vs_pages.specs.declared.page.Page.TheVariants.{Zeros, Away, Written}
use Rattle.vs_pages.proofs.CellLemmas.{cell-itself, not_there, written_there}
use Rattle.vs_pages.proofs.MapsLemmas.{one-same, one-other, total-append}

pub here_most : (place : Option Page) → here_count place ≤ 1
here_most None = omega arith
here_most (Some Zeros) = omega arith
here_most (Some Away) = omega arith
here_most (Some (Written buffer)) = omega arith

pub away_most : (place : Option Page) → away_count place ≤ 1
away_most None = omega arith
away_most (Some Zeros) = omega arith
away_most (Some Away) = omega arith
away_most (Some (Written buffer)) = omega arith

one_of : (place : Option Page) → here_count place + away_count place ≤ 1
one_of None = omega arith
one_of (Some Zeros) = omega arith
one_of (Some Away) = omega arith
one_of (Some (Written buffer)) = omega arith

-- a page is here or away, and not both
pub counted-most : (places : List (Option Page)) → here_in places + away_in places ≤ length places
counted-most [] = omega arith
counted-most (place ∷ places) = omega (arith, one_of place, counted-most places)

-- ---- a sum over the places

pub total-set : (f : Option Page → ℕ) (places : List (Option Page)) (at : ℕ) (place : Option Page) → at < length places → total f (set places at place) + f (get_or places at None) ≡ total f places + f place
total-set f [] at place lt = absurd (omega arith)
total-set f (first ∷ rest) zero place lt = omega arith
total-set f (first ∷ rest) (suc at) place lt = omega (arith, total-set f rest at place (omega arith))

pub total-push : (f : Option Page → ℕ) (places : List (Option Page)) (place : Option Page) → total f (places ++ place ∷ []) ≡ total f places + f place
total-push f places place = omega (arith, total-append f places (place ∷ []))

-- a place without a page is not counted
pub total-vacant : (f : Option Page → ℕ) (b : Bool) (places after : List (Option Page)) → f None ≡ 0 → after ≡ (if b then places ++ None ∷ [] else places) → total f after ≡ total f places
total-vacant f true places after none is = omega (arith, none, ap (λ (ps : List (Option Page)). total f ps) is, total-push f places None)
total-vacant f false places after none is = ap (λ (ps : List (Option Page)). total f ps) is

-- a place with a page is counted
pub total-least : (f : Option Page → ℕ) (places : List (Option Page)) (at : ℕ) → at < length places → f (get_or places at None) ≤ total f places
total-least f [] at lt = absurd (omega arith)
total-least f (first ∷ rest) zero lt = omega arith
total-least f (first ∷ rest) (suc at) lt = omega (arith, total-least f rest at (omega arith))

-- ---- the cells of a table

pub cells_of-set : (places : List (Option Page)) (at : ℕ) (place : Option Page) → at < length places → cells_of (set places at place) ≡ put_cell (cells_of places) at (cell_of place)
cells_of-set places at place lt = fun_ext (λ k. elim (cases_eq k at) [ inl e ↦ grind (arith, nat_tests, common_steps) | inr ne ↦ grind (arith, nat_tests, common_steps) ])

pub cells_of-push : (places : List (Option Page)) (place : Option Page) → cells_of (places ++ place ∷ []) ≡ put_cell (cells_of places) (length places) (cell_of place)
cells_of-push places place = fun_ext (λ k. grind (arith, nat_tests, common_steps))

pub cells_of-end : (places : List (Option Page)) (k : ℕ) → length places ≤ k → cells_of places k ≡ None
cells_of-end places k le = grind (arith, common_steps)

pub cells_of-within : (places : List (Option Page)) (k : ℕ) → IsSome (cells_of places k) → k < length places
cells_of-within places k is = elim (cases_lt k (length places)) [
  | inl lt ↦ lt
  | inr le ↦ absurd (not_there (cells_of places k) (ap (λ o. is_some o) (cells_of-end places k le)) is)
]

-- a place without a page changes nothing at the end
pub cells_of-vacant : (places : List (Option Page)) → cells_of (places ++ None ∷ []) ≡ cells_of places
cells_of-vacant places =
    cells_of-push places None ∙ (ap (λ o. put_cell (cells_of places) (length places) o) (sym (cells_of-end places (length places) (omega arith))) ∙ cell-itself (cells_of places) (length places))

pub cells_of-take : (places : List (Option Page)) (n k : ℕ) → k < n → cells_of (take n places) k ≡ cells_of places k
cells_of-take places n k lt = ap cell_of (get_or-take n places k None lt)

pub cells_of-take_past : (places : List (Option Page)) (n k : ℕ) → n ≤ k → cells_of (take n places) k ≡ None
cells_of-take_past places n k le = cells_of-end (take n places) k (omega (arith, length-take n places))

pub length_set : (places : List (Option Page)) (at : ℕ) (place : Option Page) → length (set places at place) ≡ length places
length_set places at place = grind (arith, common_steps)

-- a page that was written is in the table
pub written_within : (places : List (Option Page)) (k : ℕ) → IsWritten (cells_of places k) → k < length places
written_within places k written = cells_of-within places k (written_there (cells_of places k) written)

-- ---- the numbers of the places that are counted

keys_if : ℕ → List ℕ → List ℕ
keys_if zero keys = keys
keys_if (suc n) keys = zero ∷ keys

keys_of : (Option Page → ℕ) → List (Option Page) → List ℕ
keys_of f [] = []
keys_of f (place ∷ places) = keys_if (f place) (map suc (keys_of f places))

length_if : (n : ℕ) (keys : List ℕ) → n ≤ 1 → length (keys_if n keys) ≡ n + length keys
unfolding keys_if
length_if zero keys le = omega arith
length_if (suc zero) keys le = omega arith
length_if (suc (suc n)) keys le = absurd (omega (arith, le))

length-keys : (f : Option Page → ℕ) (places : List (Option Page)) → ((place : Option Page) → f place ≤ 1) → length (keys_of f places) ≡ total f places
unfolding keys_of
length-keys f [] most = refl
length-keys f (place ∷ places) most = omega (arith, length_if (f place) (map suc (keys_of f places)) (most place), length-map (keys_of f places) suc, length-keys f places most)

one-suc : (at k : ℕ) → one (suc at) (suc k) ≡ one at k
one-suc at k = elim (cases_eq k at) [
  | inl e ↦ ap (λ j. one (suc at) (suc j)) e ∙ one-same (suc at) ∙ sym (ap (λ j. one at j) e ∙ one-same at)
  | inr ne ↦ one-other (suc at) (suc k) (λ e. ne (omega arith)) ∙ sym (one-other at k ne)
]

total-suc : (keys : List ℕ) (k : ℕ) → total (λ at. one at (suc k)) (map suc keys) ≡ total (λ at. one at k) keys
total-suc [] k = refl
total-suc (key ∷ keys) k = omega (arith, one-suc key k, total-suc keys k)

total-zero : (keys : List ℕ) → total (λ at. one at zero) (map suc keys) ≡ 0
total-zero [] = refl
total-zero (key ∷ keys) = omega (arith, one-other (suc key) zero (λ e. omega arith), total-zero keys)

first_if : (n : ℕ) (keys : List ℕ) → n ≤ 1 → total (λ at. one at zero) (keys_if n (map suc keys)) ≡ n
unfolding keys_if
first_if zero keys le = total-zero keys
first_if (suc zero) keys le = omega (arith, one-same zero, total-zero keys)
first_if (suc (suc n)) keys le = absurd (omega (arith, le))

rest_if : (n : ℕ) (keys : List ℕ) (k : ℕ) → total (λ at. one at (suc k)) (keys_if n (map suc keys)) ≡ total (λ at. one at k) keys
unfolding keys_if
rest_if zero keys k = total-suc keys k
rest_if (suc n) keys k = omega (arith, one-other zero (suc k) (λ e. omega arith), total-suc keys k)

keys-each : (f : Option Page → ℕ) (places : List (Option Page)) (k : ℕ) → f None ≡ 0 → ((place : Option Page) → f place ≤ 1) → total (λ at. one at k) (keys_of f places) ≡ f (get_or places k None)
unfolding keys_of
keys-each f [] k none most = sym none
keys-each f (place ∷ places) zero none most = first_if (f place) (keys_of f places) (most place)
keys-each f (place ∷ places) (suc k) none most = rest_if (f place) (keys_of f places) k ∙ keys-each f places k none most

counted : (f : Option Page → ℕ) (places : List (Option Page)) (m : Map) (n : ℕ) → f None ≡ 0 → ((place : Option Page) → f place ≤ 1) → ((k : ℕ) → f (get_or places k None) + lacks (m k) ≡ 1) → n ≡ total f places
    → HasPages m n
counted f places m n none most each is = (keys_of f places, length-keys f places most ∙ sym is, λ k. omega (arith, keys-each f places k none most, each k))

-- ---- how many pages are seen

here_lacks : (place : Option Page) → here_count place + lacks (shown None (cell_of place)) ≡ 1
here_lacks None = refl
here_lacks (Some Zeros) = refl
here_lacks (Some Away) = refl
here_lacks (Some (Written buffer)) = refl

-- those that are in memory, where no other is shown
pub here-counted : (places : List (Option Page)) (n : ℕ) → n ≡ here_in places → HasPages (seen (λ k. None) (cells_of places)) n
here-counted places n is = counted here_count places (seen (λ k. None) (cells_of places)) n refl here_most (λ k. here_lacks (get_or places k None)) is

abbrev both_count : Option Page → ℕ
both_count place = here_count place + away_count place

both_in : (places : List (Option Page)) → total both_count places ≡ here_in places + away_in places
both_in [] = refl
both_in (place ∷ places) = omega (arith, both_in places)

both_lacks : (place : Option Page) (away : Option (List ℕ)) → (IsTrue (is_away (cell_of place)) → IsSomeAnd away (λ page. length page ≡ 4096)) → both_count place + lacks (shown away (cell_of place)) ≡ 1
both_lacks None away backed = refl
both_lacks (Some Zeros) away backed = refl
both_lacks (Some Away) None backed = absurd (backed refl)
both_lacks (Some Away) (Some page) backed = refl
both_lacks (Some (Written buffer)) away backed = refl

-- all of them, where each that is away is shown
pub all-counted : (away : Map) (places : List (Option Page)) (n : ℕ) → n ≡ here_in places + away_in places
    → ((k : ℕ) → IsTrue (is_away (cells_of places k)) → IsSomeAnd (away k) (λ page. length page ≡ 4096)) → HasPages (seen away (cells_of places)) n
all-counted away places n is backed = counted both_count places (seen away (cells_of places)) n refl one_of (λ k. both_lacks (get_or places k None) (away k) (backed k)) (omega (arith, is, both_in places))
