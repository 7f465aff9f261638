-- Two names are told apart exactly where no word matches both.
use Rattle.std.proofs.Common.{◌≡◌, ◌<◌, ◌≤◌, ◌+◌, ◌&&◌, ◌↔◌, ℕ, zero, suc, List, [], ◌∷◌, length, take, max, nat_eq, nat_le, Bool, true, false, cond, refl, ap, sym, ◌∙◌, arith, slice_get, Some, subst, IsTrue}
use Rattle.std.specs.List.{starts_with, common_prefix_len, list_all}
use Rattle.std.proofs.lemmas.Bool.{eqb-true, leb-true, ltb-true, eq-eqb}
use Rattle.std.proofs.lemmas.Bool.Decides.{nat_tests}
use Rattle.vs_exparse.specs.Table.{Row, matches, tells_apart, no_clash, NoClash}

pub and-first : (s t : Bool) → (s && t) ≡ true → s ≡ true
and-first true t both = refl
and-first false t both = both

pub and-second : (s t : Bool) → (s && t) ≡ true → t ≡ true
and-second true t both = both
and-second false t both = cc

pub both-true : (s t : Bool) → s ≡ true → t ≡ true → (s && t) ≡ true
both-true s t first second = rw (first, second) refl

-- a word at the front of two names is no longer than what they share
pub shared : (a b word : List ℕ) → starts_with nat_eq a word ≡ true → starts_with nat_eq b word ≡ true → length word ≤ common_prefix_len nat_eq a b
shared a b [] in_a in_b = omega arith
shared [] b (x ∷ word) in_a in_b = cc
shared (y ∷ a) [] (x ∷ word) in_a in_b = cc
shared (y ∷ a) (z ∷ b) (x ∷ word) in_a in_b =
    let is_y : x ≡ y = eqb-true x y (and-first (nat_eq x y) (starts_with nat_eq a word) in_a) in
    let is_z : x ≡ z = eqb-true x z (and-first (nat_eq x z) (starts_with nat_eq b word) in_b) in
    let same : nat_eq y z ≡ true = eq-eqb y z (sym is_y ∙ is_z) in
    let more : length word ≤ common_prefix_len nat_eq a b =
    shared a b word (and-second (nat_eq x y) (starts_with nat_eq a word) in_a) (and-second (nat_eq x z) (starts_with nat_eq b word) in_b) in
    rw same (omega arith)

-- the first bytes of a name that another name shares stand at the front of both
pub record IsWordOf (n : ℕ) (a b word : List ℕ) : Type 0 where
  pub in_a : starts_with nat_eq a word ≡ true
  pub in_b : starts_with nat_eq b word ≡ true
  pub long : length word ≡ n

word-by : (n y z : ℕ) (a b : List ℕ) (same : Bool) → nat_eq y z ≡ same → (n ≤ common_prefix_len nat_eq a b → IsWordOf n a b (take n a)) →
    suc n ≤ common_prefix_len nat_eq (y ∷ a) (z ∷ b) → IsWordOf (suc n) (y ∷ a) (z ∷ b) (take (suc n) (y ∷ a))
word-by n y z a b true is more within =
    let within' : suc n ≤ 1 + common_prefix_len nat_eq a b = let P : Bool → Type 0 = λ t. suc n ≤ cond t (1 + common_prefix_len nat_eq a b) 0 in subst P is within in
    let word = more (omega arith) in
    let flipped : nat_eq y z ≡ true = is in
    record {
      in_a = both-true (nat_eq y y) (starts_with nat_eq a (take n a)) (eq-eqb y y refl) word.in_a;
      in_b = both-true (nat_eq y z) (starts_with nat_eq b (take n a)) is word.in_b;
      long = ap (λ k. suc k) word.long;
    }
word-by n y z a b false is more within =
    let P : Bool → Type 0 = λ t. suc n ≤ cond t (1 + common_prefix_len nat_eq a b) 0 in
    let none : suc n ≤ 0 = subst P is within in absurd (omega arith)

pub shared-word : (n : ℕ) (a b : List ℕ) → n ≤ common_prefix_len nat_eq a b → IsWordOf n a b (take n a)
shared-word zero a b within = record { in_a = refl; in_b = refl; long = refl }
shared-word (suc n) [] b within = absurd (omega arith)
shared-word (suc n) (y ∷ a) [] within = absurd (omega arith)
shared-word (suc n) (y ∷ a) (z ∷ b) within = word-by n y z a b (nat_eq y z) refl (shared-word n a b) within

pub apart : (a b : Row) (word : List ℕ) → tells_apart a b ≡ true → matches word a ≡ true → matches word b ≡ true → ⊥
apart a b word told in_a in_b =
    let short : common_prefix_len nat_eq a.0 b.0 < max a.1 b.1 = ltb-true (common_prefix_len nat_eq a.0 b.0) (max a.1 b.1) told in
    let long_a : a.1 ≤ length word = leb-true a.1 (length word) (and-first (nat_le a.1 (length word)) (starts_with nat_eq a.0 word) in_a) in
    let long_b : b.1 ≤ length word = leb-true b.1 (length word) (and-first (nat_le b.1 (length word)) (starts_with nat_eq b.0 word) in_b) in
    let within : length word ≤ common_prefix_len nat_eq a.0 b.0 =
    shared a.0 b.0 word (and-second (nat_le a.1 (length word)) (starts_with nat_eq a.0 word) in_a) (and-second (nat_le b.1 (length word)) (starts_with nat_eq b.0 word) in_b) in
    omega arith

-- a word of two names that are not told apart
pub together : (a b : Row) → tells_apart a b ≡ false → (word : List ℕ) × (matches word a ≡ true) × (matches word b ≡ true)
together a b told =
    let n : ℕ = max a.1 b.1 in
    let within : max a.1 b.1 ≤ common_prefix_len nat_eq a.0 b.0 = grind (arith, nat_tests) in
    let word = shared-word (max a.1 b.1) a.0 b.0 within in
    let long : length (take (max a.1 b.1) a.0) ≡ max a.1 b.1 = word.long in
    let full_a : nat_le a.1 (length (take (max a.1 b.1) a.0)) ≡ true = grind (arith, nat_tests) in
    let full_b : nat_le b.1 (length (take (max a.1 b.1) a.0)) ≡ true = grind (arith, nat_tests) in
    (take (max a.1 b.1) a.0, both-true _ _ full_a word.in_a, both-true _ _ full_b word.in_b)

all-at : {X : Type 0} (test : X → Bool) (xs : List X) (j : ℕ) (x : X) → list_all test xs ≡ true → slice_get xs j ≡ Some x → test x ≡ true
all-at test [] j x all at = cc
all-at test (y ∷ xs) zero x all at = let same : y ≡ x = cc in rw (← same) (and-first (test y) (list_all test xs) all)
all-at test (y ∷ xs) (suc j) x all at = all-at test xs j x (and-second (test y) (list_all test xs) all) at

pub no-word : (rows : List Row) → no_clash rows ≡ true → NoClash rows
no-word [] told i j a b word below at_i at_j in_a in_b = cc
no-word (row ∷ rows) told zero zero a b word below at_i at_j in_a in_b = omega arith
no-word (row ∷ rows) told (suc i) zero a b word below at_i at_j in_a in_b = omega arith
no-word (row ∷ rows) told zero (suc j) a b word below at_i at_j in_a in_b =
    let same : row ≡ a = cc in
    let test : tells_apart row b ≡ true = all-at (tells_apart row) rows j b (and-first (list_all (tells_apart row) rows) (no_clash rows) told) at_j in
    apart row b word test (rw same in_a) in_b
no-word (row ∷ rows) told (suc i) (suc j) a b word below at_i at_j in_a in_b =
    no-word rows (and-second (list_all (tells_apart row) rows) (no_clash rows) told) i j a b word (omega arith) at_i at_j in_a in_b

-- a list of which each element that stands somewhere passes
all-by : {X : Type 0} (test : X → Bool) (xs : List X) → ((j : ℕ) (x : X) → slice_get xs j ≡ Some x → test x ≡ true) → list_all test xs ≡ true
all-by test [] each = refl
all-by test (x ∷ xs) each = both-true (test x) (list_all test xs) (each 0 x refl) (all-by test xs (λ j y at. each (suc j) y at))

told-by : (a b : Row) (t : Bool) → tells_apart a b ≡ t → ((word : List ℕ) → matches word a ≡ true → matches word b ≡ true → ⊥) → tells_apart a b ≡ true
told-by a b true told none = told
told-by a b false told none = let word = together a b told in absurd (none word.0 word.1 word.2)

pub no-clash : (rows : List Row) → NoClash rows → no_clash rows ≡ true
no-clash [] none = refl
no-clash (row ∷ rows) none =
    both-true (list_all (tells_apart row) rows) (no_clash rows)
    (all-by (tells_apart row) rows (λ j b at. told-by row b (tells_apart row b) refl (λ word in_a in_b. none 0 (suc j) row b word (omega arith) refl at in_a in_b)))
    (no-clash rows (λ i j a b word below at_i at_j in_a in_b. none (suc i) (suc j) a b word (omega arith) at_i at_j in_a in_b))

pub told-no-word : (b : Bool) (rows : List Row) → b ≡ no_clash rows → IsTrue b ↔ NoClash rows
told-no-word b rows is = (λ holds. no-word rows (sym is ∙ holds), λ none. is ∙ no-clash rows none)
