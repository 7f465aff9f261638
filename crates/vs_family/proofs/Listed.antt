-- Names that are looked at one by one.
use Rattle.std.proofs.Common.{◌≡◌, inl, inr, ℕ, zero, suc, ◌<◌, ◌≤◌, ◌+◌, ◌-◌, Bool, true, false, ◌||◌, List, [], ◌∷◌, length, map, get_or, refl, sym, ◌∙◌, ap, subst, arith}
use Rattle.std.proofs.lemmas.Bool.Decides.{leb_tells}
use Rattle.std.proofs.lemmas.Grind.{get_or_tail}
use Rattle.vs_host.specs.Disk.{Name}
use Rattle.vs_backup.specs.Backups.{backup_name, candidates, lettered, letters}
use Rattle.vs_family.specs.Family.{any, lasting_names}

-- one of them passes
pub one_passes : (test : Name → Bool) (names : List Name) (k : ℕ) → k < length names → test (get_or names k []) ≡ true → any test names ≡ true
one_passes test [] k within is = absurd (omega (arith, within))
one_passes test (name ∷ names) zero within is = ap (λ (b : Bool). b || any test names) is
one_passes test (name ∷ names) (suc k) within is = later (test name) (any test names) (one_passes test names k (omega (arith, within)) is)
  where
    later : (a b : Bool) → b ≡ true → (a || b) ≡ true
    later true b is = refl
    later false b is = is

-- or none does
pub none_passes : (test : Name → Bool) (names : List Name) → ((k : ℕ) → k < length names → test (get_or names k []) ≡ false) → any test names ≡ false
none_passes test [] none = refl
none_passes test (name ∷ names) none =
    ap (λ (b : Bool). b || any test names) (none 0 (omega arith)) ∙ none_passes test names (λ k within. none (suc k) (omega (arith, within)))

-- one more of them
pub one_more : (test : Name → Bool) (names : List Name) (n : ℕ) → ((k : ℕ) → k < n → test (get_or names k []) ≡ false) → test (get_or names n []) ≡ false
    → (k : ℕ) → k < n + 1 → test (get_or names k []) ≡ false
one_more test names n each here k below = elim (leb_tells n k) [
  | inl past ↦ ap (λ (j : ℕ). test (get_or names j [])) (omega (arith, past.1, below)) ∙ here
  | inr before ↦ each k before.1
]

-- ---- the names of a file

candidates_are : (file : Name) → candidates file ≡ backup_name file ∷ map (lettered file) (letters 26)
unfolding candidates
candidates_are file = refl

letters_count : (f : ℕ → Name) (n : ℕ) → length (map f (letters n)) ≡ n
unfolding letters
letters_count f zero = refl
letters_count f (suc n) = ap suc (letters_count f n)

letter_at : (f : ℕ → Name) (n j : ℕ) → j < n → get_or (map f (letters n)) j [] ≡ f (97 + (n - 1 - j))
unfolding letters
letter_at f zero j within = absurd (omega (arith, within))
letter_at f (suc n) zero within = ap f (omega arith)
letter_at f (suc n) (suc j) within = letter_at f n j (omega (arith, within)) ∙ ap f (omega (arith, within))

pub count_lasting : (file : Name) → length (lasting_names file) ≡ 31
unfolding letters candidates
count_lasting file = refl

pub backup_at : (file : Name) → get_or (lasting_names file) 4 [] ≡ backup_name file
backup_at file = ap (λ (names : List Name). get_or names 0 []) (candidates_are file)

past_four : (a b c d : Name) (names : List Name) (k : ℕ) → 4 ≤ k → get_or (a ∷ b ∷ c ∷ d ∷ names) k [] ≡ get_or names (k - 4) []
past_four a b c d names k past =
    get_or_tail a (b ∷ c ∷ d ∷ names) k [] (omega (arith, past)) ∙ get_or_tail b (c ∷ d ∷ names) (k - 1) [] (omega (arith, past))
    ∙ get_or_tail c (d ∷ names) (k - 1 - 1) [] (omega (arith, past)) ∙ get_or_tail d names (k - 1 - 1 - 1) [] (omega (arith, past))
    ∙ ap (λ (n : ℕ). get_or names n []) (omega (arith, past))

-- the backups with a letter
pub lettered_at : (file : Name) (k : ℕ) → 5 ≤ k → k < 31 → get_or (lasting_names file) k [] ≡ lettered file (122 - (k - 5))
lettered_at file k past within =
    past_four _ _ _ _ (candidates file) k (omega (arith, past)) ∙ ap (λ (names : List Name). get_or names (k - 4) []) (candidates_are file)
    ∙ get_or_tail (backup_name file) (map (lettered file) (letters 26)) (k - 4) [] (omega (arith, past))
    ∙ letter_at (lettered file) 26 (k - 4 - 1) (omega (arith, past, within)) ∙ ap (lettered file) (omega (arith, past, within))

-- a place of one of them, and one that is past all others
pub within_all : (file : Name) (k : ℕ) → k < 31 → k < length (lasting_names file)
within_all file k below = subst (λ (n : ℕ). k < n) (sym (count_lasting file)) below

pub within_count : (file : Name) (k : ℕ) → k < length (lasting_names file) → k < 31
within_count file k below = subst (λ (n : ℕ). k < n) (count_lasting file) below
