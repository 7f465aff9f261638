-- How far a file is behind the committed pages: a sync brings it to 0, and a change adds the numbers that it gives another commit.
use Rattle.std.proofs.Common.{◌≡◌, ◌≢◌, ◌⊎◌, inl, inr, ℕ, ◌+◌, ◌≤◌, List, [], ◌∷◌, ◌++◌, length, length-append, subst, arith}
use Rattle.std.specs.Prelude.{All, Contains}
use Rattle.std.proofs.lemmas.Bool.{cases_eq}
use Rattle.std.proofs.lemmas.List.Elements.{All-cons, Contains-append_left, Contains-append_right}
use Rattle.vs_pages.specs.Memory.{commits_of}
use Rattle.vs_pages.specs.declared.memory.MemPages.{MemPages}
use Rattle.vs_pair.specs.declared.written.Written.{Written}
use Rattle.vs_pair.specs.Stale.{IsBehind, IsCounted}

-- a file that has all that was committed is behind by nothing
pub behind_none : (pages : MemPages) (has : Written) → IsCounted pages → has.commits ≡ (commits_of pages).count → IsBehind pages has 0
behind_none pages has counted same = record {
  numbers = [];
  few = omega arith;
  changed = λ k since. absurd (omega (arith, counted.some, pages.made counted.fits k, since, same));
}

-- by no more where more is allowed
pub behind_more : (pages : MemPages) (has : Written) (most more : ℕ) → most ≤ more → IsBehind pages has most → IsBehind pages has more
behind_more pages has most more le behind = record { numbers = behind.numbers; few = omega (arith, behind.few, le); changed = behind.changed }

-- the same pages
pub behind_same : (old new : MemPages) (has : Written) (most : ℕ) → (commits_of new).last ≡ (commits_of old).last → IsBehind old has most → IsBehind new has most
behind_same old new has most same behind = record {
  numbers = behind.numbers;
  few = behind.few;
  changed = λ k since. behind.changed k (subst (λ (last : ℕ → ℕ). has.commits ≤ last k) same since);
}

-- ---- numbers that got another commit

-- a number is in the list, or none of the list is this number
is_in : (names : List ℕ) (k : ℕ) → Contains names k ⊎ All (λ name. name ≢ k) names
is_in [] k = inr (λ i d less. absurd (omega (arith, less)))
is_in (x ∷ rest) k = elim (cases_eq x k) [
  | inl same ↦ inl (0, omega arith, same)
  | inr other ↦ elim (is_in rest k) [
    | inl is ↦ inl (Contains-append_right (x ∷ []) rest k is)
    | inr none ↦ inr (All-cons (λ name. name ≢ k) x rest other none)
  ]
]

-- these numbers got another commit
pub behind_changed : (old new : MemPages) (has : Written) (most : ℕ) (names : List ℕ) → ((k : ℕ) → All (λ name. name ≢ k) names → (commits_of new).last k ≡ (commits_of old).last k)
    → IsBehind old has most → IsBehind new has (most + length names)
behind_changed old new has most names others behind = record {
  numbers = behind.numbers ++ names;
  few = omega (arith, length-append behind.numbers names, behind.few);
  changed = λ k since. elim (is_in names k) [
    | inl is ↦ Contains-append_right behind.numbers names k is
    | inr none ↦ Contains-append_left behind.numbers names k (behind.changed k (omega (arith, since, others k none)))
  ];
}
