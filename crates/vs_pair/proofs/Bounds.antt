-- How many calls a sync makes: a run has one stale number at least, and no number is in two runs. A list that has each stale number is no
-- shorter than there are.
use Rattle.std.proofs.Common.{◌≡◌, inl, inr, ℕ, zero, suc, ◌+◌, ◌-◌, ◌^◌, ◌<◌, ◌≤◌, ◌&&◌, not, Bool, true, false, nat_eq, nat_le, List, [], ◌∷◌, length, IsSome, IsTrue, Option, refl, sym, ◌∙◌, ap, subst, arith}
use Rattle.std.specs.Prelude.{Contains, is_some}
use Rattle.std.proofs.lemmas.Bool.{cases_Bool, cases_lt, or_cases, true≢false, and_parts}
use Rattle.std.proofs.lemmas.Bool.Decides.{nat_tests}
use Rattle.vs_host.specs.World.{Tells, Scene}
use Rattle.vs_pages.specs.Cells.{Cell}
use Rattle.vs_pages.specs.HistoryLaws.{first_past}
use Rattle.vs_pages.specs.Maps.{Map}
use Rattle.vs_pages.specs.Memory.{changes_of, commits_of, first_kept_of, kept_of, AreBacked}
use Rattle.vs_pages.specs.declared.memory.MemPages.{MemPages}
use Rattle.vs_pair.specs.declared.written.Written.{Written}
use Rattle.vs_pages.proofs.TableLemmas.{cells_of-end}
use Rattle.vs_pair.specs.Acts.{WorksAtMost}
use Rattle.vs_pair.specs.Held.{HasReach, held_with}
use Rattle.vs_pair.proofs.HeldLemmas.{committed_seen}
use Rattle.vs_pair.specs.Stale.{HasChanged, IsBehind, IsEnd, is_stale, one_if, stale_below}

-- ---- stale numbers

module _ (pages : MemPages) (has : Written) where
  pub stale_up_to : (n to : ℕ) → n ≤ to → stale_below (commits_of pages) has n ≤ stale_below (commits_of pages) has to
  stale_up_to n zero le = let same : n ≡ 0 = omega (arith, le) in omega (arith, ap (λ (m : ℕ). stale_below (commits_of pages) has m) same)
  stale_up_to n (suc to) le = elim (cases_lt to n) [
    | inl less ↦ let same : n ≡ suc to = omega (arith, less, le) in omega (arith, ap (λ (m : ℕ). stale_below (commits_of pages) has m) same)
    | inr past ↦ omega (arith, stale_up_to n to past)
  ]

  -- a stale number counts
  pub one_more : (n to : ℕ) → 1 ≤ n → is_stale (commits_of pages) has n ≡ true → n < to → stale_below (commits_of pages) has n + 1 ≤ stale_below (commits_of pages) has to
  one_more n to some is less =
      let after_first : nat_le 1 n ≡ true = grind (arith, nat_tests) in
      let one : one_if (nat_le 1 n && is_stale (commits_of pages) has n) ≡ 1 = ap (λ (b : Bool). one_if (b && is_stale (commits_of pages) has n)) after_first ∙ ap one_if is in
      let after : stale_below (commits_of pages) has (suc n) ≤ stale_below (commits_of pages) has to = stale_up_to (suc n) to (omega (arith, less)) in
      omega (arith, one, after)

  -- as many numbers as there are in a run of stale ones count
  pub run_more : (n count to : ℕ) → 1 ≤ n → ((k : ℕ) → k < count → is_stale (commits_of pages) has (n + k) ≡ true) → n + count ≤ to → stale_below (commits_of pages) has n + count ≤ stale_below (commits_of pages) has to
  run_more n zero to some all le = omega (arith, stale_up_to n to (omega (arith, le)))
  run_more n (suc count) to some all le =
      let last : stale_below (commits_of pages) has (n + count) + 1 ≤ stale_below (commits_of pages) has to =
      one_more (n + count) to (omega (arith, some)) (all count (omega arith)) (omega (arith, le)) in
      omega (arith, last, run_more n count (n + count) some (λ k less. all k (omega (arith, less))) (omega arith))

-- the number after the last page is no greater than one from which on there is none
pub least_end : (pages : MemPages) (last end : ℕ) → (0 < last → IsSome (first_kept_of pages (last - 1))) → IsEnd pages end → last ≤ end
least_end pages last end some is = elim (cases_lt end last) [
  | inl less ↦ absurd (true≢false (sym (some (omega (arith, less))) ∙ is.past (last - 1) (omega (arith, less))))
  | inr past ↦ past
]

-- ---- numbers in a list

-- how many numbers below this one pass the test
abbrev count : (ℕ → Bool) → ℕ → ℕ
count passes zero = 0
count passes (suc n) = one_if (passes n) + count passes n

-- the test without this number
abbrev but : (ℕ → Bool) → ℕ → ℕ → Bool
but passes x k = passes k && not (nat_eq k x)

one_most : (b : Bool) → one_if b ≤ 1
one_most true = omega arith
one_most false = omega arith

one_but : (passes : ℕ → Bool) (x n : ℕ) → nat_eq n x ≡ false → one_if (but passes x n) ≡ one_if (passes n)
one_but passes x n other = ap (λ (b : Bool). one_if (passes n && not b)) other ∙ ap one_if (and_true (passes n))
  where
    and_true : (b : Bool) → (b && true) ≡ b
    and_true true = refl
    and_true false = refl

but_below : (passes : ℕ → Bool) (x n : ℕ) → n ≤ x → count passes n ≤ count (but passes x) n
but_below passes x zero le = omega arith
but_below passes x (suc n) le =
    let other : nat_eq n x ≡ false = grind (arith, nat_tests) in
    omega (arith, one_but passes x n other, but_below passes x n (omega (arith, le)))

but_one : (passes : ℕ → Bool) (x n : ℕ) → count passes n ≤ 1 + count (but passes x) n
but_one passes x zero = omega arith
but_one passes x (suc n) = elim (cases_Bool (nat_eq n x)) [
  | inl same ↦
      let le : n ≤ x = grind (arith, nat_tests) in
      omega (arith, one_most (passes n), but_below passes x n le)
  | inr other ↦ omega (arith, one_but passes x n other, but_one passes x n)
]

but_is : (passes : ℕ → Bool) (x k : ℕ) → but passes x k ≡ true → (passes k ≡ true) × (nat_eq k x ≡ false)
but_is passes x k is = parts (passes k) (nat_eq k x) is
  where
    parts : (a b : Bool) → (a && not b) ≡ true → (a ≡ true) × (b ≡ false)
    parts true false is = (refl, refl)
    parts true true is = absurd (true≢false (sym is))
    parts false b is = absurd (true≢false (sym is))

in_rest : (x k : ℕ) (rest : List ℕ) → nat_eq k x ≡ false → Contains (x ∷ rest) k → Contains rest k
in_rest x k rest other (zero, less, is) = let same : nat_eq k x ≡ true = grind (arith, nat_tests) in absurd (true≢false (sym same ∙ other))
in_rest x k rest other (suc j, less, is) = (j, omega (arith, less), is)

-- each number that passes is in the list, so there are no more of them
held : (numbers : List ℕ) (passes : ℕ → Bool) (n : ℕ) → ((k : ℕ) → k < n → passes k ≡ true → Contains numbers k) → count passes n ≤ length numbers
held [] passes zero all = omega arith
held [] passes (suc n) all = elim (cases_Bool (passes n)) [
  | inl is ↦ absurd (omega (arith, (all n (omega arith) is).1))
  | inr is ↦ omega (arith, ap one_if is, held [] passes n (λ k less. all k (omega (arith, less))))
]
held (x ∷ rest) passes n all =
    omega (arith, but_one passes x n, held rest (but passes x) n (λ k less is. let parts = but_is passes x k is in in_rest x k rest parts.1 (all k less parts.0)))

-- ---- the numbers that are written

-- The number after the last committed page, or 1, which is no greater than this end.
record HasLast (pages : MemPages) (end : ℕ) : Type 0 where
  last : ℕ
  within : last ≤ end
  is : IsEnd pages last
  page : 1 < last → IsSome (first_kept_of pages (last - 1))

last_of : (pages : MemPages) (end : ℕ) → IsEnd pages end → HasLast pages end
last_of pages zero is = absurd (omega (arith, is.some))
last_of pages (suc zero) is = record { last = 1; within = omega arith; is = is; page = λ less. absurd (omega (arith, less)) }
last_of pages (suc (suc n)) is = elim (cases_Bool (is_some (first_kept_of pages (suc n)))) [
  | inl there ↦ record {
    last = suc (suc n);
    within = omega arith;
    is = is;
    page = λ less. let same : suc n ≡ suc (suc n) - 1 = omega arith in subst (λ (j : ℕ). IsSome (first_kept_of pages j)) same there;
  }
  | inr none ↦
      let below : HasLast pages (suc n) = last_of pages (suc n) (record { some = omega arith; past = none_from none }) in
      record { last = below.last; within = omega (arith, below.within); is = below.is; page = below.page }
]
  where
    none_from : is_some (first_kept_of pages (suc n)) ≡ false → (k : ℕ) → suc n ≤ k → is_some (first_kept_of pages k) ≡ false
    none_from none k from = elim (cases_lt k (suc (suc n))) [
      | inl less ↦ let same : suc n ≡ k = omega (arith, from, less) in subst (λ (j : ℕ). is_some (first_kept_of pages j) ≡ false) same none
      | inr past ↦ is.past k past
    ]

counted : (pages : MemPages) (has : Written) (n : ℕ) → stale_below (commits_of pages) has n ≡ count (λ k. nat_le 1 k && is_stale (commits_of pages) has k) n
counted pages has zero = refl
counted pages has (suc n) = ap (λ (m : ℕ). one_if (nat_le 1 n && is_stale (commits_of pages) has n) + m) (counted pages has n)

module _ (away : Map) (pages : MemPages) (backed : AreBacked away pages) (has : Written) (reach : HasReach (held_with away pages) has.commits has.end) (end : ℕ) (numbers : List ℕ) (changed : HasChanged pages has end numbers) (ends : HasLast pages end) where
  -- what lies after the last page of the file was changed since, too
  is_changed : (k : ℕ) → 1 ≤ k → k < ends.last → is_stale (commits_of pages) has k ≡ true → has.commits ≤ (commits_of pages).last k
  is_changed k some less is = elim (or_cases (nat_le has.commits ((commits_of pages).last k)) (nat_le has.end k) is) [
    | inl later ↦ grind (arith, nat_tests)
    | inr past ↦
        let from : has.end ≤ k = grind (arith, nat_tests) in
        reach k (ends.last - 1) from (omega (arith, less)) (committed_seen away pages backed (ends.last - 1) (ends.page (omega (arith, some, less))))
  ]

  in_list : (k : ℕ) → k < ends.last → (nat_le 1 k && is_stale (commits_of pages) has k) ≡ true → Contains numbers k
  in_list k less is =
      let parts = and_parts (nat_le 1 k) (is_stale (commits_of pages) has k) is in
      let some : 1 ≤ k = let test : nat_le 1 k ≡ true = parts.0 in grind (arith, nat_tests) in
      changed k some (omega (arith, less, ends.within)) (is_changed k some less parts.1)

  stale_in : stale_below (commits_of pages) has ends.last ≤ length numbers
  stale_in = omega (arith, counted pages has ends.last, held numbers (λ k. nat_le 1 k && is_stale (commits_of pages) has k) ends.last in_list)

-- ---- calls

module _ (tells : Tells) (old new : Scene) (away : Map) (pages : MemPages) (has : Written) (backed : IsTrue tells.folder → AreBacked away pages) (reach : IsTrue tells.folder → HasReach (held_with away pages) has.commits has.end)
    (works : (end : ℕ) → IsEnd pages end → WorksAtMost tells old new (6 + stale_below (commits_of pages) has end) (stale_below (commits_of pages) has end)) where
  pub few_calls : (end : ℕ) (numbers : List ℕ) → IsEnd pages end → HasChanged pages has end numbers → WorksAtMost tells old new (6 + length numbers) (length numbers)
  few_calls end numbers is changed =
      let ends : HasLast pages end = last_of pages end is in
      let within : WorksAtMost tells old new (6 + stale_below (commits_of pages) has ends.last) (stale_below (commits_of pages) has ends.last) = works ends.last ends.is in
      record {
        calls = λ told. omega (arith, within.calls told, stale_in away pages (backed told) has (reach told) end numbers changed ends);
        reads = λ told. omega (arith, within.reads told, stale_in away pages (backed told) has (reach told) end numbers changed ends);
      }

  -- all page numbers lie below a bound
  ends_at_bound : IsEnd pages (2 ^ 40)
  ends_at_bound = record {
    some = omega arith;
    past = λ k from.
        let places = pages.table.places.items in
        first_past (kept_of pages) (length places) (changes_of pages) pages.undo (λ j past. ap (λ (cell : Option Cell). is_some cell) (cells_of-end places j past)) k (omega (arith, from, pages.table.bound));
  }

  pub behind_calls : (most : ℕ) → IsBehind pages has most → WorksAtMost tells old new (6 + most) most
  behind_calls most behind =
      let few : WorksAtMost tells old new (6 + length behind.numbers) (length behind.numbers) = few_calls (2 ^ 40) behind.numbers ends_at_bound (λ k some less since. behind.changed k since) in
      record { calls = λ told. omega (arith, few.calls told, behind.few); reads = λ told. omega (arith, few.reads told, behind.few) }
