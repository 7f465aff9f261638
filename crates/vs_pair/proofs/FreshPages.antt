-- The file of a sync has each page that no commit changed since, and zeros at each number between its pages.
use Rattle.std.proofs.Common.{◌≡◌, inl, inr, ℕ, ◌-◌, ◌<◌, ◌≤◌, false, List, Option, Some, None, IsSome, refl, sym, ◌∙◌, ap, subst, arith}
use Rattle.std.proofs.lemmas.Bool.{cases_lt, true≢false}
use Rattle.std.proofs.lemmas.Bool.Decides.{nat_tests}
use Rattle.vs_pages.specs.Maps.{Map}
use Rattle.vs_pages.specs.State.{Commits}
use Rattle.vs_swap.specs.Files.{page_in}
use Rattle.vs_pair.specs.declared.gate.Gate.{Gate}
use Rattle.vs_pair.specs.declared.gate.Gate.TheVariants.{Open, Closed}
use Rattle.vs_pair.specs.declared.written.Written.{Written}
use Rattle.vs_pair.specs.Held.{Held, KeepsHeld}
use Rattle.vs_pair.proofs.HeldLemmas.{reach_begins, since_held}
use Rattle.vs_pair.specs.Swap.{Body, HasBody}
use Rattle.vs_pair.specs.Stale.{Keeps, is_stale, nothing}
use Rattle.vs_pair.specs.Writes.{page_or_zeros}

-- ---- what is stale

pub none_fresh : (commits : Commits) (k : ℕ) → is_stale commits nothing k ≡ false → ⊥
none_fresh commits k is = grind (arith, nat_tests)

unchanged : (pages : Held) (has : Written) (k : ℕ) → is_stale pages.commits has k ≡ false → pages.commits.last k < has.commits
unchanged pages has k is = grind (arith, nat_tests)

inside : (pages : Held) (has : Written) (k : ℕ) → is_stale pages.commits has k ≡ false → k < has.end
inside pages has k is = grind (arith, nat_tests)

-- ---- what a file has of the pages

module _ (body : Body) (c : List ℕ) (has : HasBody body c) (end k : ℕ) (last : 0 < end → IsSome (body.pages (end - 1))) (least : 1 ≤ k) (less : k < end) where
  -- a number without a page is not the last one
  before_last : body.pages k ≡ None → k < end - 1
  before_last none = elim (cases_lt k (end - 1)) [
    | inl lt ↦ lt
    | inr past ↦
        let same : end - 1 ≡ k = omega (arith, past, less) in
        let some : IsSome (body.pages (end - 1)) = last (omega (arith, less)) in
        absurd (true≢false (sym (subst (λ (o : Option (List ℕ)). IsSome o) (ap (λ (j : ℕ). body.pages j) same ∙ none) some)))
  ]

  in_place : (found : Option (List ℕ)) → body.pages k ≡ found → page_in c k ≡ Some (page_or_zeros found)
  in_place None is = has.gaps k (end - 1) least (before_last is) is (last (omega (arith, less)))
  in_place (Some page) is = has.pages k page least is

pub fresh_in : (pages : Held) (has : Written) (before : Body) (gate : Gate) → Keeps gate pages has before.pages → (c : List ℕ) → HasBody before c → (k : ℕ) → 1 ≤ k → is_stale pages.commits has k ≡ false
    → page_in c k ≡ Some (page_or_zeros (pages.committed k))
fresh_in pages has before gate keeps c body k least is =
    in_place before c body has.end k keeps.last least (inside pages has k is) (pages.committed k) (sym (keeps.since k (unchanged pages has k is)))

-- ---- what is known of the pages

pub keeps_nothing : (gate : Gate) (pages : Held) (map : Map) → Keeps gate pages nothing map
keeps_nothing gate pages map = record {
  since = λ k less. absurd (omega (arith, less));
  reach = λ k j from upto there. omega arith;
  last = λ less. absurd (omega (arith, less));
  torn = λ is. refl;
}

-- after a sync
pub keeps_all : (pages : Held) (map : Map) (end : ℕ) → map ≡ pages.committed → ((k : ℕ) → end ≤ k → pages.committed k ≡ None) → (0 < end → IsSome (map (end - 1)))
    → Keeps Open pages (record { commits = pages.commits.count; end = end }) map
keeps_all pages map end same past last = record {
  since = λ k less. ap (λ (m : Map). m k) (sym same);
  reach = reach_begins pages end past;
  last = last;
  torn = λ is. let clash : Open ≡ Closed = is in absurd (cc);
}

pub keeps_changed : (gate : Gate) (old new : Held) (has : Written) (map : Map) → has.commits ≤ old.commits.count → KeepsHeld old new → Keeps gate old has map → Keeps gate new has map
keeps_changed gate old new has map le held keeps = record {
  since = since_held old new has.commits map held le keeps.since;
  reach = held.reach has.commits has.end le keeps.reach;
  last = keeps.last;
  torn = keeps.torn;
}
