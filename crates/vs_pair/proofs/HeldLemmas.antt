-- What is known of the pages goes on where pages in memory keep it, with the pages of a map in the place of those that are away.
use Rattle.std.proofs.Common.{◌≡◌, inl, inr, ℕ, ◌-◌, ◌<◌, ◌≤◌, List, Option, Some, None, IsSome, IsTrue, is_some, false, length, refl, ap, ◌∙◌, arith}
use Rattle.std.specs.Prelude.{IsSomeAnd}
use Rattle.vs_pages.specs.Maps.{Map}
use Rattle.vs_pages.specs.Cells.{Blank, Away, Kept, Cell, is_away, shown, IsEndOf}
use Rattle.vs_pages.specs.Memory.{first_kept_of, AreBacked, KeepsSince}
use Rattle.vs_pages.specs.declared.memory.MemPages.{MemPages}
use Rattle.vs_pages.proofs.CellLemmas.{shown_there}
use Rattle.vs_pair.specs.Held.{HasReach, Held, IsSince, KeepsHeld, held_with}

-- what was so since a commit that there was is so still
pub since_held : (old new : Held) (commit : ℕ) (map : Map) → KeepsHeld old new → commit ≤ old.commits.count → IsSince old commit map → IsSince new commit map
since_held old new commit map keeps le since k less = elim (keeps.each k) [
  | inl changed ↦ absurd (omega (arith, changed, le, less))
  | inr same ↦ same.1 ∙ since k (omega (arith, same.0, less))
]

-- where no page is committed from this number on
pub reach_begins : (held : Held) (end : ℕ) → ((k : ℕ) → end ≤ k → held.committed k ≡ None) → HasReach held held.commits.count end
reach_begins held end none k j from upto there = absurd (let gone = none j (omega (arith, from, upto)) in cc)

-- ---- pages in memory

seen_cell : (away : Option (List ℕ)) (cell : Option Cell) → (IsTrue (is_away cell) → IsSomeAnd away (λ page. ℕ)) → IsSome cell → IsSome (shown away cell)
seen_cell away None backed there = absurd (cc)
seen_cell away (Some Blank) backed there = refl
seen_cell None (Some Away) backed there = absurd (backed refl)
seen_cell (Some page) (Some Away) backed there = refl
seen_cell away (Some (Kept page)) backed there = refl

backed_any : (away : Option (List ℕ)) → IsSomeAnd away (λ page. length page ≡ 4096) → IsSomeAnd away (λ page. ℕ)
backed_any None backed = backed
backed_any (Some page) backed = 0

-- a committed page is seen, also where it is away
pub committed_seen : (away : Map) (pages : MemPages) → AreBacked away pages → (k : ℕ) → IsSome (first_kept_of pages k) → IsSome ((held_with away pages).committed k)
committed_seen away pages backed k there = seen_cell (away k) (first_kept_of pages k) (λ gone. backed_any (away k) (backed k gone).1) there

none_shown : (away : Option (List ℕ)) (cell : Option Cell) → is_some cell ≡ false → shown away cell ≡ None
none_shown away None gone = refl
none_shown away (Some cell) gone = absurd (cc)

-- ---- the number after the last committed page

module _ (pages : MemPages) (end : ℕ) (is : IsEndOf (first_kept_of pages) end) where
  pub end_past : (k : ℕ) → end ≤ k → is_some (first_kept_of pages k) ≡ false
  unfolding IsEndOf
  end_past = is.0

  pub end_last : 0 < end → IsSome (first_kept_of pages (end - 1))
  unfolding IsEndOf
  end_last = is.1

  pub end_none : (away : Map) (k : ℕ) → end ≤ k → (held_with away pages).committed k ≡ None
  end_none away k past = none_shown (away k) (first_kept_of pages k) (end_past k past)

  pub end_some : (away : Map) → AreBacked away pages → 0 < end → IsSome ((held_with away pages).committed (end - 1))
  end_some away backed some = committed_seen away pages backed (end - 1) (end_last some)

-- what is kept goes on
pub held_since : (away : Map) (old new : MemPages) → AreBacked away old → KeepsSince old new → KeepsHeld (held_with away old) (held_with away new)
held_since away old new backed keeps = record {
  later = keeps.later;
  each = λ k. elim (keeps.each k) [
    | inl changed ↦ inl changed
    | inr same ↦ inr (same.0, ap (λ (cell : Option Cell). shown (away k) cell) same.1)
  ];
  reach = λ commit end le reach k j from upto there.
      keeps.reach commit end le (λ i l past before is. reach i l past before (committed_seen away old backed l is))
      k j from upto (shown_there (away j) (first_kept_of new j) there);
}
