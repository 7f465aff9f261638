-- What pages show over another map of those that are away, and after one was sent away.
use Rattle.std.proofs.Common.{◌≡◌, ℕ, ◌+◌, ◌-◌, ◌≤◌, List, [], ◌∷◌, Option, None, Some, IsSome, is_some, IsTrue, length, refl, sym, ap, ◌∙◌, subst, inl, inr, arith}
use Rattle.std.specs.Prelude.{IfNone, IfSome, IsSomeAnd}
use Rattle.std.proofs.lemmas.Bool.{cases_eq}
use mathlib.Core.Path.{fun_ext}
use Rattle.vs_pages.specs.Cells.{Blank, Away, Kept, Cell, Cells, is_away, put_cell, seen, shown, AreThere, IsEndOf}
use Rattle.vs_pages.specs.Maps.{Map, pages_at, put}
use Rattle.vs_pages.specs.State.{Moment, PageState}
use Rattle.vs_pages.specs.History.{first_of, moments_in, numbers_in, places_before, undone, CanUndoAll}
use Rattle.vs_pages.specs.HistoryLaws.{first_away}
use Rattle.vs_pages.specs.Memory.{changes_of, commits_of, committed_under, first_kept_of, kept_of, state_under, AreBacked}
use Rattle.vs_pages.specs.MemoryLaws.{away_first}
use Rattle.vs_pages.specs.declared.change.Change.{Change}
use Rattle.vs_pages.specs.Table.{cells_of}
use Rattle.vs_pages.specs.declared.memory.MemPages.{MemPages}
use Rattle.vs_pages.specs.declared.table.Table.{Table}
use Rattle.vs_pages.proofs.CellLemmas.{cell-other, cell-same, seen_put, shown_there}
use Rattle.vs_pages.proofs.MapsLemmas.{pages_at-each, put-itself}

shown_same : (away next : Option (List ℕ)) (cell : Option Cell) → (IsTrue (is_away cell) → next ≡ away) → shown next cell ≡ shown away cell
shown_same away next None same = refl
shown_same away next (Some Blank) same = refl
shown_same away next (Some Away) same = same refl
shown_same away next (Some (Kept page)) same = refl

-- Over a map with the same pages in the place of those that are away the same is seen.
pub seen_same : (away next : Map) (m : Cells) → ((k : ℕ) → IsTrue (is_away (m k)) → next k ≡ away k) → seen next m ≡ seen away m
seen_same away next m same = fun_ext (λ k. shown_same (away k) (next k) (m k) (same k))

moment_same : (away next : Map) (m : Cells) (worked : List ℕ) (rest other : List Moment) → seen next m ≡ seen away m → other ≡ rest
    → (let a : Moment = record { present = seen next m; worked = worked } in a ∷ other) ≡ (let b : Moment = record { present = seen away m; worked = worked } in b ∷ rest)
moment_same away next m worked rest other map same =
    ap (λ (o : Map). let now : Moment = record { present = o; worked = worked } in now ∷ other) map
    ∙ ap (λ (ms : List Moment). let now : Moment = record { present = seen away m; worked = worked } in now ∷ ms) same

moments_same : (away next : Map) (m : Cells) (n : ℕ) (cs : List Change) → CanUndoAll m n cs → ((k : ℕ) → IsTrue (is_away (first_of m cs k)) → next k ≡ away k) → moments_in next m cs ≡ moments_in away m cs
moments_same away next m n [] can same = refl
moments_same away next m n (c ∷ cs) can same =
    moment_same away next (undone c m) (numbers_in cs) (moments_in away (undone c m) cs) (moments_in next (undone c m) cs)
    (seen_same away next (undone c m) (λ k gone. same k (first_away (undone c m) (places_before c n) cs k can.1 gone)))
    (moments_same away next (undone c m) (places_before c n) cs can.1 same)

state_eq : (a b : PageState) → a.present ≡ b.present → a.committed ≡ b.committed → a.worked ≡ b.worked → a.before ≡ b.before → a.commits ≡ b.commits → a.faults ≡ b.faults → a ≡ b
state_eq a b present committed worked before commits faults = λ i. record {
  present = present i;
  committed = committed i;
  worked = worked i;
  before = before i;
  commits = commits i;
  faults = faults i;
}

-- the same of all that is shown
pub state_same : (away next : Map) (pages : MemPages) → ((k : ℕ) → IsTrue (is_away (first_kept_of pages k)) → next k ≡ away k) → state_under next pages ≡ state_under away pages
state_same away next pages same = state_eq (state_under next pages) (state_under away pages)
    (seen_same away next (kept_of pages) (λ k gone. same k (away_first pages k gone)))
    (seen_same away next (first_kept_of pages) same)
    refl
    (moments_same away next (kept_of pages) (length pages.table.places.items) (changes_of pages) pages.undo same)
    refl
    refl

-- ---- a page that is sent away

module _ (old new : MemPages) (at : ℕ) (bytes : List ℕ) (here : kept_of old at ≡ Some (Kept bytes)) (before : changes_of old ≡ []) (after : changes_of new ≡ []) (cells : kept_of new ≡ put_cell (kept_of old) at (Some Away)) where
  first_old : first_kept_of old ≡ kept_of old
  first_old = ap (λ (cs : List Change). first_of (kept_of old) cs) before

  first_new : first_kept_of new ≡ kept_of new
  first_new = ap (λ (cs : List Change). first_of (kept_of new) cs) after

  -- it was committed
  pub sent_committed : (away : Map) → committed_under away old at ≡ Some bytes
  sent_committed away = ap (λ (m : Cells). seen away m at) first_old ∙ ap (λ (cell : Option Cell). shown (away at) cell) here

  sent_seen : (away : Map) → away at ≡ Some bytes → seen away (kept_of new) ≡ seen away (kept_of old)
  sent_seen away there =
      ap (λ (m : Cells). seen away m) cells ∙ seen_put away (kept_of old) at (Some Away)
      ∙ ap (λ (o : Option (List ℕ)). put (seen away (kept_of old)) at o) (there ∙ sym (ap (λ (cell : Option Cell). shown (away at) cell) here))
      ∙ put-itself (seen away (kept_of old)) at

  -- over a map that has the page all is shown as before
  pub sent_state : (away : Map) → away at ≡ Some bytes → commits_of new ≡ commits_of old → state_under away new ≡ state_under away old
  sent_state away there commits =
      let now = sent_seen away there in
      state_eq (state_under away new) (state_under away old) now
      (ap (λ (m : Cells). seen away m) first_new ∙ now ∙ sym (ap (λ (m : Cells). seen away m) first_old))
      (ap (λ (cs : List Change). numbers_in cs) (after ∙ sym before))
      (ap (λ (cs : List Change). moments_in away (kept_of new) cs) after ∙ sym (ap (λ (cs : List Change). moments_in away (kept_of old) cs) before))
      commits
      refl

  some_whole : (page : Option (List ℕ)) → page ≡ Some bytes → length bytes ≡ 4096 → IsSomeAnd page (λ page. length page ≡ 4096)
  some_whole page is size = subst (λ (o : Option (List ℕ)). IsSomeAnd o (λ page. length page ≡ 4096)) (sym is) size

  pub sent_backed : (away : Map) → 1 ≤ at → length bytes ≡ 4096 → away at ≡ Some bytes → AreBacked away old → AreBacked away new
  sent_backed away least size there backed k gone = elim (cases_eq k at) [
    | inl e ↦ (omega (arith, e, least), some_whole (away k) (ap away e ∙ there) size)
    | inr ne ↦
        let cell : first_kept_of new k ≡ first_kept_of old k = ap (λ (m : Cells). m k) first_new ∙ ap (λ (m : Cells). m k) cells ∙ cell-other (kept_of old) at (Some Away) k ne ∙ sym (ap (λ (m : Cells). m k) first_old) in
        backed k (ap (λ (o : Option Cell). is_away o) (sym cell) ∙ gone)
  ]

-- ---- pages that are seen are there

pub read_there : (away : Map) (m : Cells) (at n : ℕ) → IsSome (pages_at (seen away m) at n) → AreThere m at n
read_there away m at n is i less = shown_there (away (at + i)) (m (at + i)) (pages_at-each (seen away m) at n i is less)

-- a table of which a page was sent away, or none
pub sent_there : {X : Type 0} (sent : Option X) (old new : Table) (at : ℕ) → IfNone sent (new ≡ old) → IfSome sent (λ x. IsSome (cells_of old.places.items at))
    → IfSome sent (λ x. cells_of new.places.items ≡ put_cell (cells_of old.places.items) at (Some Away))
    → (k : ℕ) → is_some (cells_of new.places.items k) ≡ is_some (cells_of old.places.items k)
sent_there None old new at same was put k = ap (λ (t : Table). is_some (cells_of t.places.items k)) same
sent_there (Some x) old new at same was put k =
    let m : Cells = cells_of old.places.items in
    elim (cases_eq k at) [
      | inl e ↦
          ap (λ j. is_some (cells_of new.places.items j)) e ∙ ap (λ (n : Cells). is_some (n at)) put ∙ ap (λ (cell : Option Cell). is_some cell) (cell-same m at (Some Away))
          ∙ sym was ∙ sym (ap (λ j. is_some (m j)) e)
      | inr ne ↦ ap (λ (n : Cells). is_some (n k)) put ∙ ap (λ (cell : Option Cell). is_some cell) (cell-other m at (Some Away) k ne)
    ]

pub end_there : (old new : Cells) (end : ℕ) → ((k : ℕ) → is_some (new k) ≡ is_some (old k)) → IsEndOf old end → IsEndOf new end
unfolding IsEndOf
end_there old new end same ends = (λ k past. same k ∙ ends.0 k past, λ some. same (end - 1) ∙ ends.1 some)
