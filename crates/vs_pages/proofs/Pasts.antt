-- What was before each change, after one change more and after one was taken back.
use Rattle.std.proofs.Common.{◌≡◌, ℕ, ◌+◌, ◌-◌, ◌≤◌, IsSome, IsTrue, true, List, [], ◌∷◌, ◌++◌, length, drop, reverse, refl, sym, ap, ◌∙◌, subst, inr, arith}
use Rattle.std.specs.Prelude.{Result, Ok, Err, OnErr}
use Rattle.std.proofs.lemmas.Bool.Decides.{nat_tests}
use Rattle.std.proofs.lemmas.Grind.{common_steps}
use mathlib.Core.Path.{fun_ext}
use Rattle.vs_pages.specs.Cells.{Cells, is_away, seen}
use Rattle.vs_pages.specs.Maps.{Map}
use Rattle.vs_pages.specs.State.{Commits, Moment, moment_of, history_of, IsChange, IsStill}
use Rattle.vs_pages.specs.Table.{last_in}
use Rattle.vs_pages.specs.History.{first_of, moments_in, numbers_in, undone}
use Rattle.vs_pages.specs.Memory.{changes_of, commits_of, committed_under, first_kept_of, kept_of, present_under, state_under, GoesOnUnder, IsOne, IsSame, IsWorked, KeepsSince}
use Rattle.vs_pages.specs.declared.change.Change.{Change}
use Rattle.vs_pages.specs.declared.memory.MemPages.{MemPages}
use Rattle.vs_pages.proofs.MapsLemmas.{drop-drop}

pub reversed_length : {X : Type 0} (xs : List X) → length (reverse xs) ≡ length xs
reversed_length xs = grind (arith, common_steps)

-- as many moments as changes
pub moments_length : (away : Map) (m : Cells) (cs : List Change) → length (moments_in away m cs) ≡ length cs
moments_length away m [] = refl
moments_length away m (c ∷ cs) = omega (arith, moments_length away (undone c m) cs)

pub before_length : (away : Map) (pages : MemPages) → length (state_under away pages).before ≡ length (changes_of pages)
before_length away pages = moments_length away (kept_of pages) (changes_of pages)

-- what was so since a commit is so still where neither what was committed nor the commits change
pub keeps_same : (old new : MemPages) → first_kept_of new ≡ first_kept_of old → commits_of new ≡ commits_of old → KeepsSince old new
keeps_same old new committed commits = record {
  later = omega (arith, ap (λ c. c.count) commits);
  each = λ k. inr (omega (arith, ap (λ c. c.last k) commits), ap (λ (m : Cells). m k) committed);
  reach = λ commit end le reach k j from upto there. subst (λ c. commit ≤ c.last k) (sym commits) (reach k j from upto (subst (λ (m : Cells). IsSome (m j)) committed there));
  backed = λ away backed k gone. backed k (subst (λ (m : Cells). IsTrue (is_away (m k))) committed gone);
}

one_committed : (old new : MemPages) (next : Cells) (numbers : List ℕ) → IsOne old new next numbers → first_kept_of new ≡ first_kept_of old
one_committed old new next numbers step = ap (λ (cs : List Change). first_of (kept_of new) cs) step.changes ∙ ap (λ (m : Cells). first_of m (changes_of old)) step.was

same_committed : (old new : MemPages) → IsSame old new → first_kept_of new ≡ first_kept_of old
same_committed old new same = ap (λ (cs : List Change). first_of (kept_of new) cs) same.changes ∙ ap (λ (m : Cells). first_of m (changes_of old)) same.kept

module _ (away : Map) where
  one_before : (old new : MemPages) (next : Cells) (numbers : List ℕ) → IsOne old new next numbers → (state_under away new).before ≡ history_of (state_under away old)
  one_before old new next numbers step =
      ap (λ (cs : List Change). moments_in away (kept_of new) cs) step.changes
      ∙ ap (λ (m : Cells). let was : Moment = record { present = seen away m; worked = numbers_in (changes_of old) } in was ∷ moments_in away m (changes_of old)) step.was

  one_change : (old new : MemPages) (next : Cells) (numbers : List ℕ) → IsOne old new next numbers → IsChange true (state_under away old) (state_under away new) numbers
  one_change old new next numbers step = record {
    count = ap (λ (ms : List Moment). length ms) (one_before old new next numbers step);
    worked = λ told. ap (λ (cs : List Change). numbers_in cs) step.changes ∙ ap (λ (ns : List ℕ). ns ++ numbers_in (changes_of old)) step.worked;
    before = λ told. one_before old new next numbers step;
  }

  one_kept : (old new : MemPages) (next : Cells) (numbers : List ℕ) → IsOne old new next numbers → GoesOnUnder away old new
  one_kept old new next numbers step =
      let before = one_before old new next numbers step in
      let committed = one_committed old new next numbers step in
      record {
        valid = tt;
        stays = keeps_same old new committed step.commits;
        committed = λ told. ap (λ (m : Cells). seen away m) committed;
        commits = λ told. step.commits;
        longer = omega (arith, ap (λ (ms : List Moment). length ms) before);
        grown = λ told. (moment_of (state_under away new) ∷ [], ap (λ (ms : List Moment). moment_of (state_under away new) ∷ ms) before);
      }

  same_before : (old new : MemPages) → IsSame old new → (state_under away new).before ≡ (state_under away old).before
  same_before old new same = ap (λ (cs : List Change). moments_in away (kept_of new) cs) same.changes ∙ ap (λ (m : Cells). moments_in away m (changes_of old)) same.kept

  same_worked : (old new : MemPages) → IsSame old new → (state_under away new).worked ≡ (state_under away old).worked
  same_worked old new same = ap (λ (cs : List Change). numbers_in cs) same.changes

  pub same_present : (old new : MemPages) → IsSame old new → present_under away new ≡ present_under away old
  same_present old new same = ap (λ (m : Cells). seen away m) same.kept

  pub same_still : (old new : MemPages) → IsSame old new → IsStill true (state_under away old) (state_under away new)
  same_still old new same = record {
    count = ap (λ (ms : List Moment). length ms) (same_before old new same);
    worked = λ told. same_worked old new same;
    before = λ told. same_before old new same;
  }

  same_history : (old new : MemPages) → IsSame old new → history_of (state_under away new) ≡ history_of (state_under away old)
  same_history old new same =
      ap (λ (m : Map). let now : Moment = record { present = m; worked = (state_under away new).worked } in now ∷ (state_under away new).before) (same_present old new same)
      ∙ ap (λ (ns : List ℕ). let now : Moment = record { present = present_under away old; worked = ns } in now ∷ (state_under away new).before) (same_worked old new same)
      ∙ ap (λ (ms : List Moment). moment_of (state_under away old) ∷ ms) (same_before old new same)

  pub same_kept : (old new : MemPages) → IsSame old new → GoesOnUnder away old new
  same_kept old new same =
      let committed = same_committed old new same in
      record {
        valid = tt;
        stays = keeps_same old new committed same.commits;
        committed = λ told. ap (λ (m : Cells). seen away m) committed;
        commits = λ told. same.commits;
        longer = omega (arith, ap (λ (ms : List Moment). length ms) (same_before old new same));
        grown = λ told. ([], same_history old new same);
      }

-- One change, as it is seen.
pub one_worked : (old new : MemPages) (next : Cells) (numbers : List ℕ) (change : Map → Map) → IsOne old new next numbers → ((away : Map) → seen away next ≡ change (present_under away old)) → IsWorked old new change numbers
one_worked old new next numbers change step is = record {
  present = λ away. ap (λ (m : Cells). seen away m) step.kept ∙ is away;
  moved = λ away. one_change away old new next numbers step;
  kept = λ away. one_kept away old new next numbers step;
  places = one_committed old new next numbers step;
}

-- The same change of neighbouring places, which are as many as these.
pub worked_as : (old new : MemPages) (change : Map → Map) (numbers more : List ℕ) → numbers ≡ more → IsWorked old new change numbers → IsWorked old new change more
worked_as old new change numbers more same worked = subst (λ (ns : List ℕ). IsWorked old new change ns) same worked

-- one moment further back
pub drop_more : (all now next : List Moment) (first : Moment) (i j : ℕ) → now ≡ drop i all → now ≡ first ∷ next → j ≡ i + 1 → next ≡ drop j all
drop_more all now next first i j is cut more =
    let e : first ∷ next ≡ drop i all = sym cut ∙ is in
    let one : drop 1 (first ∷ next) ≡ drop 1 (drop i all) = ap (λ (ms : List Moment). drop 1 ms) e in
    let other : i + 1 ≡ j = omega (arith, more) in
    one ∙ drop-drop 1 i all ∙ ap (λ (k : ℕ). drop k all) other

-- the last one that is left is the first one that there was
pub last_left : (away : Map) (m : Cells) (cs : List Change) (rest : List Moment) (first now : Moment) → now.present ≡ seen away m → first ∷ rest ≡ drop (length cs) (now ∷ moments_in away m cs) → (first.present ≡ seen away (first_of m cs)) × (rest ≡ [])
last_left away m [] rest first now is left = (ap (λ (n : Moment). n.present) (let same : first ≡ now = cc in same) ∙ is, cc)
last_left away m (c ∷ cs) rest first now is left = last_left away (undone c m) cs rest first (record { present = seen away (undone c m); worked = numbers_in cs }) refl left

pub commits_eq : (a b : ℕ) (f g : ℕ → ℕ) → a ≡ b → f ≡ g → (let x : Commits = record { count = a; last = f } in let y : Commits = record { count = b; last = g } in x ≡ y)
commits_eq a b f g same_count same_last = ap (λ (n : ℕ). let x : Commits = record { count = n; last = f } in x) same_count ∙ ap (λ (h : ℕ → ℕ). let x : Commits = record { count = b; last = h } in x) same_last

-- the same count, and each number last changed by the same commit
pub commits_same : (old new : MemPages) → new.commits ≡ old.commits → last_in new.last.items ≡ last_in old.last.items → commits_of new ≡ commits_of old
commits_same old new count last = commits_eq new.commits old.commits (last_in new.last.items) (last_in old.last.items) count last

-- a commit of 0 more
pub last_push : (last : List ℕ) → last_in (last ++ 0 ∷ []) ≡ last_in last
last_push last = fun_ext (λ k. grind (arith, nat_tests, common_steps))

-- the same log, kept bytes and commits
pub same_from : (old new : MemPages) → new.log.items ≡ old.log.items → kept_of new ≡ kept_of old → commits_of new ≡ commits_of old → IsSame old new
same_from old new log kept commits = record { changes = ap (λ (cs : List Change). reverse cs) log; kept = kept; commits = commits }

-- all changes were taken back
pub all_undone : (away : Map) (old new : MemPages) → history_of (state_under away new) ≡ drop (length (changes_of old) - 0) (history_of (state_under away old)) → (present_under away new ≡ committed_under away old) × ((state_under away new).before ≡ [])
all_undone away old new back =
    let all : length (changes_of old) - 0 ≡ length (changes_of old) = omega arith in
    last_left away (kept_of old) (changes_of old) (state_under away new).before (moment_of (state_under away new)) (moment_of (state_under away old)) refl (back ∙ ap (λ (k : ℕ). drop k (history_of (state_under away old))) all)

-- where there was no change, no number was worked
none_moved : (cs : List Change) → length cs ≡ 0 → numbers_in cs ≡ []
none_moved [] none = refl
none_moved (c ∷ cs) none = absurd (omega (arith, none))

pub none_worked : (pages : MemPages) → length (changes_of pages) ≡ 0 → numbers_in (changes_of pages) ≡ []
none_worked pages none = none_moved (changes_of pages) none

pub on_err_from : {T E : Type 0} (result : Result T E) (P : Type 0) → P → OnErr result P
on_err_from (Ok done) P holds = tt
on_err_from (Err failed) P holds = holds
