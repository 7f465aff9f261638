-- The commit that last changed each number.
use Rattle.std.proofs.Common.{◌≡◌, ℕ, ◌+◌, ◌-◌, ◌<◌, ◌≤◌, ◌⊎◌, List, [], ◌∷◌, ◌++◌, length, reverse, get_or, set, IsSome, IsTrue, refl, sym, ap, ◌∙◌, subst, inl, inr, arith}
use Rattle.std.specs.List.{All}
use Rattle.std.specs.Prelude.{nat_eq, if◌then◌else◌}
use Rattle.std.proofs.lemmas.Bool.{cases_eq, cases_lt}
use Rattle.std.proofs.lemmas.Bool.Decides.{nat_tests}
use Rattle.std.proofs.lemmas.Grind.{common_steps, get_or-set_at}
use Rattle.std.proofs.lemmas.List.{get_or-set_other, get_or-reverse}
use Rattle.std.proofs.lemmas.List.Elements.{All-cons, All-nil}
use mathlib.Core.Path.{fun_ext}
use Rattle.vs_pages.specs.Cells.{Cells, is_away, rewritten}
use Rattle.vs_pages.specs.Maps.{numbers, one, span, total}
use Rattle.vs_pages.specs.Table.{last_in, noted}
use Rattle.vs_pages.specs.History.{end_of, first_of, numbers_in, numbers_of, undone, CanUndoAll}
use Rattle.vs_pages.specs.MemoryLaws.{away_first}
use Rattle.vs_pages.specs.Memory.{changes_of, first_kept_of, kept_of, KeepsSince}
use Rattle.vs_pages.specs.declared.change.Change.{Change}
use Rattle.vs_pages.specs.declared.change.Change.TheVariants as kinds
use Rattle.vs_pages.specs.declared.memory.MemPages.{MemPages}
use Rattle.vs_pages.proofs.CellLemmas.{cell-other, gone_if}
use Rattle.vs_pages.proofs.MapsLemmas.{one-other, one-zero, span-add, span-within, total-append, total_numbers}
use Rattle.vs_pages.proofs.Places.{put_places-other}
use Rattle.vs_pages.proofs.Ends.{now_has}
use Rattle.vs_pages.proofs.Undos.{numbers_append, total_reversed}

-- how often a number is in a list
abbrev times : ℕ → List ℕ → ℕ
times k ns = total (λ at. one at k) ns

noted_hit : (ns : List ℕ) (commit : ℕ) (last : ℕ → ℕ) (k : ℕ) → 1 ≤ times k ns → noted ns commit last k ≡ commit
noted_hit ns commit last k some = grind (arith, nat_tests)

noted_miss : (ns : List ℕ) (commit : ℕ) (last : ℕ → ℕ) (k : ℕ) → times k ns ≡ 0 → noted ns commit last k ≡ last k
noted_miss ns commit last k none = grind (arith, nat_tests)

-- the same numbers as often
pub noted_as : (ns ms : List ℕ) (commit : ℕ) (last : ℕ → ℕ) → ((k : ℕ) → times k ns ≡ times k ms) → noted ns commit last ≡ noted ms commit last
noted_as ns ms commit last same = fun_ext (λ k. ap (λ (n : ℕ). if nat_eq n 0 then last k else commit) (same k))

pub noted_none : (commit : ℕ) (last : ℕ → ℕ) → noted [] commit last ≡ last
noted_none commit last = refl

-- one list of numbers after another
pub noted_then : (ns ms : List ℕ) (commit : ℕ) (last : ℕ → ℕ) → noted ms commit (noted ns commit last) ≡ noted (ns ++ ms) commit last
noted_then ns ms commit last = fun_ext (λ k. elim (cases_eq (times k ms) 0) [
  | inr some ↦ noted_hit ms commit (noted ns commit last) k (omega (arith, some)) ∙ sym (noted_hit (ns ++ ms) commit last k (omega (arith, some, total-append (λ at. one at k) ns ms)))
  | inl none ↦ noted_miss ms commit (noted ns commit last) k none ∙ ap (λ (n : ℕ). if nat_eq n 0 then last k else commit) (let same : times k ns ≡ times k (ns ++ ms) = omega (arith, none, total-append (λ at. one at k) ns ms) in same)
])

-- one neighbour more
pub noted_next : (next old : List ℕ) (first : ℕ → ℕ) (at i commit : ℕ) → next ≡ set old (at + i) commit → at + i < length old → last_in old ≡ noted (numbers at i) commit first → last_in next ≡ noted (numbers at (i + 1)) commit first
noted_next next old first at i commit is inside noted_so = ap (λ (l : List ℕ). last_in l) is ∙ fun_ext (λ k. elim (cases_eq k (at + i)) [
  | inl e ↦
      get_or-set_at old (at + i) k commit 0 e inside
      ∙ sym (noted_hit (numbers at (i + 1)) commit first k (omega (arith, total_numbers at (i + 1) k, span-within at (i + 1) k (omega (arith, e)) (omega (arith, e)))))
  | inr ne ↦
      get_or-set_other old (at + i) k commit 0 ne ∙ ap (λ (f : ℕ → ℕ). f k) noted_so
      ∙ ap (λ (n : ℕ). if nat_eq n 0 then first k else commit) (let same : times k (numbers at i) ≡ times k (numbers at (i + 1)) = omega (arith, total_numbers at i k, total_numbers at (i + 1) k, span-add at i 1 k, one-other (at + i) k ne) in same)
])

-- ---- all changes of a log

pub noted_more : (log : List Change) (i commit : ℕ) (c : Change) (first last next : ℕ → ℕ) (front more : List Change) → more ≡ front ++ c ∷ [] → last ≡ noted (numbers_in front) commit first → next ≡ noted (numbers_of c) commit last
    → next ≡ noted (numbers_in more) commit first
noted_more log i commit c first last next front more cut so_far step =
    step ∙ ap (λ (f : ℕ → ℕ). noted (numbers_of c) commit f) so_far ∙ noted_then (numbers_in front) (numbers_of c) commit first
    ∙ noted_as (numbers_in front ++ numbers_of c) (numbers_in more) commit first (λ k.
    omega (
      arith,
      total-append (λ at. one at k) (numbers_in front) (numbers_of c),
      ap (λ (ds : List Change). times k (numbers_in ds)) cut,
      ap (λ (ns : List ℕ). times k ns) (numbers_append front (c ∷ [])),
      total-append (λ at. one at k) (numbers_in front) (numbers_of c ++ []),
      total-append (λ at. one at k) (numbers_of c) [],
    ))

pub noted_reversed : (log : List Change) (commit : ℕ) (last : ℕ → ℕ) → noted (numbers_in log) commit last ≡ noted (numbers_in (reverse log)) commit last
noted_reversed log commit last = noted_as (numbers_in log) (numbers_in (reverse log)) commit last (λ k. sym (total_reversed log k))

-- each change ends within the table
can_each : (m : Cells) (n most : ℕ) (cs : List Change) → n ≤ most → CanUndoAll m n cs → All (λ c. end_of c ≤ most) cs
can_each m n most [] le can = All-nil (λ c. end_of c ≤ most)
can_each m n most (kinds.Run run ∷ cs) le can =
    All-cons (λ c. end_of c ≤ most) (kinds.Run run) cs (omega (arith, can.0.within, le)) (can_each (undone (kinds.Run run) m) run.places most cs (omega (arith, can.0.fewer, le)) can.1)
can_each m n most (kinds.Patch patch ∷ cs) le can =
    All-cons (λ c. end_of c ≤ most) (kinds.Patch patch) cs (omega (arith, can.0.inside, le)) (can_each (undone (kinds.Patch patch) m) n most cs le can.1)

reversed_size : (xs : List Change) → length (reverse xs) ≡ length xs
reversed_size xs = grind (arith, common_steps)

all_reversed : (P : Change → Type 0) (xs : List Change) → All P (reverse xs) → All P xs
all_reversed P xs all = λ i d lt.
    let at : ℕ = length xs - 1 - i in
    let back : length xs - 1 - at ≡ i = omega (arith, lt) in
    subst P (get_or-reverse xs at d (omega (arith, lt)) ∙ ap (λ k. get_or xs k d) back) (all at d (omega (arith, lt, reversed_size xs)))

pub ends_within : (m : Cells) (n most : ℕ) (log : List Change) → n ≤ most → CanUndoAll m n (reverse log) → All (λ c. end_of c ≤ most) log
ends_within m n most log le can = all_reversed (λ c. end_of c ≤ most) log (can_each m n most (reverse log) le can)

-- ---- what was not worked stays

out_of : (at n k : ℕ) → span at n k ≡ 0 → (k < at) ⊎ (at + n ≤ k)
out_of at n k none = elim (cases_lt k at) [
  | inl lt ↦ inl lt
  | inr le ↦ elim (cases_lt k (at + n)) [ inl inside ↦ absurd (omega (arith, none, span-within at n k le inside)) | inr past ↦ inr past ]
]

undone_other : (m : Cells) (c : Change) (k : ℕ) → times k (numbers_of c) ≡ 0 → undone c m k ≡ m k
undone_other m (kinds.Run run) k none = put_places-other m run.at run.was.items k (out_of run.at (length run.was.items) k (sym (total_numbers run.at (length run.was.items) k) ∙ none))
undone_other m (kinds.Patch patch) k none = cell-other m patch.at (rewritten (m patch.at) patch.from patch.was.items) k (one-zero patch.at k (omega (arith, none)))

pub first_other : (m : Cells) (cs : List Change) (k : ℕ) → times k (numbers_in cs) ≡ 0 → first_of m cs k ≡ m k
first_other m [] k none = refl
first_other m (c ∷ cs) k none =
    let both : times k (numbers_of c) + times k (numbers_in cs) ≡ 0 = sym (total-append (λ at. one at k) (numbers_of c) (numbers_in cs)) ∙ none in
    first_other (undone c m) cs k (omega (arith, both)) ∙ undone_other m c k (omega (arith, both))

-- A commit leaves what was so since one before it.
pub commit_keeps : (old new : MemPages) → old.commits ≤ new.commits → kept_of new ≡ kept_of old → first_kept_of new ≡ kept_of new → last_in new.last.items ≡ noted (numbers_in (changes_of old)) old.commits (last_in old.last.items) → KeepsSince old new
commit_keeps old new later kept committed last = record {
  later = later;
  each = λ k.
      let now : last_in new.last.items k ≡ noted (numbers_in (changes_of old)) old.commits (last_in old.last.items) k = ap (λ (f : ℕ → ℕ). f k) last in
      elim (cases_eq (times k (numbers_in (changes_of old))) 0) [
        | inr some ↦ inl (omega (arith, now, noted_hit (numbers_in (changes_of old)) old.commits (last_in old.last.items) k (omega (arith, some))))
        | inl none ↦ inr (
          omega (arith, now, noted_miss (numbers_in (changes_of old)) old.commits (last_in old.last.items) k none),
          ap (λ (m : Cells). m k) committed ∙ ap (λ (m : Cells). m k) kept ∙ sym (first_other (kept_of old) (changes_of old) k none),
        )
      ];
  reach = λ commit end le reach k j from upto there.
      let now : last_in new.last.items k ≡ noted (numbers_in (changes_of old)) old.commits (last_in old.last.items) k = ap (λ (f : ℕ → ℕ). f k) last in
      elim (cases_eq (times k (numbers_in (changes_of old))) 0) [
        | inr some ↦ omega (arith, le, now, noted_hit (numbers_in (changes_of old)) old.commits (last_in old.last.items) k (omega (arith, some)))
        | inl none ↦
            let before : last_in new.last.items k ≡ last_in old.last.items k = now ∙ noted_miss (numbers_in (changes_of old)) old.commits (last_in old.last.items) k none in
            elim (cases_lt (last_in old.last.items k) commit) [
              | inr ge ↦ omega (arith, ge, before)
              | inl less ↦
                  let page : IsSome (kept_of old j) = subst (λ (m : Cells). IsSome (m j)) kept (subst (λ (m : Cells). IsSome (m j)) committed there) in
                  absurd (now_has (kept_of old) (changes_of old) old.no_gaps k j upto page none (λ i le_i.
                  gone_if (first_kept_of old i) (λ is. omega (arith, less, reach k i from le_i is))))
            ]
      ];
  backed = λ away backed k gone. backed k (away_first old k (subst (λ (m : Cells). IsTrue (is_away (m k))) (committed ∙ kept) gone));
}

pub numbers_set : (ns : List ℕ) (at n : ℕ) → length (set ns at n) ≡ length ns
numbers_set ns at n = grind (arith, common_steps)
