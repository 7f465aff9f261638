-- The pages that a small splice worked, as the store of a text shows them: those whose commit became another.
use Rattle.std.proofs.Common.{◌≡◌, ◌≢◌, ◌∙◌, ℕ, Bool, true, false, List, [], ◌∷◌, IsTrue, refl, ap, arith}
use Rattle.std.specs.List.{AllByRecursion}
use Rattle.std.specs.Prelude.{if◌then◌else◌, nat_eq}
use Rattle.std.proofs.lemmas.Bool.Decides.{nat_tests}
use Rattle.std.proofs.lemmas.List.Elements.{recursion_from_All}
use Rattle.vs_pages.specs.Maps.{one, total}
use Rattle.vs_pages.specs.State.{Commits, Moment, PageState, history_of, one_more}
use Rattle.vs_pages.proofs.MapsLemmas.{total-append}
use Rattle.vs_edit.specs.State.{WorksAtMost}
use Rattle.vs_edit.proofs.Steps.{works_none}
use Rattle.vs_tree_shape.specs.Works.{Works}
use Rattle.vs_tree.specs.Texts.{shown_work, worked_by}

one_apart : (name page : ℕ) → name ≢ page → one name page ≡ 0
one_apart name page apart = grind (arith, nat_tests)

total_apart : (page : ℕ) (names : List ℕ) → AllByRecursion (λ name. name ≢ page) names → total (λ at. one at page) names ≡ 0
total_apart page [] apart = refl
total_apart page (name ∷ names) apart = omega (arith, one_apart name page apart.0, total_apart page names apart.1)

-- no other page has another commit
works_shown : (old new : PageState) (most : ℕ) → new.commits ≡ old.commits → Works old.worked new.worked most → WorksAtMost most (worked_by old) (worked_by new)
works_shown old new most commits works = record {
  names = works.names;
  few = works.few;
  others = λ page apart.
      let none = works.only.covers page (total_apart page works.names (recursion_from_All (λ name. name ≢ page) works.names apart)) in
      let same : total (λ at. one at page) new.worked ≡ total (λ at. one at page) old.worked =
      ap (λ (w : List ℕ). total (λ at. one at page) w) works.only.is ∙ omega (arith, none, total-append (λ at. one at page) works.only.added old.worked) in
      ap (λ (c : Commits). (one_more new.worked c).last page) commits ∙ ap (λ n. if nat_eq n 0 then old.commits.last page else old.commits.count) same;
}

works_where : (tells : Bool) (most : ℕ) (a b : ℕ → ℕ) → (IsTrue tells → WorksAtMost most a b) → WorksAtMost most (shown_work tells a) (shown_work tells b)
works_where true most a b works = works refl
works_where false most a b works = works_none most (λ page. 0) (λ page. 0) refl

-- and what is shown of it
pub works_told : (tells : Bool) (old new : PageState) (most : ℕ) → (IsTrue tells → new.commits ≡ old.commits) → (IsTrue tells → Works old.worked new.worked most)
    → WorksAtMost most (shown_work tells (worked_by old)) (shown_work tells (worked_by new))
works_told tells old new most commits works =
    works_where tells most (worked_by old) (worked_by new) (λ told. works_shown old new most (commits told) (works told))

worked_first : List Moment → List ℕ
worked_first [] = []
worked_first (m ∷ ms) = m.worked

-- what was worked is part of what was shown
pub history_worked : (a b : PageState) → history_of b ≡ history_of a → b.worked ≡ a.worked
unfolding worked_first
history_worked a b same = ap worked_first same
