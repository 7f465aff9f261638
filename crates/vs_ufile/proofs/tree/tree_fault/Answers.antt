use Rattle.std.proofs.Common.{◌≡◌, ℕ, ◌+◌, Bool, false, List, length, map, get_or, refl, sym, ap, subst, ◌∙◌, arith}
use Rattle.std.proofs.lemmas.List.{get_or-map, length-map}
use Rattle.vs_ufile.specs.Changes.{placed_of}
use Rattle.vs_ufile.specs.Failing.{IsLeastAt}
use Rattle.vs_ufile.specs.Reading.{numbers_of}
use Rattle.vs_ufile.specs.Tree.{IsLeastFailing}
use Rattle.vs_ufile.proofs.Least.{number_at, tree_none, tree_some}
use Rattle.vs_ufile.proofs.Linked.{changes_of}
use Rattle.vs_ufile.proofs.tree.tree_fault.Goals as goal

pub returns-in-None : goal.returns-in-None
returns-in-None c =
    let items = c.args.changes.now.placed.items in
    tree_none (map placed_of items) c.in_ok-marks.marks.items c.requires.numbers c.in_ok-marks.ensures
    (λ j lt. subst (λ (xs : List Bool). get_or xs (j + 1) false ≡ false) c.deref.ensures.value (c.in-None.ensures j (omega (arith, lt, length-map items placed_of))))

pub returns : goal.returns
returns c =
    let items = c.args.changes.now.placed.items in
    let placed = map placed_of items in
    let ns = numbers_of placed in
    let marks = c.in_ok-marks.marks.items in
    let i = c.in-Some.i in
    let own = c.index-placed.result.now in
    let least = subst (λ (xs : List Bool). IsLeastAt xs ns (length items) i) c.deref.ensures.value c.in-Some.ensures in
    let named = number_at items i own least.within ∙ ap (λ p. p.change.number) (sym c.index-placed.ensures) in
    let fails = tree_some placed marks i c.requires.numbers c.in_ok-marks.ensures (subst (λ (n : ℕ). IsLeastAt marks ns n i) (sym (length-map items placed_of)) least) in (
      placed_of own,
      (i, omega (arith, least.within, length-map items placed_of), get_or-map placed_of items i own (placed_of own) least.within ∙ ap placed_of (sym c.index-placed.ensures)),
      subst (IsLeastFailing (changes_of placed)) named fails,
      refl,
    )
