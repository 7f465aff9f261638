use Rattle.std.proofs.Common.{◌≡◌, ℕ, ◌<◌, List, map, length, sym, subst, ◌∙◌}
use Rattle.std.proofs.lemmas.Result.{IfOk-weaker}
use Rattle.std.proofs.lemmas.Bool.{false≢true}
use Rattle.vs_ufile.specs.declared.link.Link.TheVariants.{Next, AltNext, AltPrev}
use Rattle.vs_ufile.specs.Changes.{placed_of}
use Rattle.vs_ufile.specs.Walks.{AreChains, AreHeads, AreLinks, AreMarks, FailsAbove, FailsAt, at}
use Rattle.vs_ufile.proofs.Failed.{AreNeighbours, HasMark, are_chains, beside, failing_chains, failing_tree}
use Rattle.vs_ufile.proofs.tree.failing.Goals as goal

pub failing_in_chains-requires-clause-after : goal.failing_in_chains-requires-clause-after
failing_in_chains-requires-clause-after c =
    let placed = map placed_of c.args.changes.now.placed.items in
    let e = c.deref.ensures.value ∙ c.in_ok-after.ensures in
    beside AltNext AltNext placed _ _ e e c.requires.numbers c.requires.links

pub failing_in_chains-requires-clause-before : goal.failing_in_chains-requires-clause-before
failing_in_chains-requires-clause-before c =
    let placed = map placed_of c.args.changes.now.placed.items in
    beside AltPrev AltNext placed _ _ (c.deref-2.ensures.value ∙ c.in_ok-before.ensures) (c.deref.ensures.value ∙ c.in_ok-after.ensures) c.requires.numbers c.requires.links

pub returns-then-has_mark : goal.returns-then-has_mark
returns-then-has_mark c =
    let placed = map placed_of c.args.changes.now.placed.items in
    let near : AreNeighbours placed c.deref.result.now c.deref-2.result.now = record {
      after = c.deref.ensures.value ∙ c.in_ok-after.ensures;
      before = c.deref-2.ensures.value ∙ c.in_ok-before.ensures;
      numbers = c.requires.numbers;
      known = c.requires.links;
    } in
    failing_chains placed c.deref.result.now c.deref-2.result.now c.in_ok-marks.marks.items near c.in_ok-marks.ensures
    (subst HasMark c.deref-3.ensures.value (c.has_mark.ensures.0 c.if-has_mark.true))

pub heads-requires-clause-after : goal.heads-requires-clause-after
heads-requires-clause-after c =
    let placed = map placed_of c.args.changes.now.placed.items in
    let e = c.deref-4.ensures.value ∙ c.in_ok-after.ensures in
    beside AltNext AltNext placed _ _ e e c.requires.numbers c.requires.links

pub heads-requires-clause-before : goal.heads-requires-clause-before
heads-requires-clause-before c =
    let placed = map placed_of c.args.changes.now.placed.items in
    beside AltPrev AltNext placed _ _ (c.deref-5.ensures.value ∙ c.in_ok-before.ensures) (c.deref-4.ensures.value ∙ c.in_ok-after.ensures) c.requires.numbers c.requires.links

pub parents-requires-clause-next : goal.parents-requires-clause-next
parents-requires-clause-next c =
    let placed = map placed_of c.args.changes.now.placed.items in
    let e = c.deref-7.ensures.value ∙ c.in_ok-next.ensures in
    beside Next Next placed _ _ e e c.requires.numbers c.requires.links

pub returns : goal.returns
returns c =
    let placed = map placed_of c.args.changes.now.placed.items in
    let f = c.in_ok-after.after.items in
    let b = c.in_ok-before.before.items in
    let marks = c.in_ok-marks.marks.items in
    let heads = c.in_ok-heads.heads.items in
    let next = c.in_ok-next.next.items in
    let parents = c.in_ok-parents.parents.items in
    let near : AreNeighbours placed f b = record { after = c.in_ok-after.ensures; before = c.in_ok-before.ensures; numbers = c.requires.numbers; known = c.requires.links } in
    let marked : AreMarks (length f) (FailsAt f b) marks =
    subst (λ (xs : List ℕ). AreMarks (length xs) (FailsAt xs b) marks) c.deref.ensures.value
    (subst (λ (xs : List ℕ). AreMarks (length c.deref.result.now) (FailsAt c.deref.result.now xs) marks) c.deref-2.ensures.value c.in_ok-marks.ensures) in
    let chains : AreChains f b = are_chains f b marks marked (λ (s : HasMark marks). false≢true (sym c.if-has_mark.false ∙ c.has_mark.ensures.1 (subst HasMark (sym c.deref-3.ensures.value) s))) in
    let hs : AreHeads b heads = subst (λ (xs : List ℕ). AreHeads xs heads) c.deref-5.ensures.value c.in_ok-heads.ensures in
    let links : AreLinks (length next) parents = subst (λ (xs : List ℕ). AreLinks (length xs) parents) c.deref-7.ensures.value c.in_ok-parents.ensures.links in
    let each : (i : ℕ) → i < length next → at parents i ≡ at next (at heads i) =
    subst (λ (xs : List ℕ). (i : ℕ) → i < length xs → at parents i ≡ at xs (at heads i)) c.deref-7.ensures.value
    (subst (λ (xs : List ℕ). (i : ℕ) → i < length c.deref-7.result.now → at parents i ≡ at c.deref-7.result.now (at xs i)) c.deref-6.ensures.value c.in_ok-parents.ensures.each) in
    IfOk-weaker c.failing_above.result _ _ (λ found m.
    let own : AreMarks (length parents) (FailsAbove b parents) found.items =
    subst (λ (xs : List ℕ). AreMarks (length xs) (FailsAbove b xs) found.items) c.deref-9.ensures.value
    (subst (λ (xs : List ℕ). AreMarks (length c.deref-9.result.now) (FailsAbove xs c.deref-9.result.now) found.items) c.deref-8.ensures.value m) in
    failing_tree placed f b heads next parents found.items near chains hs c.in_ok-next.ensures links each own) c.failing_above.ensures
