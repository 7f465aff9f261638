use Rattle.std.proofs.Common.{map, sym, ap, subst, ◌∙◌}
use Rattle.std.proofs.lemmas.Result.{IfOk-weaker}
use Rattle.vs_ufile.specs.Decode.{KnowsAll}
use Rattle.vs_ufile.specs.Failing.{AreNumbers}
use Rattle.vs_ufile.specs.Descent.{IsLineage, unplaced}
use Rattle.vs_ufile.specs.Reading.{numbers_of}
use Rattle.vs_ufile.specs.Tree.{IsTree}
use Rattle.vs_ufile.proofs.Descents.{are_numbers, changes_same, knows_all}
use Rattle.vs_ufile.proofs.descent.lineage_of.Goals as goal

pub lineage_among-requires-clause-numbers : goal.lineage_among-requires-clause-numbers
lineage_among-requires-clause-numbers c =
    let changes = c.args.history.now.changes.items in
    subst (λ cs. AreNumbers (numbers_of (unplaced cs))) (sym c.as_slice.ensures.value) (are_numbers changes c.requires.numbers)

pub lineage_among-requires-clause-links : goal.lineage_among-requires-clause-links
lineage_among-requires-clause-links c =
    let changes = c.args.history.now.changes.items in
    subst (λ cs. KnowsAll (unplaced cs)) (sym c.as_slice.ensures.value) (knows_all changes c.requires.links.changes)

pub lineage_among-requires-clause-tree : goal.lineage_among-requires-clause-tree
lineage_among-requires-clause-tree c =
    let changes = c.args.history.now.changes.items in
    subst (λ cs. IsTree (map (λ p. p.change) (unplaced cs))) (sym c.as_slice.ensures.value) (subst IsTree (sym (changes_same changes)) c.requires.tree)

pub returns : goal.returns
returns c =
    let changes = c.args.history.now.changes.items in
    IfOk-weaker c.lineage_among.result _ _ (λ l is.
    subst (λ cs. IsLineage cs l.parents.items l.children.items) (ap (λ xs. map (λ p. p.change) (unplaced xs)) c.as_slice.ensures.value ∙ changes_same changes) is) c.lineage_among.ensures
