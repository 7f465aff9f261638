use Rattle.std.proofs.Common.{◌+◌, List, Bool, sym, subst}
use Rattle.vs_ufile.specs.Walks.{AreMarks, FailsAbove}
use Rattle.vs_ufile.proofs.Above.{above_is, marks_more}
use Rattle.vs_ufile.proofs.parents.failing_above.Goals as goal

pub places-preserved : goal.places-preserved
places-preserved c =
    let P = FailsAbove c.args.before.now c.args.parents.now in
    let far = c.in_ok-ends.ensures in
    let is = above_is c.args.before.now c.args.parents.now c.in_ok-ends.ends.items c.in_ok-shared.shared.items far.0 c.places.place c.fails_above.result
    c.requires.parents far.1 far.2 c.in_ok-shared.ensures.marked c.places-test.true (rw (← c.deref.ensures.value, ← c.deref-in-places.ensures.value) c.fails_above.ensures) in
    subst (λ (xs : List Bool). AreMarks (c.places.place + 1) P xs) (sym c.in_ok-push.ensures.items)
    (marks_more c.places.place P c.places.marks.items c.fails_above.result c.places.invariant is)
