use Rattle.std.proofs.Common.{◌+◌, List, Bool, sym, subst}
use Rattle.vs_ufile.specs.Walks.{AreMarks, FailsAt}
use Rattle.vs_ufile.proofs.Above.{marks_more}
use Rattle.vs_ufile.proofs.chains.failing_in_chains.Goals as goal

pub places-preserved : goal.places-preserved
places-preserved c =
    let P = FailsAt c.args.after.now c.args.before.now in
    subst (λ (xs : List Bool). AreMarks (c.places.place + 1) P xs) (sym c.in_ok-push.ensures.items)
    (marks_more c.places.place P c.places.marks.items c.fails_at.result c.places.invariant c.fails_at.ensures)
