use Rattle.std.proofs.Common.{◌+◌, ◌<◌, length, map, sym, ap, subst, ◌∙◌, arith}
use Rattle.vs_ufile.specs.Changes.{placed_of}
use Rattle.vs_ufile.specs.Failing.{IsLeastMarked}
use Rattle.vs_ufile.specs.Reading.{numbers_of}
use Rattle.vs_ufile.proofs.Least.{least_keep, least_less, least_none, least_skip, number_at}
use Rattle.vs_ufile.proofs.tree.least_marked.Goals as goal
use Rattle.vs_ufile.proofs.tree.least_marked.Goals.{then-marks-i+in-None, then-marks-i+in-Some+then-index, then-marks-i+in-Some+else-index, else-marks-i}

pub changes-preserved : goal.changes-preserved
changes-preserved c =
    let items = c.args.changes.now.placed.items in
    let ns = numbers_of (map placed_of items) in
    let marks = c.args.marks.now in
    let i = c.changes.i in
    let IsNext = IsLeastMarked marks ns (i + 1) in
    let Is = IsLeastMarked marks ns i in
    let within : i < length items = omega (arith, c.changes-test.true, c.len-i-end.ensures, c.args.changes.now.placed.ok.0) in
    elim c.if-marks-i.branch [
      | then-marks-i+in-None w ↦ subst IsNext (sym w.least-is) (least_none marks ns i (subst Is w.in-None.is c.changes.invariant) w.if-marks-i.true)
      | then-marks-i+in-Some+then-index w ↦
          let h = subst Is w.in-Some.is c.changes.invariant in
          let own = number_at items i w.index.result.now within ∙ ap (λ p. p.change.number) (sym w.index.ensures) in
          let other = number_at items w.in-Some.best w.index-in-Some.result.now (omega (arith, h.within, within)) ∙ ap (λ p. p.change.number) (sym w.index-in-Some.ensures) in
          subst IsNext (sym w.least-is) (least_less marks ns i w.in-Some.best h w.if-marks-i.true (omega (arith, own, other, w.if-index.true)))
      | then-marks-i+in-Some+else-index w ↦
          let h = subst Is w.in-Some.is c.changes.invariant in
          let own = number_at items i w.index.result.now within ∙ ap (λ p. p.change.number) (sym w.index.ensures) in
          let other = number_at items w.in-Some.best w.index-in-Some.result.now (omega (arith, h.within, within)) ∙ ap (λ p. p.change.number) (sym w.index-in-Some.ensures) in
          subst IsNext (sym w.least-is) (least_keep marks ns i w.in-Some.best h (omega (arith, own, other, w.if-index.false)))
      | else-marks-i w ↦ subst IsNext (sym w.least-is) (least_skip marks ns i c.changes.least c.changes.invariant w.if-marks-i.false)
    ]
