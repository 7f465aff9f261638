use Rattle.std.proofs.Common.{◌≡◌, ◌≢◌, ◌<◌, length, sym, ◌∙◌, ap, arith}
use Rattle.std.proofs.lemmas.List.{length-replicate}
use Rattle.std.proofs.lemmas.Bool.{false≢true}
use Rattle.std.specs.Prelude.{IsTrue, ◌↔◌}
use Rattle.vs_ufile.specs.Walks.{IsHead, at}
use Rattle.vs_ufile.proofs.Above.{others_first, others_more, others_same, shared_are}
use Rattle.vs_ufile.proofs.Cycles.{no_mark}
use Rattle.vs_ufile.proofs.parents.shared.Goals as goal
use Rattle.vs_ufile.proofs.parents.shared.Goals.{then-is_other, else-is_other}

pub places-init : goal.places-init
places-init c =
    let marks = c.in_ok-marks.marks.items in
    let size : length marks ≡ length c.args.parents.now = ap length c.in_ok-marks.ensures ∙ length-replicate (length c.args.parents.now) _ in
    others_first c.args.before.now c.args.parents.now c.in_ok-last.last.items marks size (no_mark (length c.args.parents.now) marks c.in_ok-marks.ensures)

pub places-preserved : goal.places-preserved
places-preserved c =
    let before = c.args.before.now in
    let parents = c.args.parents.now in
    let last = c.in_ok-last.last.items in
    let p = c.places.place in
    let marks = c.places.marks.items in
    let test : IsTrue c.is_other.result ↔ (IsHead before p × (at last (at parents p) ≢ p)) = rw (← c.deref.ensures.value) c.is_other.ensures in
    elim c.if-is_other.branch [
      | then-is_other w ↦
          let o = test.0 w.if-is_other.true in
          let inside : at parents p < length marks = omega (arith, c.requires.parents.within p 0 c.places-test.true, c.places.invariant.size) in
          rw w.marks-is (others_more before parents last p marks c.places.invariant inside o.0 o.1)
      | else-is_other w ↦ rw w.marks-is (others_same before parents last p marks c.places.invariant (λ o. false≢true (sym w.if-is_other.false ∙ test.1 o)))
    ]

pub returns-clause-marked : goal.returns-clause-marked
returns-clause-marked c = λ q. shared_are c.args.before.now c.args.parents.now c.in_ok-last.last.items c.places.place c.places.marks.items c.requires.size c.in_ok-last.ensures (omega (arith, c.places-test.false)) c.places.invariant q
