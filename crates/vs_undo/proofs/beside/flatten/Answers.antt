use Rattle.std.proofs.Common.{◌<◌, ◌≤◌, [], length, ap, subst, arith}
use Rattle.std.proofs.lemmas.List.{length-map}
use Rattle.vs_undo.specs.declared.parts.Node.{Node}
use Rattle.vs_undo.proofs.BesideLemmas.{passing_end, passing_rising, passing_step, IsPassing}
use Rattle.vs_undo.proofs.beside.flatten.Goals as goal

pub loop-place-preserved : goal.loop-place-preserved
loop-place-preserved c =
    let none : Node = record { number = 0; parent = 0; last_child = 0; time = 0; save = 0; entries = [] } in
    let first = c.args.nodes.now in
    let now = c.loop-place.nodes in
    let is = c.loop-place.invariant in
    let within : c.loop-place.place < length now =
    omega (arith, c.loop-place-test.true, ap length c.nodes-place-end.ensures, length-map now (λ (n : Node). n.number), length-map first (λ (n : Node). n.number), ap length is.numbers) in
    passing_step c.args.child first now c.bring_up-again.new.nodes c.loop-place.place c.loop-place.again c.bring_up-again.result none is
    (passing_rising c.args.child first now c.loop-place.place c.loop-place.again is c.requires.rising) within
    (λ up. c.bring_up-again.ensures.up up none) c.bring_up-again.ensures.stays c.bring_up-again.ensures.beside

pub returns-clause-flat : goal.returns-clause-flat
returns-clause-flat c = λ none.
    let first = c.args.nodes.now in
    let now = c.loop-place.nodes in
    let is = c.loop-place.invariant in
    let all : length now ≤ c.loop-place.place =
    omega (arith, c.loop-place-test.false, ap length c.nodes-place-end.ensures, length-map now (λ (n : Node). n.number), length-map first (λ (n : Node). n.number), ap length is.numbers) in
    passing_end c.args.child first now c.loop-place.place all (subst (IsPassing c.args.child first now c.loop-place.place) none is)
