use Rattle.std.proofs.Common.{◌≡◌, length, arith}
use Rattle.vs_ufile.proofs.Above.{parents_lead}
use Rattle.vs_ufile.proofs.parents.parents.Goals as goal

pub returns-clause-links : goal.returns-clause-links
returns-clause-links c =
    let heads = c.requires.heads in
    let all : c.places.head-index ≡ length c.args.next.now = omega (arith, c.places-test.false, c.places.auto.head-index-end, heads.all) in
    parents_lead c.args.heads.now c.args.next.now c.places.parents.items heads c.requires.next (omega (arith, c.places.invariant.0, all)) (λ i lt. c.places.invariant.1 i (omega (arith, lt, all)))
