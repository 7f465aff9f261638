use Rattle.std.proofs.Common.{arith}
use Rattle.std.proofs.lemmas.Bool.Decides.{nat_tests}
use Rattle.vs_undo.proofs.SearchLemmas.{place_is}
use Rattle.vs_undo.proofs.way.find.Goals as goal

pub returns-then-nodes-place : goal.returns-then-nodes-place
returns-then-nodes-place c =
    place_is c.args.nodes.now c.args.number _ c.index-nodes-place.result c.requires (grind (arith, nat_tests)) (grind (arith, nat_tests))
