use Rattle.std.proofs.Common.{◌≡◌, ◌<◌, ◌==◌, false, sym, ◌∙◌, arith}
use Rattle.std.proofs.lemmas.Bool.Decides.{nat_tests}
use Rattle.vs_undo.proofs.ForkLemmas.{no_other}
use Rattle.vs_undo.proofs.beside.has_other_child.Goals as goal

pub returns-else-fork-eq0 : goal.returns-else-fork-eq0
returns-else-fork-eq0 c =
    let some : 0 < c.args.fork = let t = c.if-fork-eq0.false in grind (arith, nat_tests) in
    let no : (c.args.fork == 0) ≡ false = grind (arith, nat_tests) in
    no ∙ sym (no_other c.args.child c.args.fork c.args.nodes.now c.requires.rising c.requires.child some c.requires.straight)
