use Rattle.std.proofs.Common.{◌≡◌, sym, ◌∙◌, arith}
use Rattle.std.proofs.lemmas.Bool.Decides.{nat_tests}
use Rattle.vs_undo.proofs.ForkLemmas.{pushed_straight}
use Rattle.vs_undo.proofs.forks.fork_pushed.Goals as goal

pub returns-then-last_child-eq0 : goal.returns-then-last_child-eq0
returns-then-last_child-eq0 c = λ entries time.
    let zero : c.last_child.result ≡ 0 = let t = c.if-last_child-eq0.true in grind (arith, nat_tests) in
    pushed_straight entries time c.args.parts.now c.requires.sound c.args.fork c.args.fork (omega arith) (λ some. absurd (some (sym c.last_child.ensures ∙ zero))) c.requires.straight

pub returns : goal.returns
returns c = λ entries time.
    pushed_straight entries time c.args.parts.now c.requires.sound c.args.fork c.min.result (omega arith) (λ some. omega arith) c.requires.straight
