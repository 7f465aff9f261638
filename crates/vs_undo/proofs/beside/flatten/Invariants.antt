use Rattle.vs_undo.proofs.BesideLemmas.{IsPassing}
use Rattle.vs_undo.proofs.beside.flatten.Given as goal

abbrev pub invariant-loop-place : goal.invariant-loop-place
invariant-loop-place l = IsPassing l.child l.initial.nodes l.nodes l.place l.again
