use Rattle.std.proofs.Common.{arith}
use Rattle.std.proofs.lemmas.Grind.{common_steps}
use Rattle.vs_family.proofs.Spelling.{same_all}
use Rattle.vs_family.proofs.pieces.Pieces.is_same.Goals as goal

pub returns : goal.returns
returns c = same_all _ _ (grind (arith, common_steps)) (λ k lt. c.loop-at.invariant.same k (grind (arith, common_steps, lt)))
