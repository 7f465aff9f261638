-- Each turn copies one line more.
use Rattle.std.proofs.Common.{arith}
use Rattle.std.proofs.lemmas.Grind.{common_steps}
use Rattle.vs_edit.proofs.vec_store.copies.Goals as goal

pub loop-line-preserved : goal.loop-line-preserved
loop-line-preserved c = record {
  copies = grind (arith, common_steps);
  text = grind (arith, common_steps);
}
