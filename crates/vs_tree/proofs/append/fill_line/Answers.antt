-- A run has the first line of the bytes, and those of the rest come after it.
use Rattle.std.proofs.Common.{length, refl, ap}
use Rattle.vs_tree.proofs.AppendLemmas.{filled_first}
use Rattle.vs_tree.proofs.append.fill_line.Goals as goal

pub returns-clause-filled : goal.returns-clause-filled
returns-clause-filled c = filled_first c.args.bytes.now c.first_line.result.0.now c.first_line.result.1.now _ c.in_ok-run.run' c.first_line.ensures.lines c.first_line.ensures.less
    refl c.in_ok-run.ensures c.first_line.ensures.whole

pub returns-clause-one : goal.returns-clause-one
returns-clause-one c = ap length c.in_ok-run.ensures
