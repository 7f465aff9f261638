use Rattle.vs_pair.proofs.Calls.{on_err_from}
use Rattle.vs_pair.proofs.writing.open_gate.Goals as goal

pub returns-in_err-mark-clause-failed : goal.returns-in_err-mark-clause-failed
returns-in_err-mark-clause-failed g c = on_err_from c.from_residual.result _ c.in_err-mark.ensures.failed

pub returns-in_err-mark-clause-works : goal.returns-in_err-mark-clause-works
returns-in_err-mark-clause-works g c = c.mark.ensures.works
