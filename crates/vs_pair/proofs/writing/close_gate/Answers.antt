use Rattle.vs_host.specs.Disk.{ChangesFile}
use Rattle.vs_disk.proofs.Steps.{same_file}
use Rattle.vs_pair.specs.Swap.{CloseStep, Closes, KeepsLength}
use Rattle.vs_disk.proofs.Quiet.{none_fails}
use Rattle.vs_pair.proofs.ReadLemmas.{works_none}
use Rattle.vs_pair.proofs.Acts.{acts_none}
use Rattle.vs_pair.proofs.Calls.{on_err_from}
use Rattle.vs_pair.proofs.Gates.{not_closed, close_same, closes_same, length_same, close_acts, mark_closes}
use Rattle.vs_pair.proofs.writing.close_gate.Goals as goal

pub returns-in-Closed-clause-acts : goal.returns-in-Closed-clause-acts
returns-in-Closed-clause-acts g c =
    acts_none g.F.World.tells (ChangesFile c.args.name.now (CloseStep c.args.gate.now)) _ (same_file c.args.name.now (CloseStep c.args.gate.now) (close_same c.args.gate.now) _)

pub returns-in-Closed-clause-closes : goal.returns-in-Closed-clause-closes
returns-in-Closed-clause-closes g c told = same_file c.args.name.now (Closes c.args.gate.now) (closes_same c.args.gate.now c.in-Closed.is) _

pub returns-in-Closed-clause-grown : goal.returns-in-Closed-clause-grown
returns-in-Closed-clause-grown g c told = same_file c.args.name.now KeepsLength length_same _

pub returns-in-Closed-clause-none : goal.returns-in-Closed-clause-none
returns-in-Closed-clause-none g c = none_fails g.F.World.tells _

pub returns-in_err-mark-in-Open-clause-acts : goal.returns-in_err-mark-in-Open-clause-acts
returns-in_err-mark-in-Open-clause-acts g c = close_acts g.F.World.tells c.args.name.now c.args.gate.now (not_closed c.args.gate.now c.in-Open.is) _ _ c.mark.ensures.acts

pub returns-in_err-mark-in-Open-clause-was : goal.returns-in_err-mark-in-Open-clause-was
returns-in_err-mark-in-Open-clause-was g c = on_err_from c.from_residual.result _ (not_closed c.args.gate.now c.in-Open.is)

pub returns-in_err-mark-in-Open-clause-failed : goal.returns-in_err-mark-in-Open-clause-failed
returns-in_err-mark-in-Open-clause-failed g c = on_err_from c.from_residual.result _ c.in_err-mark-in-Open.ensures.failed

pub returns-in_ok-mark-in-Open-clause-acts : goal.returns-in_ok-mark-in-Open-clause-acts
returns-in_ok-mark-in-Open-clause-acts g c = close_acts g.F.World.tells c.args.name.now c.args.gate.now (not_closed c.args.gate.now c.in-Open.is) _ _ c.mark.ensures.acts

pub returns-in_ok-mark-in-Open-clause-closes : goal.returns-in_ok-mark-in-Open-clause-closes
returns-in_ok-mark-in-Open-clause-closes g c told = mark_closes c.args.name.now c.args.gate.now _ _ (c.mark.ensures.acts.runs told).now (c.in_ok-mark-in-Open.ensures.marked told)

pub returns-in-Closed-clause-works : goal.returns-in-Closed-clause-works
returns-in-Closed-clause-works g c = works_none g.F.World.tells _ 2 0

pub returns-in_err-mark-in-Open-clause-works : goal.returns-in_err-mark-in-Open-clause-works
returns-in_err-mark-in-Open-clause-works g c = c.mark.ensures.works

pub returns-in_ok-mark-in-Open-clause-works : goal.returns-in_ok-mark-in-Open-clause-works
returns-in_ok-mark-in-Open-clause-works g c = c.mark.ensures.works
