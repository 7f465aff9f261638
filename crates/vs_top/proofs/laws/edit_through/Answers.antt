use Rattle.vs_top.proofs.Edits.{through, through_marks}
use Rattle.vs_top.proofs.laws.edit_through.Goals as goal

pub returns-clause-ends : goal.returns-clause-ends
returns-clause-ends c = through

pub returns-clause-marks : goal.returns-clause-marks
returns-clause-marks c = through_marks
