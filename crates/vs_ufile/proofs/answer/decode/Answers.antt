use Rattle.vs_ufile.proofs.Answered.{is_found, is_only}
use Rattle.vs_ufile.proofs.Bounded.{is_bounded}
use Rattle.vs_ufile.proofs.Faults.{tells, tells_one}
use Rattle.vs_ufile.proofs.Once.{walk_once}
use Rattle.vs_ufile.proofs.answer.decode.Goals as goal

pub returns-clause-found : goal.returns-clause-found
returns-clause-found c = is_found c.args.bytes.now c.answer.result c.answer.ensures

pub returns-clause-only : goal.returns-clause-only
returns-clause-only c = is_only c.args.bytes.now c.answer.result c.answer.ensures

pub returns-clause-bounded : goal.returns-clause-bounded
returns-clause-bounded c = is_bounded c.args.bytes.now c.answer.result (is_found c.args.bytes.now c.answer.result c.answer.ensures)

pub returns-clause-refused : goal.returns-clause-refused
returns-clause-refused c = tells_one c.args.bytes.now c.answer.result c.answer.ensures

pub returns-clause-faulty : goal.returns-clause-faulty
returns-clause-faulty c = tells c.args.bytes.now c.answer.result c.answer.ensures

pub returns-clause-walks : goal.returns-clause-walks
returns-clause-walks c = walk_once c.args.bytes.now c.answer.result (is_found c.args.bytes.now c.answer.result c.answer.ensures)
