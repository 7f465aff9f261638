use Rattle.vs_recover.proofs.ChoiceLaws.{fault_is}
use Rattle.vs_recover.proofs.image.read_image.Goals as goal

pub returns-in-Err-clause-refused : goal.returns-in-Err-clause-refused
returns-in-Err-clause-refused g c = fault_is c.in-Err.fault c.error_of.result c.error_of.ensures
