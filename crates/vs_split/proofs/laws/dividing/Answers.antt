use Rattle.vs_split.proofs.Divided.{divided, whole_divided}
use Rattle.vs_split.proofs.laws.dividing.Goals as goal

pub returns-clause-commands : goal.returns-clause-commands
returns-clause-commands c = divided

pub returns-clause-whole : goal.returns-clause-whole
returns-clause-whole c = whole_divided
