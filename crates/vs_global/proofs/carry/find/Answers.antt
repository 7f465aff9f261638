-- What is planned has a place.
use Rattle.std.proofs.Common.{[], refl}
use Rattle.vs_exparse.specs.Command.{command_of}
use Rattle.vs_global.proofs.CarryLemmas.{finds-plan}
use Rattle.vs_global.proofs.carry.find.Goals as goal

pub returns-clause-finds : goal.returns-clause-finds
returns-clause-finds g c = λ text has. finds-plan (command_of c.args.nested.now) text c.args.cursor c.plan.result (c.plan.ensures.answers text [] has refl)
