use Rattle.vs_host.proofs.Apart.{names_apart, names_inside, temporary_refused}
use Rattle.vs_host.proofs.laws.laws_of_names.Goals as goal

pub returns-clause-apart : goal.returns-clause-apart
returns-clause-apart c = names_apart

pub returns-clause-inside : goal.returns-clause-inside
returns-clause-inside c = names_inside

pub returns-clause-temporary : goal.returns-clause-temporary
returns-clause-temporary c = temporary_refused
