use Rattle.vs_family.proofs.Families.{clash_exact, families_apart, clash_itself, clash_either, eight_in, backup_in, copy_in}
use Rattle.vs_family.proofs.laws.sharing.Goals as goal

pub returns-clause-exact : goal.returns-clause-exact
returns-clause-exact c = clash_exact

pub returns-clause-apart : goal.returns-clause-apart
returns-clause-apart c = families_apart

pub returns-clause-itself : goal.returns-clause-itself
returns-clause-itself c = clash_itself

pub returns-clause-either : goal.returns-clause-either
returns-clause-either c = clash_either

pub returns-clause-names : goal.returns-clause-names
returns-clause-names c = eight_in

pub returns-clause-backups : goal.returns-clause-backups
returns-clause-backups c = backup_in

pub returns-clause-copies : goal.returns-clause-copies
returns-clause-copies c = copy_in
