use Rattle.vs_safety.proofs.Texts.{between_recovers, recoverable_are}
use Rattle.vs_safety.proofs.laws.standing.Goals as goal

pub returns-clause-recovers : goal.returns-clause-recovers
returns-clause-recovers c = between_recovers

pub returns-clause-documents : goal.returns-clause-documents
returns-clause-documents c = recoverable_are
