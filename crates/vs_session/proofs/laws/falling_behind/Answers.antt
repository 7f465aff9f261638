use Rattle.vs_pair.proofs.Behind.{behind_none}
use Rattle.vs_session.proofs.Behind.{behind_line, behind_unworked, calls_after}
use Rattle.vs_session.proofs.laws.falling_behind.Goals as goal

pub returns-clause-synced : goal.returns-clause-synced
returns-clause-synced c = λ before after counted turns. behind_none after.pages after.files.newer_has counted turns.1

pub returns-clause-unworked : goal.returns-clause-unworked
returns-clause-unworked c = behind_unworked

pub returns-clause-line : goal.returns-clause-line
returns-clause-line c = behind_line

pub returns-clause-calls : goal.returns-clause-calls
returns-clause-calls c = calls_after
