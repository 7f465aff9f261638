use Rattle.vs_safety.proofs.Endings.{not_opened, opening_cut}
use Rattle.vs_safety.proofs.laws.opening.Goals as goal

pub returns-clause-fails : goal.returns-clause-fails
returns-clause-fails c = λ others names line start now document reply some opens. not_opened others names line document reply start now opens some

pub returns-clause-cut : goal.returns-clause-cut
returns-clause-cut c = λ others names line start now new document reply written some has. opening_cut others names line document reply start now has new written some
