use Rattle.vs_safety.specs.Causes.{folder_count}
use Rattle.vs_safety.proofs.Causes.{rose_last}
use Rattle.vs_safety.proofs.laws.failing.Goals as goal

pub returns : goal.returns
returns c = λ start now new. rose_last folder_count start now new (λ m none. none.folder)
