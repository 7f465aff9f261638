use Rattle.std.proofs.Common.{refl}
use Rattle.vs_exparse.specs.Names.{rows}
use Rattle.vs_exparse.proofs.ClashLemmas.{no-word}
use Rattle.vs_exparse.proofs.words.names_do_not_clash.Goals as goal

pub returns-clause-words : goal.returns-clause-words
returns-clause-words c = no-word rows refl
