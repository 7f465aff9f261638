use Rattle.vs_top.proofs.MadeLike.{edit_made}
use Rattle.vs_top.proofs.laws.edit_readers.Goals as goal

pub returns : goal.returns
returns c = edit_made
