use Rattle.vs_disk.proofs.Contents.{lasts}
use Rattle.vs_disk.proofs.laws.synced_lasts.Goals as goal

pub returns : goal.returns
returns c = lasts
