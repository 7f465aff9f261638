use Rattle.vs_disk.proofs.Images.{torn_image}
use Rattle.vs_disk.proofs.Contents.{image_after}
use Rattle.vs_disk.proofs.laws.after_a_call.Goals as goal

pub returns-clause-names : goal.returns-clause-names
returns-clause-names c = image_after

pub returns-clause-write : goal.returns-clause-write
returns-clause-write c = λ at n old new image some is. torn_image old new at n image some is
