use Rattle.vs_disk.proofs.Parts.{part_leaves, whole_leaves}
use Rattle.vs_disk.proofs.laws.restriction.Goals as goal

pub returns-clause-part : goal.returns-clause-part
returns-clause-part c = part_leaves

pub returns-clause-whole : goal.returns-clause-whole
returns-clause-whole c = whole_leaves
