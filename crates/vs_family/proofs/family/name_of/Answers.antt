use Rattle.vs_family.proofs.Spelling.{spelled_at}
use Rattle.vs_family.proofs.family.name_of.Goals as goal

pub returns : goal.returns
returns c =
    rw (c.dot_at.ensures.dot, c.letter_at.ensures, c.ending_at.ensures.ending)
    (spelled_at c.args.file.now c.args.number c.made_ending.result.now c.args.made c.requires.some c.requires.number c.made_ending.ensures.ending)
