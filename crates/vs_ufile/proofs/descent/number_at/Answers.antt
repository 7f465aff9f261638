use Rattle.vs_ufile.proofs.Descents.{number_is}
use Rattle.vs_ufile.proofs.descent.number_at.Goals as goal

pub returns : goal.returns
returns c = number_is c.args.changes.now c.args.place c.index-changes-place.result c.if-place-eq0.false c.requires
