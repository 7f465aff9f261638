-- The first line ends where the text does, and any other where the line before it begins.
use Rattle.vs_data.proofs.Reading.{has_view}
use Rattle.vs_data.proofs.DataView.end.Goals as goal

pub returns-then-at-eq0 : goal.returns-then-at-eq0
returns-then-at-eq0 c = rw c.if-at-eq0.true (has_view c.args.block.now c.args.self.now c.requires.view).end
