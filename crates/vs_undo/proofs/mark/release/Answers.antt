use Rattle.std.proofs.Common.{sym}
use Rattle.vs_undo.proofs.MarkLemmas.{map-unmarked_none}
use Rattle.vs_undo.proofs.mark.release.Goals as goal

pub returns-else-in_use : goal.returns-else-in_use
returns-else-in_use c = sym (map-unmarked_none c.args.save c.args.nodes.now (c.requires c.if-in_use.false))
