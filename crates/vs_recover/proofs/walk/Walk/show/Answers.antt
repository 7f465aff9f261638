use Rattle.std.proofs.Common.{sym, ◌∙◌}
use Rattle.vs_recover.proofs.WalkedLaws.{few_pointers}
use Rattle.vs_recover.proofs.walk.Walk.show.Goals as goal

pub returns-in-Ok-clause-few : goal.returns-in-Ok-clause-few
returns-in-Ok-clause-few c = few_pointers c.push_entries.result c.args.block.now c.in-Ok.view _ _ (sym c.read.ensures.answer ∙ c.in-Ok.is) c.push_entries.ensures.len
