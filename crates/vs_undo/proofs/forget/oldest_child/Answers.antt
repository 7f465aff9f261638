use Rattle.std.proofs.Common.{ap, ◌∙◌}
use Rattle.vs_undo.specs.Forgetting.{top_of}
use Rattle.vs_undo.specs.Ways.{way_of}
use Rattle.vs_undo.proofs.ForgetLemmas.{settled_oldest}
use Rattle.vs_undo.proofs.forget.oldest_child.Goals as goal

pub returns-then-settled : goal.returns-then-settled
returns-then-settled c = settled_oldest c.args.parts.now c.requires.fresh (c.requires.settled c.if-settled.true)

pub returns : goal.returns
returns c = c.top_of.ensures ∙ ap (λ nodes. top_of (way_of nodes c.args.parts.now.current)) c.nodes.ensures
