use Rattle.std.proofs.Common.{◌≡◌, ◌==◌, None, sym, subst, ◌∙◌}
use Rattle.vs_undo.specs.declared.parts.Node.{Node}
use Rattle.vs_undo.specs.Ways.{node_at}
use Rattle.vs_undo.proofs.NodeLemmas.{no_place}
use Rattle.vs_undo.proofs.TakeLemmas.{taken_at, none_out}
use Rattle.vs_undo.proofs.forget.take_out.Goals as goal

pub returns-in-Some : goal.returns-in-Some
returns-in-Some c = c.remove.ensures ∙ taken_at c.args.nodes.now c.nodes.result.now c.nodes.ensures c.requires c.args.number c.in-Some.i (sym c.find.ensures ∙ c.in-Some.is)

pub returns-in_default : goal.returns-in_default
returns-in_default c =
    let none = no_place (λ (n : Node). n.number == c.args.number) c.nodes.result.now (sym c.find.ensures ∙ c.in_default.is) in
    let there : node_at c.args.nodes.now c.args.number ≡ None = subst (λ ns. node_at ns c.args.number ≡ None) c.nodes.ensures none in
    none_out c.args.nodes.now c.args.number there
