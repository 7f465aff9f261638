use Rattle.std.proofs.Common.{◌==◌, set, sym, ap, ◌∙◌}
use Rattle.std.specs.List.{position}
use Rattle.vs_undo.specs.declared.parts.Node.{Node}
use Rattle.vs_undo.specs.Beside.{at_root}
use Rattle.vs_undo.proofs.NodeLemmas.{no_place, set_changed}
use Rattle.vs_undo.proofs.ChangeLemmas.{changed_none}
use Rattle.vs_undo.proofs.forget.set_at_root.Goals as goal

pub returns-in-Some : goal.returns-in-Some
returns-in-Some c =
    ap (λ (node : Node). set c.args.nodes.now c.in-Some.i (at_root node)) c.node_mut.ensures.value
    ∙ set_changed c.args.number at_root c.args.nodes.now c.in-Some.i c.node_mut.result.now (sym (ap (position (λ (n : Node). n.number == c.args.number)) c.nodes.ensures) ∙ (sym c.find.ensures ∙ c.in-Some.is))

pub returns-in_default : goal.returns-in_default
returns-in_default c =
    sym (changed_none c.args.number at_root c.args.nodes.now (no_place (λ (n : Node). n.number == c.args.number) c.args.nodes.now (sym (ap (position (λ (n : Node). n.number == c.args.number)) c.nodes.ensures) ∙ (sym c.find.ensures ∙ c.in_default.is))))
