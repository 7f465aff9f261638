use Rattle.std.proofs.Common.{rules, ap, ◌∙◌}
use Rattle.std.specs.List.{filter}
use Rattle.std.proofs.lemmas.Fn.{filter_same}
use Rattle.vs_undo.specs.Beside.{stays}
use Rattle.vs_undo.proofs.parts.Nodes.drop_at_root.Goals as goal

pub returns : goal.returns
returns c =
    filter_same _ (stays c.args.child) _ (λ x b f' k. search rules) _ _ c.retain.ensures.filtered ∙ ap (filter (stays c.args.child)) (c.drop_front.ensures ∙ c.self.view_is)
