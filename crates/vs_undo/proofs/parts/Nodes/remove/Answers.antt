use Rattle.std.proofs.Common.{drop, ap, ◌∙◌, arith}
use Rattle.std.specs.List.{remove}
use Rattle.vs_undo.proofs.FrontLemmas.{drop-remove}
use Rattle.vs_undo.proofs.parts.Nodes.remove.Goals as goal

pub returns : goal.returns
returns c =
    ap (drop c.self.inside.gone) c.remove.ensures.items ∙ (drop-remove c.self.inside.gone c.args.place c.self.inside.list.items (omega arith) ∙ ap (λ ns. remove ns c.args.place) c.self.view_is)
