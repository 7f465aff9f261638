use Rattle.std.proofs.Common.{List, ap, sym, subst, ◌∙◌}
use Rattle.std.specs.List.Sorted.{IsStrictlyIncreasing}
use Rattle.vs_undo.specs.declared.parts.Node.{Node}
use Rattle.vs_undo.specs.Beside.{at_root}
use Rattle.vs_undo.specs.History.{changed}
use Rattle.vs_undo.specs.Numbers.{numbers}
use Rattle.vs_undo.proofs.RaiseLemmas.{first_raised, rest_rising, some_first}
use Rattle.vs_undo.proofs.forget.take_first.Goals as goal

pub drop_first-requires : goal.drop_first-requires
drop_first-requires c = some_first c.args.nodes.now c.requires.rising c.args.child c.args.grandchild c.requires.first c.requires.only

pub set_at_root-requires : goal.set_at_root-requires
set_at_root-requires c =
    subst (λ (ns : List Node). IsStrictlyIncreasing (numbers ns)) (sym c.drop_first.ensures) (rest_rising c.args.nodes.now c.requires.rising c.args.child c.args.grandchild c.requires.first c.requires.only)

pub returns : goal.returns
returns c =
    c.set_at_root.ensures ∙ (ap (changed c.args.grandchild at_root) c.drop_first.ensures
    ∙ first_raised c.args.nodes.now c.requires.rising c.args.child c.args.grandchild c.requires.first c.requires.only)
