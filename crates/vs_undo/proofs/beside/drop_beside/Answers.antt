use Rattle.std.proofs.Common.{◌∷◌, sym, subst, ◌∙◌}
use Rattle.std.specs.List.Sorted.{IsStrictlyIncreasing}
use Rattle.vs_undo.proofs.BesideLemmas.{flat_end, flat_start}
use Rattle.vs_undo.proofs.beside.drop_beside.Goals as goal

pub returns : goal.returns
returns c =
    let first = c.args.nodes.now in
    let flatter = c.flatten_all.ensures.flatter first (flat_start c.args.child first c.requires.tree c.requires.child) in
    c.drop_at_root.ensures
    ∙ flat_end c.args.child first c.flatten_all.new.nodes flatter c.flatten_all.ensures.flat c.requires.rising (subst (λ ns. IsStrictlyIncreasing (0 ∷ ns)) (sym flatter.numbers) c.requires.rising)
