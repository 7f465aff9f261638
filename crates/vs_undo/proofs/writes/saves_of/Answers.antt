use Rattle.std.proofs.Common.{eqb, sym, subst}
use Rattle.std.specs.List.Sorted.{IsPermutation}
use Rattle.std.proofs.lemmas.List.Filters.{dedup_is}
use Rattle.vs_undo.specs.Writes.{AreInOrder}
use Rattle.vs_undo.proofs.SaveLemmas.{in_order}
use Rattle.vs_undo.proofs.writes.saves_of.Goals as goal

pub returns : goal.returns
returns c =
    let nodes = c.args.nodes.now in
    let sorted = c.sort_unstable.new.self.items in
    let moved = subst (λ xs. IsPermutation xs sorted) c.in_ok-saves.ensures c.sort_unstable.ensures.permutation in
    subst (AreInOrder nodes) (sym (dedup_is eqb sorted c.dedup.new.self.items c.dedup.ensures.filtered)) (in_order nodes sorted moved c.sort_unstable.ensures.sorted)
