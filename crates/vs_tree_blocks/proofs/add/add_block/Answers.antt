use Rattle.std.proofs.Common.{[], ◌∷◌}
use Rattle.vs_tree_shape.proofs.Writes.{added, stored}
use Rattle.vs_tree_shape.proofs.Working.{only_one, only_again, works_at}
use Rattle.vs_pages.proofs.Steps.{Continues-trans}
use Rattle.vs_tree_blocks.proofs.add.add_block.Goals as goal

pub touch-requires-clause-there : goal.touch-requires-clause-there
touch-requires-clause-there g c = λ told. (c.in_ok-at.ensures.grown told).there

pub returns-clause-added : goal.returns-clause-added
returns-clause-added g c = λ told. added _ _ _ _ _ c.args.bytes.now (c.in_ok-at.ensures.grown told) (stored _ _ _ _ _ (c.in_ok-touch.ensures.ok told) c.requires.size)

pub returns-clause-works : goal.returns-clause-works
returns-clause-works g c = λ told single.
    let at = c.in_ok-at.at in
    works_at _ _ at (only_again _ (g.P.Pages.shows c.grow_block.new.pages).worked _ (0 ∷ at ∷ []) (c.in_ok-at.ensures.only told single) (only_one _ _ at c.args.count single (c.in_ok-touch.ensures.change.worked told)))

pub returns-clause-kept : goal.returns-clause-kept
returns-clause-kept g c = Continues-trans g.met.P.Pages.stays_on c.grow_block.ensures.kept c.touch.ensures.kept
