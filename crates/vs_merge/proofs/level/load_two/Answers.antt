use Rattle.std.proofs.Common.{ap, arith}
use Rattle.vs_tree_shape.specs.declared.entries.Entry.{Entry}
use Rattle.vs_tree_shape.specs.Places.{lines_below}
use Rattle.vs_tree_shape.proofs.Sums.{total-append}
use Rattle.vs_merge.proofs.level.load_two.Goals as goal

pub returns-clause-lines : goal.returns-clause-lines
returns-clause-lines g c =
    omega (arith, ap lines_below c.in_ok-extend_from_slice.ensures.items, total-append (λ (x : Entry). x.lines) c.in_ok-all.all.items c.deref.result.now, ap lines_below c.deref.ensures.value, c.in_ok-all.ensures.lines, c.in_ok-more.ensures.lines)
