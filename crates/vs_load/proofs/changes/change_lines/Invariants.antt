-- The pages hold the tree, and no change worked more pages than are counted.
use Rattle.std.proofs.Common.{◌≤◌}
use Rattle.vs_load.specs.Changes.{HoldTree}
use Rattle.vs_load.proofs.changes.change_lines.Given as goal

abbrev pub invariant-loop : goal.invariant-loop
invariant-loop l = record {
  valid : HoldTree l.store.pages.pages l.store.tree.now;
  most : l.worked ≤ 64;
}
