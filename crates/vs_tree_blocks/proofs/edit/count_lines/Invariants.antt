use Rattle.std.proofs.Common.{◌≡◌, length, take}
use Rattle.vs_tree_blocks.specs.Cuts.{all_lines}
use Rattle.vs_tree_blocks.proofs.edit.count_lines.Given as goal

abbrev pub invariant-runs : goal.invariant-runs
invariant-runs l = l.lines ≡ length (all_lines (take l.run-index l.runs))
