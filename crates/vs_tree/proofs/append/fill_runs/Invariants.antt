use Rattle.std.proofs.Common.{◌≤◌, All, length}
use Rattle.vs_text.specs.Text.{lines_of}
use Rattle.vs_text.specs.Limits.{IsShort}
use Rattle.vs_tree_blocks.specs.Cuts.{all_lines}
use Rattle.vs_tree_blocks.specs.Fills.{AllHaveLines}
use Rattle.vs_tree.specs.Appends.{IsFilled}
use Rattle.vs_tree.specs.Packed.{ArePacked, IsWhole, stored_lines}
use Rattle.vs_tree.proofs.append.fill_runs.Given as goal

abbrev pub invariant-runs : goal.invariant-runs
invariant-runs l = record {
  filled : IsFilled l.bytes (all_lines l.runs.items) l.rest;
  few : length l.runs.items ≤ 126;
  each : AllHaveLines l.runs.items;
  packed : IsWhole l.bytes → ArePacked l.runs.items (stored_lines l.rest);
  short : All IsShort (lines_of l.rest);
}

abbrev pub decreases-runs : goal.decreases-runs
decreases-runs l = length l.rest
