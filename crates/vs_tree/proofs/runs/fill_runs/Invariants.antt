use Rattle.std.proofs.Common.{◌≡◌, ◌-◌, ◌<◌, ◌≤◌, length, drop, map, take}
use Rattle.vs_text.specs.Text.{stored_line}
use Rattle.vs_tree_blocks.specs.Cuts.{all_lines}
use Rattle.vs_tree_blocks.specs.Fills.{AllHaveLines}
use Rattle.vs_tree.specs.Packed.{ArePacked}
use Rattle.vs_tree.proofs.runs.fill_runs.Given as goal

abbrev pub invariant-runs : goal.invariant-runs
invariant-runs l = record {
  runs : all_lines l.runs.items ≡ map stored_line (take l.count l.lines);
  few : length l.runs.items ≤ 126;
  each : AllHaveLines l.runs.items;
  packed : ArePacked l.runs.items (map stored_line (drop l.count l.lines));
  some : 0 < l.count;
  within : l.count ≤ length l.lines;
}

abbrev pub decreases-runs : goal.decreases-runs
decreases-runs l = length l.lines - l.count
