use Rattle.std.proofs.Common.{◌≡◌, ℕ, ◌+◌, ◌-◌, ◌*◌, ◌<◌, ◌≤◌, List, All, IsTrue, drop, length, map, take}
use Rattle.vs_pages.specs.Calls.{Continues}
use Rattle.vs_tree_shape.specs.Works.{WorksBesideZero}
use Rattle.vs_text.specs.Text.{stored_line}
use Rattle.vs_tree_blocks.specs.Blocks.{data_blocks}
use Rattle.vs_tree_blocks.specs.Edits.{FitsPage}
use Rattle.vs_tree.specs.Fills.{StaysFilled}
use Rattle.vs_tree.specs.Packed.{ArePut}
use Rattle.vs_tree.specs.Runs.{HasTree, with_lines}
use Rattle.vs_tree.proofs.runs.put_lines.Given as goal

abbrev pub invariant-runs : goal.invariant-runs
invariant-runs g l = record {
  some : 0 < l.put;
  within : l.put ≤ length l.new;
  put : IsTrue g.P.Pages.tells → (lines : List (List ℕ)) → HasTree (g.P.Pages.shows l.fn.pages).present l.fn.root lines → HasTree (g.P.Pages.shows l.pages).present l.now (with_lines lines l.at (take l.put l.new));
  lines : l.now.lines ≡ l.fn.root.lines + l.put;
  higher : l.now.height ≤ l.fn.root.height + l.put;
  more : 0 < length l.new;
  filled : StaysFilled g.P.Pages l.fn.pages l.pages l.fn.root l.now;
  packed : IsTrue g.P.Pages.tells → ArePut (data_blocks (g.P.Pages.shows l.pages).present l.now.height) l.at (map stored_line (take l.put l.new)) (map stored_line (drop l.put l.new));
  works : IsTrue g.P.Pages.tells → (lines : List (List ℕ)) → HasTree (g.P.Pages.shows l.fn.pages).present l.fn.root lines → (length l.new ≤ 1) × All FitsPage l.new
      → WorksBesideZero (g.P.Pages.shows l.fn.pages).worked (g.P.Pages.shows l.pages).worked (2 * l.fn.root.height + 4);
  kept : Continues g.P.Pages l.fn.pages l.pages;
  faults : (g.P.Pages.shows l.pages).faults ≡ (g.P.Pages.shows l.fn.pages).faults;
}

abbrev pub decreases-runs : goal.decreases-runs
decreases-runs g l = length l.new - l.put
