-- The lines that are put so far are the first ones, and those of the rest come after them.
use Rattle.std.proofs.Common.{◌≡◌, ◌+◌, ◌≤◌, ◌++◌, ℕ, List, [], IsTrue, length, map}
use Rattle.vs_pages.specs.Calls.{Continues}
use Rattle.vs_text.specs.Text.{lines_of, stored_line}
use Rattle.vs_tree_blocks.specs.Blocks.{data_blocks}
use Rattle.vs_tree.specs.Fills.{StaysFilled}
use Rattle.vs_tree.specs.Packed.{HaveBlocks, IsWhole, StandInRow, stored_lines}
use Rattle.vs_tree.specs.Runs.{HasTree}
use Rattle.vs_tree.proofs.append.append_runs.Given as goal

abbrev pub invariant-runs : goal.invariant-runs
invariant-runs g l = record {
  put : List (List ℕ);
  cut : lines_of l.bytes ≡ put ++ lines_of l.rest;
  tree : IsTrue g.P.Pages.tells → (lines : List (List ℕ)) → HasTree (g.P.Pages.shows l.fn.pages).present l.fn.root lines → HasTree (g.P.Pages.shows l.pages).present l.now (lines ++ map stored_line put);
  lines : l.now.lines ≡ l.fn.root.lines + length put;
  whole : IsWhole l.bytes → IsWhole l.rest;
  packed : IsWhole l.bytes → IsTrue g.P.Pages.tells → (at : ℕ) (run : List (List ℕ)) → l.fn.root.lines ≡ at + length run → 1 ≤ length run
      → StandInRow (data_blocks (g.P.Pages.shows l.fn.pages).present l.fn.root.height) at run [] → HaveBlocks (data_blocks (g.P.Pages.shows l.pages).present l.now.height) at run (map stored_line put) (stored_lines l.rest);
  filled : StaysFilled g.P.Pages l.fn.pages l.pages l.fn.root l.now;
  kept : Continues g.P.Pages l.fn.pages l.pages;
  faults : (g.P.Pages.shows l.pages).faults ≡ (g.P.Pages.shows l.fn.pages).faults;
}

abbrev pub decreases-runs : goal.decreases-runs
decreases-runs g l = length l.rest
