use Rattle.std.proofs.Common.{◌≡◌, ℕ, ◌+◌, ◌-◌, ◌<◌, ◌≤◌, ◌^◌, List, All, IsTrue}
use Rattle.vs_text.specs.Text.{bytes_of}
use Rattle.vs_pages.specs.Calls.{Continues}
use Rattle.vs_tree_shape.specs.Works.{Works}
use Rattle.vs_tree_blocks.specs.Edits.{FitsPage}
use Rattle.vs_tree.specs.DataBlocks.{KeepsBefore}
use Rattle.vs_tree.specs.Fills.{LosesEntry, ThinsRoot}
use Rattle.vs_tree.specs.Runs.{HasTree, without_lines, run_of}
use Rattle.vs_tree.proofs.runs.take_lines.Given as goal

abbrev pub invariant-rounds : goal.invariant-rounds
invariant-rounds g l = record {
  within : l.removed ≤ l.count;
  taken : IsTrue g.P.Pages.tells → (lines : List (List ℕ)) → HasTree (g.P.Pages.shows l.fn.pages).present l.fn.root lines → HasTree (g.P.Pages.shows l.pages).present l.now (without_lines lines l.at l.removed);
  bytes : IsTrue g.P.Pages.tells → (lines : List (List ℕ)) → HasTree (g.P.Pages.shows l.fn.pages).present l.fn.root lines → bytes_of lines < 2 ^ 63 → l.bytes ≡ bytes_of (run_of lines l.at l.removed);
  lines : l.now.lines + l.removed ≡ l.fn.root.lines;
  level : l.now.height ≡ l.fn.root.height;
  start : l.removed ≡ 0 → (l.now ≡ l.fn.root) × (IsTrue g.P.Pages.tells → ((g.P.Pages.shows l.pages).present ≡ (g.P.Pages.shows l.fn.pages).present) × ((g.P.Pages.shows l.pages).worked ≡ (g.P.Pages.shows l.fn.pages).worked));
  before : KeepsBefore g.P.Pages l.fn.pages l.pages l.fn.root l.at l.now;
  filled : l.count ≡ 1 → 0 < l.removed → 1 ≤ l.now.lines → LosesEntry g.P.Pages l.fn.pages l.pages l.fn.root l.now;
  thins : l.count ≡ 1 → 0 < l.removed → ThinsRoot g.P.Pages l.fn.pages l.pages l.fn.root.height l.fn.root.lines l.at l.now.height;
  works : IsTrue g.P.Pages.tells → (lines : List (List ℕ)) → HasTree (g.P.Pages.shows l.fn.pages).present l.fn.root lines → (l.count ≤ 1) × All FitsPage (run_of lines l.at l.count)
      → Works (g.P.Pages.shows l.fn.pages).worked (g.P.Pages.shows l.pages).worked (l.fn.root.height + 1);
  kept : Continues g.P.Pages l.fn.pages l.pages;
  faults : (g.P.Pages.shows l.pages).faults ≡ (g.P.Pages.shows l.fn.pages).faults;
}

abbrev pub decreases-rounds : goal.decreases-rounds
decreases-rounds g l = l.count - l.removed
