-- The runs that were added so far stand in blocks of their own, to which the entries lead.
use Rattle.std.proofs.Common.{◌≡◌, length, take}
use Rattle.std.specs.List.{AllByRecursion}
use Rattle.vs_pages.specs.Calls.{Continues}
use Rattle.vs_tree_shape.specs.Places.{lines_below}
use Rattle.vs_tree_blocks.specs.Blocks.{FitsFields}
use Rattle.vs_tree_blocks.specs.Cuts.{all_lines}
use Rattle.vs_tree_blocks.specs.Writes.{AddsBlocks}
use Rattle.vs_tree_blocks.proofs.behind.add_runs.Given as goal

abbrev pub invariant-runs : goal.invariant-runs
invariant-runs g l = record {
  added : AddsBlocks g.P.Pages l.fn.pages l.pages (take l.run-index l.runs) l.entries.items;
  fields : AllByRecursion FitsFields l.entries.items;
  many : length l.entries.items ≡ l.run-index;
  lines : lines_below l.entries.items ≡ length (all_lines (take l.run-index l.runs));
  kept : Continues g.P.Pages l.fn.pages l.pages;
  faults : (g.P.Pages.shows l.pages).faults ≡ (g.P.Pages.shows l.fn.pages).faults;
}
