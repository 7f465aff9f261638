-- New blocks stand over the trees so far. What is left is nothing, or enough for a block.
use Rattle.std.proofs.Common.{◌≡◌, ◌+◌, ◌-◌, ◌*◌, ◌<◌, ◌≤◌, ℕ, suc, IsTrue, length, take}
use Rattle.std.specs.List.{AllByRecursion}
use Rattle.vs_pages.specs.Calls.{Continues}
use Rattle.vs_tree_shape.specs.Places.{lines_below}
use Rattle.vs_tree_blocks.specs.Blocks.{FitsFields}
use Rattle.vs_merge.specs.Forests.{Exchanges, HasForest}
use Rattle.vs_merge.proofs.close.close_level.Given as goal

abbrev pub invariant-parts : goal.invariant-parts
invariant-parts g l = record {
  closed : IsTrue g.P.Pages.tells → (d : ℕ) (f : HasForest (g.P.Pages.shows l.fn.pages).present d l.entries) → Exchanges (g.P.Pages.shows l.fn.pages).present (g.P.Pages.shows l.pages).present d (suc d) (take l.at f.trees) l.above.items;
  fields : AllByRecursion FitsFields l.above.items;
  lines : lines_below l.above.items ≡ lines_below (take l.at l.entries);
  within : l.at ≤ length l.entries;
  left : l.at < length l.entries → l.at + 33 ≤ length l.entries;
  many : length l.above.items * 33 ≤ l.at;
  first : length l.above.items ≤ 1 → l.at ≡ 95 * length l.above.items;
  kept : Continues g.P.Pages l.fn.pages l.pages;
  faults : (g.P.Pages.shows l.pages).faults ≡ (g.P.Pages.shows l.fn.pages).faults;
}

abbrev pub decreases-parts : goal.decreases-parts
decreases-parts g l = length l.entries - l.at
