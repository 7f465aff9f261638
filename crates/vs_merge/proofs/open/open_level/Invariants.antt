-- The blocks so far are gone, and the trees below them stand.
use Rattle.std.proofs.Common.{◌≡◌, ℕ, suc, IsTrue, take}
use Rattle.std.specs.List.{AllByRecursion}
use Rattle.vs_pages.specs.Calls.{Continues}
use Rattle.vs_tree_shape.specs.Places.{lines_below}
use Rattle.vs_tree_blocks.specs.Blocks.{FitsFields}
use Rattle.vs_merge.specs.Forests.{Exchanges, HasForest}
use Rattle.vs_merge.proofs.open.open_level.Given as goal

abbrev pub invariant-entries : goal.invariant-entries
invariant-entries g l = record {
  opened : IsTrue g.P.Pages.tells → (d : ℕ) (f : HasForest (g.P.Pages.shows l.fn.pages).present (suc d) l.entries) → Exchanges (g.P.Pages.shows l.fn.pages).present (g.P.Pages.shows l.pages).present (suc d) d (take l.entry-index f.trees) l.below.items;
  fields : AllByRecursion FitsFields l.below.items;
  lines : lines_below l.below.items ≡ lines_below (take l.entry-index l.entries);
  kept : Continues g.P.Pages l.fn.pages l.pages;
  faults : (g.P.Pages.shows l.pages).faults ≡ (g.P.Pages.shows l.fn.pages).faults;
}
