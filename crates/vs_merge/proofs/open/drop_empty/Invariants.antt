-- The blocks so far are gone where they have no lines, and the others stand.
use Rattle.std.proofs.Common.{◌≡◌, ◌≤◌, IsTrue, take}
use Rattle.std.specs.List.{AllByRecursion}
use Rattle.vs_pages.specs.Calls.{Continues}
use Rattle.vs_tree_shape.specs.declared.entries.Entry.{Entry}
use Rattle.vs_tree_shape.specs.Places.{lines_below}
use Rattle.vs_tree_blocks.specs.Blocks.{FitsFields}
use Rattle.vs_merge.specs.Forests.{Exchanges, HasForest}
use Rattle.vs_merge.proofs.open.drop_empty.Given as goal

abbrev pub invariant-entries : goal.invariant-entries
invariant-entries g l = record {
  opened : IsTrue g.P.Pages.tells → (f : HasForest (g.P.Pages.shows l.fn.pages).present 0 l.entries) → Exchanges (g.P.Pages.shows l.fn.pages).present (g.P.Pages.shows l.pages).present 0 0 (take l.entry-index f.trees) l.left.items;
  some : AllByRecursion (λ (entry : Entry). 1 ≤ entry.lines) l.left.items;
  fields : AllByRecursion FitsFields l.left.items;
  lines : lines_below l.left.items ≡ lines_below (take l.entry-index l.entries);
  kept : Continues g.P.Pages l.fn.pages l.pages;
  faults : (g.P.Pages.shows l.pages).faults ≡ (g.P.Pages.shows l.fn.pages).faults;
}
