use Rattle.std.proofs.Common.{◌≡◌}
use Rattle.vs_tree.specs.Texts.{Fits}
use Rattle.vs_test_tree.proofs.copies.parts_make_up.Given as goal

abbrev pub invariant-parts : goal.invariant-parts
invariant-parts g l = record {
  tree : l.tree ≡ l.fn.tree;
  fits : Fits g.P.Pages.tells (g.P.Pages.shows l.pages).present l.tree.present;
  valid : g.P.Pages.valid l.pages;
}
