use Rattle.std.proofs.Common.{◌≡◌, ℕ, ◌-◌, ◌*◌, ◌≤◌, IsTrue}
use Rattle.vs_tree.specs.Texts.{HasText, Fits}
use Rattle.vs_load.specs.Loads.{samples}
use Rattle.vs_load.proofs.load.read.Given as goal

abbrev pub invariant-loop-done : goal.invariant-loop-done
invariant-loop-done g l = record {
  valid : g.P.Pages.valid l.pages;
  fits : Fits g.P.Pages.tells (g.P.Pages.shows l.pages).present l.tree.present;
  tree : l.tree ≡ l.fn.tree;
  present : IsTrue g.P.Pages.tells → (g.P.Pages.shows l.pages).present ≡ (g.P.Pages.shows l.fn.pages).present;
  sum : IsTrue g.P.Pages.tells → (n : ℕ) → HasText (g.P.Pages.shows l.fn.pages).present l.fn.tree.present (samples n) → l.sum ≡ 4690 * l.done;
  within : l.done ≤ l.tree.present.lines;
}

abbrev pub decreases-loop-done : goal.decreases-loop-done
decreases-loop-done g l = l.tree.present.lines - l.done
