use Rattle.std.proofs.Common.{ap, ◌∙◌}
use Rattle.vs_tree.specs.Texts.{Fits}
use Rattle.vs_tree.specs.declared.tree.LineTree.{LineTree}
use Rattle.vs_tree.proofs.Kept.{fits_kept}
use Rattle.vs_test_tree.proofs.copies.parts_make_up.Goals as goal

pub copy_lines-requires-in-parts-clause-fits : goal.copy_lines-requires-in-parts-clause-fits
copy_lines-requires-in-parts-clause-fits g c =
    fits_kept g.P.Pages.tells (g.P.Pages.shows c.parts.pages).present (g.P.Pages.shows c.copy_lines.new.pages).present c.parts.tree.present c.copy_lines.new.self.present
    c.copy_lines.ensures.kept.present (ap (λ (t : LineTree). t.present) c.copy_lines.ensures.tree) c.parts.invariant.fits

pub parts-preserved : goal.parts-preserved
parts-preserved g c =
    let first : Fits g.P.Pages.tells (g.P.Pages.shows c.copy_lines.new.pages).present c.copy_lines.new.self.present =
    fits_kept g.P.Pages.tells (g.P.Pages.shows c.parts.pages).present (g.P.Pages.shows c.copy_lines.new.pages).present c.parts.tree.present c.copy_lines.new.self.present
    c.copy_lines.ensures.kept.present (ap (λ (t : LineTree). t.present) c.copy_lines.ensures.tree) c.parts.invariant.fits in
    record {
      tree = c.copy_lines-in-parts.ensures.tree ∙ c.copy_lines.ensures.tree ∙ c.parts.invariant.tree;
      fits = fits_kept g.P.Pages.tells (g.P.Pages.shows c.copy_lines.new.pages).present (g.P.Pages.shows c.copy_lines-in-parts.new.pages).present c.copy_lines.new.self.present c.copy_lines-in-parts.new.self.present
          c.copy_lines-in-parts.ensures.kept.present (ap (λ (t : LineTree). t.present) c.copy_lines-in-parts.ensures.tree) first;
      valid = c.copy_lines-in-parts.ensures.kept.valid;
    }
