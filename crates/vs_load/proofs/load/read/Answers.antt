use Rattle.std.proofs.Common.{◌≡◌, ℕ, ◌+◌, ◌*◌, ◌≤◌, List, ◌++◌, ap, sym, subst, ◌∙◌, take, drop, arith}
use Rattle.std.proofs.lemmas.List.{length-replicate}
use Rattle.std.specs.List.{sum}
use Rattle.vs_pages.specs.Maps.{Map}
use Rattle.vs_text.specs.Text.{file_of}
use Rattle.vs_tree.specs.Texts.{HasText}
use Rattle.vs_tree.specs.declared.tree.LineTree.{LineTree}
use Rattle.vs_tree.proofs.Kept.{fits_kept}
use Rattle.vs_load.specs.Loads.{sample, samples}
use Rattle.vs_load.proofs.Samples.{sum-run}
use Rattle.vs_load.proofs.load.read.Goals as goal

pub loop-done-preserved : goal.loop-done-preserved
loop-done-preserved g c =
    let done = c.loop-done.done in
    let count = c.min-count.result in
    record {
      valid = c.copy_lines.ensures.kept.valid;
      fits = fits_kept _ _ _ _ _ c.copy_lines.ensures.kept.present (ap (λ (t : LineTree). t.present) c.copy_lines.ensures.tree) c.loop-done.invariant.fits;
      tree = c.copy_lines.ensures.tree ∙ c.loop-done.invariant.tree;
      present = λ told. c.copy_lines.ensures.kept.present told ∙ c.loop-done.invariant.present told;
      sum = λ told n has.
          let kept : HasText (g.P.Pages.shows c.args.pages.now).present c.loop-done.tree.present (samples n) =
          subst (λ (t : LineTree). HasText (g.P.Pages.shows c.args.pages.now).present t.present (samples n)) (sym c.loop-done.invariant.tree) has in
          let here : HasText (g.P.Pages.shows c.loop-done.pages).present c.loop-done.tree.present (samples n) =
          subst (λ (m : Map). HasText m c.loop-done.tree.present (samples n)) (sym (c.loop-done.invariant.present told)) kept in
          let within : done + count ≤ n = omega (arith, here.lines, length-replicate n sample) in
          let copied : c.deref.result.now ≡ file_of (take count (drop done (samples n))) =
          c.deref.ensures.value ∙ c.in_ok-copy_lines.ensures.lines told (samples n) here ∙ ap (λ (bytes : List ℕ). bytes ++ file_of (take count (drop done (samples n)))) c.clear.ensures.items in
          let run : sum c.deref.result.now ≡ 4690 * count = ap sum copied ∙ sum-run n done count within in
          omega (arith, c.loop-done.invariant.sum told n has, run, c.sum_of-sum.ensures, c.loop-done.invariant.fits.few);
      within = omega (arith, ap (λ (t : LineTree). t.present.lines) c.copy_lines.ensures.tree);
    }
