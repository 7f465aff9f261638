use Rattle.std.proofs.Common.{◌+◌, ◌*◌, refl, arith}
use Rattle.vs_pages.proofs.Steps.{history_present}
use Rattle.vs_tree_shape.proofs.Working.{works_zero}
use Rattle.vs_tree_shape.proofs.Fills.{filled_root, has_filled}
use Rattle.vs_tree_shape.proofs.Thins.{has_filled_but}
use Rattle.vs_tree_blocks.specs.Blocks.{tree_format}
use Rattle.vs_edit.specs.Splices.{splice}
use Rattle.vs_tree.proofs.Going.{Continues-back, history_back}
use Rattle.vs_tree.proofs.Kept.{fits_kept}
use Rattle.vs_tree.proofs.tree.LineTree.splice.Goals as goal

pub returns-in-Ok-clause-fits : goal.returns-in-Ok-clause-fits
returns-in-Ok-clause-fits g c = record {
  few = omega (arith, c.in-Ok.ensures.lines, c.requires.few_lines);
  few_bytes = c.in-Ok.ensures.bytes;
  one = λ told. let r = c.requires.fits.one told in (splice r.0 c.args.top c.args.old c.args.new.now, c.in-Ok.ensures.text told r.0 r.1);
}

pub returns-in-Ok-clause-bound : goal.returns-in-Ok-clause-bound
returns-in-Ok-clause-bound g c = λ told text has small.
    works_zero _ _ (3 * c.args.self.now.present.height + 6) _ (omega arith) (c.in-Ok.ensures.works told text has small)

pub returns-in-Err-clause-back : goal.returns-in-Err-clause-back
returns-in-Err-clause-back g c = λ told. history_back _ c.mark-mark.result c.splice_within.ensures.kept c.mark-mark.ensures c.back.ensures.back told

pub returns-in-Err-clause-fits : goal.returns-in-Err-clause-fits
returns-in-Err-clause-fits g c = fits_kept _ _ _ _ _
    (λ told. history_present (g.P.Pages.shows c.args.pages.now) (g.P.Pages.shows c.back.new.self) (history_back _ c.mark-mark.result c.splice_within.ensures.kept c.mark-mark.ensures c.back.ensures.back told)) refl c.requires.fits

pub returns-in-Err-clause-kept : goal.returns-in-Err-clause-kept
returns-in-Err-clause-kept g c = Continues-back _ c.mark-mark.result g.met.P.Pages.stays_on c.splice_within.ensures.kept c.mark-mark.ensures c.back.ensures.valid c.back.ensures.stays
    c.back.ensures.committed c.back.ensures.commits c.back.ensures.count c.back.ensures.back

pub back-requires-clause-within : goal.back-requires-clause-within
back-requires-clause-within g c = omega (arith, c.mark-mark.ensures, c.splice_within.ensures.kept.longer)

pub returns-in-Ok-clause-filled : goal.returns-in-Ok-clause-filled
returns-in-Ok-clause-filled g c = λ mild told f. let r = c.requires.fits.one told in
    has_filled tree_format _ _ _ (c.in-Ok.ensures.text told r.0 r.1).tree (c.in-Ok.ensures.filled mild told (filled_root tree_format _ _ f))

pub returns-in-Ok-clause-thins : goal.returns-in-Ok-clause-thins
returns-in-Ok-clause-thins g c = λ one none told f two entry rest walk. let r = c.requires.fits.one told in
    has_filled_but tree_format _ _ _ _ (c.in-Ok.ensures.text told r.0 r.1).tree (c.in-Ok.ensures.thins one none told (filled_root tree_format _ _ f) two entry rest walk)

pub returns-in-Ok-clause-come : goal.returns-in-Ok-clause-come
returns-in-Ok-clause-come g c = λ some none told text has small.
    works_zero _ _ (2 * c.args.self.now.present.height + 4) _ (omega arith) (c.in-Ok.ensures.come some none told text has small)
