use Rattle.std.proofs.Common.{◌++◌, refl, arith}
use Rattle.vs_pages.proofs.Steps.{history_present}
use Rattle.vs_tree_shape.proofs.Fills.{filled_root, has_filled}
use Rattle.vs_tree_blocks.specs.Blocks.{tree_format}
use Rattle.vs_tree.proofs.Going.{Continues-back, history_back}
use Rattle.vs_tree.proofs.Kept.{fits_kept}
use Rattle.vs_tree.proofs.tree.LineTree.push_lines.Goals as goal

pub returns-in-Ok-clause-fits : goal.returns-in-Ok-clause-fits
returns-in-Ok-clause-fits g c = record {
  few = omega (arith, c.in-Ok.ensures.lines, c.requires.few_lines);
  few_bytes = c.in-Ok.ensures.few;
  one = λ told. let r = c.requires.fits.one told in (r.0 ++ c.args.lines.now, c.in-Ok.ensures.text told r.0 r.1);
}

pub returns-in-Err-clause-back : goal.returns-in-Err-clause-back
returns-in-Err-clause-back g c = λ told. history_back _ c.mark-mark.result c.append_within.ensures.kept c.mark-mark.ensures c.back.ensures.back told

pub returns-in-Err-clause-fits : goal.returns-in-Err-clause-fits
returns-in-Err-clause-fits g c = fits_kept _ _ _ _ _
    (λ told. history_present (g.P.Pages.shows c.args.pages.now) (g.P.Pages.shows c.back.new.self) (history_back _ c.mark-mark.result c.append_within.ensures.kept c.mark-mark.ensures c.back.ensures.back told)) refl c.requires.fits

pub returns-in-Err-clause-kept : goal.returns-in-Err-clause-kept
returns-in-Err-clause-kept g c = Continues-back _ c.mark-mark.result g.met.P.Pages.stays_on c.append_within.ensures.kept c.mark-mark.ensures c.back.ensures.valid c.back.ensures.stays
    c.back.ensures.committed c.back.ensures.commits c.back.ensures.count c.back.ensures.back

pub back-requires-clause-within : goal.back-requires-clause-within
back-requires-clause-within g c = omega (arith, c.mark-mark.ensures, c.append_within.ensures.kept.longer)

pub returns-in-Ok-clause-filled : goal.returns-in-Ok-clause-filled
returns-in-Ok-clause-filled g c = λ told f. let r = c.requires.fits.one told in
    has_filled tree_format _ _ _ (c.in-Ok.ensures.text told r.0 r.1).tree (c.in-Ok.ensures.filled told (filled_root tree_format _ _ f))
