-- After an error all is as it was at the mark.
use Rattle.std.proofs.Common.{refl, sym, subst, arith}
use Rattle.vs_pages.specs.Maps.{Map}
use Rattle.vs_pages.proofs.Steps.{history_present}
use Rattle.vs_tree_shape.specs.Filled.{HasFilled}
use Rattle.vs_tree_blocks.specs.Blocks.{tree_format}
use Rattle.vs_tree.proofs.Going.{Continues-back, history_back}
use Rattle.vs_tree.proofs.Kept.{fits_kept}
use Rattle.vs_merge.proofs.splicing.splice.Goals as goal

pub back-requires-clause-within : goal.back-requires-clause-within
back-requires-clause-within g c = omega (arith, c.mark-mark.ensures, c.splice_within.ensures.kept.longer)

pub returns-in-Err-clause-back : goal.returns-in-Err-clause-back
returns-in-Err-clause-back g c = λ told. history_back _ c.mark-mark.result c.splice_within.ensures.kept c.mark-mark.ensures c.back.ensures.back told

pub returns-in-Err-clause-fits : goal.returns-in-Err-clause-fits
returns-in-Err-clause-fits g c = fits_kept _ _ _ _ _
    (λ told. history_present (g.P.Pages.shows c.args.pages.now) (g.P.Pages.shows c.back.new.self) (history_back _ c.mark-mark.result c.splice_within.ensures.kept c.mark-mark.ensures c.back.ensures.back told)) refl c.requires.fits

pub returns-in-Err-clause-filled : goal.returns-in-Err-clause-filled
returns-in-Err-clause-filled g c = λ told.
    subst (λ (m : Map). HasFilled tree_format m c.args.tree.now.present.height)
    (sym (history_present (g.P.Pages.shows c.args.pages.now) (g.P.Pages.shows c.back.new.self) (history_back _ c.mark-mark.result c.splice_within.ensures.kept c.mark-mark.ensures c.back.ensures.back told)))
    (c.requires.filled told)

pub returns-in-Err-clause-kept : goal.returns-in-Err-clause-kept
returns-in-Err-clause-kept g c = Continues-back _ c.mark-mark.result g.met.P.Pages.stays_on c.splice_within.ensures.kept c.mark-mark.ensures c.back.ensures.valid c.back.ensures.stays
    c.back.ensures.committed c.back.ensures.commits c.back.ensures.count c.back.ensures.back
