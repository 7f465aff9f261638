use Rattle.std.proofs.Common.{[], arith}
use Rattle.vs_pages.proofs.Steps.{Continues-trans}
use Rattle.vs_edit.specs.Splices.{splice}
use Rattle.vs_edit.proofs.SpliceLemmas.{bytes_of-splice_le}
use Rattle.vs_merge.proofs.Taking.{settled_text, text_stands}
use Rattle.vs_merge.proofs.splicing.take_many.Goals as goal

pub splice-requires-clause-few_bytes : goal.splice-requires-clause-few_bytes
splice-requires-clause-few_bytes g c = λ told text has. omega (arith, bytes_of-splice_le text [] c.args.top c.args.count (omega (arith, has.lines, c.requires.within)), has.within.few_bytes)

pub settle_tree-requires-clause-there : goal.settle_tree-requires-clause-there
settle_tree-requires-clause-there g c = λ told.
    let r = c.requires.fits.one told in
    text_stands _ c.splice.new.self.present (splice r.0 c.args.top c.args.count []) (c.in_ok-splice.ensures.text told r.0 r.1) (omega (arith, c.in_ok-splice.ensures.lines, c.requires.left))

pub returns-clause-text : goal.returns-clause-text
returns-clause-text g c = λ told text has.
    (settled_text _ _ c.splice.new.self.present _ (splice text c.args.top c.args.count []) (c.in_ok-splice.ensures.text told text has) (omega (arith, c.in_ok-splice.ensures.lines, c.requires.left)) (λ lines had some. c.in_ok-tree.ensures.settles told lines had some)).has

pub returns-clause-filled : goal.returns-clause-filled
returns-clause-filled g c = λ told.
    let r = c.requires.fits.one told in
    (settled_text _ _ c.splice.new.self.present _ (splice r.0 c.args.top c.args.count []) (c.in_ok-splice.ensures.text told r.0 r.1) (omega (arith, c.in_ok-splice.ensures.lines, c.requires.left)) (λ lines had some. c.in_ok-tree.ensures.settles told lines had some)).filled

pub returns-clause-fits : goal.returns-clause-fits
returns-clause-fits g c = record {
  few = c.splice.ensures.fits.few;
  few_bytes = c.splice.ensures.fits.few_bytes;
  one = λ told.
      let r = c.requires.fits.one told in (
        splice r.0 c.args.top c.args.count [],
        (settled_text _ _ c.splice.new.self.present _ (splice r.0 c.args.top c.args.count []) (c.in_ok-splice.ensures.text told r.0 r.1) (omega (arith, c.in_ok-splice.ensures.lines, c.requires.left)) (λ lines had some. c.in_ok-tree.ensures.settles told lines had some)).has,
      );
}

pub returns-in_err-tree-clause-kept : goal.returns-in_err-tree-clause-kept
returns-in_err-tree-clause-kept g c = Continues-trans g.met.P.Pages.stays_on c.splice.ensures.kept c.settle_tree.ensures.kept

pub returns-clause-kept : goal.returns-clause-kept
returns-clause-kept g c = Continues-trans g.met.P.Pages.stays_on c.splice.ensures.kept c.settle_tree.ensures.kept
