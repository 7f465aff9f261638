use Rattle.std.proofs.Common.{ℕ, ◌+◌, ◌*◌, List, [], refl, sym, subst, arith}
use Rattle.vs_pages.specs.Maps.{Map}
use Rattle.vs_pages.proofs.Steps.{Continues-trans, OnlyReads-continues}
use Rattle.vs_text.specs.Text.{stored}
use Rattle.vs_edit.specs.Splices.{splice}
use Rattle.vs_edit.proofs.SpliceLemmas.{bytes_of-splice_le}
use Rattle.vs_tree_shape.specs.Works.{Works}
use Rattle.vs_tree.specs.Texts.{HasText}
use Rattle.vs_tree.proofs.StoredLemmas.{tree_of}
use Rattle.vs_merge.proofs.Taking.{TidiedText, taken, text_stands, works_both}
use Rattle.vs_merge.proofs.splicing.take_line.Goals as goal

pub near_line-requires-clause-there : goal.near_line-requires-clause-there
near_line-requires-clause-there g c = λ told. let r = c.requires.fits.one told in (stored r.0, tree_of _ c.args.tree.now.present c.root.result r.0 c.root.ensures r.1)

pub splice-requires-clause-few_bytes : goal.splice-requires-clause-few_bytes
splice-requires-clause-few_bytes g c = λ told text has. omega (arith, bytes_of-splice_le text [] c.args.top 1 (omega (arith, has.lines, c.requires.within)), has.within.few_bytes)

pub tidy_tree-requires-clause-there : goal.tidy_tree-requires-clause-there
tidy_tree-requires-clause-there g c = λ told.
    let r = c.requires.fits.one told in
    let P : Map → Type 0 = λ m. HasText m c.args.tree.now.present r.0 in
    text_stands _ c.splice.new.self.present (splice r.0 c.args.top 1 []) (c.in_ok-splice.ensures.text told r.0 (subst P (sym (c.near_line.ensures.kept.present told)) r.1)) (omega (arith, c.in_ok-splice.ensures.lines, c.requires.two))

pub returns-clause-text : goal.returns-clause-text
returns-clause-text g c = λ told text has.
    let t : TidiedText (g.P.Pages.shows c.splice.new.pages) (g.P.Pages.shows c.tidy_tree.new.pages) c.splice.new.self.present c.in_ok-tree.field-0 (splice text c.args.top 1 []) =
    taken (g.P.Pages.shows c.args.pages.now) (g.P.Pages.shows c.splice.new.pages) (g.P.Pages.shows c.tidy_tree.new.pages) (g.P.Pages.shows c.near_line.new.pages).present c.args.tree.now.present c.splice.new.self.present c.root.result
    c.args.top c.in_ok-near.near c.line_within-at.result c.in_ok-tree.field-0 text (c.near_line.ensures.kept.present told) c.root.ensures c.requires.two (omega (arith, c.in_ok-splice.ensures.lines)) has (c.requires.filled told) (c.in_ok-near.ensures.near told)
    (λ had. c.in_ok-splice.ensures.text told text had) (λ filled. c.in_ok-splice.ensures.thins refl refl told filled c.requires.two) c.line_within-at.ensures.same (λ lines had. c.in_ok-tree.ensures.tidies told lines had) in
    t.has

pub returns-clause-filled : goal.returns-clause-filled
returns-clause-filled g c = λ told.
    let r = c.requires.fits.one told in
    let t : TidiedText (g.P.Pages.shows c.splice.new.pages) (g.P.Pages.shows c.tidy_tree.new.pages) c.splice.new.self.present c.in_ok-tree.field-0 (splice r.0 c.args.top 1 []) =
    taken (g.P.Pages.shows c.args.pages.now) (g.P.Pages.shows c.splice.new.pages) (g.P.Pages.shows c.tidy_tree.new.pages) (g.P.Pages.shows c.near_line.new.pages).present c.args.tree.now.present c.splice.new.self.present c.root.result
    c.args.top c.in_ok-near.near c.line_within-at.result c.in_ok-tree.field-0 r.0 (c.near_line.ensures.kept.present told) c.root.ensures c.requires.two (omega (arith, c.in_ok-splice.ensures.lines)) r.1 (c.requires.filled told) (c.in_ok-near.ensures.near told)
    (λ had. c.in_ok-splice.ensures.text told r.0 had) (λ filled. c.in_ok-splice.ensures.thins refl refl told filled c.requires.two) c.line_within-at.ensures.same (λ lines had. c.in_ok-tree.ensures.tidies told lines had) in
    t.filled

pub returns-clause-fits : goal.returns-clause-fits
returns-clause-fits g c = record {
  few = c.splice.ensures.fits.few;
  few_bytes = c.splice.ensures.fits.few_bytes;
  one = λ told.
      let r = c.requires.fits.one told in
      let t : TidiedText (g.P.Pages.shows c.splice.new.pages) (g.P.Pages.shows c.tidy_tree.new.pages) c.splice.new.self.present c.in_ok-tree.field-0 (splice r.0 c.args.top 1 []) =
      taken (g.P.Pages.shows c.args.pages.now) (g.P.Pages.shows c.splice.new.pages) (g.P.Pages.shows c.tidy_tree.new.pages) (g.P.Pages.shows c.near_line.new.pages).present c.args.tree.now.present c.splice.new.self.present c.root.result
      c.args.top c.in_ok-near.near c.line_within-at.result c.in_ok-tree.field-0 r.0 (c.near_line.ensures.kept.present told) c.root.ensures c.requires.two (omega (arith, c.in_ok-splice.ensures.lines)) r.1 (c.requires.filled told) (c.in_ok-near.ensures.near told)
      (λ had. c.in_ok-splice.ensures.text told r.0 had) (λ filled. c.in_ok-splice.ensures.thins refl refl told filled c.requires.two) c.line_within-at.ensures.same (λ lines had. c.in_ok-tree.ensures.tidies told lines had) in
      (splice r.0 c.args.top 1 [], t.has);
}

pub returns-clause-lower : goal.returns-clause-lower
returns-clause-lower g c = omega (arith, c.in_ok-tree.ensures.lower, c.in_ok-splice.ensures.level (omega (arith, c.requires.two)) refl)

pub returns-clause-works : goal.returns-clause-works
returns-clause-works g c = λ told text has small.
    let h : ℕ = c.args.tree.now.present.height in
    let level = c.in_ok-splice.ensures.level (omega (arith, c.requires.two)) refl in
    let t : TidiedText (g.P.Pages.shows c.splice.new.pages) (g.P.Pages.shows c.tidy_tree.new.pages) c.splice.new.self.present c.in_ok-tree.field-0 (splice text c.args.top 1 []) =
    taken (g.P.Pages.shows c.args.pages.now) (g.P.Pages.shows c.splice.new.pages) (g.P.Pages.shows c.tidy_tree.new.pages) (g.P.Pages.shows c.near_line.new.pages).present c.args.tree.now.present c.splice.new.self.present c.root.result
    c.args.top c.in_ok-near.near c.line_within-at.result c.in_ok-tree.field-0 text (c.near_line.ensures.kept.present told) c.root.ensures c.requires.two (omega (arith, c.in_ok-splice.ensures.lines)) has (c.requires.filled told) (c.in_ok-near.ensures.near told)
    (λ had. c.in_ok-splice.ensures.text told text had) (λ filled. c.in_ok-splice.ensures.thins refl refl told filled c.requires.two) c.line_within-at.ensures.same (λ lines had. c.in_ok-tree.ensures.tidies told lines had) in
    let P : Map → Type 0 = λ m. HasText m c.args.tree.now.present text in
    let out : Works (g.P.Pages.shows c.near_line.new.pages).worked (g.P.Pages.shows c.splice.new.pages).worked (h + 1) = c.in_ok-splice.ensures.out (omega (arith, c.requires.two)) refl told text (subst P (sym (c.near_line.ensures.kept.present told)) has) small in
    let X : List ℕ → Type 0 = λ old. Works old (g.P.Pages.shows c.splice.new.pages).worked (h + 1) in
    works_both _ _ _ (h + 1) (2 * c.splice.new.self.present.height + 4) (3 * h + 6) (omega (arith, level)) (subst X (c.near_line.ensures.kept.still.worked told) out) t.works

pub returns-in_err-splice-clause-kept : goal.returns-in_err-splice-clause-kept
returns-in_err-splice-clause-kept g c = Continues-trans g.met.P.Pages.stays_on (OnlyReads-continues c.near_line.ensures.kept) c.splice.ensures.kept

pub returns-in_err-tree-clause-kept : goal.returns-in_err-tree-clause-kept
returns-in_err-tree-clause-kept g c = Continues-trans g.met.P.Pages.stays_on (Continues-trans g.met.P.Pages.stays_on (OnlyReads-continues c.near_line.ensures.kept) c.splice.ensures.kept) c.tidy_tree.ensures.kept

pub returns-clause-kept : goal.returns-clause-kept
returns-clause-kept g c = Continues-trans g.met.P.Pages.stays_on (Continues-trans g.met.P.Pages.stays_on (OnlyReads-continues c.near_line.ensures.kept) c.splice.ensures.kept) c.tidy_tree.ensures.kept
