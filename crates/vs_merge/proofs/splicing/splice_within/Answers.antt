use Rattle.std.proofs.Common.{◌≡◌, ℕ, ◌+◌, ◌*◌, ◌<◌, ◌≤◌, inl, inr, List, [], refl, sym, ap, subst, ◌∙◌, arith}
use Rattle.std.proofs.lemmas.Bool.{cases_eq}
use Rattle.std.proofs.lemmas.Result.{on_ok_weaker}
use Rattle.vs_pages.specs.Maps.{Map}
use Rattle.vs_pages.proofs.Steps.{Continues-trans}
use Rattle.vs_text.specs.Text.{bytes_of}
use Rattle.vs_text.specs.declared.TheConstants.{MAX_TEXT_BYTES}
use Rattle.vs_edit.specs.Splices.{IsSmallSplice, splice}
use Rattle.vs_tree_shape.specs.Works.{Works}
use Rattle.vs_tree.specs.declared.texts.Extent.{Extent}
use Rattle.vs_tree.specs.declared.tree.LineTree.{LineTree}
use Rattle.vs_tree.specs.Texts.{HasText}
use Rattle.vs_tree.specs.Sames.{one_text}
use Rattle.vs_merge.proofs.Parts.{all_at, small_all, small_in, small_out, taken_none, then_at}
use Rattle.vs_merge.proofs.Taking.{on_ok_two, works_both}
use Rattle.vs_merge.proofs.splicing.splice_within.Goals as goal

few_left : (m : Map) (extent : Extent) (text text2 new rest : List (List ℕ)) (top more : ℕ) → HasText m extent text → HasText m extent text2 → splice text top more new ≡ rest → bytes_of rest ≤ MAX_TEXT_BYTES → bytes_of (splice text2 top more new) ≤ MAX_TEXT_BYTES
few_left m extent text text2 new rest top more has had is few = omega (arith, few, ap bytes_of is, ap (λ xs. bytes_of (splice xs top more new)) (one_text m extent text2 text had has))

pub splice-requires-clause-few_bytes : goal.splice-requires-clause-few_bytes
splice-requires-clause-few_bytes g c = λ told then had.
    let r = c.requires.fits.one told in
    let last : ℕ = c.take_out.new.tree.present.lines in
    few_left _ c.take_out.new.tree.present (splice r.0 0 c.saturating_sub.result []) then c.args.new.now (splice r.0 c.args.top c.args.old c.args.new.now) 0 last (c.in_ok-take_out.ensures.text told r.0 r.1) had
    (all_at r.0 c.args.new.now c.args.top c.args.old last c.saturating_sub.result c.saturating_sub.ensures (omega (arith, r.1.lines, c.if-old-tree.true)) (omega (arith, r.1.lines, c.requires.within)) (omega (arith, c.in_ok-take_out.ensures.lines, c.if-old-tree.true)))
    (c.requires.few_bytes told r.0 r.1)

pub splice-requires-2-clause-few_bytes : goal.splice-requires-2-clause-few_bytes
splice-requires-2-clause-few_bytes g c = λ told then had.
    let r = c.requires.fits.one told in
    few_left _ c.take_out-2.new.tree.present (splice r.0 c.args.top c.args.old []) then c.args.new.now (splice r.0 c.args.top c.args.old c.args.new.now) c.args.top 0 (c.in_ok-take_out-2.ensures.text told r.0 r.1) had
    (then_at r.0 c.args.new.now c.args.top c.args.old (omega (arith, r.1.lines, c.requires.within))) (c.requires.few_bytes told r.0 r.1)

pub returns-then-old-tree-clause-text : goal.returns-then-old-tree-clause-text
returns-then-old-tree-clause-text g c = on_ok_weaker c.splice.result
    (λ goes told text has.
    let X : List (List ℕ) → Type 0 = λ xs. HasText (g.P.Pages.shows c.splice.new.pages).present c.splice.new.self.present xs in
    subst X (all_at text c.args.new.now c.args.top c.args.old c.take_out.new.tree.present.lines c.saturating_sub.result c.saturating_sub.ensures (omega (arith, has.lines, c.if-old-tree.true)) (omega (arith, has.lines, c.requires.within)) (omega (arith, c.in_ok-take_out.ensures.lines, c.if-old-tree.true)))
    (goes told (splice text 0 c.saturating_sub.result []) (c.in_ok-take_out.ensures.text told text has)))
    c.splice.ensures.text

pub returns-then-old-tree-clause-filled : goal.returns-then-old-tree-clause-filled
returns-then-old-tree-clause-filled g c = on_ok_weaker c.splice.result
    (λ fills told. fills (inr (omega (arith, c.in_ok-take_out.ensures.lines, c.saturating_sub.ensures, c.if-old-tree.true))) told (c.in_ok-take_out.ensures.filled told)) c.splice.ensures.filled

pub returns-then-old-tree-clause-lines : goal.returns-then-old-tree-clause-lines
returns-then-old-tree-clause-lines g c = on_ok_weaker c.splice.result (λ lines. omega (arith, lines, c.if-old-tree.true)) c.splice.ensures.lines

pub returns-then-old-tree-clause-bound : goal.returns-then-old-tree-clause-bound
returns-then-old-tree-clause-bound g c = on_ok_weaker c.splice.result
    (λ bound told text has small.
    let none = c.in_ok-take_out.ensures.none (omega (arith, c.saturating_sub.ensures, small.few_out)) in
    let last : ℕ = c.take_out.new.tree.present.lines in
    let same : c.take_out.new.tree.present ≡ c.args.tree.now.present = ap (λ (t : LineTree). t.present) none.0 in
    let is : last ≡ c.args.old = omega (arith, ap (λ (e : Extent). e.lines) same, c.if-old-tree.true) in
    let left : splice text 0 c.saturating_sub.result [] ≡ text = taken_none text 0 c.saturating_sub.result (omega (arith, c.saturating_sub.ensures, small.few_out)) in
    let here = small_all text c.args.new.now c.args.top c.args.old (omega (arith, has.lines, c.if-old-tree.true)) (omega (arith, has.lines, c.requires.within)) small in
    let now = subst (λ (xs : List (List ℕ)). IsSmallSplice xs 0 last c.args.new.now) (sym left) (subst (λ (k : ℕ). IsSmallSplice text 0 k c.args.new.now) (sym is) here) in
    let X : List ℕ → Type 0 = λ old. Works old (g.P.Pages.shows c.splice.new.pages).worked (5 * c.args.tree.now.present.height + 12) in
    let H : Extent → Type 0 = λ e. Works (g.P.Pages.shows c.take_out.new.pages).worked (g.P.Pages.shows c.splice.new.pages).worked (5 * e.height + 12) in
    subst X (none.1 told).1 (subst H same (bound told (splice text 0 c.saturating_sub.result []) (c.in_ok-take_out.ensures.text told text has) now)))
    c.splice.ensures.bound

pub returns-clause-text : goal.returns-clause-text
returns-clause-text g c = on_ok_weaker c.splice-2.result
    (λ goes told text has.
    let X : List (List ℕ) → Type 0 = λ xs. HasText (g.P.Pages.shows c.splice-2.new.pages).present c.splice-2.new.self.present xs in
    subst X (then_at text c.args.new.now c.args.top c.args.old (omega (arith, has.lines, c.requires.within))) (goes told (splice text c.args.top c.args.old []) (c.in_ok-take_out-2.ensures.text told text has)))
    c.splice-2.ensures.text

pub returns-clause-filled : goal.returns-clause-filled
returns-clause-filled g c = on_ok_weaker c.splice-2.result (λ fills told. fills (inl refl) told (c.in_ok-take_out-2.ensures.filled told)) c.splice-2.ensures.filled

pub returns-clause-lines : goal.returns-clause-lines
returns-clause-lines g c = on_ok_weaker c.splice-2.result (λ lines. omega (arith, lines, c.in_ok-take_out-2.ensures.lines)) c.splice-2.ensures.lines

pub returns-clause-bound : goal.returns-clause-bound
returns-clause-bound g c = on_ok_two c.splice-2.result _ _ _
    (λ bound come told text has small.
    let h : ℕ = c.args.tree.now.present.height in
    let mid : Extent = c.take_out-2.new.tree.present in
    let less : c.args.old < c.args.tree.now.present.lines = omega (arith, c.requires.within, c.if-old-tree.false) in
    let had = c.in_ok-take_out-2.ensures.text told text has in
    let now = small_in text (splice text c.args.top c.args.old []) c.args.new.now c.args.top c.args.old small in
    elim (cases_eq c.args.old 0) [
      | inl none_out ↦
          let none = c.in_ok-take_out-2.ensures.none none_out in
          let X : List ℕ → Type 0 = λ old. Works old (g.P.Pages.shows c.splice-2.new.pages).worked (5 * h + 12) in
          let H : Extent → Type 0 = λ e. Works (g.P.Pages.shows c.take_out-2.new.pages).worked (g.P.Pages.shows c.splice-2.new.pages).worked (5 * e.height + 12) in
          subst X (none.1 told).1 (subst H (ap (λ (t : LineTree). t.present) none.0) (bound told (splice text c.args.top c.args.old []) had now))
      | inr some_out ↦
          let one_out : c.args.old ≡ 1 = omega (arith, some_out, small.few_out) in
          works_both _ _ _ (3 * h + 6) (2 * mid.height + 6) (5 * h + 12) (omega (arith, c.in_ok-take_out-2.ensures.lower (omega (arith, one_out))))
          (c.in_ok-take_out-2.ensures.works one_out told text has (small_out text c.args.new.now c.args.top c.args.old one_out small))
          (come (omega (arith, less, c.in_ok-take_out-2.ensures.lines)) refl told (splice text c.args.top c.args.old []) had now)
    ])
    c.splice-2.ensures.bound c.splice-2.ensures.come

pub returns-clause-before : goal.returns-clause-before
returns-clause-before g c = c.splice-2.ensures.before ∙ c.take_out-2.ensures.before

pub returns-then-old-tree-clause-before : goal.returns-then-old-tree-clause-before
returns-then-old-tree-clause-before g c = c.splice.ensures.before ∙ c.take_out.ensures.before

pub returns-then-old-tree-clause-kept : goal.returns-then-old-tree-clause-kept
returns-then-old-tree-clause-kept g c = Continues-trans g.met.P.Pages.stays_on c.take_out.ensures.kept c.splice.ensures.kept

pub returns-clause-kept : goal.returns-clause-kept
returns-clause-kept g c = Continues-trans g.met.P.Pages.stays_on c.take_out-2.ensures.kept c.splice-2.ensures.kept
