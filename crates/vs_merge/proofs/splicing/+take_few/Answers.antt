use Rattle.std.proofs.Common.{ℕ, ◌+◌, ◌*◌, List, [], rules, sym, subst, ◌∙◌, arith}
use Rattle.std.proofs.lemmas.Result.{on_ok_weaker}
use Rattle.vs_pages.proofs.Steps.{Continues-trans}
use Rattle.vs_edit.specs.Splices.{splice}
use Rattle.vs_tree.specs.Texts.{HasText}
use Rattle.vs_tree_shape.specs.Works.{Works}
use Rattle.vs_merge.proofs.Parts.{taken_none, taken_one}
use Rattle.vs_merge.proofs.splicing.+take_few.Goals as goal

pub returns-then-count-eq0-clause-text : goal.returns-then-count-eq0-clause-text
returns-then-count-eq0-clause-text g t c = λ told text has.
    let X : List (List ℕ) → Type 0 = λ xs. HasText (g.P.Pages.shows c.args.pages.now).present c.args.tree.now.present xs in
    subst X (sym (taken_none text c.args.top c.args.count c.if-count-eq0.true)) has

pub take_few-requires : goal.take_few-requires
take_few-requires g t c = λ κs within. (
  omega (arith, c.if-count-eq0.false),
  (
    search rules,
    (
      c.take_line.ensures.kept.valid,
      (
        c.in_ok-take_line.ensures.fits,
        (
          c.in_ok-take_line.ensures.filled,
          (
            omega (arith, c.requires.within, c.in_ok-take_line.ensures.lines, c.if-count-eq0.false),
            λ more. omega (arith, more, c.requires.left (omega (arith, c.if-count-eq0.false)), c.in_ok-take_line.ensures.lines),
          ),
        ),
      ),
    ),
  ),
)

pub returns-clause-text : goal.returns-clause-text
returns-clause-text g t c = on_ok_weaker c.take_few.result
    (λ others told text has.
    let X : List (List ℕ) → Type 0 = λ xs. HasText (g.P.Pages.shows c.take_few.new.pages).present c.take_few.new.tree.present xs in
    subst X (taken_one text c.args.top c.args.count (omega (arith, c.if-count-eq0.false)) (omega (arith, has.lines, c.requires.within)))
    (others told (splice text c.args.top 1 []) (c.in_ok-take_line.ensures.text told text has)))
    c.take_few.ensures.text

pub returns-clause-lines : goal.returns-clause-lines
returns-clause-lines g t c = on_ok_weaker c.take_few.result (λ lines. omega (arith, lines, c.in_ok-take_line.ensures.lines, c.if-count-eq0.false)) c.take_few.ensures.lines

pub returns-clause-lower : goal.returns-clause-lower
returns-clause-lower g t c = on_ok_weaker c.take_few.result (λ lower. omega (arith, lower, c.in_ok-take_line.ensures.lower)) c.take_few.ensures.lower

pub returns-clause-none : goal.returns-clause-none
returns-clause-none g t c = on_ok_weaker c.take_few.result (λ none z. absurd (omega (arith, z, c.if-count-eq0.false))) c.take_few.ensures.none

pub returns-clause-works : goal.returns-clause-works
returns-clause-works g t c = on_ok_weaker c.take_few.result
    (λ none one told text has small.
    let X : List ℕ → Type 0 = λ now. Works (g.P.Pages.shows c.args.pages.now).worked now (3 * c.args.tree.now.present.height + 6) in
    subst X (sym ((none (omega (arith, one))).1 told).1) (c.in_ok-take_line.ensures.works told text has small))
    c.take_few.ensures.none

pub returns-clause-before : goal.returns-clause-before
returns-clause-before g t c = c.take_few.ensures.before ∙ c.take_line.ensures.before

pub returns-clause-kept : goal.returns-clause-kept
returns-clause-kept g t c = Continues-trans g.met.P.Pages.stays_on c.take_line.ensures.kept c.take_few.ensures.kept
