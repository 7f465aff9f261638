-- The bytes of the whole text, or of what goes, decide whether the new lines fit.
use Rattle.std.proofs.Common.{◌≡◌, ◌-◌, arith, ◌∙◌, ap, nat_le}
use Rattle.vs_text.specs.Text.{bytes_of}
use Rattle.vs_text.specs.declared.TheConstants.{MAX_TEXT_BYTES}
use Rattle.vs_excmd.proofs.LimitLemmas.{fits-beside, fits-instead}
use Rattle.vs_excmd.proofs.limits.fits.Goals as goal

pub returns-then-more-bytes-clause-value : goal.returns-then-more-bytes-clause-value
returns-then-more-bytes-clause-value g c = λ text has.
    let law = g.met.S.LineStore in
    let lines = law.has_lines c.args.view.now text has in
    let bytes = law.has_bytes c.args.view.now text has in
    let few = law.few_lines c.args.view.now c.requires.valid in
    let small = law.few_bytes c.args.view.now c.requires.valid in
    fits-beside text c.args.new.now c.args.top c.args.old c.count_bytes-more.result (omega arith) (omega arith) (omega arith) c.count_bytes-more.ensures (omega arith) (omega arith)

pub returns-clause-value : goal.returns-clause-value
returns-clause-value g c = λ text has.
    let law = g.met.S.LineStore in
    let lines = law.has_lines c.args.view.now text has in
    let bytes = law.has_bytes c.args.view.now text has in
    let few = law.few_lines c.args.view.now c.requires.valid in
    let small = law.few_bytes c.args.view.now c.requires.valid in
    let kept : c.saturating_sub.result ≡ bytes_of text - c.in_ok-gone.gone = omega arith in
    ap (λ n. nat_le c.count_bytes-more.result (MAX_TEXT_BYTES - n)) kept ∙
    fits-instead text c.args.new.now c.args.top c.args.old c.count_bytes-more.result c.in_ok-gone.gone (omega arith) (omega arith) (omega arith)
    c.count_bytes-more.ensures (c.in_ok-gone.ensures.bytes text has) (omega arith)
