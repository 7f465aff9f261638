-- Copies take nothing out, so their bytes go beside those of the whole text.
use Rattle.std.proofs.Common.{◌-◌, ◌∙◌, ap, arith, nat_le}
use Rattle.vs_text.specs.declared.TheConstants.{MAX_TEXT_BYTES}
use Rattle.vs_excmd.proofs.LimitLemmas.{fits-copied, fits-twice}
use Rattle.vs_excmd.proofs.limits.fits_copied.Goals as goal

pub returns-then-bytes-clause-value : goal.returns-then-bytes-clause-value
returns-then-bytes-clause-value g c = λ text to has to_within.
    let law = g.met.S.LineStore in
    let lines = law.has_lines c.args.view.now text has in
    let bytes = law.has_bytes c.args.view.now text has in
    let few = law.few_lines c.args.view.now c.requires.valid in
    let small = law.few_bytes c.args.view.now c.requires.valid in
    fits-twice text c.args.top c.args.count to (omega arith) to_within (omega arith) (omega arith) (omega arith) (omega arith)

pub returns-clause-value : goal.returns-clause-value
returns-clause-value g c = λ text to has to_within.
    let law = g.met.S.LineStore in
    let lines = law.has_lines c.args.view.now text has in
    let bytes = law.has_bytes c.args.view.now text has in
    let few = law.few_lines c.args.view.now c.requires.valid in
    let small = law.few_bytes c.args.view.now c.requires.valid in
    let counted = c.in_ok-bytes_in.ensures.bytes text has in
    ap (λ n. nat_le c.in_ok-bytes_in.field-0 (MAX_TEXT_BYTES - n)) (omega arith) ∙
    fits-copied text c.args.top c.args.count to c.in_ok-bytes_in.field-0 (omega arith) to_within (omega arith) (omega arith) counted (omega arith)
