-- The lines of a text are short, so what refuses their copies is the text's limits.
use Rattle.std.proofs.Common.{◌∙◌, ap, sym, arith}
use Rattle.vs_edit.specs.Splices.{cut_out, splice}
use Rattle.vs_excmd.specs.Change.{before, is_within}
use Rattle.vs_excmd.proofs.LimitLemmas.{copied-full}
use Rattle.vs_excmd.proofs.moving.copy_lines.Goals as goal

pub returns-then-not-branch-clause-leads : goal.returns-then-not-branch-clause-leads
returns-then-not-branch-clause-leads g c = λ text has.
    let law = g.met.S.LineStore in
    let lines = law.has_lines c.args.view.now text has in
    let within = law.has_within c.args.view.now text c.requires.valid has in
    let full = c.in_ok-fits_copied.ensures.value text c.args.place.to has (omega (arith, c.requires.lies.to_within)) in
    let to = c.args.place.to in
    copied-full text c.args.place within.short_lines
    (sym c.if-not-branch.true ∙ full ∙ ap (λ top. is_within (splice text to 0 (cut_out text top c.size-count.result))) c.before-2.ensures
    ∙ ap (λ count. is_within (splice text to 0 (cut_out text (before c.args.place.lines) count))) c.size-count.ensures)
