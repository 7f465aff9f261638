-- The change lies in the lines with gaps, and may reach into those that are bytes.
use Rattle.std.proofs.Common.{◌≡◌, ◌∙◌, ◌-◌, ◌++◌, ap, arith, drop, length, min, take}
use Rattle.vs_text.specs.Text.{bytes_of}
use Rattle.vs_text.proofs.FileForm.{bytes_of-append}
use Rattle.vs_edit.specs.Splices.{cut_out, splice}
use Rattle.vs_gap.proofs.LinesLemmas.{cut-both, splice-both}
use Rattle.vs_gap.proofs.lines.HeldLines.splice.Goals as goal

pub returns-clause-lines : goal.returns-clause-lines
returns-clause-lines c =
    let lines = c.draw.new.lines in
    let ahead = c.draw.new.ahead in
    let first = c.min-first.result in
    let at = c.args.at in
    let old = c.args.old in
    let new = c.args.new.items in
    let is = c.min-first.ensures ∙ ap (λ k. min old (k - at)) c.len.ensures in
    ap (λ l. l ++ c.pass-passed.new.self) c.in_ok-gone.ensures.lines ∙ ap (λ l. splice lines at first new ++ l) c.pass-passed.ensures.rest
    ∙ splice-both lines ahead at old first c.in_ok-draw.ensures.drawn is new ∙ ap (λ l. splice l at old new) (c.in_ok-draw.ensures.lines ∙ c.self.view_is)

pub returns-clause-gone : goal.returns-clause-gone
returns-clause-gone c =
    let lines = c.draw.new.lines in
    let ahead = c.draw.new.ahead in
    let first = c.min-first.result in
    let at = c.args.at in
    let old = c.args.old in
    let is = c.min-first.ensures ∙ ap (λ k. min old (k - at)) c.len.ensures in
    omega (
      arith,
      c.saturating_add.ensures,
      c.in_ok-gone.ensures.gone,
      c.pass-passed.ensures.bytes,
      ap bytes_of (cut-both lines ahead at old first c.in_ok-draw.ensures.drawn is),
      bytes_of-append (cut_out lines at first) (take (old - first) ahead),
      ap (λ l. bytes_of (cut_out l at old)) (c.in_ok-draw.ensures.lines ∙ c.self.view_is),
    )
