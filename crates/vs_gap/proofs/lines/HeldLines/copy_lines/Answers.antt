-- The lines stand in the first part, in the second, or in both.
use Rattle.std.proofs.Common.{◌≡◌, ◌∙◌, ◌-◌, ◌++◌, ap, drop, min, subst, sym}
use Rattle.std.proofs.lemmas.List.Elements.{All-append, All-drop, All-take}
use Rattle.vs_text.specs.Text.{IsLine, IsText, file_of}
use Rattle.vs_edit.specs.Splices.{cut_out}
use Rattle.vs_gap.proofs.AheadLemmas.{file-append}
use Rattle.vs_gap.proofs.LinesLemmas.{cut-parts}
use Rattle.vs_gap.proofs.lines.HeldLines.copy_lines.Goals as goal

pub returns-clause-bytes : goal.returns-clause-bytes
returns-clause-bytes c =
    let lines = c.self.inside.lines in
    let ahead = c.self.inside.ahead in
    let at = c.args.at in
    let count = c.args.count in
    let first = c.min-first.result in
    let before = c.min-before.result in
    let front = cut_out lines first before in
    let back = cut_out ahead (at - first) (count - before) in
    let first_is = c.min-first.ensures ∙ ap (λ k. min at k) c.len-lines.ensures in
    let before_is = c.min-before.ensures ∙ ap (λ k. min count (k - first)) c.len-lines.ensures in
    c.in_ok-copy_lines-2.ensures.bytes ∙ ap (λ l. l ++ file_of back) c.in_ok-copy_lines.ensures.bytes ∙ sym (file-append front back)
    ∙ ap file_of (sym (cut-parts lines ahead at count first before first_is before_is)) ∙ ap (λ l. file_of (cut_out l at count)) c.self.view_is

pub returns-clause-text : goal.returns-clause-text
returns-clause-text c =
    let lines = c.self.inside.lines in
    let ahead = c.self.inside.ahead in
    let at = c.args.at in
    let count = c.args.count in
    let first = c.min-first.result in
    let before = c.min-before.result in
    let front = cut_out lines first before in
    let back = cut_out ahead (at - first) (count - before) in
    let first_is = c.min-first.ensures ∙ ap (λ k. min at k) c.len-lines.ensures in
    let before_is = c.min-before.ensures ∙ ap (λ k. min count (k - first)) c.len-lines.ensures in
    let back_text = All-take IsLine (count - before) (drop (at - first) ahead) (All-drop IsLine (at - first) ahead c.in_ok-copy_lines-2.ensures.text) in
    subst IsText (sym (cut-parts lines ahead at count first before first_is before_is) ∙ ap (λ l. cut_out l at count) c.self.view_is)
    (All-append IsLine front back c.in_ok-copy_lines.ensures.text back_text)
