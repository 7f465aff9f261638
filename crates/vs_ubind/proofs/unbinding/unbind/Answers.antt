use Rattle.std.proofs.Common.{◌≡◌, ◌∙◌, max, ap, arith}
use Rattle.vs_undo.specs.declared.parts.Parts.{Parts}
use Rattle.vs_ubind.specs.Unbound.{filed, with_next}
use Rattle.vs_ubind.proofs.Meant.{data_next}
use Rattle.vs_ubind.proofs.unbinding.unbind.Goals as goal

pub returns-clause-made : goal.returns-clause-made
returns-clause-made g c = λ lines history is tells.
    let shown = (g.S.LineStore.shows c.args.text.now).present.lines in
    let count : c.in_ok-lines.lines ≡ max 1 shown = omega (arith, c.in_ok-lines.ensures, c.max.ensures, c.len.ensures) in
    data_next c.args.save_next _ c.in_ok-digest.digest c.in_ok-lines.lines shown c.args.tree.now lines history c.parts.ensures.sound
    (c.in_ok-contents.ensures.data ∙ ap (λ (p : Parts). filed c.in_ok-digest.digest c.in_ok-lines.lines (with_next c.args.save_next p)) c.parts.ensures.parts)
    (c.in_ok-digest.ensures.digest lines is) count (g.met.S.LineStore.has_lines c.args.text.now lines is) tells
