-- All lines that are asked for have been drawn.
use Rattle.std.proofs.Common.{◌∙◌, ap, sym}
use Rattle.std.proofs.lemmas.Result.{IfOk-weaker}
use Rattle.vs_edit.specs.Splices.{cut_out}
use Rattle.vs_gap.proofs.GapLemmas.{cut-first}
use Rattle.vs_gap.proofs.lines.HeldLines.into_lines.Goals as goal

pub returns : goal.returns
returns c = IfOk-weaker c.into_lines.result _ _
    (λ lines is. is ∙ sym (cut-first c.draw.new.lines c.draw.new.ahead c.args.at c.args.count c.in_ok-draw.ensures.drawn)
    ∙ ap (λ l. cut_out l c.args.at c.args.count) (c.in_ok-draw.ensures.lines ∙ c.self.view_is)) c.into_lines.ensures
