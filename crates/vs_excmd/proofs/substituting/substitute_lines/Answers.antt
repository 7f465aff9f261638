-- The lines that were kept say whether one matched.
use Rattle.std.proofs.Common.{◌∙◌, sym, ap, not, Ok, Some}
use Rattle.vs_edit.specs.Splices.{cut_out}
use Rattle.vs_exparse.specs.Bytes.{is_empty}
use Rattle.vs_exparse.specs.declared.command.ExErr.TheVariants.{E486}
use Rattle.vs_excmd.specs.Errors.{check}
use Rattle.vs_excmd.specs.Change.{bounded}
use Rattle.vs_excmd.specs.Substitute.{has_match, replaced, rewritten}
use Rattle.vs_excmd.proofs.substituting.substitute_lines.Goals as goal

pub returns-then-is_none-clause-leads : goal.returns-then-is_none-clause-leads
returns-then-is_none-clause-leads g c = λ text whole has stands.
    let hits = has_match c.args.finder.now in
    let f = replaced c.args.all c.args.finder.now whole in
    let lines = cut_out text c.args.top c.args.count in
    let state = c.in_ok-state.ensures.rewriting text whole has stands in
    let none = ap (λ xs. is_empty xs) (sym c.as_slice.ensures.value) ∙ (sym c.is_none.ensures ∙ c.if-is_none.true) in
    ap (λ b. bounded text (check b E486 (Ok (Some (rewritten hits f c.args.top lines))))) (state.any ∙ ap not none)

pub returns-clause-leads : goal.returns-clause-leads
returns-clause-leads g c = λ text whole has stands.
    let hits = has_match c.args.finder.now in
    let f = replaced c.args.all c.args.finder.now whole in
    let lines = cut_out text c.args.top c.args.count in
    let state = c.in_ok-state.ensures.rewriting text whole has stands in
    let some = ap (λ xs. is_empty xs) (sym c.as_slice.ensures.value) ∙ (sym c.is_none.ensures ∙ c.if-is_none.false) in
    ap (λ b. check b E486 (Ok (Some (rewritten hits f c.args.top lines)))) (state.any ∙ ap not some)
    ∙ ap (λ e. Ok e) (sym (c.rewritten_plan.ensures.value hits f lines state))
