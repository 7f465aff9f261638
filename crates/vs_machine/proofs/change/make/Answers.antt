-- The splice that was planned, and the history with one change more.
use Rattle.std.proofs.Common.{Ok, None, inl, inr, sym, subst, ◌∙◌}
use Rattle.vs_excmd.specs.Answer.{effect_of}
use Rattle.vs_excmd.specs.Change.{Change}
use Rattle.vs_undo.specs.declared.error.UndoErr.{UndoErr}
use Rattle.vs_machine.specs.Answers.{AnswersAs, IsIn}
use Rattle.vs_machine.specs.Machine.{State, changing}
use Rattle.vs_machine.specs.Machine.Meaning.{Changed}
use Rattle.vs_machine.specs.Replies.{refuses, undo_error_text}
use Rattle.vs_machine.proofs.AnswerLemmas.{as_meant, made, not_made_answers, not_numbered, same_in}
use Rattle.vs_machine.proofs.MeaningLemmas.{meaning_of_splice}
use Rattle.vs_machine.proofs.change.make.Goals as goal

pub returns-in-Ok-clause-answers : goal.returns-in-Ok-clause-answers
returns-in-Ok-clause-answers g c =
    let change : Change = record { top = c.in-Splice.top; old = c.in-Splice.old; new = c.deref.result.now; cursor = c.in-Splice.line } in
    λ state is.
    let has = c.in-Ok.ensures.changed.spliced.text state.text is.text in
    as_meant (made g.S.LineStore state c.args.keep c.in-Ok.pushed.number c.len.result c.unwrap_or.result c.in-Ok.pushed.root change c.change-in-Ok.result c.args.history.now c.change.new.tree c.args.store.now c.change.new.text is.history
    c.in-Ok.ensures.room c.in-Ok.ensures.number c.in-Ok.ensures.root c.unwrap_or.ensures (c.len.ensures ∙ sym (g.met.S.LineStore.has_lines c.change.new.text _ has)) c.change-in-Ok.ensures has
    (c.in-Ok.ensures.changed.history state.text state.history is.text is.history)
    (c.in-Ok.ensures.changed.spliced.works state.text is.text)) (meaning_of_splice c.args.plan change c.in-Splice.is c.deref.ensures.value)

pub returns-clause-answers : goal.returns-clause-answers
returns-clause-answers g c =
    let change : Change = record { top = c.in-Splice.top; old = c.in-Splice.old; new = c.deref.result.now; cursor = c.in-Splice.line } in
    not_made_answers c.not_made.result
    (λ answered. (state : State) → IsIn g.S.LineStore c.args.store.now c.args.history.now c.args.cursor state
    → AnswersAs g.S.LineStore state c.args.keep (changing (Ok (effect_of c.args.plan))) answered c.args.store.now c.change.new.text c.change.new.tree)
    c.in-Err.error _ c.not_made.ensures.refused c.not_made.ensures.done c.not_made.ensures.held
    (λ done held. elim c.in-Err.ensures.err [
      | inl full ↦ λ state is.
          let answers = not_numbered g.S.LineStore state c.args.keep c.args.cursor change c.args.history.now c.change.new.tree c.args.store.now c.change.new.text is.history full.1
          (same_in c.in-Err.ensures.atomic.stayed is) c.in-Err.ensures.atomic.stayed.text in
          as_meant (subst (λ (e : UndoErr). AnswersAs g.S.LineStore state c.args.keep (Changed change) (record { reply = refuses (undo_error_text e); cursor = c.args.cursor; oldest = None }) c.args.store.now c.change.new.text c.change.new.tree)
          (sym full.0) answers) (meaning_of_splice c.args.plan change c.in-Splice.is c.deref.ensures.value)
      | inr other ↦ elim other [ inl no_memory ↦ absurd (done no_memory) | inr failed ↦ absurd (held failed) ]
    ])
