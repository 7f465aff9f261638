-- A move that was made is the machine's, and one that was not leaves all as it was.
use Rattle.std.proofs.Common.{◌≡◌, length, Ok, Err, inl, inr, ap, sym, ◌∙◌, refl}
use Rattle.vs_undo.specs.declared.keep.Keep.{Keep}
use Rattle.vs_undo.specs.declared.parts.Parts.{Parts}
use Rattle.vs_machine.specs.Answers.{AnswersAs, IsIn}
use Rattle.vs_machine.specs.Machine.{State, moving}
use Rattle.vs_machine.specs.Moves.{goal_of, kept_within}
use Rattle.vs_machine.specs.Replies.{says, move_line}
use Rattle.vs_machine.proofs.AnswerLemmas.{as_meant, not_made_answers, same_in}
use Rattle.vs_machine.proofs.LinkLemmas.{goal-links_of}
use Rattle.vs_machine.proofs.moves.travel.Goals as goal

pub returns-in-Ok-clause-answers : goal.returns-in-Ok-clause-answers
returns-in-Ok-clause-answers g c = λ state keep is.
    let gone = c.in-Ok.ensures.gone state.text state.history is.text is.history in
    let meant : goal_of c.args.step state.history.links ≡ Ok c.in-Ok.number =
    ap (goal_of c.args.step) (sym is.history.links) ∙ (goal-links_of c.args.step c.args.history.now ∙ c.in-Ok.ensures.goal) in
    let lines : c.len-lines.result ≡ length (state.history.texts c.in-Ok.number) = c.len-lines.ensures ∙ sym (g.met.S.LineStore.has_lines c.go.new.store _ gone.0) in
    as_meant
    (record {
      reply = c.moved.ensures ∙ ap (λ n. says (move_line c.in-Ok.number n)) lines;
      after = record {
        text = gone.0;
        history = gone.1;
        cursor = c.kept_within.ensures ∙ (ap (λ n. kept_within n c.args.cursor) lines ∙ ap (kept_within (length (state.history.texts c.in-Ok.number))) is.cursor);
      };
      oldest = refl;
      works = λ here. (c.in-Ok.ensures.still (here ∙ sym (ap (λ (p : Parts). p.current) is.history.links))).worked_by;
    })
    (sym (ap moving meant))

pub returns-in-Err-clause-answers : goal.returns-in-Err-clause-answers
returns-in-Err-clause-answers g c =
    not_made_answers c.not_made.result
    (λ answered. (state : State) (keep : Keep) → IsIn g.S.LineStore c.args.store.now c.args.history.now c.args.cursor state
    → AnswersAs g.S.LineStore state keep (moving (goal_of c.args.step state.history.links)) answered c.args.store.now c.go.new.store c.go.new.history)
    c.in-Err.error _ c.not_made.ensures.refused c.not_made.ensures.done c.not_made.ensures.held
    (λ done held. elim c.in-Err.ensures.err [
      | inl here ↦ λ state keep is.
          let meant : goal_of c.args.step state.history.links ≡ Err c.in-Err.error =
          ap (goal_of c.args.step) (sym is.history.links) ∙ (goal-links_of c.args.step c.args.history.now ∙ here) in
          as_meant (record { reply = refl; after = same_in c.in-Err.ensures.atomic.stayed is; oldest = refl; works = c.in-Err.ensures.atomic.stayed.text.worked_by }) (sym (ap moving meant))
      | inr other ↦ elim other [ inl no_memory ↦ absurd (done no_memory) | inr failed ↦ absurd (held failed) ]
    ])
