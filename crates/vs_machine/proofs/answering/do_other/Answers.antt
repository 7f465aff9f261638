use Rattle.std.proofs.Common.{◌≡◌, ℕ, List, length, ap, sym, subst, ◌∙◌, refl, rules}
use Rattle.vs_exparse.specs.Command.{Command, command_of}
use Rattle.vs_exparse.specs.Form.{HasForm}
use Rattle.vs_exparse.specs.declared.command.Command as borrowed
use Rattle.vs_exparse.specs.declared.command.ExErr.TheVariants.{E492}
use Rattle.vs_machine.specs.Answers.{IsIn}
use Rattle.vs_machine.specs.Machine.{State, Meaning, meaning_in, moving, printing, searching}
use Rattle.vs_machine.specs.Machine.Meaning.{Printed, Refused}
use Rattle.vs_machine.specs.Listing.{listing}
use Rattle.vs_machine.specs.Moves.{goal_of}
use Rattle.vs_machine.specs.Shown.{shown_by, shown_lines, showing_of}
use Rattle.vs_machine.specs.declared.answering.Answered.{Answered}
use Rattle.vs_machine.specs.declared.show.Showing.{Showing}
use Rattle.vs_machine.specs.declared.moves.Move.{Move}
use Rattle.vs_machine.specs.declared.moves.Move.TheVariants.{Forward}
use Rattle.vs_machine.proofs.AnswerLemmas.{as_meant, to_move, to_read, to_searched}
use Rattle.vs_machine.proofs.answering.do_other.Goals as goal

-- what is printed so
abbrev print_so : Showing → State → Meaning
print_so showing state = printing (shown_lines showing.numbers state.text) (shown_by showing (length state.text) state.cursor)

pub returns-in-Print-clause-answers : goal.returns-in-Print-clause-answers
returns-in-Print-clause-answers g c =
    to_read g.S.LineStore _ _ c.args.cursor c.args.history.now c.args.keep c.print.result (print_so c.plain.result) (command_of c.args.command.now)
    (λ state lines. ap (λ (s : Showing). print_so s state) c.plain.ensures ∙ ap (λ (command : borrowed.Command). meaning_in state (command_of command) lines) (sym c.in-Print.is)) c.print.ensures.answers

pub returns-in-Number-clause-answers : goal.returns-in-Number-clause-answers
returns-in-Number-clause-answers g c =
    to_read g.S.LineStore _ _ c.args.cursor c.args.history.now c.args.keep c.print-in-Number.result (print_so c.numbered.result) (command_of c.args.command.now)
    (λ state lines. ap (λ (s : Showing). print_so s state) c.numbered.ensures ∙ ap (λ (command : borrowed.Command). meaning_in state (command_of command) lines) (sym c.in-Number.is)) c.print-in-Number.ensures.answers

pub returns-in-Undo-clause-answers : goal.returns-in-Undo-clause-answers
returns-in-Undo-clause-answers g c =
    to_move g.S.LineStore _ _ _ _ c.args.cursor c.args.keep c.travel.result (λ (state : State). moving (goal_of c.undo_move.result state.history.links)) (command_of c.args.command.now)
    (λ state lines. ap (λ (step : Move). moving (goal_of step state.history.links)) c.undo_move.ensures.is ∙ ap (λ (command : borrowed.Command). meaning_in state (command_of command) lines) (sym c.in-Undo.is)) c.travel.ensures.answers

pub returns-in-Redo-clause-answers : goal.returns-in-Redo-clause-answers
returns-in-Redo-clause-answers g c =
    to_move g.S.LineStore _ _ _ _ c.args.cursor c.args.keep c.travel-in-Redo.result (λ (state : State). moving (goal_of Forward state.history.links)) (command_of c.args.command.now)
    (λ state lines. ap (λ (command : borrowed.Command). meaning_in state (command_of command) lines) (sym c.in-Redo.is)) c.travel-in-Redo.ensures.answers

pub returns-in-Earlier-clause-answers : goal.returns-in-Earlier-clause-answers
returns-in-Earlier-clause-answers g c =
    to_move g.S.LineStore _ _ _ _ c.args.cursor c.args.keep c.travel-in-Earlier.result (λ (state : State). moving (goal_of c.earlier_move.result state.history.links)) (command_of c.args.command.now)
    (λ state lines. ap (λ (step : Move). moving (goal_of step state.history.links)) c.earlier_move.ensures.is ∙ ap (λ (command : borrowed.Command). meaning_in state (command_of command) lines) (sym c.in-Earlier.is)) c.travel-in-Earlier.ensures.answers

pub returns-in-Later-clause-answers : goal.returns-in-Later-clause-answers
returns-in-Later-clause-answers g c =
    to_move g.S.LineStore _ _ _ _ c.args.cursor c.args.keep c.travel-in-Later.result (λ (state : State). moving (goal_of c.later_move.result state.history.links)) (command_of c.args.command.now)
    (λ state lines. ap (λ (step : Move). moving (goal_of step state.history.links)) c.later_move.ensures.is ∙ ap (λ (command : borrowed.Command). meaning_in state (command_of command) lines) (sym c.in-Later.is)) c.travel-in-Later.ensures.answers

pub returns-in-Equals-clause-answers : goal.returns-in-Equals-clause-answers
returns-in-Equals-clause-answers g c = λ state lines is.
    as_meant (c.print_number.ensures state c.args.keep c.args.history.now is) (ap (λ (command : borrowed.Command). meaning_in state (command_of command) lines) (sym c.in-Equals.is))

pub returns-in-UndoList-clause-answers : goal.returns-in-UndoList-clause-answers
returns-in-UndoList-clause-answers g c =
    to_move g.S.LineStore _ _ _ _ c.args.cursor c.args.keep c.list.result (λ (state : State). Printed (listing state.history.links.nodes) state.cursor) (command_of c.args.command.now)
    (λ state lines. ap (λ (command : borrowed.Command). meaning_in state (command_of command) lines) (sym c.in-UndoList.is)) c.list.ensures.answers

pub parse_nested-nested-requires : goal.parse_nested-nested-requires
parse_nested-nested-requires g c = (subst (λ (command : borrowed.Command). HasForm (command_of command)) c.in-Global.is c.requires.form).1

pub do_searched-requires-clause-pattern : goal.do_searched-requires-clause-pattern
do_searched-requires-clause-pattern g c = (subst (λ (command : borrowed.Command). HasForm (command_of command)) c.in-Global.is c.requires.form).0

pub returns-in-Global-clause-answers : goal.returns-in-Global-clause-answers
returns-in-Global-clause-answers g c =
    let at : (state : State) (nested : Command) → Meaning = λ state nested. searching (showing_of nested) state c.in-Global.range c.in-Global.invert c.in-Global.pattern.now nested in
    to_searched g.S.LineStore _ _ _ _ c.args.cursor c.args.keep c.do_searched.result (λ (state : State). at state (command_of c.parse_nested-nested.result)) (command_of c.args.command.now)
    (λ state lines. ap (at state) c.parse_nested-nested.ensures.meaning ∙ ap (λ (command : borrowed.Command). meaning_in state (command_of command) lines) (sym c.in-Global.is)) c.do_searched.ensures.answers

pub returns-in-Append : goal.returns-in-Append
returns-in-Append g c =
    let meant : (state : State) (lines : List (List ℕ)) → Refused E492 ≡ meaning_in state (command_of c.args.command.now) lines = λ state lines. search rules in
    record {
      answers = λ state lines is.
          let after : IsIn g.S.LineStore c.args.store.now c.args.history.now c.refused.result.cursor state = record { text = is.text; history = is.history; cursor = ap (λ (a : Answered). a.cursor) c.refused.ensures ∙ is.cursor } in
          as_meant (record { reply = ap (λ (a : Answered). a.reply) c.refused.ensures; after = after; oldest = ap (λ (a : Answered). a.oldest) c.refused.ensures; works = refl }) (meant state lines);
      atomic = record {
        stayed = tt;
        ready = c.requires.ready;
        stays = g.met.S.LineStore.stays_itself c.args.store.now;
        cause = search rules;
      };
    }
