-- The machine that answers commands: a text with a cursor, and its history.
use Rattle.std.specs.Prelude.{ℕ, Bool, true, false, ◌+◌, nat_le, if◌then◌else◌, List, [], ◌∷◌, ◌++◌, length, decimal, min}
use Rattle.std.specs.declared.option.Option.{Option}
use Rattle.std.specs.Prelude.{Some, None, unwrap_or, Result, Ok, Err}
use Rattle.vs_text.specs.Text.{file_of}
use Rattle.vs_exparse.specs.Command.{Command}
use Rattle.vs_exparse.specs.Command.Command.{Append, Insert, Change, Delete, Move, CopyTo, T, Join, Substitute, Print, Number, Equals, Undo, Redo, Earlier}
use Rattle.vs_exparse.specs.Command.Command.{Later, UndoList, Write, Preserve, Quit, Set, WriteUndo, ReadUndo, Global}
use Rattle.vs_exparse.specs.Nested.{nested_meaning}
use Rattle.vs_exparse.specs.declared.command.Range.{Range}
use Rattle.vs_exparse.specs.declared.command.ExErr.{ExErr}
use Rattle.vs_exparse.specs.declared.command.ExErr.TheVariants.{E492}
use Rattle.vs_excmd.specs.declared.place.Span.{Span}
use Rattle.vs_excmd.specs.Place.{shown, number_shown}
use Rattle.vs_excmd.specs.Change.{spliced}
use Rattle.vs_excmd.specs.Change as effects
use Rattle.vs_excmd.specs.Meaning.{planned}
use Rattle.vs_excmd.specs.Request.{Instruction}
use Rattle.vs_global.specs.Global.{global, marked_by}
use Rattle.vs_undo.specs.declared.error.UndoErr.{UndoErr}
use Rattle.vs_undo.specs.declared.error.UndoErr.TheVariants.{NumbersFull}
use Rattle.vs_undo.specs.declared.TheConstants.{MAX_NUMBER}
use Rattle.vs_undo.specs.declared.keep.Keep.{Keep}
use Rattle.vs_undo.specs.Forgetting.{history_kept, root_kept}
use Rattle.vs_undo.specs.Ways.{way_of}
use Rattle.vs_undo.specs.History.{History, first_history, history_at}
use Rattle.vs_machine.specs.declared.moves.Move.TheVariants as move
use Rattle.vs_machine.specs.Moves.{goal_of, undo_move, earlier_move, later_move, kept_within}
use Rattle.vs_machine.specs.declared.command.Mark.{Mark}
use Rattle.vs_machine.specs.declared.command.Outcome.{Outcome}
use Rattle.vs_machine.specs.declared.command.Outcome.TheVariants.{Done, NoMemory, Fault, NoUndo}
use Rattle.vs_machine.specs.Replies.{Answer, says, refuses, prints, error_text, undo_error_text, change_line, move_line, no_change, out_of_memory, device_fault}
use Rattle.vs_machine.specs.Listing.{listing}
use Rattle.vs_machine.specs.Saved.{saved_after}
use Rattle.vs_machine.specs.Shown.{last_shown, printed_all, shown_in, shown_lines, showing_of}
use Rattle.vs_machine.specs.declared.show.Showing.{Showing}

-- Lines are counted from 1. The cursor is 0 in the text without lines. The text is that of the history's current state.
pub record State : Type 0 where
  pub text : List (List ℕ)
  pub cursor : ℕ
  pub history : History

-- the number of the current state
abbrev pub current_of : State → ℕ
current_of state = state.history.links.current

-- the number that the last change was given, or 0
abbrev pub last_of : State → ℕ
last_of state = state.history.links.last

-- the state in which a file is opened
abbrev pub first_state : List (List ℕ) → State
first_state text = record { text = text; cursor = min 1 (length text); history = first_history text }

-- What a command comes to: an error, no change, a change, a move to a state, nowhere to move to, or bytes to print and the line that
-- the cursor is on afterwards.
pub data Meaning : Type 0 where
  Refused : ExErr → Meaning
  Unchanged : Meaning
  Changed : effects.Change → Meaning
  Moved : ℕ → Meaning
  Stayed : UndoErr → Meaning
  Printed : List ℕ → ℕ → Meaning

-- a command of the text
abbrev pub changing : Result (Option effects.Change) ExErr → Meaning
changing (Err error) = Refused error
changing (Ok None) = Unchanged
changing (Ok (Some change)) = Changed change

-- a move over the history
abbrev pub moving : Result ℕ UndoErr → Meaning
moving (Err error) = Stayed error
moving (Ok number) = Moved number

-- lines that are printed in some form: the cursor goes to the last of them
abbrev pub printing : (Span → List (List ℕ)) → Result Span ExErr → Meaning
printing form (Err error) = Refused error
printing form (Ok span) = Printed (file_of (form span)) span.last

-- lines that are printed in some form, span after span: the cursor goes to the last of them
abbrev pub printing_all : (Span → List (List ℕ)) → ℕ → Result (List Span) ExErr → Meaning
printing_all form cursor (Err error) = Refused error
printing_all form cursor (Ok spans) = Printed (printed_all form spans) (last_shown cursor spans)

-- What a command comes to that is carried out at each of the lines of a range that match, or that do not: all that it shows, where it
-- shows lines so, or one change of the text.
abbrev pub searching : Option Showing → State → Range → Bool → List ℕ → Command → Meaning
searching None state range invert pattern nested = changing (global range invert pattern nested state.text state.cursor)
searching (Some showing) state range invert pattern nested =
    printing_all (shown_lines showing.numbers state.text) state.cursor (shown_in showing state.text (marked_by range invert pattern state.text state.cursor))

-- a number that is printed: the cursor stays
abbrev pub counting : ℕ → Result ℕ ExErr → Meaning
counting cursor (Err error) = Refused error
counting cursor (Ok number) = Printed (decimal number ++ 10 ∷ []) cursor

-- the meaning of a command with these lines as its block. A command that the session answers itself is refused here.
abbrev pub meaning_in : State → Command → List (List ℕ) → Meaning
meaning_in state (Append range) lines = changing (planned (Append range) lines state.text state.cursor)
meaning_in state (Insert range) lines = changing (planned (Insert range) lines state.text state.cursor)
meaning_in state (Change range) lines = changing (planned (Change range) lines state.text state.cursor)
meaning_in state (Delete range count) lines = changing (planned (Delete range count) lines state.text state.cursor)
meaning_in state (Move range to) lines = changing (planned (Move range to) lines state.text state.cursor)
meaning_in state (CopyTo range to) lines = changing (planned (CopyTo range to) lines state.text state.cursor)
meaning_in state (T range to) lines = changing (planned (T range to) lines state.text state.cursor)
meaning_in state (Join range bang count) lines = changing (planned (Join range bang count) lines state.text state.cursor)
meaning_in state (Substitute range pattern replacement all) lines = changing (planned (Substitute range pattern replacement all) lines state.text state.cursor)
meaning_in state (Print range count) lines = printing (shown_lines false state.text) (shown range count (length state.text) state.cursor)
meaning_in state (Number range count) lines = printing (shown_lines true state.text) (shown range count (length state.text) state.cursor)
meaning_in state (Equals range) lines = counting state.cursor (number_shown range (length state.text) state.cursor)
meaning_in state (Undo number) lines = moving (goal_of (undo_move number) state.history.links)
meaning_in state Redo lines = moving (goal_of move.Forward state.history.links)
meaning_in state (Earlier by writes) lines = moving (goal_of (earlier_move by writes) state.history.links)
meaning_in state (Later by writes) lines = moving (goal_of (later_move by writes) state.history.links)
meaning_in state UndoList lines = Printed (listing state.history.links.nodes) state.cursor
meaning_in state (Write bang) lines = Refused E492
meaning_in state Preserve lines = Refused E492
meaning_in state (Quit bang) lines = Refused E492
meaning_in state (Set setting) lines = Refused E492
meaning_in state WriteUndo lines = Refused E492
meaning_in state ReadUndo lines = Refused E492
meaning_in state (Global range invert pattern nested) lines = searching (showing_of (nested_meaning nested)) state range invert pattern (nested_meaning nested)

-- the meaning of a line that was parsed, with its block
abbrev pub meaning_of : State → Result Command ExErr → List (List ℕ) → Meaning
meaning_of state (Err error) lines = Refused error
meaning_of state (Ok command) lines = meaning_in state command lines

-- no change gets a number any more
abbrev pub is_used_up : State → Bool
is_used_up state = nat_le MAX_NUMBER (last_of state)

-- the state after a change, which is kept as this says
abbrev pub changed_state : State → Keep → effects.Change → State
changed_state state keep change =
    let text = spliced state.text change in record { text = text; cursor = change.cursor; history = history_kept text keep state.history }

-- the state after a move to the state of the history with this number
abbrev pub moved_state : State → ℕ → State
moved_state state number = let text = state.history.texts number in record {
  text = text;
  cursor = kept_within (length text) state.cursor;
  history = history_at (way_of state.history.links.nodes number) state.history;
}

-- the reply to a command that was carried out
abbrev pub done_reply : State → Meaning → Answer
done_reply state (Refused error) = refuses (error_text error)
done_reply state Unchanged = says no_change
done_reply state (Changed change) =
    if is_used_up state then refuses (undo_error_text NumbersFull) else says (change_line (last_of state + 1) (length (spliced state.text change)))
done_reply state (Moved number) = says (move_line number (length (state.history.texts number)))
done_reply state (Stayed error) = refuses (undo_error_text error)
done_reply state (Printed bytes cursor) = prints bytes

-- the state after it, where a change is kept as this says
abbrev pub done_state : State → Keep → Meaning → State
done_state state keep (Refused error) = state
done_state state keep Unchanged = state
done_state state keep (Changed change) = if is_used_up state then state else changed_state state keep change
done_state state keep (Moved number) = moved_state state number
done_state state keep (Stayed error) = state
done_state state keep (Printed bytes cursor) = record state { cursor = cursor }

-- where a change was made, the number that the state which is the oldest one after it had before
abbrev pub done_oldest : State → Keep → Meaning → Option ℕ
done_oldest state keep (Changed change) = if is_used_up state then None else Some (unwrap_or (root_kept keep state.history.links) 0)
done_oldest state keep meaning = None

-- the number of the saved state after it, where there is one
abbrev pub done_saved : State → Keep → Meaning → Option ℕ → Option ℕ
done_saved state keep meaning saved = saved_after (done_oldest state keep meaning) (done_state state keep meaning).history.links.nodes saved

-- one step: the reply to a command that ended so, and the state after it
abbrev pub reply_by : Outcome → State → Meaning → Answer
reply_by Done state meaning = done_reply state meaning
reply_by NoMemory state meaning = refuses out_of_memory
reply_by Fault state meaning = refuses device_fault
reply_by NoUndo state meaning = done_reply state meaning

-- the state after a command that ended so
abbrev pub state_by : Outcome → State → Keep → Meaning → State
state_by Done state keep meaning = done_state state keep meaning
state_by NoMemory state keep meaning = state
state_by Fault state keep meaning = state
state_by NoUndo state keep meaning = done_state state keep meaning

-- the saved state after a command that ended so
abbrev pub saved_by : Outcome → State → Keep → Meaning → Option ℕ → Option ℕ
saved_by Done state keep meaning saved = done_saved state keep meaning saved
saved_by NoMemory state keep meaning saved = saved
saved_by Fault state keep meaning saved = saved
saved_by NoUndo state keep meaning saved = done_saved state keep meaning saved

-- the reply to an instruction that ended so
abbrev pub reply_of : State → Instruction → Mark → Answer
reply_of state instruction mark = reply_by mark.outcome state (meaning_of state instruction.parsed instruction.block)

-- A change has the time of its mark, and this many changes are kept.
abbrev pub state_after : State → Instruction → Mark → ℕ → State
state_after state instruction mark levels =
    state_by mark.outcome state (record { time = mark.at; levels = levels }) (meaning_of state instruction.parsed instruction.block)

-- whether a command ended without an error of the host
abbrev pub is_done : Outcome → Bool
is_done Done = true
is_done NoMemory = false
is_done Fault = false
is_done NoUndo = false

-- whether a command that ended so has had its effect: where only its undo file was not stored, it has
abbrev pub took_effect : Outcome → Bool
took_effect Done = true
took_effect NoMemory = false
took_effect Fault = false
took_effect NoUndo = true
