-- What a session answers to a request over the text of a store with its undo tree.
use Rattle.std.specs.Prelude.{◌≡◌, ◌⊎◌, ℕ, true, List, None, Result, Ok, Err}
use Rattle.vs_edit.specs.Splices.{IsSmallSplice}
use Rattle.vs_edit.specs.State.{WorksAtMost}
use Rattle.vs_edit.specs.declared.store.LineStore.{Ghosts}
use Rattle.vs_exparse.specs.declared.command.ExErr.{ExErr}
use Rattle.vs_excmd.specs.declared.answer.PlanErr.{PlanErr}
use Rattle.vs_excmd.specs.declared.answer.PlanErr.TheVariants as plan
use Rattle.vs_excmd.specs.declared.place.Span.{Span}
use Rattle.vs_excmd.specs.Request.{Instruction}
use Rattle.vs_undo.specs.Ways.{way_of}
use Rattle.vs_undo.specs.History.{History, IsHistory, history_at}
use Rattle.vs_undo.specs.declared.error.UndoErr.{UndoErr}
use Rattle.vs_undo.specs.declared.error.UndoErr.TheVariants.{NoMemory, Failed}
use Rattle.vs_undo.specs.declared.parts.Parts.{Parts}
use Rattle.vs_undo.specs.declared.keep.Keep.{Keep}
use Rattle.vs_machine.specs.Machine.{State, Meaning, current_of, meaning_of, done_oldest, done_reply, done_state, is_used_up}
use Rattle.vs_machine.specs.Machine.Meaning.{Changed, Moved, Printed, Refused, Stayed, Unchanged}
use Rattle.vs_machine.specs.Replies.{error_text, refuses}
use Rattle.vs_machine.specs.Shown.{last_shown, printed_all, shown_lines}
use Rattle.vs_machine.specs.declared.answering.Answered.{Answered}
use Rattle.vs_machine.specs.declared.searching.Output.{Output}
use Rattle.vs_machine.specs.declared.show.Showing.{Showing}

-- A store, an undo tree and the line of a cursor are in a state of the machine: the store has the text of the state, and with it the
-- tree is the history of the state.
pub record IsIn {S : Type 0} (g : Ghosts S) (store : S) (tree : Parts) (line : ℕ) (state : State) : Type 0 where
  pub text : (g.shows store).present.Is state.text
  pub history : IsHistory tree state.text state.history
  pub cursor : line ≡ state.cursor

-- The pages that a command works which comes to this in a state: no more than it may for a small change that is made, any for another one and
-- for a move to another state, and none else.
abbrev pub WorksAs : State → Meaning → ℕ → (ℕ → ℕ) → (ℕ → ℕ) → Type 0
WorksAs state (Refused error) most old new = new ≡ old
WorksAs state Unchanged most old new = new ≡ old
WorksAs state (Changed change) most old new =
    (is_used_up state ≡ true → new ≡ old) × (IsSmallSplice state.text change.top change.old change.new → WorksAtMost most old new)
WorksAs state (Moved number) most old new = number ≡ current_of state → new ≡ old
WorksAs state (Stayed error) most old new = new ≡ old
WorksAs state (Printed bytes line) most old new = new ≡ old

-- The reply is the machine's to what a command comes to in a state, where a change is kept as this says, and the store, the tree and
-- the cursor are in the state after it. The number is the one that the oldest state had before a change.
pub record AnswersAs {S : Type 0} (g : Ghosts S) (state : State) (keep : Keep) (meaning : Meaning)
    (answered : Answered) (before store : S) (tree : Parts) : Type 0 where
  pub reply : answered.reply ≡ done_reply state meaning
  pub after : IsIn g store tree answered.cursor (done_state state keep meaning)
  pub oldest : answered.oldest ≡ done_oldest state keep meaning
  pub works : WorksAs state meaning (g.shows before).present.most (g.shows before).present.worked_by (g.shows store).present.worked_by

-- An answer refuses a command for this error, which is one of the command.
abbrev pub IsRefusal : PlanErr → ℕ → Answered → Type 0
IsRefusal (plan.Ex error) cursor answered = answered ≡ record { reply = refuses (error_text error); cursor = cursor; oldest = None }
IsRefusal plan.NoMemory cursor answered = ⊥
IsRefusal plan.Failed cursor answered = ⊥

-- What was shown is what these lines of a store come to, one span after the other.
pub record HasShown {S : Type 0} (g : Ghosts S) (store : S) (showing : Showing) (meant : Result (List Span) ExErr) (cursor : ℕ) (output : Output) : Type 0 where
  pub spans : List Span
  pub are : meant ≡ Ok spans
  pub bytes : (text : List (List ℕ)) → (g.shows store).present.Is text → output.bytes.items ≡ printed_all (shown_lines showing.numbers text) spans
  pub last : output.cursor ≡ last_shown cursor spans

-- what a request comes to
abbrev pub meaning_at : State → Instruction → Meaning
meaning_at state instruction = meaning_of state instruction.parsed instruction.block

-- The tree has moved to a state, and the store has the text of that state.
abbrev pub HasGone : {S : Type 0} → Ghosts S → Parts → Parts → S → S → ℕ → Type 0
HasGone g old new before after goal =
    (text : List (List ℕ)) (history : History) → (g.shows before).present.Is text → IsHistory old text history
    → (g.shows after).present.Is (history.texts goal) × IsHistory new (history.texts goal) (history_at (way_of history.links.nodes goal) history)

-- A move was not made since there is nowhere to go, or there was no memory, or the store failed.
abbrev pub IsWhy : Result ℕ UndoErr → UndoErr → Type 0
IsWhy goal error = (goal ≡ Err error) ⊎ ((error ≡ NoMemory) ⊎ (error ≡ Failed))
