-- What `rundo` finds under the name of the undo file, and what comes of it.
use Rattle.std.specs.Prelude.{◌≡◌, ℕ, List, length, Option, None, Result, Ok, Err, IsSomeAnd}
use Rattle.vs_machine.specs.Replies.{Answer, says, refuses, device_fault, no_undo_file, not_undo_file, out_of_memory}
use Rattle.vs_machine.specs.Replies.{undo_file_corrupted, undo_file_encrypted, undo_file_misfit, undo_file_of_other, undo_file_read, undo_file_version}
use Rattle.vs_machine.specs.declared.command.Outcome.{Outcome}
use Rattle.vs_machine.specs.declared.command.Outcome.TheVariants.{Done, NoMemory, Fault}
use Rattle.vs_undo.specs.History.{History}
use Rattle.vs_ufile.specs.declared.error.UfKind.{UfKind}
use Rattle.vs_ufile.specs.declared.error.UfKind.TheVariants as kind
use Rattle.vs_ufile.specs.Decode.{IsUndoFile}
use Rattle.vs_ufile.specs.Signature.{IsUnreadable}
use Rattle.vs_ufile.specs.Values as file
use Rattle.vs_ubind.specs.declared.binding.BindErr.TheVariants.{EntryDoesNotFit}
use Rattle.vs_ubind.specs.Binding as binding
use Rattle.vs_ubind.specs.Binding.{IsOfText}
use Rattle.vs_ubind.specs.Bound.{IsBound}
use Rattle.vs_safety.specs.Texts.{Text}
use Rattle.vs_session.specs.declared.taking.TakeErr.{TakeErr}
use Rattle.vs_session.specs.declared.taking.TakeErr.TheVariants as take

-- the bytes are an undo file whose data has this
abbrev pub HasData : (file.History → Type 0) → List ℕ → Type 0
HasData P bytes = (contents : file.History) × IsUndoFile contents bytes × P contents

-- The history that an undo file stands for at this text, or why there is none. Where memory ran out or a call failed, nothing is said
-- of the file.
abbrev pub IsTaken : Text → Option (List ℕ) → Result History TakeErr → Type 0
IsTaken text found (Ok history) = IsSomeAnd found (HasData (λ contents. IsBound contents text history))
IsTaken text found (Err take.NoFile) = found ≡ None
IsTaken text found (Err (take.Unreadable error)) = IsSomeAnd found (IsUnreadable error)
IsTaken text found (Err take.OtherText) = IsSomeAnd found (HasData (λ contents. IsOfText contents text → ⊥))
IsTaken text found (Err (take.Misfit number)) = IsSomeAnd found (HasData (λ contents. binding.IsRefused contents text (EntryDoesNotFit number)))
IsTaken text found (Err take.NoMemory) = Unit {0}
IsTaken text found (Err take.Failed) = Unit {0}

-- how `rundo` ends, by what it found
abbrev pub outcome_by : Result History TakeErr → Outcome
outcome_by (Ok history) = Done
outcome_by (Err take.NoFile) = Done
outcome_by (Err (take.Unreadable error)) = Done
outcome_by (Err take.OtherText) = Done
outcome_by (Err (take.Misfit number)) = Done
outcome_by (Err take.NoMemory) = NoMemory
outcome_by (Err take.Failed) = Fault

-- why bytes are no undo file
abbrev pub unreadable_text : UfKind → ℕ → List ℕ
unreadable_text kind.NotUndo at = not_undo_file
unreadable_text kind.Version at = undo_file_version
unreadable_text kind.Encrypted at = undo_file_encrypted
unreadable_text kind at = undo_file_corrupted at

-- the reply to `rundo`, by what it found
abbrev pub taken_reply : Result History TakeErr → Answer
taken_reply (Ok history) = says (undo_file_read history.links.current (length history.links.nodes))
taken_reply (Err take.NoFile) = refuses no_undo_file
taken_reply (Err (take.Unreadable error)) = refuses (unreadable_text error.kind error.at)
taken_reply (Err take.OtherText) = refuses undo_file_of_other
taken_reply (Err (take.Misfit number)) = refuses (undo_file_misfit number)
taken_reply (Err take.NoMemory) = refuses out_of_memory
taken_reply (Err take.Failed) = refuses device_fault
