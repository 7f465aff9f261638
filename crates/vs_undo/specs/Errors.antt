-- Errors of a store as errors of a move.
use Rattle.std.specs.Prelude.{◌≡◌, ◌⊎◌}
use Rattle.vs_edit.specs.declared.store.StoreErr.{StoreErr}
use Rattle.vs_edit.specs.declared.store.StoreErr.TheVariants as store
use Rattle.vs_undo.specs.declared.error.UndoErr.{UndoErr}
use Rattle.vs_undo.specs.declared.error.UndoErr.TheVariants.{NoMemory, Failed}

-- the same cause
abbrev pub undo_err : StoreErr → UndoErr
undo_err store.NoMemory = NoMemory
undo_err store.Failed = Failed

-- A call failed with its refusal, where this holds, or for want of memory, or with its store.
abbrev pub IsMoveErr : UndoErr → Type 0 → UndoErr → Type 0
IsMoveErr refusal holds error = ((error ≡ refusal) × holds) ⊎ ((error ≡ NoMemory) ⊎ (error ≡ Failed))
