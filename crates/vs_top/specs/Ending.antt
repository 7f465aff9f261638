-- The endings of a run: the exit status of each and its line on standard error, and which error leads to which.
use Rattle.std.specs.Prelude.{ℕ, List, codes, Some, None, Ok, Err}
use Rattle.std.specs.declared.option.Option.{Option}
use Rattle.std.specs.declared.result.Result.{Result}
use Rattle.vs_modes.specs.Modes.{Ended}
use Rattle.vs_modes.specs.declared.error.ModeErr.{ModeErr}
use Rattle.vs_modes.specs.declared.error.ModeErr.TheVariants as refusal
use Rattle.vs_modes.specs.declared.recovering.Recovery.{Recovery}
use Rattle.vs_modes.specs.declared.recovering.Recovery.TheVariants as recovery
use Rattle.vs_session.specs.declared.open.OpenErr.{OpenErr}
use Rattle.vs_session.specs.declared.open.OpenErr.TheVariants as opening
use Rattle.vs_top.specs.declared.ending.Ending.{Ending}
use Rattle.vs_top.specs.declared.ending.Ending.TheVariants as ending
use Rattle.vs_edit.specs.declared.store.StoreErr.{StoreErr}
use Rattle.vs_edit.specs.declared.store.StoreErr.TheVariants as store
use Rattle.vs_script.specs.declared.reader.ScriptErr.{ScriptErr}
use Rattle.vs_script.specs.declared.reader.ScriptErr.TheVariants as script

-- the exit status
abbrev pub status_of : Ending → ℕ
status_of ending.Done = 0
status_of ending.WithErrors = 1
status_of ending.Usage = 2
status_of ending.SwapFound = 3
status_of ending.NoSwap = 4
status_of ending.ScriptFault = 5
status_of ending.OutputFault = 6
status_of ending.FolderFault = 7
status_of ending.NoMemory = 8
status_of ending.Encrypted = 9
status_of ending.NotSwap = 10
status_of ending.Salvaged = 11
status_of (ending.TextLimit size) = 12
status_of ending.ScriptTooLong = 13

-- the line for standard error, where there is one
abbrev pub message_of : Ending → Option (List ℕ)
message_of ending.Done = None
message_of ending.WithErrors = None
message_of ending.Usage = Some (codes "usage: edit NAME | recover NAME | discard NAME | info NAME | stress N | pair NAME NAME")
message_of ending.SwapFound = Some (codes "swap file found")
message_of ending.NoSwap = Some (codes "no swap file")
message_of ending.ScriptFault = Some (codes "script fault")
message_of ending.OutputFault = Some (codes "output fault")
message_of ending.FolderFault = Some (codes "folder fault")
message_of ending.NoMemory = Some (codes "out of memory")
message_of ending.Encrypted = Some (codes "encrypted swap file")
message_of ending.NotSwap = Some (codes "not a swap file")
message_of ending.Salvaged = None
message_of (ending.TextLimit size) = Some (codes "text too large")
message_of ending.ScriptTooLong = Some (codes "script too long")

-- the ending after the script could not be read on
abbrev pub script_ending : ScriptErr → Ending
script_ending script.Failed = ending.ScriptFault
script_ending script.TooLong = ending.ScriptTooLong

-- the ending after a file could not be opened
abbrev pub open_ending : OpenErr → Ending
open_ending opening.SwapFound = ending.SwapFound
open_ending (opening.TextLimit size) = ending.TextLimit size
open_ending opening.Failed = ending.FolderFault
open_ending opening.NoMemory = ending.NoMemory

-- the ending after a store failed
abbrev pub store_ending : StoreErr → Ending
store_ending store.NoMemory = ending.NoMemory
store_ending store.Failed = ending.FolderFault

-- the ending of a run that went on to the script's end, or stopped before it
abbrev pub ending_in : Result Ending Ending → Ending
ending_in (Ok end) = end
ending_in (Err end) = end

-- the ending of a mode that was refused
abbrev pub mode_ending : ModeErr → Ending
mode_ending refusal.NoSwap = ending.NoSwap
mode_ending refusal.Encrypted = ending.Encrypted
mode_ending refusal.NotSwap = ending.NotSwap
mode_ending refusal.OutputFailed = ending.OutputFault
mode_ending refusal.FolderFailed = ending.FolderFault
mode_ending refusal.NoMemory = ending.NoMemory

-- the ending of `recover`, by whether markers stand in what it wrote
abbrev pub recovery_ending : Recovery → Ending
recovery_ending recovery.Whole = ending.Done
recovery_ending recovery.Marked = ending.Salvaged

-- the ending of a mode that did its work, or of one that was refused
abbrev pub ended_by : Ended (Unit {0}) → Ending
ended_by (Ok done) = ending.Done
ended_by (Err why) = mode_ending why

-- the ending of `recover`
abbrev pub recovered_by : Ended Recovery → Ending
recovered_by (Ok recovery) = recovery_ending recovery
recovered_by (Err why) = mode_ending why
