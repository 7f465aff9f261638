-- What a session is between two commands, and what a command comes to in it.
use Rattle.std.specs.Prelude.{ℕ, ◌+◌, length, is_some, is_none, Bool, true, false, ◌≡◌, ◌==◌, ◌&&◌, ◌||◌, nat_le}
use Rattle.std.specs.Prelude.{not, min, if◌then◌else◌, List, Option, Some, None, Result, Ok, Err}
use Rattle.vs_host.specs.Disk.{Disk, content_in}
use Rattle.vs_host.specs.Names.{names_of_file}
use Rattle.vs_text.specs.declared.format.Format.{Format}
use Rattle.vs_text.specs.declared.format.Format.TheVariants.{Unix, Dos}
use Rattle.vs_text.specs.Documents.{Document, file_in}
use Rattle.vs_exparse.specs.Command.{Command}
use Rattle.vs_exparse.specs.Command.Command.{Undo, Redo, Earlier, Later, Write, Preserve, Quit, Set, WriteUndo, ReadUndo}
use Rattle.vs_exparse.specs.declared.command.ExErr.{ExErr}
use Rattle.vs_backup.specs.declared.options.WriteOptions.{WriteOptions}
use Rattle.vs_backup.specs.Backups.{backup_of, is_backed}
use Rattle.vs_options.specs.Options.{first_options, full_text, options_with}
use Rattle.vs_options.specs.declared.setting.Options.{Options}
use Rattle.vs_excmd.specs.Meaning.{is_text_command}
use Rattle.vs_excmd.specs.Request.{Instruction}
use Rattle.vs_machine.specs.declared.command.Mark.{Mark}
use Rattle.vs_machine.specs.declared.command.Outcome.{Outcome}
use Rattle.vs_machine.specs.declared.command.Outcome.TheVariants.{Done, NoMemory, Fault, NoUndo}
use Rattle.vs_machine.specs.Machine as machine
use Rattle.vs_machine.specs.Machine.{State, first_state, current_of, is_done, took_effect}
use Rattle.vs_machine.specs.declared.info.FileInfo.{FileInfo}
use Rattle.vs_machine.specs.Replies.{Answer, says, refuses, file_preserved, no_write, no_backup_name, undo_file_written, unstored_line, written_line}
use Rattle.vs_undo.specs.History.{History, history_marked}
use Rattle.vs_undo.specs.declared.keep.Keep.{Keep}
use Rattle.vs_safety.specs.Texts.{Sync}
use Rattle.vs_safety.specs.Writes as writes
use Rattle.vs_safety.specs.Undo.{UndoWrite}
use Rattle.vs_safety.specs.FileWork.{BothFiles, EditedFile, FileWork, UndoFile}
use Rattle.vs_safety.specs.Turns.{Turn, with_sync}
use Rattle.vs_session.specs.declared.taking.TakeErr.{TakeErr}
use Rattle.vs_session.specs.Taken.{IsTaken, outcome_by, taken_reply}

-- The name of the file, the state of the machine, the number of its state that was opened or last written, where there is one, the
-- format that was, how many steps since the last acknowledged sync made a change or moved to another state, counted up to 200, and the
-- options.
pub record SessionState : Type 0 where
  pub name : List ℕ
  pub machine : State
  pub saved : Option ℕ
  pub saved_format : Format
  pub steps : ℕ
  pub options : Options

-- the state in which the document of a file is opened
abbrev pub opened_state : List ℕ → Document → SessionState
opened_state name document = record {
  name = name;
  machine = first_state document.text;
  saved = Some (current_of (first_state document.text));
  saved_format = document.format;
  steps = 0;
  options = first_options document.format;
}

-- the document as it is
abbrev pub document_in : SessionState → Document
document_in state = record { text = state.machine.text; format = state.options.write.format }

-- whether a state is the one that was opened or last written
abbrev pub is_saved : Option ℕ → ℕ → Bool
is_saved None number = false
is_saved (Some saved) number = number == saved

-- whether two formats are the same
abbrev pub is_same_format : Format → Format → Bool
is_same_format Unix Unix = true
is_same_format Dos Dos = true
is_same_format one other = false

-- whether a state and a format are those that were opened or last written
abbrev pub is_clean : Option ℕ → Format → ℕ → Format → Bool
is_clean saved saved_format number format = is_saved saved number && is_same_format saved_format format

-- whether the document has no changes that are not in the edited file
abbrev pub is_clean_in : SessionState → Bool
is_clean_in state = is_clean state.saved state.saved_format (current_of state.machine) state.options.write.format

-- How a command ended: its mark, whether the sync that it began is acknowledged, the folder when it began, and what `rundo` found
-- there. No other command looks at that.
pub record Ended : Type 0 where
  pub mark : Mark
  pub acknowledged : Bool
  pub found : Disk
  pub read : Result History TakeErr

-- whether a command was answered that a call on the folder failed: for it, or for its undo file alone
abbrev pub is_fault : Outcome → Bool
is_fault Done = false
is_fault NoMemory = false
is_fault Fault = true
is_fault NoUndo = true

-- ---- syncs

-- the steps after which the text is synced
abbrev pub steps_between_syncs : ℕ
steps_between_syncs = 200

-- a move to another state of the history
abbrev pub is_move : Command → Bool
is_move (Undo number) = true
is_move Redo = true
is_move (Earlier by writes) = true
is_move (Later by writes) = true
is_move command = false

-- whether a command begins a sync before all else, where so many steps were counted: `preserve` and `w` always, a command of the text
-- or a move after 200 steps, and a line with an error never
abbrev pub begins_after : ℕ → Result Command ExErr → Bool
begins_after steps (Err error) = false
begins_after steps (Ok Preserve) = true
begins_after steps (Ok (Write bang)) = true
begins_after steps (Ok command) = nat_le steps_between_syncs steps && (is_text_command command || is_move command)

-- whether a command begins with a sync
abbrev pub begins_sync : SessionState → Instruction → Bool
begins_sync state instruction = begins_after state.steps instruction.parsed

-- the sync that a command begins, which ended so
abbrev pub sync_in : SessionState → Bool → Sync
sync_in state acknowledged = record { document = document_in state; dirty = not (is_clean_in state); acknowledged = acknowledged }

-- the sync that a command begins, where it begins one
abbrev pub sync_of : SessionState → Instruction → Ended → Option Sync
sync_of state instruction ended = if begins_sync state instruction then Some (sync_in state ended.acknowledged) else None

-- the syncs of the session after a command
abbrev pub syncs_after : SessionState → Instruction → Ended → List Sync → List Sync
syncs_after state instruction ended syncs = with_sync (sync_of state instruction ended) syncs

-- ---- writes

-- whether this is `w`
abbrev pub is_write : Result Command ExErr → Bool
is_write (Ok (Write bang)) = true
is_write parsed = false

-- whether this is `wundo`
abbrev pub is_wundo : Result Command ExErr → Bool
is_wundo (Ok WriteUndo) = true
is_wundo parsed = false

-- whether a command writes files beside the swap files
abbrev pub writes_files : Result Command ExErr → Bool
writes_files parsed = is_write parsed || is_wundo parsed

-- whether this is `rundo`
abbrev pub is_rundo : Result Command ExErr → Bool
is_rundo (Ok ReadUndo) = true
is_rundo parsed = false

-- whether a command writes or reads files beside the swap files
abbrev pub uses_files : Result Command ExErr → Bool
uses_files parsed = writes_files parsed || is_rundo parsed

-- whether a write of the file of this name finds every name taken that its backup may get
abbrev pub lacks_name : WriteOptions → List ℕ → Disk → Bool
lacks_name options name found = ((not options.backup && options.writebackup) && is_some (content_in found name)) && is_none (backup_of options name found)

-- whether a command writes the file, where it is one that does and its sync is acknowledged
abbrev pub begins_write : SessionState → Instruction → Ended → Bool
begins_write state instruction ended = (is_write instruction.parsed && ended.acknowledged) && not (lacks_name state.options.write state.name ended.found)

-- whether a command puts the file back where it does not succeed in writing it: where it began to write it with a backup
abbrev pub puts_back : SessionState → Instruction → Ended → Bool
puts_back state instruction ended = begins_write state instruction ended && is_backed state.options.write state.name ended.found

-- the bytes that a write gives the file
abbrev pub written_bytes : SessionState → List ℕ
written_bytes state = file_in state.options.write.format state.machine.text

-- the write of the file that `w` begins
abbrev pub write_in : SessionState → Disk → writes.Write
write_in state found = record { options = state.options.write; text = state.machine.text; found = found }

-- the undo file that `wundo` stores: of the text and the history as they are
abbrev pub undo_in : SessionState → Disk → UndoWrite
undo_in state found = record { text = state.machine.text; history = state.machine.history; found = found }

-- the undo file that `w` stores with `undofile`: of the text and the history as they are after the write
abbrev pub undo_after : SessionState → Disk → UndoWrite
undo_after state found = record { text = state.machine.text; history = history_marked state.machine.history; found = found }

-- the files that `w` writes
abbrev pub write_work : SessionState → Disk → FileWork
write_work state found = if state.options.undofile then BothFiles (write_in state found) (undo_after state found) else EditedFile (write_in state found)

-- the undo file that a command stores, where it stores one
abbrev pub undo_work : SessionState → Disk → Result Command ExErr → Option FileWork
undo_work state found (Ok WriteUndo) = Some (UndoFile (undo_in state found))
undo_work state found parsed = None

-- the files that a command writes beside the swap files
abbrev pub work_of : SessionState → Instruction → Ended → Option FileWork
work_of state instruction ended =
    if begins_write state instruction ended then Some (write_work state ended.found) else undo_work state ended.found instruction.parsed

-- whether the file was written
abbrev pub has_written : SessionState → Instruction → Ended → Bool
has_written state instruction ended = begins_write state instruction ended && took_effect ended.mark.outcome

-- whether a command writes the file, and then is to store the undo file
abbrev pub stores_both : SessionState → Instruction → Ended → Bool
stores_both state instruction ended = begins_write state instruction ended && state.options.undofile

-- ---- the undo file that is read

-- What is known of a command that ended so: `rundo` found this in the folder, and its mark says so; and only a `w` that was to store
-- the undo file says that it was not stored.
pub record HasFound (state : SessionState) (instruction : Instruction) (ended : Ended) : Type 0 where
  pub read : is_rundo instruction.parsed ≡ true → IsTaken state.machine.text (content_in ended.found (names_of_file state.name).undo) ended.read
      × (ended.mark.outcome ≡ outcome_by ended.read)
  pub unstored : ended.mark.outcome ≡ NoUndo → stores_both state instruction ended ≡ true

-- the history that `rundo` takes from what it found
abbrev pub history_in : Result History TakeErr → Option History
history_in (Ok history) = Some history
history_in (Err error) = None

-- the history that a command takes in place of the old one, where it takes one
abbrev pub history_by : Result Command ExErr → Result History TakeErr → Option History
history_by (Ok ReadUndo) read = history_in read
history_by parsed read = None

-- the history that a command takes
abbrev pub history_taken : Instruction → Ended → Option History
history_taken instruction ended = if is_done ended.mark.outcome then history_by instruction.parsed ended.read else None

-- The state with another history of its text. Where the current state was the one that was opened or last written, that of the new
-- history is the one now. Else none is.
abbrev pub with_history : Option History → SessionState → SessionState
with_history None state = state
with_history (Some history) state = record state {
  machine = record (state.machine) { history = history };
  saved = if is_saved state.saved (current_of state.machine) then Some history.links.current else None;
}

-- ---- replies

-- what the session itself answers to a command that was carried out; all others are the machine's
abbrev pub own_reply : Result Command ExErr → Option Answer
own_reply (Ok Preserve) = Some (says file_preserved)
own_reply (Ok (Quit bang)) = Some (refuses no_write)
own_reply (Ok (Set setting)) = Some (says (full_text setting))
own_reply parsed = None

-- what was written, and whether the undo file was not stored
abbrev pub line_by : Outcome → List ℕ → FileInfo → List ℕ
line_by NoUndo name info = unstored_line name info
line_by outcome name info = written_line name info

-- what is said of the file after a write of so many bytes
abbrev pub info_written : SessionState → ℕ → FileInfo
info_written state size = record { format = state.options.write.format; lines = length state.machine.text; bytes = size }

-- the reply to a write that ended so: what was written, or that no backup name is free
abbrev pub write_reply : SessionState → Outcome → Disk → Answer
write_reply state outcome found =
    if lacks_name state.options.write state.name found then refuses no_backup_name
    else says (line_by outcome state.name (info_written state (length (written_bytes state))))

-- the session's reply to a command that had its effect, found the folder so, and there this undo file
abbrev pub session_reply : SessionState → Outcome → Disk → Result History TakeErr → Result Command ExErr → Option Answer
session_reply state outcome found read (Ok (Write bang)) = Some (write_reply state outcome found)
session_reply state outcome found read (Ok WriteUndo) = Some (says undo_file_written)
session_reply state outcome found read (Ok ReadUndo) = Some (taken_reply read)
session_reply state outcome found read parsed = own_reply parsed

-- the reply to a command that ended so: the session's own where it has one, else that of the machine
abbrev pub answered : Outcome → Option Answer → Answer → Answer
answered Done (Some own) reply = own
answered NoUndo (Some own) reply = own
answered outcome own reply = reply

-- the reply to a command that ended so
abbrev pub reply_of : SessionState → Instruction → Ended → Answer
reply_of state instruction ended =
    answered ended.mark.outcome (session_reply state ended.mark.outcome ended.found ended.read instruction.parsed)
    (machine.reply_of state.machine instruction ended.mark)

-- whether `q` or `q!` is accepted: `q!` always, and `q` where the current state and the format are those that were opened or last written
abbrev pub quits : Result Command ExErr → Bool → Bool
quits (Ok (Quit bang)) clean = bang || clean
quits parsed clean = false

-- whether a command is a `q` or `q!` that is accepted
abbrev pub accepts_quit : SessionState → Instruction → Bool
accepts_quit state instruction = quits instruction.parsed (is_clean_in state)

-- ---- the state after a command

-- the state after the sync that a command begins
abbrev pub after_sync : SessionState → Bool → SessionState
after_sync state synced = record state { steps = if synced then 0 else state.steps }

-- the steps after one that led to the same state, or to another
abbrev pub counted : ℕ → Bool → ℕ
counted steps same = if same then steps else min steps_between_syncs (steps + 1)

-- the options after a command that was carried out
abbrev pub options_set : Options → Result Command ExErr → Options
options_set options (Ok (Set setting)) = options_with options setting
options_set options parsed = options

-- the options after a command that ended so
abbrev pub options_after : Outcome → Options → Result Command ExErr → Options
options_after Done options parsed = options_set options parsed
options_after NoMemory options parsed = options
options_after Fault options parsed = options
options_after NoUndo options parsed = options_set options parsed

-- how a change is kept that a command with this mark makes: it has the time of its mark, and as many changes are kept as the option says
abbrev pub keep_of : SessionState → Mark → Keep
keep_of state mark = record { time = mark.at; levels = state.options.undo_levels }

-- the number of the saved state after a command that the machine carried out, or did not
abbrev pub saved_left : SessionState → Instruction → Mark → Option ℕ
saved_left state instruction mark =
    machine.saved_by mark.outcome state.machine (keep_of state mark) (machine.meaning_of state.machine instruction.parsed instruction.block) state.saved

-- the state after a command was carried out, or was not, as its mark says
abbrev pub carried : SessionState → Instruction → Mark → SessionState
carried state instruction mark =
    let after = machine.state_after state.machine instruction mark state.options.undo_levels in
    record {
      name = state.name;
      machine = after;
      saved = saved_left state instruction mark;
      saved_format = state.saved_format;
      steps = counted state.steps (current_of after == current_of state.machine);
      options = options_after mark.outcome state.options instruction.parsed;
    }

-- the state after a write: the current state of the history has its mark, and it and the format are those that were last written
abbrev pub written_state : SessionState → SessionState
written_state state = record state {
  machine = record (state.machine) { history = history_marked state.machine.history };
  saved = Some (current_of state.machine);
  saved_format = state.options.write.format;
}

-- the state after a command that ended so
abbrev pub state_after : SessionState → Instruction → Ended → SessionState
state_after state instruction ended =
    let synced = after_sync state (begins_sync state instruction && ended.acknowledged) in
    if has_written state instruction ended then written_state synced else with_history (history_taken instruction ended) (carried synced instruction ended.mark)

-- ---- the commands of a run

-- what is kept of a command for the safety of a run
abbrev pub turn_of : SessionState → Instruction → Ended → Turn
turn_of state instruction ended = record {
  found = Some ended.found;
  sync = sync_of state instruction ended;
  write = work_of state instruction ended;
  done = took_effect ended.mark.outcome;
  failed = is_fault ended.mark.outcome;
  reply = (reply_of state instruction ended).bytes;
}
