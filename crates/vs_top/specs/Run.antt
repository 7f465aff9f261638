-- What a run of one script over one file writes, and what it keeps.
use Rattle.std.specs.Prelude.{ℕ, Bool, true, false, List, ◌∷◌, [], ◌≡◌, ◌<◌, ◌≤◌, ◌+◌, ◌⊎◌, ◌++◌, ⊤, map, length, take, nat_le, if◌then◌else◌, IsTrue}
use Rattle.std.specs.Prelude.{IfSome}
use Rattle.std.specs.declared.option.Option.{Option}
use Rattle.vs_faults.specs.Faults.{HasRisen}
use Rattle.vs_host.specs.Disk.{Disk}
use Rattle.vs_host.specs.Names.{names_of_file}
use Rattle.vs_host.specs.Trace.{Snapshot}
use Rattle.vs_host.specs.World.{Tells, Scene, content_of}
use Rattle.vs_host.specs.declared.names.Names.{Names}
use Rattle.vs_disk.specs.Runs.{Looks}
use Rattle.vs_pair.specs.Pair.{Rises}
use Rattle.vs_text.specs.Documents.{document_of}
use Rattle.vs_text.specs.Text.{lines_of}
use Rattle.vs_text.specs.Limits.{IsWithinLimits}
use Rattle.vs_excmd.specs.Request.{Instruction}
use Rattle.vs_script.specs.Ahead.{script_limit}
use Rattle.vs_script.specs.Requests.{whole_commands}
use Rattle.vs_script.specs.Script.{commands_of}
use Rattle.vs_machine.specs.declared.command.Mark.{Mark}
use Rattle.vs_safety.specs.Texts.{Sync}
use Rattle.vs_safety.specs.Turns.{Closing, NotBegun, LastSync, Quits, Ran, preserved_line, quit_line}
use Rattle.vs_safety.specs.History as history
use Rattle.vs_safety.specs.History.{syncs_of}
use Rattle.vs_safety.specs.Stretches.{IsFirst}
use Rattle.vs_safety.specs.Writes.{state_in, state_now}
use Rattle.vs_session.specs.declared.session.Session.{Session}
use Rattle.vs_session.specs.Session.{SessionState, is_fault, accepts_quit, sync_in}
use Rattle.vs_session.specs.Opened.{Opened, opened}
use Rattle.vs_session.specs.Fits.{Fits, HasSyncs, names_of}
use Rattle.vs_session.specs.Made.{LeavesNoneMade}
use Rattle.vs_top.specs.History.{Past, AreAnswered, any_error, commands_then, history_of, marks_of, state_of, written}
use Rattle.vs_top.specs.declared.ending.Ending.{Ending}
use Rattle.vs_top.specs.declared.ending.Ending.TheVariants as ending

-- a host tells all that a run depends on, and what it writes
pub record TellsRun (tells : Tells) : Type 0 where
  pub folder : IsTrue tells.folder
  pub script : IsTrue tells.script
  pub output : IsTrue tells.output

-- ---- the commands of the script

-- the commands of the script that is left
abbrev pub commands_in : Scene → List Instruction
commands_in scene = commands_of (lines_of scene.script)

-- the commands of a script that are whole within its limit, and all of them where the script ends within it
abbrev pub commands_within : List ℕ → List Instruction
commands_within script = if nat_le (length script) script_limit then commands_of (lines_of script) else whole_commands (take script_limit script)

-- the file that a run opens
abbrev pub opened_file : Scene → List ℕ → Opened
opened_file scene name = opened name (content_of scene name)

-- ---- what a run answered

-- The commands that a run answered, and how it closed.
pub record Did : Type 0 where
  pub past : Past
  pub closing : Closing

-- One mark was kept for each command, and none of them was an accepted quit.
pub record KeepsMarks (file : Opened) (marks : List Mark) (past : Past) : Type 0 where
  pub marks_are : marks ≡ marks_of past
  pub are_answered : AreAnswered file.state past

-- P holds of the first moment since the start at which the output had n bytes.
pub record HasSince (n : ℕ) (start now : Scene) (P : Snapshot → Type 0) : Type 0 where
  pub moments : List Snapshot
  pub added : now.trace ≡ moments ++ start.trace
  pub first : Snapshot
  pub begins : IsFirst n moments first
  pub has : P first

-- how long the output is where the replies to these commands are whole in it
abbrev pub answered_at : Opened → Scene → Did → ℕ
answered_at file old did = length old.output + length (written file did.past)

-- no call on the folder has failed since the last reply was whole
abbrev pub HasNoFaultSince : Opened → Scene → Scene → Did → Type 0
HasNoFaultSince file old new did = HasSince (answered_at file old did) old new (λ m. new.folder_faults ≡ m.folder_faults)

-- The sync at the script's end was made since the last reply was whole: some swap file stands in every image with a generation above each
-- that stood in some image then.
abbrev pub HasRisenSince : Closing → Opened → Scene → Scene → Did → Type 0
HasRisenSince NotBegun file old new did = ⊤
HasRisenSince (LastSync sync) file old new did = HasSince (answered_at file old did) old new (λ m. Rises (names_of_file file.name) m.folder new.folder)
HasRisenSince Quits file old new did = ⊤

-- These commands were answered, the opening reply and their replies were written, and the run did not begin to close. Since then nothing
-- has changed in the folder, and no call on it failed.
pub record HasAnswered (file : Opened) (old new : Scene) (did : Did) : Type 0 where
  pub output : new.output ≡ old.output ++ written file did.past
  pub closing : did.closing ≡ NotBegun
  pub stays : HasSince (answered_at file old did) old new (λ m. state_now new ≡ state_in m)

-- All commands of the script were answered, and the text was synced, or that failed.
pub record CameToEnd (synced : Bool) (file : Opened) (old new : Scene) (did : Did) : Type 0 where
  pub all : commands_then did.past [] ≡ commands_in old
  pub ended : new.script ≡ []
  pub closing : did.closing ≡ LastSync (sync_in (state_of file.state did.past) synced)

-- The commands before an accepted quit were answered.
pub record CameToQuit (file : Opened) (old : Scene) (did : Did) : Type 0 where
  pub quit : Instruction
  pub rest : List Instruction
  pub before : commands_in old ≡ commands_then did.past (quit ∷ rest)
  pub accepted : accepts_quit (state_of file.state did.past) quit ≡ true
  pub closing : did.closing ≡ Quits

-- A run closed: it came to the script's end or to an accepted quit.
abbrev pub Closes : Bool → Opened → Scene → Scene → Did → Type 0
Closes synced file old new did = CameToEnd synced file old new did ⊎ CameToQuit file old did

-- the last line of a run
abbrev pub closing_line : Closing → List ℕ
closing_line NotBegun = []
closing_line (LastSync sync) = preserved_line
closing_line Quits = quit_line

-- It came to the script's end or to an accepted quit, and wrote the last line.
pub record AnswersAll (errors : Bool) (file : Opened) (old new : Scene) (did : Did) : Type 0 where
  pub closes : Closes true file old new did
  pub output : new.output ≡ old.output ++ (written file did.past ++ closing_line did.closing)
  pub errors_are : any_error file.state did.past ≡ errors
  pub no_fault : HasNoFaultSince file old new did
  pub risen : HasRisenSince did.closing file old new did

-- It answered the commands that were whole in what was taken of the script.
pub record AnswersTaken (file : Opened) (old new : Scene) (did : Did) : Type 0 where
  pub taken : List ℕ
  pub script : old.script ≡ taken ++ new.script
  pub commands : commands_then did.past [] ≡ whole_commands taken
  pub answered : HasAnswered file old new did

-- The script has more bytes than its limit. It answered the commands that are whole within that.
pub record AnswersLimit (file : Opened) (old new : Scene) (did : Did) : Type 0 where
  pub longer : script_limit < length old.script
  pub commands : commands_then did.past [] ≡ whole_commands (take script_limit old.script)
  pub answered : HasAnswered file old new did

-- these are the first commands of the script, within its limit
abbrev pub IsWithin : Scene → Did → Type 0
IsWithin old did = (rest : List Instruction) × (commands_within old.script ≡ commands_then did.past rest)

-- these commands and the next one were read: the script's end was seen, or they are whole in what was taken of it
abbrev pub WereRead : Past → Instruction → Scene → Scene → Type 0
WereRead past next old new =
    (new.script ≡ [])
    ⊎ ((taken : List ℕ) × (more : List Instruction) × (old.script ≡ taken ++ new.script) × (whole_commands taken ≡ commands_then past (next ∷ more)))

-- There was no memory for the command that was read next. Those before it were answered.
pub record LacksMemory (file : Opened) (old new : Scene) (did : Did) : Type 0 where
  pub next : Instruction
  pub rest : List Instruction
  pub first : commands_within old.script ≡ commands_then did.past (next ∷ rest)
  pub read : WereRead did.past next old new
  pub answered : HasAnswered file old new did

-- No command was answered, and nothing was written.
pub record AnswersNone (old new : Scene) (marks : List Mark) : Type 0 where
  pub none : marks ≡ []
  pub output : new.output ≡ old.output

-- There was no memory before the opening reply. No file stays under a name under which one was made.
pub record LacksAtOnce (old new : Scene) (marks : List Mark) : Type 0 where
  pub answered : AnswersNone old new marks
  pub cleared : LeavesNoneMade old.folder new.folder

-- what was whole in the output before the last reply: nothing before the opening reply
abbrev pub written_before : Opened → Past → List ℕ
written_before file [] = []
written_before file (last ∷ earlier) = written file earlier

-- The last reply to the first commands of the script, or else the opening reply, was written in part.
pub record IsCutShort (file : Opened) (old new : Scene) (did : Did) : Type 0 where
  pub first : IsWithin old did
  pub closing : did.closing ≡ NotBegun
  pub count : ℕ
  pub output : new.output ≡ old.output ++ take count (written file did.past)
  pub whole : length (written_before file did.past) ≤ count

-- The last line was written in part.
pub record IsCutLast (file : Opened) (old new : Scene) (did : Did) : Type 0 where
  pub closes : Closes true file old new did
  pub count : ℕ
  pub output : new.output ≡ old.output ++ (written file did.past ++ take count (closing_line did.closing))
  pub no_fault : HasNoFaultSince file old new did
  pub risen : HasRisenSince did.closing file old new did

-- The last sync or the removal failed, and the last line was not written.
pub record FailsToClose (file : Opened) (old new : Scene) (did : Did) : Type 0 where
  pub closes : Closes false file old new did
  pub output : new.output ≡ old.output ++ written file did.past

-- ---- the swap files that it leaves

-- What stands after these syncs, by how a run closed. Before it closes some session is in this state and fits the folder, so that both
-- swap files are there. After the sync at the script's end some session fits it with that sync, too. An accepted quit leaves none.
abbrev pub StandsAfter : Names → SessionState → List Sync → Closing → Disk → Type 0
StandsAfter names state syncs NotBegun folder = (session : Session) × (names_of session ≡ names) × Fits session folder state syncs
StandsAfter names state syncs (LastSync sync) folder = HasSyncs names (sync ∷ syncs) folder
StandsAfter names state syncs Quits folder = ⊤

-- The swap files are as the closing of a run leaves them.
abbrev pub KeepsSwap : Opened → Did → Disk → Type 0
KeepsSwap file did folder = StandsAfter (names_of_file file.name) (state_of file.state did.past) (syncs_of (history_of file did.past)) did.closing folder

-- ---- failed calls

-- the counts of the calls that failed: reads of the script, writes of the output, and calls on the folder
pub record Counts : Type 0 where
  pub script : ℕ
  pub output : ℕ
  pub folder : ℕ

-- the three counts of failed calls
abbrev pub counts_of : Scene → Counts
counts_of scene = record { script = scene.script_faults; output = scene.out_faults; folder = scene.folder_faults }

-- The counts of the script and of the output are as before. That of the folder may have risen in commands that were answered so.
pub record OnlyFolder (old new : Counts) : Type 0 where
  pub script : new.script ≡ old.script
  pub output : new.output ≡ old.output
  pub later : old.folder ≤ new.folder

-- a mark says that a call on the folder failed, only where its count rose
abbrev pub FaultHasCause : Counts → Counts → Mark → Type 0
FaultHasCause old new mark = is_fault mark.outcome ≡ true → HasRisen old.folder new.folder

-- ---- the file

-- a file whose text is within its limits
abbrev pub FileFits : Option (List ℕ) → Type 0
FileFits file = IfSome file (λ bytes. IsWithinLimits ((document_of bytes).text))

-- a run over a file that has a swap file ends with `SwapFound`, unless it had no memory or a call failed before
abbrev pub EndsBarred : Ending → Type 0
EndsBarred end = (end ≡ ending.SwapFound) ⊎ (end ≡ ending.NoMemory) ⊎ (end ≡ ending.FolderFault)

-- It answers no command, and only looks at the folder.
pub record IsBarred (old new : Scene) (end : Ending) (marks : List Mark) : Type 0 where
  pub ended : EndsBarred end
  pub answered : AnswersNone old new marks
  pub looks : Looks old new

-- The times of the marks are the clock's answers, in order; an accepted quit took one answer more.
pub record IsTimed (old new : Scene) (marks : List Mark) : Type 0 where
  pub more : List ℕ
  pub one : length more ≤ 1
  pub is : new.answers ≡ (old.answers ++ map (λ mark. mark.at) marks) ++ more

-- ---- a run

-- a run as the promise sees it
abbrev pub ran_of : List ℕ → Scene → Did → Ran
ran_of name old did = history.ran_of (history_of (opened_file old name) did.past) did.closing
