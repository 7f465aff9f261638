-- What is known of a run after its file was opened, between two commands, and where it begins to close.
use Rattle.std.specs.Prelude.{ℕ, Bool, true, not, List, [], ◌∷◌, ◌≡◌, ◌≤◌, ◌+◌, All, length, IsTrue}
use Rattle.vs_host.specs.Names.{names_of_file}
use Rattle.vs_host.specs.World.{Tells, Scene, content_of}
use Rattle.vs_text.specs.Documents.{Document}
use Rattle.vs_excmd.specs.Request.{Instruction}
use Rattle.vs_script.specs.Ahead.{script_limit}
use Rattle.vs_machine.specs.Replies.{opening_of}
use Rattle.vs_machine.specs.declared.command.Mark.{Mark}
use Rattle.vs_safety.specs.Turns.{opened}
use Rattle.vs_safety.specs.History.{HasBegun, Waits, syncs_of}
use Rattle.vs_safety.specs.Causes.{IsCounted, script_count, output_count, folder_count}
use Rattle.vs_session.specs.declared.session.Session.{Session}
use Rattle.vs_session.specs.declared.ending.End.{End}
use Rattle.vs_session.specs.declared.ending.End.TheVariants as end
use Rattle.vs_session.specs.Session.{accepts_quit}
use Rattle.vs_session.specs.Opened.{Opened, document_of_file}
use Rattle.vs_session.specs.Fits.{Fits, HasOpened, HasSwap, names_of}
use Rattle.vs_top.specs.History.{Past, any_error, commands_then, history_of, state_of}
use Rattle.vs_top.specs.Calls.{CallsSoFar, OpensClean}
use Rattle.vs_top.specs.Run.{TellsRun, KeepsMarks, counts_of, OnlyFolder, FaultHasCause, FileFits, IsTimed, commands_in, opened_file}

-- the document that a run opens
abbrev pub document_at : Scene → List ℕ → Document
document_at old name = document_of_file (content_of old name)

-- the reply to the opening of a file
abbrev pub opening_at : Scene → List ℕ → List ℕ
opening_at old name = (opening_of name (opened_file old name).found).bytes

-- The newest snapshot has the three counts as they are.
pub record AreCounted (old now : Scene) : Type 0 where
  pub script : IsCounted script_count old now
  pub output : IsCounted output_count old now
  pub folder : IsCounted folder_count old now

-- These commands were answered, and the run waits for the next one.
pub record Told (name : List ℕ) (old now : Scene) (session : Session) (marks : List Mark) (clean : Bool) (past : Past) : Type 0 where
  pub kept : KeepsMarks (opened_file old name) marks past
  pub errors : clean ≡ not (any_error (opened_file old name).state past)
  pub fits : Fits session now.folder (state_of (opened_file old name).state past) (syncs_of (history_of (opened_file old name) past))
  pub waits : Waits (names_of_file name) old (history_of (opened_file old name) past) now
  pub counted : AreCounted old now
  pub calls : CallsSoFar (opened_file old name) old now past

-- The file was opened, and nothing was written.
pub record ToldOpen (name : List ℕ) (old now : Scene) (session : Session) : Type 0 where
  pub file : HasOpened (opened_file old name) session
  pub fits : Fits session now.folder (opened_file old name).state (opened (document_at old name))
  pub begun : HasBegun (names_of_file name) (document_at old name) old now
  pub counted : IsCounted output_count old now
  pub clean : OpensClean (names_of_file name) old now

-- What a run over any host keeps: the file was within its limits and had no swap file, the names are those of the file, and but for
-- commands that were answered so no call failed.
pub record KeepsOpenFile (tells : Tells) (name : List ℕ) (old now : Scene) (session : Session) (marks : List Mark) : Type 0 where
  pub free : IsTrue tells.folder → HasSwap (names_of_file name) old.folder → ⊥
  pub file : IsTrue tells.folder → FileFits (content_of old name)
  pub names : names_of session ≡ names_of_file name
  pub counts : OnlyFolder (counts_of old) (counts_of now)
  pub causes : All (FaultHasCause (counts_of old) (counts_of now)) marks

-- a session has just opened its file, and the script is as it was
pub record IsOpened (tells : Tells) (name : List ℕ) (old now : Scene) (session : Session) : Type 0 where
  pub told : TellsRun tells → ToldOpen name old now session
  pub keeps : KeepsOpenFile tells name old now session []
  pub script : now.script ≡ old.script
  pub answers : now.answers ≡ old.answers

-- the script was read to its end, or the next command is an accepted quit
abbrev pub StopsAt : End → Opened → Scene → Scene → Past → Type 0
StopsAt end.Sync file old now past = (commands_then past [] ≡ commands_in old) × (now.script ≡ [])
StopsAt end.Quit file old now past =
    (quit : Instruction) × (rest : List Instruction) × (commands_in old ≡ commands_then past (quit ∷ rest))
    × (accepts_quit (state_of file.state past) quit ≡ true)

-- all commands that are to be answered were, and the session is about to end
pub record IsAtClose (tells : Tells) (name : List ℕ) (old now : Scene) (session : Session) (marks : List Mark) (how : End) (clean : Bool) : Type 0 where
  pub told : TellsRun tells → (past : Past) × Told name old now session marks clean past × StopsAt how (opened_file old name) old now past
  pub keeps : KeepsOpenFile tells name old now session marks
  pub taken : IsTrue tells.script → length old.script ≤ length now.script + script_limit
  pub times : IsTrue tells.clock → IsTimed old now marks
