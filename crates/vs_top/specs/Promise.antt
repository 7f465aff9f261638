-- What a run promises: what `edit` and `stress` do, and one row for each ending, which says what a run that ends so has answered, what it
-- leaves of the swap files, which call failed, and what of the file and of the script. Run.antt, Stress.antt and vs_safety have the rest.
use Rattle.std.specs.Prelude.{ℕ, List, ◌≡◌, ◌≤◌, ◌+◌, ◌⊎◌, Bool, [], ⊤, All, length, take, true, false, IsTrue, IsSomeAnd}
use Rattle.std.specs.declared.option.Option.{Option}
use Rattle.vs_faults.specs.Faults.{HasRisen}
use Rattle.vs_host.specs.Names.{names_of_file}
use Rattle.vs_host.specs.World.{Tells, Scene, content_of}
use Rattle.vs_disk.specs.Runs.{FailsLast, Looks}
use Rattle.vs_text.specs.Documents.{document_of}
use Rattle.vs_script.specs.Ahead.{script_limit}
use Rattle.vs_machine.specs.declared.command.Mark.{Mark}
use Rattle.vs_safety.specs.Turns.{NotBegun}
use Rattle.vs_safety.specs.Safety.{IsCrashSafe, Writes}
use Rattle.vs_safety.specs.Causes.{RoseLast, script_count, output_count, folder_count}
use Rattle.vs_session.specs.Open.{PassesLimit}
use Rattle.vs_session.specs.Opened.{Opened}
use Rattle.vs_session.specs.Fits.{HasSwap, Opens}
use Rattle.vs_top.specs.Run.{TellsRun, Did, KeepsMarks, AnswersNone, AnswersAll, AnswersTaken, AnswersLimit, LacksAtOnce, LacksMemory, IsCutShort, IsCutLast}
use Rattle.vs_top.specs.Run.{FailsToClose, KeepsSwap, Counts, counts_of, OnlyFolder, FaultHasCause, FileFits, IsBarred, IsTimed, opened_file, ran_of}
use Rattle.vs_top.specs.Calls.{CallsAsMarked}
use Rattle.vs_top.specs.Stress.{TellsStress, FailsToSum, HasStressed, IsStressing, IsStressSafe, StressEnds, SumsThen, WritesThen}
use Rattle.vs_top.specs.Stress.{stress_line, stress_name, stress_document, stress_turns}
use Rattle.vs_top.specs.StressCalls.{HasRunTo, StressCalls}
use Rattle.vs_top.specs.declared.ending.Ending.{Ending}
use Rattle.vs_top.specs.declared.ending.Ending.TheVariants as ending

-- ---- one row an ending

-- What is said of a run that ends so.
pub record Row : Type 1 where
  -- what `edit` answered and wrote, and what `stress` did, where this is known of the scene in which its last command ended
  pub answered : Opened → Scene → Scene → List Mark → Did → Type 0
  pub stressed : (Scene → Type 0) → ℕ → Scene → Scene → List Mark → Did → Type 0
  -- what it leaves of the swap files
  pub left : Opened → Scene → Scene → Did → Type 0
  -- the failed call was the last one, or the folder was only looked at
  pub last : Scene → Scene → Type 0
  -- a count that rose ends the run, but for that of the folder in a command that is answered so
  pub counts : Counts → Counts → Type 0
  -- what the file is
  pub file : Option (List ℕ) → Type 0
  -- how many bytes of the script are taken at most
  pub taken : ℕ

-- `stress` does not end so
abbrev pub none_stressed : (Scene → Type 0) → ℕ → Scene → Scene → List Mark → Did → Type 0
none_stressed RanTo count old new marks did = ⊥

-- no run ends so
abbrev pub never : Row
never = record {
  answered = λ file old new marks did. ⊥;
  stressed = none_stressed;
  left = λ file old new did. ⊤;
  last = λ old new. ⊤;
  counts = λ old new. ⊥;
  file = λ file. ⊥;
  taken = 0;
}

-- the file was not opened
abbrev pub unopened : (Option (List ℕ) → Type 0) → Row
unopened file = record {
  answered = λ opened old new marks did. AnswersNone old new marks;
  stressed = λ RanTo count old new marks did. AnswersNone old new marks;
  left = λ opened old new did. ⊤;
  last = Looks;
  counts = λ old new. new ≡ old;
  file = file;
  taken = 0;
}

-- the file was opened
abbrev pub after_opening : (Opened → Scene → Scene → List Mark → Did → Type 0) → ((Scene → Type 0) → ℕ → Scene → Scene → List Mark → Did → Type 0) → Row
after_opening answered stressed = record {
  answered = answered;
  stressed = stressed;
  left = λ file old new did. KeepsSwap file did new.folder;
  last = λ old new. ⊤;
  counts = OnlyFolder;
  file = FileFits;
  taken = script_limit;
}

-- all commands were answered, and some reply is an error or none is
abbrev pub came_to_end : Bool → Row
came_to_end errors =
    after_opening (λ file old new marks did. AnswersAll errors file old new did)
    (λ RanTo count old new marks did. StressEnds RanTo errors count old new did)

-- a read of the script failed
abbrev pub script_fault : Row
script_fault = record (after_opening (λ file old new marks did. AnswersTaken file old new did) none_stressed) {
  last = RoseLast script_count;
  counts = λ old new. HasRisen old.script new.script × OnlyFolder old (record new { script = old.script });
}

-- a write of the output failed
abbrev pub output_fault : Row
output_fault = record (after_opening (λ file old new marks did. IsCutShort file old new did ⊎ IsCutLast file old new did)
    (λ RanTo count old new marks did.
    (n : ℕ) × HasStressed RanTo (SumsThen (Writes n (stress_line count old did.past))) count old new did (take n (stress_line count old did.past)))) {
      last = RoseLast output_count;
      counts = λ old new. HasRisen old.output new.output × OnlyFolder old (record new { output = old.output });
    }

-- nothing was written, and the swap files are as the opening of the file of this name leaves them
abbrev pub failed_opening : List ℕ → Scene → Scene → List Mark → Type 0
failed_opening name old new marks = AnswersNone old new marks × Opens name old.folder new.folder

-- a call on the folder failed, of the opening or of the close
abbrev pub folder_fault : Row
folder_fault = record (after_opening (λ file old new marks did. failed_opening file.name old new marks ⊎ FailsToClose file old new did)
    (λ RanTo count old new marks did.
    failed_opening stress_name old new marks ⊎ HasStressed RanTo FailsToSum count old new did []
    ⊎ HasStressed RanTo (SumsThen (WritesThen FailsLast (stress_line count old did.past))) count old new did (stress_line count old did.past))) {
      left = λ file old new did. (did.closing ≡ NotBegun) ⊎ KeepsSwap file did new.folder;
      last = RoseLast folder_count;
      counts = λ old new. HasRisen old.folder new.folder × OnlyFolder old new;
      file = λ file. ⊤;
    }

-- there was no memory: to open the file, so that the folder was only looked at, or later
abbrev pub no_memory : Row
no_memory = record (after_opening (λ file old new marks did. LacksAtOnce old new marks ⊎ LacksMemory file old new did)
    (λ RanTo count old new marks did. IsStressing RanTo count old new did)) {
      left = λ file old new did. (did.closing ≡ NotBegun) × (Looks old new ⊎ KeepsSwap file did new.folder);
      file = λ file. ⊤;
    }

-- the row of each ending
abbrev pub row : Ending → Row
row ending.Done = came_to_end false
row ending.WithErrors = came_to_end true
row ending.Usage = never
row ending.SwapFound = unopened (λ file. ⊤)
row ending.NoSwap = never
row ending.ScriptFault = script_fault
row ending.OutputFault = output_fault
row ending.FolderFault = folder_fault
row ending.NoMemory = no_memory
row ending.Encrypted = never
row ending.NotSwap = never
row ending.Salvaged = never
row (ending.TextLimit size) = unopened (λ file. IsSomeAnd file (λ bytes. PassesLimit ((document_of bytes).text) size))
row ending.ScriptTooLong = record (after_opening (λ file old new marks did. AnswersLimit file old new did) none_stressed) { taken = script_limit + 1 }

-- ---- `edit`

-- What a run did, over a host that tells: the commands of its script, what it answered, and the promise, of the same commands and
-- the same syncs and writes. The promise is of a file that had no swap file.
pub record HasRun (name : List ℕ) (old new : Scene) (end : Ending) (marks : List Mark) : Type 0 where
  pub did : Did
  pub kept : KeepsMarks (opened_file old name) marks did.past
  pub answered : (row end).answered (opened_file old name) old new marks did
  pub safe : (HasSwap (names_of_file name) old.folder → ⊥) → IsCrashSafe (names_of_file name) old new (ran_of name old did)
  pub left : (row end).left (opened_file old name) old new did
  pub last : (row end).last old new
  pub calls : CallsAsMarked (opened_file old name) old new did

-- What `edit` does with the file of a name, by its ending.
pub record RunsEdit (tells : Tells) (name : List ℕ) (old new : Scene) (end : Ending) (marks : List Mark) : Type 0 where
  pub told : TellsRun tells → HasRun name old new end marks
  pub swap : IsTrue tells.folder → end ≡ ending.SwapFound → HasSwap (names_of_file name) old.folder
  pub barred : IsTrue tells.folder → HasSwap (names_of_file name) old.folder → IsBarred old new end marks
  pub file : IsTrue tells.folder → (row end).file (content_of old name)
  pub taken : IsTrue tells.script → length old.script ≤ length new.script + (row end).taken
  pub counts : (row end).counts (counts_of old) (counts_of new)
  pub causes : All (FaultHasCause (counts_of old) (counts_of new)) marks
  pub times : IsTrue tells.clock → IsTimed old new marks

-- ---- `stress`

-- What it did, over a host that tells: its commands and how they ended.
pub record HasStress (OfHost : Scene → Type 0) (count : ℕ) (old new : Scene) (end : Ending) (marks : List Mark) : Type 0 where
  pub did : Did
  pub kept : KeepsMarks (opened_file old stress_name) marks did.past
  pub answered : (row end).stressed (HasRunTo OfHost old did.past) count old new marks did
  pub safe : (HasSwap (names_of_file stress_name) old.folder → ⊥)
      → IsStressSafe (names_of_file stress_name) old new (stress_document old) (stress_turns old did.past) (stress_line count old did.past)
  pub last : (row end).last old new
  pub calls : StressCalls old new

-- What the stress mode does, by its ending, where these are the scenes of the hosts of a type. The script is not read.
pub record RunsStress (OfHost : Scene → Type 0) (tells : Tells) (count : ℕ) (old new : Scene) (end : Ending) (marks : List Mark) : Type 0 where
  pub told : TellsStress tells → HasStress OfHost count old new end marks
  pub swap : IsTrue tells.folder → end ≡ ending.SwapFound → HasSwap (names_of_file stress_name) old.folder
  pub barred : IsTrue tells.folder → HasSwap (names_of_file stress_name) old.folder → IsBarred old new end marks
  pub file : IsTrue tells.folder → (row end).file (content_of old stress_name)
  pub script : new.script ≡ old.script
  pub counts : (row end).counts (counts_of old) (counts_of new)
  pub causes : All (FaultHasCause (counts_of old) (counts_of new)) marks
  pub times : IsTrue tells.clock → IsTimed old new marks
