-- What a run of two sessions promises: one row for each ending, which says what it answered, which call failed, what it leaves of a
-- file that was opened alone, and what of the files; who may read what is made; and for each session what a run of it alone does, on the names of its family.
use Rattle.std.specs.Prelude.{ℕ, Bool, true, false, List, ◌∷◌, [], ◌≡◌, ◌<◌, ◌≤◌, ◌+◌, ◌⊎◌, ◌++◌, ⊤, All, map, length, take, IsTrue, IsSome, IsSomeAnd, codes}
use Rattle.std.specs.declared.option.Option.{Option}
use Rattle.vs_host.specs.Disk.{Disk, Mode, Name, mode_in, owner_mode}
use Rattle.vs_host.specs.Names.{is_allowed, names_of_file}
use Rattle.vs_host.specs.Trace.{GoesOn}
use Rattle.vs_host.specs.World.{Tells, Scene, content_of}
use Rattle.vs_disk.specs.Modes.{HasModes, IsOf}
use Rattle.vs_disk.specs.Names.{SameAt}
use Rattle.vs_disk.specs.Runs.{Looks}
use Rattle.vs_family.specs.Family.{clash, is_of_family}
use Rattle.vs_family.specs.declared.which.Which.{Which}
use Rattle.vs_family.specs.declared.which.Which.TheVariants as which
use Rattle.vs_text.specs.Documents.{document_of}
use Rattle.vs_script.specs.Ahead.{script_limit, whole_lines}
use Rattle.vs_machine.specs.declared.command.Mark.{Mark}
use Rattle.vs_safety.specs.Causes.{RoseLast, folder_count, output_count, script_count}
use Rattle.vs_safety.specs.History.{ran_of}
use Rattle.vs_safety.specs.Safety.{IsCrashSafeAmong}
use Rattle.vs_safety.specs.Turns.{Closing, NotBegun, quit_line}
use Rattle.vs_both.specs.Beside.{HasQuit, Party, others_of}
use Rattle.vs_both.specs.Both.{PartyStage, Running, Gone}
use Rattle.vs_both.specs.Parties.{party_of}
use Rattle.vs_session.specs.Fits.{HasSwap, Opens}
use Rattle.vs_session.specs.Open.{PassesLimit}
use Rattle.vs_session.specs.Opened.{Opened}
use Rattle.vs_top.specs.Run.{TellsRun, AnswersNone, FaultHasCause, FileFits, IsBarred, KeepsSwap, counts_of, opened_file}
use Rattle.vs_top.specs.Promise.{row}
use Rattle.vs_top.specs.Readers.{EachWrites, MakesOnly}
use Rattle.vs_top.specs.PairHistory.{PairAnswer, Answered, Left, AfterQuit, OfNone, Preserved, AnswerList, BothFiles, MayAnswer, WereSynced}
use Rattle.vs_top.specs.PairHistory.{closing_under, file_for, has_error, marks_of_both, opening_for, past_of, reply_after, stage_before, stage_of, stage_opened}
use Rattle.vs_top.specs.PairHistory.{stage_under, written_both}
use Rattle.vs_top.specs.PairScript.{IsLastTaken, IsTranscript, OnlyLines, SessionEnd, Transcript, answers_of, lines_then}
use Rattle.vs_top.specs.Tags.{tagged_for}
use Rattle.vs_top.specs.declared.ending.Ending.{Ending}
use Rattle.vs_top.specs.declared.ending.Ending.TheVariants as ending

-- ---- what was written

-- How far the output of a run came.
pub data Reach : Type 0 where
  -- the opening reply of the first session is not whole
  BeforeOpening : Reach
  -- that of the second is not
  BetweenOpenings : Reach
  -- all answers are whole
  AllWhole : Reach
  -- the last answer is not
  LastCut : Reach
  -- the last sync or the removal failed, so that its answer was not begun
  LastFailed : Reach

-- what a run took of the script, with its answers, and how far its output came
pub record Both : Type 0 where
  pub transcript : Transcript
  pub reach : Reach

-- the last line of a session was not to be written, since the last sync or the removal before it failed
abbrev pub HasFailed : PairAnswer → Type 0
HasFailed (Answered whose run) = ⊥
HasFailed (Left whose quit) = ⊤
HasFailed (AfterQuit whose) = ⊥
HasFailed OfNone = ⊥
HasFailed (Preserved whose synced) = synced ≡ false

-- the last answer was written in part
abbrev pub WritesCut : BothFiles → Scene → Scene → AnswerList → Type 0
WritesCut files old new [] = ⊥
WritesCut files old new (last ∷ earlier) =
    (count : ℕ) × (new.output ≡ old.output ++ (written_both files earlier ++ take count (reply_after files earlier last))) × WereSynced (last ∷ earlier)

-- it was not written
abbrev pub WritesFailed : BothFiles → Scene → Scene → AnswerList → Type 0
WritesFailed files old new [] = ⊥
WritesFailed files old new (last ∷ earlier) = (new.output ≡ old.output ++ written_both files earlier) × HasFailed last × WereSynced earlier

-- what was written of these answers
abbrev pub WroteBoth : Reach → BothFiles → Scene → Scene → AnswerList → Type 0
WroteBoth BeforeOpening files old new answers =
    (answers ≡ []) × ((count : ℕ) × (new.output ≡ old.output ++ take count (opening_for which.One files)))
WroteBoth BetweenOpenings files old new answers =
    (answers ≡ []) × ((count : ℕ) × (new.output ≡ old.output ++ (opening_for which.One files ++ take count (opening_for which.Two files))))
WroteBoth AllWhole files old new answers = (new.output ≡ old.output ++ written_both files answers) × WereSynced answers
WroteBoth LastCut files old new answers = WritesCut files old new answers
WroteBoth LastFailed files old new answers = WritesFailed files old new answers

-- ---- by the ending

-- the script came to its end or both sessions have quit, all was answered, and both sessions have ended
pub record CameToEndBoth (errors : Bool) (files : BothFiles) (did : Both) : Type 0 where
  pub ended : IsLastTaken (SessionEnd which.Two) did.transcript
  pub whole : did.reach ≡ AllWhole
  pub errors_are : has_error files (answers_of did.transcript) ≡ errors

-- the lines that are whole in these first bytes of the script were answered
pub record AnswersWhole (taken : List ℕ) (did : Both) : Type 0 where
  pub lines : lines_then did.transcript [] ≡ whole_lines taken
  pub only : OnlyLines did.transcript
  pub whole : did.reach ≡ AllWhole

-- the files were not opened, or not both
pub record OpensNone (old new : Scene) (marks : List Mark) (did : Both) : Type 0 where
  pub none : AnswersNone old new marks
  pub did_none : did ≡ record { transcript = []; reach = BeforeOpening }

-- a reply is not whole
abbrev pub CutsReply : Reach → Type 0
CutsReply BeforeOpening = ⊤
CutsReply BetweenOpenings = ⊤
CutsReply AllWhole = ⊥
CutsReply LastCut = ⊤
CutsReply LastFailed = ⊥

-- ---- one row an ending

-- both swap files of a file stand as its opening made them: some session fits the folder as one does that has just opened it
abbrev pub IsJustOpened : Opened → Disk → Type 0
IsJustOpened file folder = KeepsSwap file (record { past = []; closing = NotBegun }) folder

-- What is said of a run of two sessions that ends so. The counts of failed calls and what is taken of the script are those of `row`.
pub record RowBoth : Type 1 where
  -- what it answered
  pub answered : BothFiles → Scene → Scene → List Mark → Both → Type 0
  -- the failed call was the last one, or the folder was only looked at
  pub last : Scene → Scene → Type 0
  -- what it leaves of the first file's swap files where no opening reply is whole
  pub left : Opened → Scene → Scene → Type 0
  -- what the files are
  pub files : Option (List ℕ) → Option (List ℕ) → Type 0

-- no run of two sessions ends so
abbrev pub never_both : RowBoth
never_both = record { answered = λ files old new marks did. ⊥; last = λ old new. ⊤; left = λ file old new. ⊤; files = λ one two. ⊥ }

-- the files were not opened, or the first one alone
abbrev pub unopened_both : (Option (List ℕ) → Option (List ℕ) → Type 0) → RowBoth
unopened_both files = record {
  answered = λ files old new marks did. OpensNone old new marks did;
  last = λ old new. ⊤;
  left = λ file old new. Looks old new ⊎ IsJustOpened file new.folder;
  files = files;
}

-- both files were opened
abbrev pub after_both : (BothFiles → Scene → Scene → List Mark → Both → Type 0) → RowBoth
after_both answered = record {
  answered = answered;
  last = λ old new. ⊤;
  left = λ file old new. IsJustOpened file new.folder;
  files = λ one two. FileFits one × FileFits two;
}

-- both came to their end, and some answer is an error or none is
abbrev pub came_both : Bool → RowBoth
came_both errors = after_both (λ files old new marks did. CameToEndBoth errors files did)

-- a read of the script failed
abbrev pub script_fault_both : RowBoth
script_fault_both = record (after_both (λ files old new marks did. (taken : List ℕ) × (old.script ≡ taken ++ new.script) × AnswersWhole taken did)) {
  last = RoseLast script_count;
}

-- a write of the output failed
abbrev pub output_fault_both : RowBoth
output_fault_both = record (after_both (λ files old new marks did. CutsReply did.reach)) { last = RoseLast output_count }

-- a call on the folder failed, of the openings or of the end of a session
abbrev pub folder_fault_both : RowBoth
folder_fault_both = record (after_both (λ files old new marks did. OpensNone old new marks did ⊎ (did.reach ≡ LastFailed))) {
  last = RoseLast folder_count;
  left = λ file old new. Opens file.name old.folder new.folder ⊎ IsJustOpened file new.folder;
  files = λ one two. ⊤;
}

-- there was no memory: to open the files or for the script, or for a command
abbrev pub no_memory_both : RowBoth
no_memory_both = record (after_both (λ files old new marks did. OpensNone old new marks did ⊎ (did.reach ≡ AllWhole))) {
  left = λ file old new. Looks old new ⊎ IsJustOpened file new.folder;
  files = λ one two. ⊤;
}

-- the number is what passed a limit of the first file; or of the second one, where the first is within the limits
abbrev pub EitherPasses : ℕ → Option (List ℕ) → Option (List ℕ) → Type 0
EitherPasses size one two =
    IsSomeAnd one (λ bytes. PassesLimit ((document_of bytes).text) size)
    ⊎ (FileFits one × IsSomeAnd two (λ bytes. PassesLimit ((document_of bytes).text) size))

-- the row of each ending
abbrev pub row_both : Ending → RowBoth
row_both ending.Done = came_both false
row_both ending.WithErrors = came_both true
row_both ending.Usage = never_both
row_both ending.SwapFound = record (unopened_both (λ one two. ⊤)) { last = Looks }
row_both ending.NoSwap = never_both
row_both ending.ScriptFault = script_fault_both
row_both ending.OutputFault = output_fault_both
row_both ending.FolderFault = folder_fault_both
row_both ending.NoMemory = no_memory_both
row_both ending.Encrypted = never_both
row_both ending.NotSwap = never_both
row_both ending.Salvaged = never_both
row_both (ending.TextLimit size) = unopened_both (EitherPasses size)
row_both ending.ScriptTooLong =
    after_both (λ files old new marks did. (script_limit < length old.script) × AnswersWhole (take script_limit old.script) did)

-- ---- each session

-- a session as one of two: the names of its file and of its family, and its last line where it quits
abbrev pub party_for : Which → BothFiles → Party
party_for session files = party_of (file_for session files).name (tagged_for session quit_line)

-- where a session stands at the end of the run
abbrev pub stage_at : Which → BothFiles → Reach → AnswerList → PartyStage
stage_at session files BeforeOpening answers = stage_before session files
stage_at session files BetweenOpenings answers = stage_opened session files
stage_at session files AllWhole answers = stage_of session files answers
stage_at session files LastCut [] = stage_opened session files
stage_at session files LastCut (last ∷ earlier) = stage_under session files earlier last
stage_at session files LastFailed [] = stage_opened session files
stage_at session files LastFailed (last ∷ earlier) = stage_under session files earlier last

-- whether it had begun to quit
abbrev pub closing_at : Which → Reach → AnswerList → Closing
closing_at session BeforeOpening answers = NotBegun
closing_at session BetweenOpenings answers = NotBegun
closing_at session AllWhole answers = NotBegun
closing_at session LastCut [] = NotBegun
closing_at session LastCut (last ∷ earlier) = closing_under session last
closing_at session LastFailed [] = NotBegun
closing_at session LastFailed (last ∷ earlier) = closing_under session last

-- What is promised of a session at this stage: that of a run of it alone, on the names of its family; and of one that has quit, that its
-- promise was kept to its last line, that it left no swap file, and that the names of its family stay since then.
abbrev pub KeepsPromise : Party → Scene → PartyStage → Closing → Scene → Type 0
KeepsPromise party old (Running past) closing new = IsCrashSafeAmong (others_of party) party.names party.line old new (ran_of past closing)
KeepsPromise party old (Gone past) closing new = HasQuit party old past new

-- the promise of a session of this run
abbrev pub IsSafeBeside : Which → BothFiles → Scene → Scene → Both → Type 0
IsSafeBeside session files old new did =
    KeepsPromise (party_for session files) old (stage_at session files did.reach (answers_of did.transcript))
    (closing_at session did.reach (answers_of did.transcript)) new

-- these names are of neither family
abbrev pub AreOfNeither : List ℕ → List ℕ → (Name → Bool) → Type 0
AreOfNeither one two inside = (name : Name) → inside name ≡ true → (is_of_family one name ≡ false) × (is_of_family two name ≡ false)

-- names of neither family stay at each moment
abbrev pub LeavesOthers : List ℕ → List ℕ → Scene → Scene → Type 0
LeavesOthers one two old new =
    (inside : Name → Bool) → AreOfNeither one two inside
    → GoesOn (λ m. SameAt inside old.folder m.folder) old.trace new.trace × SameAt inside old.folder new.folder

-- ---- who may read

-- Each file that is made is for its owner alone, or has a mode that the file of a session may have at the start, where one of its commands
-- writes files. Each that does found the file there.
abbrev pub MakesReadableBoth : BothFiles → AnswerList → Scene → Scene → Type 0
MakesReadableBoth files answers start now =
    (allowed : Mode → Bool) → IsOf allowed owner_mode
    → ((session : Which) → let name : Name = (file_for session files).name in
    EachWrites (λ found. IsSome (mode_in found name) × HasModes allowed name start.folder) (past_of session answers))
    → MakesOnly allowed start now

-- ---- times

-- these times are those of the marks, in order, with others between them
abbrev pub IsMixed : List ℕ → List ℕ → List ℕ → Type 0
IsMixed [] others times = times ≡ others
IsMixed (at ∷ marks) others times =
    (before : List ℕ) × (more : List ℕ) × (rest : List ℕ) × (others ≡ before ++ more) × (times ≡ before ++ at ∷ rest) × IsMixed marks more rest

-- The times of the marks are the clock's answers, in order, without those that accepted quits took, of which there are at most so many.
pub record IsTimedBoth (most : ℕ) (old new : Scene) (marks : List Mark) : Type 0 where
  pub quits : List ℕ
  pub few : length quits ≤ most
  pub times : List ℕ
  pub is : new.answers ≡ old.answers ++ times
  pub mixed : IsMixed (map (λ mark. mark.at) marks) quits times

-- ---- a run

-- the files that both sessions open
abbrev pub files_in : Scene → List ℕ → List ℕ → BothFiles
files_in scene one two = record { one = opened_file scene one; two = opened_file scene two }

-- one of the four swap names is there
abbrev pub EitherHasSwap : List ℕ → List ℕ → Disk → Type 0
EitherHasSwap one two folder = HasSwap (names_of_file one) folder ⊎ HasSwap (names_of_file two) folder

-- the texts of both files are within the limits
abbrev pub BothFit : List ℕ → List ℕ → Scene → Type 0
BothFit one two old = FileFits (content_of old one) × FileFits (content_of old two)

-- What a run of two sessions did, over a host that tells. The promise of each is of files that had no swap files.
pub record HasRunBoth (one two : List ℕ) (old new : Scene) (end : Ending) (marks : List Mark) : Type 0 where
  pub did : Both
  pub read : IsTranscript old.script did.transcript
  pub may : MayAnswer (files_in old one two) (answers_of did.transcript)
  pub kept : marks ≡ marks_of_both (answers_of did.transcript)
  pub wrote : WroteBoth did.reach (files_in old one two) old new (answers_of did.transcript)
  pub ends : (row_both end).answered (files_in old one two) old new marks did
  pub first : ¬ EitherHasSwap one two old.folder → IsSafeBeside which.One (files_in old one two) old new did
  pub second : ¬ EitherHasSwap one two old.folder → IsSafeBeside which.Two (files_in old one two) old new did
  pub others : LeavesOthers one two old new
  pub readers : MakesReadableBoth (files_in old one two) (answers_of did.transcript) old new
  pub failed : (row_both end).last old new
  pub left : did.reach ≡ BeforeOpening → (row_both end).left (opened_file old one) old new

-- What holds of it over any host.
pub record EndsPair (tells : Tells) (one two : List ℕ) (old new : Scene) (end : Ending) (marks : List Mark) : Type 0 where
  pub swap : IsTrue tells.folder → end ≡ ending.SwapFound → EitherHasSwap one two old.folder
  pub barred : IsTrue tells.folder → EitherHasSwap one two old.folder → IsBarred old new end marks
  pub files : IsTrue tells.folder → (row_both end).files (content_of old one) (content_of old two)
  pub taken : IsTrue tells.script → length old.script ≤ length new.script + (row end).taken
  pub counts : (row end).counts (counts_of old) (counts_of new)
  pub causes : All (FaultHasCause (counts_of old) (counts_of new)) marks
  pub times : IsTrue tells.clock → IsTimedBoth 2 old new marks

-- What `pair` does with the files of two names, by its ending.
pub record RunsPair (tells : Tells) (one two : List ℕ) (old new : Scene) (end : Ending) (marks : List Mark) : Type 0 where
  pub told : TellsRun tells → HasRunBoth one two old new end marks
  pub ends : EndsPair tells one two old new end marks

-- ---- the form

-- the arguments are the word `pair` and two names that do not clash
pub record IsPair (words : List (List ℕ)) (one two : List ℕ) : Type 0 where
  pub words_are : words ≡ codes "pair" ∷ one ∷ two ∷ []
  pub one_allowed : IsTrue (is_allowed one)
  pub two_allowed : IsTrue (is_allowed two)
  pub apart : clash one two ≡ false
