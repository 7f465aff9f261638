-- The history of a run of two sessions: its answers, the newest first, and what comes of them.
use Rattle.std.specs.Prelude.{ℕ, Bool, true, false, not, ◌||◌, List, [], ◌∷◌, ◌++◌, ◌≡◌, ⊤}
use Rattle.vs_text.specs.Text.{lines_of}
use Rattle.vs_excmd.specs.Request.{Instruction}
use Rattle.vs_machine.specs.Machine.{is_done}
use Rattle.vs_machine.specs.Replies.{opening_of}
use Rattle.vs_machine.specs.declared.command.Mark.{Mark}
use Rattle.vs_family.specs.declared.which.Which.{Which}
use Rattle.vs_family.specs.declared.which.Which.TheVariants as which
use Rattle.vs_split.specs.Tags.{if_same}
use Rattle.vs_safety.specs.History.{Open}
use Rattle.vs_safety.specs.Turns.{Closing, NotBegun, Quits, Turn, last_turn, preserved_line, quit_line}
use Rattle.vs_both.specs.Beside.{of_others}
use Rattle.vs_both.specs.Both.{PartyStage, Running, Gone, with_turn}
use Rattle.vs_session.specs.Session.{SessionState, accepts_quit, document_in, reply_of, sync_in, turn_of}
use Rattle.vs_session.specs.Opened.{Opened}
use Rattle.vs_top.specs.History.{CommandRun, Past, AreAnswered, state_of}
use Rattle.vs_top.specs.Tags.{no_session, session_ended, tagged_for}

-- one answer of a run of two sessions
pub data PairAnswer : Type 0 where
  -- to a command of a session, which ended so
  Answered : Which → CommandRun → PairAnswer
  -- to this command of a session, an accepted quit: its last line, after its swap files were removed
  Left : Which → Instruction → PairAnswer
  -- to a line of a session that has quit
  AfterQuit : Which → PairAnswer
  -- to a line of neither session
  OfNone : PairAnswer
  -- the last line of a session at the script's end, after its last sync, which was acknowledged or not
  Preserved : Which → Bool → PairAnswer

-- the answers, the newest first
abbrev pub AnswerList : Type 0
AnswerList = List PairAnswer

-- a command before those of a session, where it is one of its own
abbrev pub with_own : Which → PairAnswer → Past → Past
with_own session (Answered whose run) past = if_same session whose (run ∷ past) past
with_own session (Left whose quit) past = past
with_own session (AfterQuit whose) past = past
with_own session OfNone past = past
with_own session (Preserved whose synced) past = past

-- the commands of a session that were answered, the newest first
abbrev pub past_of : Which → AnswerList → Past
past_of session [] = []
past_of session (last ∷ earlier) = with_own session last (past_of session earlier)

-- the mark of an answer, after these
abbrev pub with_mark : PairAnswer → List Mark → List Mark
with_mark (Answered whose run) marks = marks ++ run.ended.mark ∷ []
with_mark (Left whose quit) marks = marks
with_mark (AfterQuit whose) marks = marks
with_mark OfNone marks = marks
with_mark (Preserved whose synced) marks = marks

-- the marks of the commands of both, in the order in which they were carried out
abbrev pub marks_of_both : AnswerList → List Mark
marks_of_both [] = []
marks_of_both (last ∷ earlier) = with_mark last (marks_of_both earlier)

-- ---- the files

-- the files that both sessions open
pub record BothFiles : Type 0 where
  pub one : Opened
  pub two : Opened

-- the file of a session
abbrev pub file_for : Which → BothFiles → Opened
file_for which.One files = files.one
file_for which.Two files = files.two

-- the state of a session after these answers
abbrev pub state_for : Which → BothFiles → AnswerList → SessionState
state_for session files answers = state_of (file_for session files).state (past_of session answers)

-- ---- the output

-- the opening reply of a session, as it is written
abbrev pub opening_for : Which → BothFiles → List ℕ
opening_for session files = let file = file_for session files in tagged_for session (opening_of file.name file.found).bytes

-- an answer after these, as it is written
abbrev pub reply_after : BothFiles → AnswerList → PairAnswer → List ℕ
reply_after files earlier (Answered whose run) = tagged_for whose (reply_of (state_for whose files earlier) run.instruction run.ended).bytes
reply_after files earlier (Left whose quit) = tagged_for whose quit_line
reply_after files earlier (AfterQuit whose) = tagged_for whose session_ended
reply_after files earlier OfNone = no_session
reply_after files earlier (Preserved whose synced) = tagged_for whose preserved_line

-- what is written over two files: the opening reply of each, and these answers
abbrev pub written_both : BothFiles → AnswerList → List ℕ
written_both files [] = opening_for which.One files ++ opening_for which.Two files
written_both files (last ∷ earlier) = written_both files earlier ++ reply_after files earlier last

-- the lines of an answer, where it is to a session
abbrev pub answer_lines : Which → BothFiles → AnswerList → PairAnswer → List (List ℕ)
answer_lines session files earlier (Answered whose run) =
    if_same session whose (lines_of (reply_of (state_for whose files earlier) run.instruction run.ended).bytes) []
answer_lines session files earlier (Left whose quit) = if_same session whose (lines_of quit_line) []
answer_lines session files earlier (AfterQuit whose) = if_same session whose (lines_of session_ended) []
answer_lines session files earlier OfNone = []
answer_lines session files earlier (Preserved whose synced) = if_same session whose (lines_of preserved_line) []

-- what a session writes: its opening reply, its answers, and the one to each line after its quit
abbrev pub own_lines : Which → BothFiles → AnswerList → List (List ℕ)
own_lines session files [] = let file = file_for session files in lines_of (opening_of file.name file.found).bytes
own_lines session files (last ∷ earlier) = own_lines session files earlier ++ answer_lines session files earlier last

-- whether an answer after these is an error, or one to a command that did not end as Done
abbrev pub is_error_after : BothFiles → AnswerList → PairAnswer → Bool
is_error_after files earlier (Answered whose run) =
    not (is_done run.ended.mark.outcome) || (reply_of (state_for whose files earlier) run.instruction run.ended).is_error
is_error_after files earlier (Left whose quit) = false
is_error_after files earlier (AfterQuit whose) = true
is_error_after files earlier OfNone = true
is_error_after files earlier (Preserved whose synced) = false

-- whether some answer is
abbrev pub has_error : BothFiles → AnswerList → Bool
has_error files [] = false
has_error files (last ∷ earlier) = has_error files earlier || is_error_after files earlier last

-- ---- what may have been answered

-- A quit after these answers was accepted.
abbrev pub QuitsAfter : BothFiles → AnswerList → PairAnswer → Type 0
QuitsAfter files earlier (Answered whose run) = ⊤
QuitsAfter files earlier (Left whose quit) = accepts_quit (state_for whose files earlier) quit ≡ true
QuitsAfter files earlier (AfterQuit whose) = ⊤
QuitsAfter files earlier OfNone = ⊤
QuitsAfter files earlier (Preserved whose synced) = ⊤

-- Each quit among these answers was accepted.
abbrev pub QuitsAreAccepted : BothFiles → AnswerList → Type 0
QuitsAreAccepted files [] = ⊤
QuitsAreAccepted files (last ∷ earlier) = QuitsAfter files earlier last × QuitsAreAccepted files earlier

-- Both sessions may have answered so: what each of them answered, it may have answered alone.
pub record MayAnswer (files : BothFiles) (answers : AnswerList) : Type 0 where
  pub one : AreAnswered files.one.state (past_of which.One answers)
  pub two : AreAnswered files.two.state (past_of which.Two answers)
  pub quits : QuitsAreAccepted files answers

-- a last sync was acknowledged
abbrev pub WasSynced : PairAnswer → Type 0
WasSynced (Answered whose run) = ⊤
WasSynced (Left whose quit) = ⊤
WasSynced (AfterQuit whose) = ⊤
WasSynced OfNone = ⊤
WasSynced (Preserved whose synced) = synced ≡ true

-- each last sync among these answers was
abbrev pub WereSynced : AnswerList → Type 0
WereSynced [] = ⊤
WereSynced (last ∷ earlier) = WasSynced last × WereSynced earlier

-- ---- each session, as far as safety goes

-- The turn of an answer, as a session sees it: its own command or its last sync, with the reply as it is written. An answer of the other
-- session, or to nobody's line, is a turn that does nothing.
abbrev pub turn_for : Which → BothFiles → AnswerList → PairAnswer → Turn
turn_for session files earlier (Answered whose run) =
    let reply = reply_after files earlier (Answered whose run) in
    if_same session whose (record (turn_of (state_for whose files earlier) run.instruction run.ended) { reply = reply }) (of_others reply)
turn_for session files earlier (Left whose quit) = of_others (reply_after files earlier (Left whose quit))
turn_for session files earlier (AfterQuit whose) = of_others (reply_after files earlier (AfterQuit whose))
turn_for session files earlier OfNone = of_others (reply_after files earlier OfNone)
turn_for session files earlier (Preserved whose synced) =
    let reply = reply_after files earlier (Preserved whose synced) in
    if_same session whose (record (last_turn (sync_in (state_for whose files earlier) synced)) { reply = reply }) (of_others reply)

-- a session that has quit, with what it did before
abbrev pub gone : PartyStage → PartyStage
gone (Running past) = Gone past
gone (Gone past) = Gone past

-- where a session stands after one more answer
abbrev pub stage_after : Which → BothFiles → AnswerList → PairAnswer → PartyStage → PartyStage
stage_after session files earlier (Answered whose run) stage = with_turn stage (turn_for session files earlier (Answered whose run))
stage_after session files earlier (Left whose quit) stage =
    if_same session whose (gone stage) (with_turn stage (turn_for session files earlier (Left whose quit)))
stage_after session files earlier (AfterQuit whose) stage = with_turn stage (turn_for session files earlier (AfterQuit whose))
stage_after session files earlier OfNone stage = with_turn stage (turn_for session files earlier OfNone)
stage_after session files earlier (Preserved whose synced) stage = with_turn stage (turn_for session files earlier (Preserved whose synced))

-- Where a session stands before the first opening reply is whole: its run begins with its own opening reply, or with both.
abbrev pub stage_before : Which → BothFiles → PartyStage
stage_before which.One files = Running (Open (document_in files.one.state) (opening_for which.One files))
stage_before which.Two files = Running (Open (document_in files.two.state) (opening_for which.One files ++ opening_for which.Two files))

-- where it stands when both sessions are open: for the first one the other's opening reply is a turn
abbrev pub stage_opened : Which → BothFiles → PartyStage
stage_opened which.One files = with_turn (stage_before which.One files) (of_others (opening_for which.Two files))
stage_opened which.Two files = stage_before which.Two files

-- where it stands after these answers
abbrev pub stage_of : Which → BothFiles → AnswerList → PartyStage
stage_of session files [] = stage_opened session files
stage_of session files (last ∷ earlier) = stage_after session files earlier last (stage_of session files earlier)

-- ---- an answer that was not written whole

-- whether a session had begun to quit
abbrev pub closing_under : Which → PairAnswer → Closing
closing_under session (Answered whose run) = NotBegun
closing_under session (Left whose quit) = if_same session whose Quits NotBegun
closing_under session (AfterQuit whose) = NotBegun
closing_under session OfNone = NotBegun
closing_under session (Preserved whose synced) = NotBegun

-- where a session stands while an answer is under way: one that quits has not quit yet
abbrev pub stage_under : Which → BothFiles → AnswerList → PairAnswer → PartyStage
stage_under session files earlier (Answered whose run) = stage_of session files (Answered whose run ∷ earlier)
stage_under session files earlier (Left whose quit) =
    if_same session whose (stage_of session files earlier) (stage_of session files (Left whose quit ∷ earlier))
stage_under session files earlier (AfterQuit whose) = stage_of session files (AfterQuit whose ∷ earlier)
stage_under session files earlier OfNone = stage_of session files (OfNone ∷ earlier)
stage_under session files earlier (Preserved whose synced) = stage_of session files (Preserved whose synced ∷ earlier)
