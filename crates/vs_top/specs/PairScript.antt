-- What two sessions take of one script, and what is answered to it.
use Rattle.std.specs.Prelude.{ℕ, Bool, List, [], ◌∷◌, ◌≡◌, ◌⊎◌, ⊤, Option, Some, None, if◌then◌else◌, length, nat_le, take}
use Rattle.vs_text.specs.Text.{lines_of}
use Rattle.vs_excmd.specs.Request.{Instruction}
use Rattle.vs_family.specs.declared.which.Which.{Which}
use Rattle.vs_family.specs.declared.which.Which.TheVariants as which
use Rattle.vs_split.specs.Tags.{Tag, LineOf, LineOfNone, if_same, tag_of}
use Rattle.vs_script.specs.Ahead.{script_limit, whole_lines}
use Rattle.vs_script.specs.Feed.{Reading, Between, ended_last, takes}
use Rattle.vs_session.specs.Session.{Ended}
use Rattle.vs_top.specs.PairHistory.{PairAnswer, Answered, Left, AfterQuit, OfNone, Preserved, AnswerList}

-- where the script of a session is read, or that the session has ended
pub data FeedPlace : Type 0 where
  Reads : Reading → FeedPlace
  Over : FeedPlace

-- what may have an answer: a line, the end of the script for a session, which ends its block, and the end of the session there
pub data Source : Type 0 where
  Line : List ℕ → Source
  ScriptEnd : Which → Source
  SessionEnd : Which → Source

-- one of these, with its answer
pub record Taking : Type 0 where
  pub source : Source
  pub answer : Option PairAnswer

-- one that has an answer
abbrev pub taking : Source → PairAnswer → Taking
taking source answer = record { source = source; answer = Some answer }

-- what was taken of a script, the newest first
abbrev pub Transcript : Type 0
Transcript = List Taking

-- an answer, if there is one, before these
abbrev pub onto : Option PairAnswer → AnswerList → AnswerList
onto None answers = answers
onto (Some answer) answers = answer ∷ answers

-- all answers
abbrev pub answers_of : Transcript → AnswerList
answers_of [] = []
answers_of (taking ∷ earlier) = onto taking.answer (answers_of earlier)

-- ---- where the script of each session is read

-- the place of a session after an answer to it
abbrev pub after_answer : PairAnswer → FeedPlace → FeedPlace
after_answer (Answered whose run) place = place
after_answer (Left whose quit) place = Over
after_answer (AfterQuit whose) place = place
after_answer OfNone place = place
after_answer (Preserved whose synced) place = place

-- the same where there may have been none
abbrev pub after_any : Option PairAnswer → FeedPlace → FeedPlace
after_any None place = place
after_any (Some answer) place = after_answer answer place

-- after a line of its own
abbrev pub read_on : List ℕ → Option PairAnswer → FeedPlace → FeedPlace
read_on line answer Over = Over
read_on line answer (Reads reading) = after_any answer (Reads (takes reading line).reading)

-- after the end of its script
abbrev pub end_block : Option PairAnswer → FeedPlace → FeedPlace
end_block answer Over = Over
end_block answer (Reads reading) = after_any answer (Reads Between)

-- after a line of one session or of none
abbrev pub place_by : Which → Tag → Option PairAnswer → FeedPlace → FeedPlace
place_by session (LineOf whose line) answer place = if_same session whose (read_on line answer place) place
place_by session LineOfNone answer place = place

-- after one of these
abbrev pub place_after : Which → Source → Option PairAnswer → FeedPlace → FeedPlace
place_after session (Line line) answer place = place_by session (tag_of line) answer place
place_after session (ScriptEnd whose) answer place = if_same session whose (end_block answer place) place
place_after session (SessionEnd whose) answer place = if_same session whose Over place

-- after all of them
abbrev pub feed_place : Which → Transcript → FeedPlace
feed_place session [] = Reads Between
feed_place session (taking ∷ earlier) = place_after session taking.source taking.answer (feed_place session earlier)

-- both sessions have ended
abbrev pub AreOver : Transcript → Type 0
AreOver transcript = (feed_place which.One transcript ≡ Over) × (feed_place which.Two transcript ≡ Over)

-- ---- the answer to each

-- a command is carried out, or it is a quit that is accepted; where none was ended, nothing is answered
abbrev pub AnswersCommand : Which → Option Instruction → Option PairAnswer → Type 0
AnswersCommand session None answer = answer ≡ None
AnswersCommand session (Some command) answer =
    ((ended : Ended) × (answer ≡ Some (Answered session (record { instruction = command; ended = ended })))) ⊎ (answer ≡ Some (Left session command))

-- A line of a session that has quit is answered by itself. Any other may end a command.
abbrev pub AnswersOwn : Which → List ℕ → FeedPlace → Option PairAnswer → Type 0
AnswersOwn session line Over answer = answer ≡ Some (AfterQuit session)
AnswersOwn session line (Reads reading) answer = AnswersCommand session (takes reading line).ended answer

-- so is a line of neither
abbrev pub AnswersLine : Transcript → Tag → Option PairAnswer → Type 0
AnswersLine earlier (LineOf whose line) answer = AnswersOwn whose line (feed_place whose earlier) answer
AnswersLine earlier LineOfNone answer = answer ≡ Some OfNone

-- at the end of the script the command of a block that is open is answered
abbrev pub AnswersEnd : Which → FeedPlace → Option PairAnswer → Type 0
AnswersEnd session Over answer = answer ≡ None
AnswersEnd session (Reads reading) answer = AnswersCommand session (ended_last reading) answer

-- a session that has not quit ends with a sync
abbrev pub AnswersLast : Which → FeedPlace → Option PairAnswer → Type 0
AnswersLast session Over answer = answer ≡ None
AnswersLast session (Reads reading) answer = (synced : Bool) × (answer ≡ Some (Preserved session synced))

-- what each has as its answer, after these
abbrev pub AnswersSource : Transcript → Source → Option PairAnswer → Type 0
AnswersSource earlier (Line line) answer = AnswersLine earlier (tag_of line) answer
AnswersSource earlier (ScriptEnd whose) answer = AnswersEnd whose (feed_place whose earlier) answer
AnswersSource earlier (SessionEnd whose) answer = AnswersLast whose (feed_place whose earlier) answer

-- ---- the order in which they are taken

-- a line, if it is one, before these
abbrev pub with_line : Source → List (List ℕ) → List (List ℕ)
with_line (Line line) rest = line ∷ rest
with_line (ScriptEnd whose) rest = rest
with_line (SessionEnd whose) rest = rest

-- the lines in the order in which they were read, and then these
abbrev pub lines_then : Transcript → List (List ℕ) → List (List ℕ)
lines_then [] rest = rest
lines_then (taking ∷ earlier) rest = lines_then earlier (with_line taking.source rest)

-- this is a line
abbrev pub IsScriptLine : Source → Type 0
IsScriptLine (Line line) = ⊤
IsScriptLine (ScriptEnd whose) = ⊥
IsScriptLine (SessionEnd whose) = ⊥

-- nothing but lines was taken
abbrev pub OnlyLines : Transcript → Type 0
OnlyLines [] = ⊤
OnlyLines (taking ∷ earlier) = IsScriptLine taking.source × OnlyLines earlier

-- the lines that are whole within the limit of a script, and all of them where the script ends within it
abbrev pub script_lines : List ℕ → List (List ℕ)
script_lines script = if nat_le (length script) script_limit then lines_of script else whole_lines (take script_limit script)

-- this one was taken last
abbrev pub IsLastTaken : Source → Transcript → Type 0
IsLastTaken source [] = ⊥
IsLastTaken source (taking ∷ earlier) = taking.source ≡ source

-- Lines are taken in their order up to the last one, or until both sessions have quit. Then the script ends for the first session and for
-- the second, and then the first session ends, and the second.
abbrev pub Comes : List ℕ → Transcript → Source → Type 0
Comes script earlier (Line line) =
    OnlyLines earlier × ¬ AreOver earlier × ((rest : List (List ℕ)) × (script_lines script ≡ lines_then earlier (line ∷ rest)))
Comes script earlier (ScriptEnd which.One) = OnlyLines earlier × (AreOver earlier ⊎ (lines_then earlier [] ≡ lines_of script))
Comes script earlier (ScriptEnd which.Two) = IsLastTaken (ScriptEnd which.One) earlier
Comes script earlier (SessionEnd which.One) = IsLastTaken (ScriptEnd which.Two) earlier
Comes script earlier (SessionEnd which.Two) = IsLastTaken (SessionEnd which.One) earlier

-- Each is taken in this order, and has its answer.
abbrev pub IsTranscript : List ℕ → Transcript → Type 0
IsTranscript script [] = ⊤
IsTranscript script (taking ∷ earlier) =
    Comes script earlier taking.source × AnswersSource earlier taking.source taking.answer × IsTranscript script earlier
