-- What is known of a run of two sessions after its files were opened, before and after each line or end that it takes.
use Rattle.std.specs.Prelude.{IsErr, string_bytes}
use Rattle.std.specs.declared.result.Result.{Result}
use Rattle.std.specs.Prelude.{ℕ, Bool, true, not, List, [], ◌∷◌, ◌≡◌, ◌⊎◌, ◌<◌, ◌≤◌, ◌+◌, ◌^◌, ◌++◌, ⊤, All, length, IsTrue, IfSome, Option, Some, None}
use Rattle.vs_host.specs.Disk.{Disk}
use Rattle.vs_host.specs.Names.{names_of_file}
use Rattle.vs_host.specs.World.{Tells, Scene}
use Rattle.vs_excmd.specs.Request.{Instruction}
use Rattle.vs_script.specs.Ahead.{script_limit}
use Rattle.vs_script.specs.Feed as feed
use Rattle.vs_script.specs.declared.feed.CommandFeed.{CommandFeed}
use Rattle.vs_machine.specs.Replies.{opening_of}
use Rattle.vs_machine.specs.declared.command.Mark.{Mark}
use Rattle.vs_family.specs.declared.which.Which.{Which}
use Rattle.vs_family.specs.declared.which.Which.TheVariants as which
use Rattle.vs_safety.specs.Causes.{IsCounted, output_count}
use Rattle.vs_safety.specs.History.{HasBegunAmong, syncs_of}
use Rattle.vs_both.specs.Beside.{AreSetApart, AreBeside, others_of}
use Rattle.vs_both.specs.Both.{PartyStage, Running, Gone, BothGo}
use Rattle.vs_session.specs.declared.ending.End.{End}
use Rattle.vs_session.specs.declared.ending.End.TheVariants as end
use Rattle.vs_session.specs.declared.session.Session.{Session}
use Rattle.vs_session.specs.Session.{SessionState, accepts_quit}
use Rattle.vs_session.specs.Fits.{Fits, FitsUndo, generation_of, names_of}
use Rattle.vs_session.specs.Opened.{Opened}
use Rattle.vs_multi.specs.declared.multi.Multi.{Multi}
use Rattle.vs_multi.specs.Multi.{FitsBoth, session_of}
use Rattle.vs_multi.specs.Opening.{BothStandOpen}
use Rattle.vs_top.specs.Readers.{MakesOwn}
use Rattle.vs_top.specs.Run.{TellsRun, FaultHasCause, OnlyFolder, counts_of}
use Rattle.vs_tagged.specs.Tagged.{WritesTagged}
use Rattle.vs_top.specs.Tags.{tagged_for}
use Rattle.vs_top.specs.Turns.{AreCounted, document_at}
use Rattle.vs_top.specs.PairHistory.{PairAnswer, Answered, Left, AfterQuit, OfNone, Preserved, MayAnswer, WereSynced, file_for, has_error}
use Rattle.vs_top.specs.PairHistory.{marks_of_both, stage_of, state_for, written_both}
use Rattle.vs_top.specs.PairScript.{AnswersCommand, Comes, IsLastTaken, IsTranscript, FeedPlace, Reads, Over, ScriptEnd, SessionEnd, Source}
use Rattle.vs_top.specs.PairScript.{Transcript, answers_of, feed_place, taking}
use Rattle.vs_top.specs.PairPromise.{BothFit, EitherHasSwap, IsTimedBoth, LeavesOthers, MakesReadableBoth, files_in, party_for}
use Rattle.vs_top.specs.declared.ending.Ending.{Ending}
use Rattle.vs_top.specs.declared.pair.Sessions.{Sessions}

-- ---- over any host

-- one for a session that has ended
abbrev pub one_ended : Option Session → ℕ
one_ended None = 1
one_ended (Some session) = 0

-- how many sessions have ended
abbrev pub sessions_ended : Multi → ℕ
sessions_ended multi = one_ended multi.one + one_ended multi.two

-- The files were within their limits and had no swap files, but for commands that were answered so no call failed, and accepted quits took
-- at most so many answers of the clock.
pub record KeepsPair (tells : Tells) (one two : List ℕ) (old now : Scene) (most : ℕ) (marks : List Mark) : Type 0 where
  pub free : IsTrue tells.folder → EitherHasSwap one two old.folder → ⊥
  pub fit : IsTrue tells.folder → BothFit one two old
  pub counts : OnlyFolder (counts_of old) (counts_of now)
  pub causes : All (FaultHasCause (counts_of old) (counts_of now)) marks
  pub taken : IsTrue tells.script → length old.script ≤ length now.script + script_limit
  pub times : IsTrue tells.clock → IsTimedBoth most old now marks

-- a session takes so many commands more
abbrev pub TakesMore : ℕ → Option Session → Type 0
TakesMore more session = IfSome session (λ s. FitsUndo s × (generation_of s + more < 2 ^ 63))

-- Both sessions take so many commands more, and their feeds stand in their scripts.
pub record AreUsable (tells : Tells) (pair : Sessions) (more : ℕ) (now : Scene) : Type 0 where
  pub first : TakesMore more pair.multi.one
  pub second : TakesMore more pair.multi.two
  pub clock : IsTrue tells.clock → length now.answers + more < 2 ^ 63
  pub fits : FitsBoth tells pair.multi now.folder
  pub one_ready : feed.IsReady pair.one
  pub two_ready : feed.IsReady pair.two

-- ---- over a host that tells

-- a session that has not ended has this file, is in this state, and fits the folder after the syncs of its stage
abbrev pub IsInState : Opened → Option Session → SessionState → PartyStage → Disk → Type 0
IsInState file None state stage folder = ⊤
IsInState file (Some session) state (Running past) folder =
    (names_of session ≡ names_of_file file.name) × Fits session folder state (syncs_of past)
IsInState file (Some session) state (Gone past) folder = ⊥

-- All of these are answered, and the run waits for what it takes next.
pub record ToldPair (one two : List ℕ) (old now : Scene) (multi : Multi) (marks : List Mark) (clean : Bool) (transcript : Transcript) : Type 0 where
  pub beside : AreBeside (party_for which.One (files_in old one two)) (party_for which.Two (files_in old one two))
  pub settled : old.folder.pending ≡ []
  pub read : IsTranscript old.script transcript
  pub may : MayAnswer (files_in old one two) (answers_of transcript)
  pub kept : marks ≡ marks_of_both (answers_of transcript)
  pub synced : WereSynced (answers_of transcript)
  pub errors : clean ≡ not (has_error (files_in old one two) (answers_of transcript))
  pub output : now.output ≡ old.output ++ written_both (files_in old one two) (answers_of transcript)
  pub both : BothGo (party_for which.One (files_in old one two)) (party_for which.Two (files_in old one two)) old
      (stage_of which.One (files_in old one two) (answers_of transcript)) (stage_of which.Two (files_in old one two) (answers_of transcript)) now
  pub in_state : (session : Which) → IsInState (file_for session (files_in old one two)) (session_of session multi)
      (state_for session (files_in old one two) (answers_of transcript)) (stage_of session (files_in old one two) (answers_of transcript)) now.folder
  pub counted : AreCounted old now
  pub others : LeavesOthers one two old now
  pub readers : MakesReadableBoth (files_in old one two) (answers_of transcript) old now

-- ---- the places in the script

-- a session has ended, or its feed stands at its place
abbrev pub FeedStandsAt : Option Session → CommandFeed → FeedPlace → Type 0
FeedStandsAt None own Over = ⊤
FeedStandsAt None own (Reads reading) = ⊥
FeedStandsAt (Some session) own Over = ⊥
FeedStandsAt (Some session) own (Reads reading) = feed.IsAt own reading

-- the feed of a session
abbrev pub feed_of : Which → Sessions → CommandFeed
feed_of which.One pair = pair.one
feed_of which.Two pair = pair.two

-- So it is for both.
abbrev pub ArePlaced : Sessions → Transcript → Type 0
ArePlaced pair transcript = (session : Which) → FeedStandsAt (session_of session pair.multi) (feed_of session pair) (feed_place session transcript)

-- one more is answered, and the run waits for the next one
abbrev pub HasNext : List ℕ → List ℕ → Scene → Scene → Sessions → List Mark → Transcript → Source → Type 0
HasNext one two old now pair marks transcript source =
    (answer : Option PairAnswer) × ArePlaced pair (record { source = source; answer = answer } ∷ transcript)
    × ToldPair one two old now pair.multi marks pair.clean (record { source = source; answer = answer } ∷ transcript)

-- ---- a command

-- what is taken next has a command of this session, whatever is answered to it
abbrev pub AsksFor : Which → List ℕ → Transcript → Source → Instruction → Type 0
AsksFor session script transcript source command =
    (answer : PairAnswer) → AnswersCommand session (Some command) (Some answer)
    → IsTranscript script (taking source answer ∷ transcript)

-- a session goes on after an answer to its command, or has ended
abbrev pub StaysOpen : PairAnswer → Option Session → Type 0
StaysOpen (Answered whose run) None = ⊥
StaysOpen (Answered whose run) (Some session) = ⊤
StaysOpen (Left whose quit) None = ⊤
StaysOpen (Left whose quit) (Some session) = ⊥
StaysOpen (AfterQuit whose) session = ⊥
StaysOpen OfNone session = ⊥
StaysOpen (Preserved whose synced) session = ⊥

-- The command of what is taken next is answered.
pub record HasCommand (session : Which) (one two : List ℕ) (old now : Scene) (multi : Multi) (marks : List Mark) (clean : Bool)
    (transcript : Transcript) (source : Source) (command : Instruction) : Type 0 where
  pub answer : PairAnswer
  pub answers : AnswersCommand session (Some command) (Some answer)
  pub stays : StaysOpen answer (session_of session multi)
  pub told : ToldPair one two old now multi marks clean (taking source answer ∷ transcript)

-- ---- the end of a session

-- the answer with which a session ends
abbrev pub last_answer : End → Which → Instruction → Bool → PairAnswer
last_answer end.Sync session quit synced = Preserved session synced
last_answer end.Quit session quit synced = Left session quit

-- a quit was accepted
abbrev pub MayEnd : End → SessionState → Instruction → Type 0
MayEnd end.Sync state quit = ⊤
MayEnd end.Quit state quit = accepts_quit state quit ≡ true

-- What is taken next is the end of a session.
pub record AsksEnd (session : Which) (how : End) (script : List ℕ) (transcript : Transcript) (source : Source) (state : SessionState)
    (quit : Instruction) : Type 0 where
  pub may : MayEnd how state quit
  pub read : (synced : Bool) → IsTranscript script (taking source (last_answer how session quit synced) ∷ transcript)

-- ---- the whole course

-- Of the script all was taken that is to be taken, and the run waits for its end.
abbrev pub TookLines : List ℕ → List ℕ → Scene → Scene → Sessions → List Mark → Type 0
TookLines one two old now pair marks =
    (transcript : Transcript) × Comes old.script transcript (ScriptEnd which.One) × ArePlaced pair transcript
    × ToldPair one two old now pair.multi marks pair.clean transcript

-- both sessions have ended
abbrev pub EndedBoth : List ℕ → List ℕ → Scene → Scene → Sessions → List Mark → Type 0
EndedBoth one two old now pair marks =
    (transcript : Transcript) × IsLastTaken (SessionEnd which.Two) transcript × ToldPair one two old now pair.multi marks pair.clean transcript

-- the opening reply of a session, as it is written
abbrev pub greeting_of : Which → Option Session → List ℕ
greeting_of session None = []
greeting_of session (Some opened) = tagged_for session (opening_of (string_bytes opened.name) opened.found).bytes

-- the opening replies were written, that of the first session first
abbrev pub Greets : Tells → Multi → Result (Unit {0}) Ending → Scene → Scene → Type 0
Greets tells multi result old new =
    (IsErr result × WritesTagged tells (greeting_of which.One multi.one) (Unit {0}) old new)
    ⊎ ((mid : Scene) × WritesTagged tells (greeting_of which.One multi.one) ⊥ old mid
    × WritesTagged tells (greeting_of which.Two multi.two) (IsErr result) mid new)

-- Both files were opened, and nothing was written, over a host that tells.
pub record ToldOpenPair (one two : List ℕ) (old now : Scene) : Type 0 where
  pub beside : AreBeside (party_for which.One (files_in old one two)) (party_for which.Two (files_in old one two))
  pub settled : old.folder.pending ≡ []
  pub apart : AreSetApart (party_for which.One (files_in old one two)) (party_for which.Two (files_in old one two)) now.folder
  pub first : let party = party_for which.One (files_in old one two) in
      HasBegunAmong (others_of party) party.names (document_at old one) old now
  pub second : let party = party_for which.Two (files_in old one two) in
      HasBegunAmong (others_of party) party.names (document_at old two) old now
  pub counted : IsCounted output_count old now
  pub others : LeavesOthers one two old now
  pub readers : MakesOwn old now

-- Two sessions have just opened their files. The script is as it was.
pub record OpensPair (tells : Tells) (one two : List ℕ) (old now : Scene) (multi : Multi) : Type 0 where
  pub opened : BothStandOpen tells one two old now multi
  pub told : TellsRun tells → ToldOpenPair one two old now
  pub keeps : KeepsPair tells one two old now 0 []
  pub script : now.script ≡ old.script
