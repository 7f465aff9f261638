-- The entries of the transcript of two sessions: where each session stands after one, and what is asked of it next.
use Rattle.std.proofs.Common.{◌≡◌, ℕ, Bool, true, false, List, ◌∷◌, Option, Some, None, refl, sym, ap, subst}
use Rattle.std.specs.Prelude.{is_none}
use Rattle.vs_host.specs.World.{Scene}
use Rattle.vs_excmd.specs.Request.{Instruction, IsRequest}
use Rattle.vs_excmd.specs.declared.request.Request.{Request}
use Rattle.vs_script.specs.Feed as feed
use Rattle.vs_script.specs.Feed.{Reading, ended_last, takes}
use Rattle.vs_script.specs.declared.feed.CommandFeed.{CommandFeed}
use Rattle.vs_split.specs.Tags.{Tag, LineOf, LineOfNone, tag_of}
use Rattle.vs_family.specs.declared.which.Which.{Which}
use Rattle.vs_family.specs.declared.which.Which.TheVariants as which
use Rattle.vs_machine.specs.declared.command.Mark.{Mark}
use Rattle.vs_session.specs.declared.session.Session.{Session}
use Rattle.vs_multi.specs.declared.multi.Multi.{Multi}
use Rattle.vs_multi.specs.Multi.{other, session_of}
use Rattle.vs_top.specs.PairHistory.{PairAnswer, Answered, Left, AfterQuit, OfNone, Preserved}
use Rattle.vs_top.specs.PairScript.{AnswersCommand, AnswersLine, AnswersOwn, AnswersSource, Comes, Taking, Line, Over, FeedPlace, Reads, ScriptEnd, SessionEnd, Source, Transcript, after_any, end_block, place_by, feed_place, read_on}
use Rattle.vs_top.specs.PairTurns.{ArePlaced, FeedStandsAt, StaysOpen, ToldPair, feed_of}
use Rattle.vs_top.specs.declared.pair.Sessions.{Sessions}
use Rattle.vs_top.proofs.PairSteps.{both_cases}

-- an entry with an answer, or without one
abbrev pub item : Source → Option PairAnswer → Taking
item source answer = record { source = source; answer = answer }

-- ---- where each session stands

-- after a line of one of them
pub line_own : (session : Which) (whole own : List ℕ) (answer : Option PairAnswer) (transcript : Transcript) → tag_of whole ≡ LineOf session own
    → feed_place session (item (Line whole) answer ∷ transcript) ≡ read_on own answer (feed_place session transcript)
line_own which.One whole own answer transcript tag = ap (λ (t : Tag). place_by which.One t answer (feed_place which.One transcript)) tag
line_own which.Two whole own answer transcript tag = ap (λ (t : Tag). place_by which.Two t answer (feed_place which.Two transcript)) tag

pub line_other : (session : Which) (whole own : List ℕ) (answer : Option PairAnswer) (transcript : Transcript) → tag_of whole ≡ LineOf session own
    → feed_place (other session) (item (Line whole) answer ∷ transcript) ≡ feed_place (other session) transcript
line_other which.One whole own answer transcript tag = ap (λ (t : Tag). place_by which.Two t answer (feed_place which.Two transcript)) tag
line_other which.Two whole own answer transcript tag = ap (λ (t : Tag). place_by which.One t answer (feed_place which.One transcript)) tag

-- after a line of neither
pub line_none : (session : Which) (whole : List ℕ) (answer : Option PairAnswer) (transcript : Transcript) → tag_of whole ≡ LineOfNone
    → feed_place session (item (Line whole) answer ∷ transcript) ≡ feed_place session transcript
line_none session whole answer transcript tag = ap (λ (t : Tag). place_by session t answer (feed_place session transcript)) tag

-- after the end of the script of one
pub end_own : (session : Which) (answer : Option PairAnswer) (transcript : Transcript) → feed_place session (item (ScriptEnd session) answer ∷ transcript) ≡ end_block answer (feed_place session transcript)
end_own which.One answer transcript = refl
end_own which.Two answer transcript = refl

pub end_other : (session : Which) (answer : Option PairAnswer) (transcript : Transcript) → feed_place (other session) (item (ScriptEnd session) answer ∷ transcript) ≡ feed_place (other session) transcript
end_other which.One answer transcript = refl
end_other which.Two answer transcript = refl

-- and after its own end
pub last_own : (session : Which) (answer : Option PairAnswer) (transcript : Transcript) → feed_place session (item (SessionEnd session) answer ∷ transcript) ≡ Over
last_own which.One answer transcript = refl
last_own which.Two answer transcript = refl

pub last_other : (session : Which) (answer : Option PairAnswer) (transcript : Transcript) → feed_place (other session) (item (SessionEnd session) answer ∷ transcript) ≡ feed_place (other session) transcript
last_other which.One answer transcript = refl
last_other which.Two answer transcript = refl

-- both stand where they do, if one does and the other is as before
pub placed_next : (session : Which) (pair pair' : Sessions) (transcript : Transcript) (e : Taking) → ArePlaced pair transcript → feed_place (other session) (e ∷ transcript) ≡ feed_place (other session) transcript
    → session_of (other session) pair'.multi ≡ session_of (other session) pair.multi → feed_of (other session) pair' ≡ feed_of (other session) pair
    → FeedStandsAt (session_of session pair'.multi) (feed_of session pair') (feed_place session (e ∷ transcript)) → ArePlaced pair' (e ∷ transcript)
placed_next session pair pair' transcript e placed place same feeds own =
    let next : Which = other session in
    both_cases (λ w. FeedStandsAt (session_of w pair'.multi) (feed_of w pair') (feed_place w (e ∷ transcript))) session own
    (subst (λ (p : FeedPlace). FeedStandsAt (session_of next pair'.multi) (feed_of next pair') p) (sym place)
    (subst (λ (f : CommandFeed). FeedStandsAt (session_of next pair'.multi) f (feed_place next transcript)) (sym feeds)
    (subst (λ (s : Option Session). FeedStandsAt s (feed_of next pair) (feed_place next transcript)) (sym same) (placed next))))

-- after a command that was answered
pub stands_after : (answer : PairAnswer) (session : Option Session) (feed_now : CommandFeed) (reading : Reading) → StaysOpen answer session → feed.IsAt feed_now reading → FeedStandsAt session feed_now (after_any (Some answer) (Reads reading))
stands_after (Answered whose run) None feed_now reading stays at = absurd stays
stands_after (Answered whose run) (Some s) feed_now reading stays at = at
stands_after (Left whose quit) None feed_now reading stays at = tt
stands_after (Left whose quit) (Some s) feed_now reading stays at = absurd stays
stands_after (AfterQuit whose) session feed_now reading stays at = absurd stays
stands_after OfNone session feed_now reading stays at = absurd stays
stands_after (Preserved whose synced) session feed_now reading stays at = absurd stays

-- a session that has not ended reads its script
pub reads_at : (session : Option Session) (feed_now : CommandFeed) (place : FeedPlace) → FeedStandsAt session feed_now place → is_none session ≡ false → (reading : Reading) × (place ≡ Reads reading) × feed.IsAt feed_now reading
reads_at None feed_now place stands is = absurd (cc)
reads_at (Some s) feed_now Over stands is = absurd stands
reads_at (Some s) feed_now (Reads reading) stands is = (reading, refl, stands)

-- one that has ended stands at its end
pub over_at : (session : Option Session) (feed_now : CommandFeed) (place : FeedPlace) → FeedStandsAt session feed_now place → is_none session ≡ true → (place ≡ Over) × ((f : CommandFeed) → FeedStandsAt session f Over)
over_at None feed_now Over stands is = (refl, λ f. tt)
over_at None feed_now (Reads reading) stands is = absurd stands
over_at (Some s) feed_now place stands is = absurd (cc)

-- ---- what is asked

-- a line of a session that has ended, or a line that may end a command
pub own_line : (session : Which) (whole own : List ℕ) (answer : Option PairAnswer) (transcript : Transcript) (place : FeedPlace) → tag_of whole ≡ LineOf session own → feed_place session transcript ≡ place → AnswersOwn session own place answer
    → AnswersSource transcript (Line whole) answer
own_line session whole own answer transcript place tag at answers =
    subst (λ (t : Tag). AnswersLine transcript t answer) (sym tag) (subst (λ (p : FeedPlace). AnswersOwn session own p answer) (sym at) answers)

pub none_line : (whole : List ℕ) (transcript : Transcript) → tag_of whole ≡ LineOfNone → AnswersSource transcript (Line whole) (Some OfNone)
none_line whole transcript tag = subst (λ (t : Tag). AnswersLine transcript t (Some OfNone)) (sym tag) refl

-- an end is that of a command, or of none
pub ended_by : (request : Request) (ended : Option Instruction) → feed.IsEnded (Some request) ended → (command : Instruction) × (ended ≡ Some command) × IsRequest request command
ended_by request None is = absurd is
ended_by request (Some command) is = (command, refl, is)

pub ended_none : (ended : Option Instruction) → feed.IsEnded None ended → ended ≡ None
ended_none None is = refl
ended_none (Some command) is = absurd is

-- the answer to a command that was ended
pub as_ended : (session : Which) (ended : Option Instruction) (command : Instruction) (answer : Option PairAnswer) → ended ≡ Some command → AnswersCommand session (Some command) answer → AnswersCommand session ended answer
as_ended session ended command answer is answers = subst (λ (e : Option Instruction). AnswersCommand session e answer) (sym is) answers

pub as_none : (session : Which) (ended : Option Instruction) → ended ≡ None → AnswersCommand session ended None
as_none session ended is = subst (λ (e : Option Instruction). AnswersCommand session e None) (sym is) refl

-- an entry without an answer
pub told_silent : (one two : List ℕ) (old now : Scene) (multi : Multi) (marks : List Mark) (clean : Bool) (transcript : Transcript) (source : Source) → ToldPair one two old now multi marks clean transcript → Comes old.script transcript source
    → AnswersSource transcript source None → ToldPair one two old now multi marks clean (item source None ∷ transcript)
told_silent one two old now multi marks clean transcript source here comes answers = record {
  beside = here.beside;
  settled = here.settled;
  read = (comes, answers, here.read);
  may = here.may;
  kept = here.kept;
  synced = here.synced;
  errors = here.errors;
  output = here.output;
  both = here.both;
  in_state = here.in_state;
  counted = here.counted;
  others = here.others;
  readers = here.readers;
}
