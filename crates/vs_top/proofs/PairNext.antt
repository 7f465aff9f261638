-- A line of two sessions: it is refused, it ends a command that is answered, or it ends none. Then the run waits for the next one.
use Rattle.std.proofs.Common.{◌≡◌, inr, ℕ, ◌+◌, ◌≤◌, Bool, true, false, List, ◌∷◌, Option, Some, None, Result, refl, sym, ap, subst, ◌∙◌, arith}
use Rattle.std.specs.Prelude.{IfErr, IsErr, MatchResult, is_none}
use Rattle.vs_host.specs.World.{Tells, Scene}
use Rattle.vs_excmd.specs.Request.{Instruction}
use Rattle.vs_script.specs.Feed as feed
use Rattle.vs_script.specs.Feed.{Reading, takes}
use Rattle.vs_script.specs.declared.feed.CommandFeed.{CommandFeed}
use Rattle.vs_split.specs.Tags.{LineOf, LineOfNone, tag_of}
use Rattle.vs_family.specs.declared.which.Which.{Which}
use Rattle.vs_family.specs.declared.which.Which.TheVariants as which
use Rattle.vs_machine.specs.declared.command.Mark.{Mark}
use Rattle.vs_session.specs.declared.session.Session.{Session}
use Rattle.vs_multi.specs.declared.multi.Multi.{Multi}
use Rattle.vs_multi.specs.Multi.{other, session_of}
use Rattle.vs_tagged.specs.Tagged.{WritesTagged}
use Rattle.vs_top.specs.Run.{TellsRun}
use Rattle.vs_top.specs.Tags.{no_session, session_ended, tagged_for}
use Rattle.vs_top.specs.PairHistory.{PairAnswer, AfterQuit, Left, OfNone}
use Rattle.vs_top.specs.PairScript.{AnswersSource, Comes, IsTranscript, Line, Over, FeedPlace, Reads, Source, Transcript, after_any, taking, feed_place, read_on}
use Rattle.vs_top.specs.PairPromise.{EndsPair, HasRunBoth}
use Rattle.vs_top.specs.PairTurns.{AsksFor, HasCommand, HasNext, ArePlaced, KeepsPair, FeedStandsAt, StaysOpen, ToldPair, sessions_ended, feed_of}
use Rattle.vs_top.specs.declared.pair.Sessions.{Sessions}
use Rattle.vs_top.specs.declared.ending.Ending.{Ending}
use Rattle.vs_top.specs.declared.ending.Ending.TheVariants as ending
use Rattle.vs_top.proofs.PairCalls.{by_call, by_put}
use Rattle.vs_top.proofs.PairKeeps.{ended_few, ended_next, ends_cut, keeps_puts}
use Rattle.vs_top.proofs.PairSteps.{cut_after, cut_none, said_after, said_none}
use Rattle.vs_top.proofs.PairTakes.{as_ended, item, line_none, line_other, line_own, none_line, over_at, own_line, placed_next, stands_after, told_silent}

-- ---- a quit

-- one session more has ended
pub quit_closes : (tells : Tells) (one two : List ℕ) (old new : Scene) (session : Which) (multi closed : Multi) (marks : List Mark) (r : Result (Unit {0}) Ending) → is_none (session_of session multi) ≡ false
    → session_of session closed ≡ None → session_of (other session) closed ≡ session_of (other session) multi
    → MatchResult r (λ _. KeepsPair tells one two old new (sessions_ended multi + 1) marks) (λ e. sessions_ended multi + 1 ≤ 2 → EndsPair tells one two old new e marks)
    → MatchResult r (λ _. KeepsPair tells one two old new (sessions_ended closed) marks) (λ e. EndsPair tells one two old new e marks)
quit_closes tells one two old new session multi closed marks r is_open gone same closes =
    let more = ended_next session multi closed is_open gone same in
    by_call r (KeepsPair tells one two old new (sessions_ended multi + 1) marks) (KeepsPair tells one two old new (sessions_ended closed) marks)
    (λ e. sessions_ended multi + 1 ≤ 2 → EndsPair tells one two old new e marks) (λ e. EndsPair tells one two old new e marks)
    (λ keeps. subst (λ (n : ℕ). KeepsPair tells one two old new n marks) (sym more) keeps) (λ e ends. ends (omega (arith, more, ended_few closed))) closes

-- its last line answers the command
pub quit_answers : (session : Which) (one two : List ℕ) (old new : Scene) (closed : Multi) (marks : List Mark) (clean : Bool) (transcript : Transcript) (source : Source) (command : Instruction) (r : Result (Unit {0}) Ending)
    → session_of session closed ≡ None
    → MatchResult r (λ _. ToldPair one two old new closed marks clean (taking source (Left session command) ∷ transcript)) (λ e. HasRunBoth one two old new e marks)
    → MatchResult r (λ _. HasCommand session one two old new closed marks clean transcript source command) (λ e. HasRunBoth one two old new e marks)
quit_answers session one two old new closed marks clean transcript source command r gone closes =
    by_call r (ToldPair one two old new closed marks clean (taking source (Left session command) ∷ transcript)) (HasCommand session one two old new closed marks clean transcript source command)
    (λ e. HasRunBoth one two old new e marks) (λ e. HasRunBoth one two old new e marks)
    (λ told. record {
      answer = Left session command;
      answers = inr refl;
      stays = subst (λ (o : Option Session). StaysOpen (Left session command) o) (sym gone) tt;
      told = told;
    }) (λ e has. has) closes

-- ---- a line that is refused

feed_clean : (session : Which) (pair : Sessions) → feed_of session (record pair { clean = false }) ≡ feed_of session pair
feed_clean which.One pair = refl
feed_clean which.Two pair = refl

module _ (tells : Tells) (now new : Scene) (pair refused : Sessions) (is : refused ≡ record pair { clean = false }) (bytes : List ℕ) (r : Result (Unit {0}) Ending) (out : IfErr r (λ e. e ≡ ending.OutputFault))
    (puts : WritesTagged tells bytes (IsErr r) now new) (one two : List ℕ) (old : Scene) (marks : List Mark) where
  pub refused_keeps : KeepsPair tells one two old now (sessions_ended pair.multi) marks
      → MatchResult r (λ _. KeepsPair tells one two old new (sessions_ended refused.multi) marks) (λ e. EndsPair tells one two old new e marks)
  refused_keeps keeps =
      subst (λ (p : Sessions). MatchResult r (λ _. KeepsPair tells one two old new (sessions_ended p.multi) marks) (λ e. EndsPair tells one two old new e marks)) (sym is)
      (by_put r (KeepsPair tells one two old new (sessions_ended pair.multi) marks) (λ e. EndsPair tells one two old new e marks) out
      (λ calm. keeps_puts tells one two old now (sessions_ended pair.multi) marks keeps bytes (IsErr r) new puts calm)
      (λ failed. ends_cut tells one two old now (sessions_ended pair.multi) marks keeps (ended_few pair.multi) bytes (IsErr r) new puts failed))

  module _ (told : TellsRun tells) (transcript : Transcript) (whole : List ℕ) (placed : ArePlaced pair transcript) (here : ToldPair one two old now pair.multi marks pair.clean transcript)
      (comes : Comes old.script transcript (Line whole)) where
    -- where both stand afterwards
    refused_by : (answer : PairAnswer) → ArePlaced (record pair { clean = false }) (taking (Line whole) answer ∷ transcript)
        → (¬ IsErr r → ToldPair one two old new pair.multi marks false (taking (Line whole) answer ∷ transcript)) → (IsErr r → HasRunBoth one two old new ending.OutputFault marks)
        → MatchResult r (λ _. HasNext one two old new refused marks transcript (Line whole)) (λ e. HasRunBoth one two old new e marks)
    refused_by answer stand said cut =
        subst (λ (p : Sessions). MatchResult r (λ _. HasNext one two old new p marks transcript (Line whole)) (λ e. HasRunBoth one two old new e marks)) (sym is)
        (by_put r (HasNext one two old new (record pair { clean = false }) marks transcript (Line whole)) (λ e. HasRunBoth one two old new e marks) out
        (λ calm. (Some answer, stand, said calm)) cut)

    -- it is no session's
    module _ (tag : tag_of whole ≡ LineOfNone) where
      none_stand : (session : Which) → FeedStandsAt (session_of session pair.multi) (feed_of session (record pair { clean = false })) (feed_place session (taking (Line whole) OfNone ∷ transcript))
      none_stand session =
          subst (λ (p : FeedPlace). FeedStandsAt (session_of session pair.multi) (feed_of session (record pair { clean = false })) p) (sym (line_none session whole (Some OfNone) transcript tag))
          (subst (λ (f : CommandFeed). FeedStandsAt (session_of session pair.multi) f (feed_place session transcript)) (sym (feed_clean session pair)) (placed session))

      none_read : IsTranscript old.script (taking (Line whole) OfNone ∷ transcript)
      none_read = (comes, none_line whole transcript tag, here.read)

      pub none_told : bytes ≡ no_session → MatchResult r (λ _. HasNext one two old new refused marks transcript (Line whole)) (λ e. HasRunBoth one two old new e marks)
      none_told are =
          let wrote : WritesTagged tells no_session (IsErr r) now new = subst (λ (l : List ℕ). WritesTagged tells l (IsErr r) now new) are puts in
          refused_by OfNone none_stand
          (λ calm. said_none tells told one two old now pair.multi marks pair.clean transcript here (Line whole) (IsErr r) new none_read wrote calm)
          (λ failed. cut_none tells told one two old now pair.multi marks pair.clean transcript here (Line whole) (IsErr r) new none_read wrote failed)

    -- it is that of a session that has ended
    module _ (session : Which) (own : List ℕ) (tag : tag_of whole ≡ LineOf session own) (ended : is_none (session_of session pair.multi) ≡ true) where
      over : (feed_place session transcript ≡ Over) × ((f : CommandFeed) → FeedStandsAt (session_of session pair.multi) f Over)
      over = over_at (session_of session pair.multi) (feed_of session pair) (feed_place session transcript) (placed session) ended

      after_read : IsTranscript old.script (taking (Line whole) (AfterQuit session) ∷ transcript)
      after_read = (comes, own_line session whole own (Some (AfterQuit session)) transcript Over tag over.0 refl, here.read)

      after_stand : ArePlaced (record pair { clean = false }) (taking (Line whole) (AfterQuit session) ∷ transcript)
      after_stand =
          placed_next session pair (record pair { clean = false }) transcript (taking (Line whole) (AfterQuit session)) placed (line_other session whole own (Some (AfterQuit session)) transcript tag)
          refl (feed_clean (other session) pair)
          (subst (λ (p : FeedPlace). FeedStandsAt (session_of session pair.multi) (feed_of session (record pair { clean = false })) p)
          (sym (line_own session whole own (Some (AfterQuit session)) transcript tag ∙ ap (read_on own (Some (AfterQuit session))) over.0)) (over.1 (feed_of session (record pair { clean = false }))))

      pub after_told : bytes ≡ tagged_for session session_ended → MatchResult r (λ _. HasNext one two old new refused marks transcript (Line whole)) (λ e. HasRunBoth one two old new e marks)
      after_told are =
          let wrote : WritesTagged tells (tagged_for session session_ended) (IsErr r) now new = subst (λ (l : List ℕ). WritesTagged tells l (IsErr r) now new) are puts in
          refused_by (AfterQuit session) after_stand
          (λ calm. said_after tells told one two old now pair.multi marks pair.clean transcript here (Line whole) (IsErr r) new session after_read wrote calm)
          (λ failed. cut_after tells told one two old now pair.multi marks pair.clean transcript here (Line whole) (IsErr r) new session after_read wrote failed)

-- ---- an entry of a session that has not ended

reads_stand : (session : Option Session) (own : CommandFeed) (reading : Reading) → is_none session ≡ false → feed.IsAt own reading → FeedStandsAt session own (Reads reading)
reads_stand None own reading is_open at = absurd (cc)
reads_stand (Some s) own reading is_open at = at

module _ (session : Which) (one two : List ℕ) (old new : Scene) (pair after : Sessions) (marks : List Mark) (transcript : Transcript) (source : Source) (reading : Reading) (placed : ArePlaced pair transcript)
    (beside : (answer : Option PairAnswer) → feed_place (other session) (item source answer ∷ transcript) ≡ feed_place (other session) transcript)
    (own : (answer : Option PairAnswer) → feed_place session (item source answer ∷ transcript) ≡ after_any answer (Reads reading))
    (same : session_of (other session) after.multi ≡ session_of (other session) pair.multi) (feeds : feed_of (other session) after ≡ feed_of (other session) pair)
    (at : feed.IsAt (feed_of session after) reading) where
  -- its command was answered
  pub command_next : (command : Instruction) → HasCommand session one two old new after.multi marks after.clean transcript source command → HasNext one two old new after marks transcript source
  command_next command has = (
    Some has.answer,
    placed_next session pair after transcript (item source (Some has.answer)) placed (beside (Some has.answer)) same feeds
        (subst (λ (p : FeedPlace). FeedStandsAt (session_of session after.multi) (feed_of session after) p) (sym (own (Some has.answer)))
        (stands_after has.answer (session_of session after.multi) (feed_of session after) reading has.stays at)),
    has.told,
  )

  -- it ended none
  pub silent_next : is_none (session_of session after.multi) ≡ false → Comes old.script transcript source → AnswersSource transcript source None → ToldPair one two old new after.multi marks after.clean transcript
      → HasNext one two old new after marks transcript source
  silent_next is_open comes answers here = (
    None,
    placed_next session pair after transcript (item source None) placed (beside None) same feeds
        (subst (λ (p : FeedPlace). FeedStandsAt (session_of session after.multi) (feed_of session after) p) (sym (own None)) (reads_stand (session_of session after.multi) (feed_of session after) reading is_open at)),
    told_silent one two old new after.multi marks after.clean transcript source here comes answers,
  )

-- both feeds stayed
pub feed_same : (session : Which) (pair after : Sessions) → after.one ≡ pair.one → after.two ≡ pair.two → feed_of session after ≡ feed_of session pair
feed_same which.One pair after one two = one
feed_same which.Two pair after one two = two

-- ---- a line of a session that has not ended

module _ (session : Which) (whole own : List ℕ) (transcript : Transcript) (reading : Reading) (tag : tag_of whole ≡ LineOf session own) (at : feed_place session transcript ≡ Reads reading) where
  pub line_beside : (answer : Option PairAnswer) → feed_place (other session) (item (Line whole) answer ∷ transcript) ≡ feed_place (other session) transcript
  line_beside answer = line_other session whole own answer transcript tag

  pub line_read : (answer : Option PairAnswer) → feed_place session (item (Line whole) answer ∷ transcript) ≡ after_any answer (Reads (takes reading own).reading)
  line_read answer = line_own session whole own answer transcript tag ∙ ap (read_on own answer) at

  pub asks_line : (script : List ℕ) (command : Instruction) → (takes reading own).ended ≡ Some command → Comes script transcript (Line whole) → IsTranscript script transcript → AsksFor session script transcript (Line whole) command
  asks_line script command ended comes read = λ answer answers.
      (comes, own_line session whole own (Some answer) transcript (Reads reading) tag at (as_ended session (takes reading own).ended command (Some answer) ended answers), read)

-- a feed that took the line left the rest as it was
pub told_fed : (one two : List ℕ) (old now : Scene) (pair fed : Sessions) (marks : List Mark) (transcript : Transcript) → fed.multi ≡ pair.multi → fed.clean ≡ pair.clean
    → ToldPair one two old now pair.multi marks pair.clean transcript → ToldPair one two old now fed.multi marks fed.clean transcript
told_fed one two old now pair fed marks transcript multi clean here =
    subst (λ (m : Multi). ToldPair one two old now m marks fed.clean transcript) (sym multi) (subst (λ (b : Bool). ToldPair one two old now pair.multi marks b transcript) (sym clean) here)
