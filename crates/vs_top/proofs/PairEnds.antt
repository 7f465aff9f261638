-- The end of the script of two sessions: each of its four entries, and what is known after it.
use Rattle.std.proofs.Common.{◌≡◌, ℕ, ◌≤◌, Bool, true, false, not, List, [], ◌∷◌, Option, Some, None, Result, Err, length, refl, sym, ap, subst, ◌∙◌, arith}
use Rattle.std.proofs.lemmas.Bool.{true≢false}
use Rattle.std.specs.Prelude.{MatchResult, if◌then◌else◌, is_none}
use Rattle.vs_host.specs.Disk.{Disk}
use Rattle.vs_host.specs.World.{Tells, Scene, ChangesScript}
use Rattle.vs_exparse.specs.declared.command.ExErr.TheVariants as error
use Rattle.vs_excmd.specs.Request.{Instruction, IsRequest}
use Rattle.vs_excmd.specs.declared.request.Request.{Request}
use Rattle.vs_script.specs.Feed as feed
use Rattle.vs_script.specs.Feed.{Reading, Between, ended_last}
use Rattle.vs_script.specs.declared.feed.CommandFeed.{CommandFeed}
use Rattle.vs_family.specs.declared.which.Which.{Which}
use Rattle.vs_family.specs.declared.which.Which.TheVariants as which
use Rattle.vs_machine.specs.declared.command.Mark.{Mark}
use Rattle.vs_session.specs.declared.ending.End.TheVariants as end
use Rattle.vs_session.specs.declared.session.Session.{Session}
use Rattle.vs_multi.specs.declared.multi.Multi.{Multi}
use Rattle.vs_multi.specs.Multi.{FitsBoth, other, session_of}
use Rattle.vs_top.specs.Run.{TellsRun}
use Rattle.vs_top.specs.PairHistory.{Preserved, has_error, state_for}
use Rattle.vs_top.specs.PairScript.{AnswersCommand, AnswersEnd, AnswersLast, Comes, IsLastTaken, Over, FeedPlace, Reads, ScriptEnd, SessionEnd, Source, Transcript, after_any, answers_of, end_block, taking, feed_place}
use Rattle.vs_top.specs.PairHistory as history
use Rattle.vs_top.specs.PairPromise.{EndsPair, HasRunBoth, RunsPair, files_in}
use Rattle.vs_top.specs.PairTurns.{AsksEnd, AsksFor, HasCommand, EndedBoth, HasNext, ArePlaced, AreUsable, KeepsPair, FeedStandsAt, ToldPair, sessions_ended, feed_of, last_answer}
use Rattle.vs_top.specs.declared.pair.Sessions.{Sessions}
use Rattle.vs_top.specs.declared.ending.Ending.{Ending}
use Rattle.vs_top.specs.declared.ending.Ending.TheVariants as ending
use Rattle.vs_top.proofs.PairAnswers.{stopped_both}
use Rattle.vs_top.proofs.PairCalls.{by_call}
use Rattle.vs_top.proofs.PairKeeps.{ended_few, ended_next, ends_done, keeps_more}
use Rattle.vs_top.proofs.PairNext.{command_next, feed_same, silent_next, told_fed}
use Rattle.vs_top.proofs.PairTakes.{as_ended, as_none, end_other, end_own, ended_by, ended_none, item, last_other, last_own, over_at, placed_next, reads_at, told_silent}

-- ---- room

-- lines were read since
pub usable_read : (tells : Tells) (pair : Sessions) (more : ℕ) (now read : Scene) → ChangesScript now read → AreUsable tells pair more now → AreUsable tells pair more read
usable_read tells pair more now read frame usable = record {
  first = usable.first;
  second = usable.second;
  clock = λ told. omega (arith, ap (λ (s : Scene). length s.answers) frame, usable.clock told);
  fits = subst (λ (d : Disk). FitsBoth tells pair.multi d) (sym (ap (λ (s : Scene). s.folder) frame)) usable.fits;
  one_ready = usable.one_ready;
  two_ready = usable.two_ready;
}

stands_over : (session : Option Session) (own : CommandFeed) → session ≡ None → FeedStandsAt session own Over
stands_over session own none = subst (λ (s : Option Session). FeedStandsAt s own Over) (sym none) tt

-- a command without meaning
any_quit : Instruction
any_quit = record { parsed = Err error.E492; block = [] }

module _ (session : Which) (one two : List ℕ) (old now : Scene) (pair : Sessions) (marks : List Mark) (transcript : Transcript) (placed : ArePlaced pair transcript)
    (here : ToldPair one two old now pair.multi marks pair.clean transcript) where
  over_before : is_none (session_of session pair.multi) ≡ true → (feed_place session transcript ≡ Over) × ((f : CommandFeed) → FeedStandsAt (session_of session pair.multi) f Over)
  over_before none = over_at (session_of session pair.multi) (feed_of session pair) (feed_place session transcript) (placed session) none

  -- ---- the script of a session ends

  module _ (comes : Comes old.script transcript (ScriptEnd session)) where
    -- the session has ended before
    pub end_over : is_none (session_of session pair.multi) ≡ true → HasNext one two old now pair marks transcript (ScriptEnd session)
    end_over none =
        let over = over_before none in
        let place : feed_place session (item (ScriptEnd session) None ∷ transcript) ≡ Over = end_own session None transcript ∙ ap (λ (p : FeedPlace). end_block None p) over.0 in (
          None,
          placed_next session pair pair transcript (item (ScriptEnd session) None) placed (end_other session None transcript) refl refl
              (subst (λ (p : FeedPlace). FeedStandsAt (session_of session pair.multi) (feed_of session pair) p) (sym place) (over.1 (feed_of session pair))),
          told_silent one two old now pair.multi marks pair.clean transcript (ScriptEnd session) here comes (subst (λ (p : FeedPlace). AnswersEnd session p None) (sym over.0) refl),
        )

    -- it has not
    module _ (is_open : is_none (session_of session pair.multi) ≡ false) (pair' : Sessions) (same_multi : pair'.multi ≡ pair.multi) (same_clean : pair'.clean ≡ pair.clean)
        (same_feed : feed_of (other session) pair' ≡ feed_of (other session) pair) (left : feed.IsAt (feed_of session pair') Between) where
      reads : (reading : Reading) × (feed_place session transcript ≡ Reads reading) × feed.IsAt (feed_of session pair) reading
      reads = reads_at (session_of session pair.multi) (feed_of session pair) (feed_place session transcript) (placed session) is_open

      here_ended : ToldPair one two old now pair'.multi marks pair'.clean transcript
      here_ended = told_fed one two old now pair pair' marks transcript same_multi same_clean here

      session_same : (w : Which) → session_of w pair'.multi ≡ session_of w pair.multi
      session_same w = ap (λ (m : Multi). session_of w m) same_multi

      place_after : (answer : Option history.PairAnswer) → feed_place session (item (ScriptEnd session) answer ∷ transcript) ≡ after_any answer (Reads Between)
      place_after answer = end_own session answer transcript ∙ ap (λ (p : FeedPlace). end_block answer p) reads.1

      answers_end : (answer : Option history.PairAnswer) → AnswersCommand session (ended_last reads.0) answer → AnswersEnd session (feed_place session transcript) answer
      answers_end answer answers = subst (λ (p : FeedPlace). AnswersEnd session p answer) (sym reads.1) answers

      -- and no block was open
      pub end_silent : ((reading : Reading) → feed.IsAt (feed_of session pair) reading → feed.IsEnded None (ended_last reading)) → HasNext one two old now pair' marks transcript (ScriptEnd session)
      end_silent ended =
          silent_next session one two old now pair pair' marks transcript (ScriptEnd session) Between placed (λ answer. end_other session answer transcript) place_after (session_same (other session)) same_feed left
          (ap (λ (o : Option Session). is_none o) (session_same session) ∙ is_open) comes
          (answers_end None (as_none session (ended_last reads.0) (ended_none (ended_last reads.0) (ended reads.0 reads.2)))) here_ended

      -- or the command of the block is answered
      module _ (request : Request) (ended : (reading : Reading) → feed.IsAt (feed_of session pair) reading → feed.IsEnded (Some request) (ended_last reading)) where
        asked : (command : Instruction) × (ended_last reads.0 ≡ Some command) × IsRequest request command
        asked = ended_by request (ended_last reads.0) (ended reads.0 reads.2)

        asks : AsksFor session old.script transcript (ScriptEnd session) asked.0
        asks = λ answer answers. (comes, answers_end (Some answer) (as_ended session (ended_last reads.0) asked.0 (Some answer) asked.1 answers), here.read)

        module _ (new : Scene) (pair'' : Sessions) (marks' : List Mark) (same : session_of (other session) pair''.multi ≡ session_of (other session) pair'.multi) (one_same : pair''.one ≡ pair'.one)
            (two_same : pair''.two ≡ pair'.two) where
          end_next : HasCommand session one two old new pair''.multi marks' pair''.clean transcript (ScriptEnd session) asked.0 → HasNext one two old new pair'' marks' transcript (ScriptEnd session)
          end_next has =
              command_next session one two old new pair pair'' marks' transcript (ScriptEnd session) Between placed (λ answer. end_other session answer transcript) place_after (same ∙ session_same (other session))
              (feed_same (other session) pair' pair'' one_same two_same ∙ same_feed)
              (subst (λ (f : CommandFeed). feed.IsAt f Between) (sym (feed_same session pair' pair'' one_same two_same)) left) asked.0 has

          pub end_answered : (r : Result (Unit {0}) Ending)
              → ((source : Source) (command : Instruction) → ToldPair one two old now pair'.multi marks pair'.clean transcript → IsRequest request command → AsksFor session old.script transcript source command
              → MatchResult r (λ _. HasCommand session one two old new pair''.multi marks' pair''.clean transcript source command) (λ e. HasRunBoth one two old new e marks'))
              → MatchResult r (λ _. HasNext one two old new pair'' marks' transcript (ScriptEnd session)) (λ e. HasRunBoth one two old new e marks')
          end_answered r answered =
              by_call r (HasCommand session one two old new pair''.multi marks' pair''.clean transcript (ScriptEnd session) asked.0) (HasNext one two old new pair'' marks' transcript (ScriptEnd session))
              (λ e. HasRunBoth one two old new e marks') (λ e. HasRunBoth one two old new e marks') end_next (λ e ran. ran) (answered (ScriptEnd session) asked.0 here_ended asked.2 asks)

  -- ---- a session ends

  module _ (comes : Comes old.script transcript (SessionEnd session)) where
    -- it has ended before
    pub last_over : is_none (session_of session pair.multi) ≡ true → HasNext one two old now pair marks transcript (SessionEnd session)
    last_over none =
        let over = over_before none in (
          None,
          placed_next session pair pair transcript (item (SessionEnd session) None) placed (last_other session None transcript) refl refl
              (subst (λ (p : FeedPlace). FeedStandsAt (session_of session pair.multi) (feed_of session pair) p) (sym (last_own session None transcript)) (over.1 (feed_of session pair))),
          told_silent one two old now pair.multi marks pair.clean transcript (SessionEnd session) here comes (subst (λ (p : FeedPlace). AnswersLast session p None) (sym over.0) refl),
        )

    -- it has not
    module _ (is_open : is_none (session_of session pair.multi) ≡ false) where
      asks_last : AsksEnd session end.Sync old.script transcript (SessionEnd session) (state_for session (files_in old one two) (answers_of transcript)) any_quit
      asks_last =
          let at = reads_at (session_of session pair.multi) (feed_of session pair) (feed_place session transcript) (placed session) is_open in
          record {
            may = tt;
            read = λ synced. (comes, subst (λ (p : FeedPlace). AnswersLast session p (Some (Preserved session synced))) (sym at.1) (synced, refl), here.read);
          }

      module _ (new : Scene) (pair' : Sessions) (gone : session_of session pair'.multi ≡ None) (same : session_of (other session) pair'.multi ≡ session_of (other session) pair.multi)
          (one_same : pair'.one ≡ pair.one) (two_same : pair'.two ≡ pair.two) where
        last_next : ToldPair one two old new pair'.multi marks pair'.clean (taking (SessionEnd session) (Preserved session true) ∷ transcript) → HasNext one two old new pair' marks transcript (SessionEnd session)
        last_next told = (
          Some (Preserved session true),
          placed_next session pair pair' transcript (item (SessionEnd session) (Some (Preserved session true))) placed (last_other session (Some (Preserved session true)) transcript) same
              (feed_same (other session) pair pair' one_same two_same)
              (subst (λ (p : FeedPlace). FeedStandsAt (session_of session pair'.multi) (feed_of session pair') p) (sym (last_own session (Some (Preserved session true)) transcript))
              (stands_over (session_of session pair'.multi) (feed_of session pair') gone)),
          told,
        )

        pub last_answered : (r : Result (Unit {0}) Ending)
            → ((source : Source) (quit : Instruction) → ToldPair one two old now pair.multi marks pair.clean transcript
            → AsksEnd session end.Sync old.script transcript source (state_for session (files_in old one two) (answers_of transcript)) quit
            → MatchResult r (λ _. ToldPair one two old new pair'.multi marks pair'.clean (taking source (last_answer end.Sync session quit true) ∷ transcript)) (λ e. HasRunBoth one two old new e marks))
            → MatchResult r (λ _. HasNext one two old new pair' marks transcript (SessionEnd session)) (λ e. HasRunBoth one two old new e marks)
        last_answered r closed =
            by_call r (ToldPair one two old new pair'.multi marks pair'.clean (taking (SessionEnd session) (Preserved session true) ∷ transcript)) (HasNext one two old new pair' marks transcript (SessionEnd session))
            (λ e. HasRunBoth one two old new e marks) (λ e. HasRunBoth one two old new e marks) last_next (λ e ran. ran) (closed (SessionEnd session) any_quit here asks_last)

-- ---- over any host

-- a session ended, and one more has
pub last_keeps : (tells : Tells) (one two : List ℕ) (old now new : Scene) (session : Which) (multi multi' : Multi) (marks : List Mark) (r : Result (Unit {0}) Ending) → is_none (session_of session multi) ≡ false
    → session_of session multi' ≡ None → session_of (other session) multi' ≡ session_of (other session) multi
    → ((most : ℕ) → KeepsPair tells one two old now most marks → MatchResult r (λ _. KeepsPair tells one two old new most marks) (λ e. most ≤ 2 → EndsPair tells one two old new e marks))
    → KeepsPair tells one two old now (sessions_ended multi) marks → MatchResult r (λ _. KeepsPair tells one two old new (sessions_ended multi') marks) (λ e. EndsPair tells one two old new e marks)
last_keeps tells one two old now new session multi multi' marks r is_open gone same closed keeps =
    by_call r (KeepsPair tells one two old new (sessions_ended multi) marks) (KeepsPair tells one two old new (sessions_ended multi') marks) (λ e. sessions_ended multi ≤ 2 → EndsPair tells one two old new e marks)
    (λ e. EndsPair tells one two old new e marks)
    (λ kept. keeps_more tells one two old new (sessions_ended multi) marks kept (sessions_ended multi') (omega (arith, ended_next session multi multi' is_open gone same)))
    (λ e ends. ends (ended_few multi)) (closed (sessions_ended multi) keeps)

-- the answer of a session keeps how many have ended, where its end of the script does
pub keeps_multi : (tells : Tells) (one two : List ℕ) (old now : Scene) (multi multi' : Multi) (marks : List Mark) → multi' ≡ multi → KeepsPair tells one two old now (sessions_ended multi) marks → KeepsPair tells one two old now (sessions_ended multi') marks
keeps_multi tells one two old now multi multi' marks same keeps = subst (λ (m : Multi). KeepsPair tells one two old now (sessions_ended m) marks) (sym same) keeps

-- ---- both have ended

pub has_ended : (one two : List ℕ) (old now : Scene) (pair : Sessions) (marks : List Mark) (transcript : Transcript) → HasNext one two old now pair marks transcript (SessionEnd which.Two) → EndedBoth one two old now pair marks
has_ended one two old now pair marks transcript next = (item (SessionEnd which.Two) next.0 ∷ transcript, refl, next.2)

no_error : (b : Bool) → true ≡ not b → b ≡ false
no_error true is = absurd (true≢false is)
no_error false is = refl

some_error : (b : Bool) → false ≡ not b → b ≡ true
some_error true is = refl
some_error false is = absurd (true≢false (sym is))

module _ (tells : Tells) (told : TellsRun tells) (one two : List ℕ) (old now : Scene) (multi : Multi) (marks : List Mark) (transcript : Transcript) (newest : IsLastTaken (SessionEnd which.Two) transcript) where
  ended_both : (clean : Bool) → ToldPair one two old now multi marks clean transcript → HasRunBoth one two old now (if clean then ending.Done else ending.WithErrors) marks
  ended_both true here =
      stopped_both tells told one two old now now multi marks true transcript here ending.Done
      (record { ended = newest; whole = refl; errors_are = no_error (has_error (files_in old one two) (answers_of transcript)) here.errors }) tt
  ended_both false here =
      stopped_both tells told one two old now now multi marks false transcript here ending.WithErrors
      (record { ended = newest; whole = refl; errors_are = some_error (has_error (files_in old one two) (answers_of transcript)) here.errors }) tt

-- a run that came to its end
pub ended_runs : (tells : Tells) (one two : List ℕ) (old now : Scene) (pair : Sessions) (marks : List Mark) → (TellsRun tells → EndedBoth one two old now pair marks) → KeepsPair tells one two old now (sessions_ended pair.multi) marks
    → RunsPair tells one two old now (if pair.clean then ending.Done else ending.WithErrors) marks
ended_runs tells one two old now pair marks ended keeps = record {
  told = λ told. let has = ended told in ended_both tells told one two old now pair.multi marks has.0 has.1 pair.clean has.2;
  ends = ends_done tells one two old now (sessions_ended pair.multi) marks keeps (ended_few pair.multi) pair.clean;
}
