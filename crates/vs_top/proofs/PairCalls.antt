-- What each call of a run of two sessions answers: whole, or with the ending of the run.
use Rattle.std.proofs.Common.{◌≡◌, inr, ℕ, ◌<◌, ◌≤◌, ◌+◌, ◌^◌, Bool, true, false, not, ◌&&◌, List, [], ◌∷◌, ◌++◌, length, Option, Some, None, Result, Ok, Err, refl, sym, ap, subst, ◌∙◌, arith}
use Rattle.std.specs.Prelude.{IfErr, IfSome, IsErr, IsErrAnd, MatchResult, is_none}
use Rattle.vs_host.specs.Disk.{Disk}
use Rattle.vs_host.specs.World.{Tells, Scene}
use Rattle.vs_excmd.specs.Request.{Instruction, IsRequest}
use Rattle.vs_excmd.specs.declared.request.Request.{Request}
use Rattle.vs_family.specs.declared.which.Which.{Which}
use Rattle.vs_family.specs.declared.which.Which.TheVariants as which
use Rattle.vs_machine.specs.Machine.{is_done}
use Rattle.vs_machine.specs.Replies.{Answer as Reply}
use Rattle.vs_machine.specs.declared.command.Mark.{Mark}
use Rattle.vs_tagged.specs.Tagged.{WritesTagged}
use Rattle.vs_session.specs.declared.ending.End.{End}
use Rattle.vs_session.specs.declared.ending.End.TheVariants as end
use Rattle.vs_session.specs.declared.session.Session.{Session}
use Rattle.vs_session.specs.declared.session.Step.TheVariants as step
use Rattle.vs_session.specs.Calls.{Finishes}
use Rattle.vs_session.specs.Fits.{FitsUndo, IsStep, generation_of}
use Rattle.vs_multi.specs.declared.multi.Multi.{Multi}
use Rattle.vs_multi.specs.Multi.{other, session_of}
use Rattle.vs_multi.specs.Sessions.{Stays}
use Rattle.vs_multi.specs.Steps.{TakesStep}
use Rattle.vs_top.specs.Run.{TellsRun}
use Rattle.vs_top.specs.Tags.{tagged_for}
use Rattle.vs_top.specs.PairHistory.{Left, state_for}
use Rattle.vs_top.specs.PairScript.{Source, Transcript, answers_of, taking}
use Rattle.vs_top.specs.PairPromise.{EndsPair, HasRunBoth, files_in}
use Rattle.vs_top.specs.PairTurns.{AsksEnd, AsksFor, HasCommand, AreUsable, KeepsPair, TakesMore, ToldPair, sessions_ended, last_answer, one_ended}
use Rattle.vs_top.specs.declared.pair.Sessions.{Sessions}
use Rattle.vs_top.specs.declared.ending.Ending.{Ending}
use Rattle.vs_top.specs.declared.ending.Ending.TheVariants as ending
use Rattle.vs_top.proofs.Closing.{line_of}
use Rattle.vs_top.proofs.PairKeeps.{StepsWhere, ended_few, ended_same, ends_cut, ends_fault, keeps_finish, keeps_mark, keeps_puts, keeps_quit, steps_one}
use Rattle.vs_top.proofs.PairSteps.{end_cut, end_fails, end_whole, fit_stays, quit_told, running, step_cut, step_whole}

-- ---- results

-- a result of a write that is an error says so
pub by_put : (r : Result (Unit {0}) Ending) (P : Type 0) (Q : Ending → Type 0) → IfErr r (λ e. e ≡ ending.OutputFault) → (¬ IsErr r → P) → (IsErr r → Q ending.OutputFault) → MatchResult r (λ _. P) Q
by_put (Ok done) P Q out whole cut = whole (λ is. absurd (cc))
by_put (Err e) P Q out whole cut = subst Q (sym out) (cut refl)

-- a result of a call, handed on
pub by_call : (r : Result (Unit {0}) Ending) (P P' : Type 0) (Q Q' : Ending → Type 0) → (P → P') → ((e : Ending) → Q e → Q' e) → MatchResult r (λ _. P) Q → MatchResult r (λ _. P') Q'
by_call (Ok done) P P' Q Q' whole cut is = whole is
by_call (Err e) P P' Q Q' whole cut is = cut e is

-- a result that hands on an error
pub by_err : (r : Result (Unit {0}) Ending) (P : Type 0) (Q : Ending → Type 0) (one end : Ending) → IsErrAnd r (λ e. e ≡ one) → one ≡ end → Q end → MatchResult r (λ _. P) Q
by_err (Ok done) P Q one end is same has = absurd is
by_err (Err e) P Q one end is same has = subst Q (sym (is ∙ same)) has

pub some_of : (session : Option Session) → is_none session ≡ false → (s : Session) × (session ≡ Some s)
some_of None is = absurd (cc)
some_of (Some s) is = (s, refl)

pub if_some : (session : Option Session) (s : Session) (P : Session → Type 0) → session ≡ Some s → IfSome session P → P s
if_some session s P is has = subst (λ (o : Option Session). IfSome o P) is has

-- ---- room

takes_of : (tells : Tells) (pair : Sessions) (more : ℕ) (now : Scene) (session : Which) → AreUsable tells pair more now → TakesMore more (session_of session pair.multi)
takes_of tells pair more now which.One usable = usable.first
takes_of tells pair more now which.Two usable = usable.second

room_in : (more : ℕ) (session : Option Session) → TakesMore more session → IfSome session (λ s. generation_of s < 2 ^ 63)
room_in more None takes = tt
room_in more (Some s) takes = omega (arith, takes.1)

undo_in : (more : ℕ) (session : Option Session) → TakesMore more session → IfSome session FitsUndo
undo_in more None takes = tt
undo_in more (Some s) takes = takes.0

pub room_of : (tells : Tells) (pair : Sessions) (more : ℕ) (now : Scene) (session : Which) → AreUsable tells pair more now → IfSome (session_of session pair.multi) (λ s. generation_of s < 2 ^ 63)
room_of tells pair more now session usable = room_in more (session_of session pair.multi) (takes_of tells pair more now session usable)

pub undo_of : (tells : Tells) (pair : Sessions) (more : ℕ) (now : Scene) (session : Which) → AreUsable tells pair more now → IfSome (session_of session pair.multi) FitsUndo
undo_of tells pair more now session usable = undo_in more (session_of session pair.multi) (takes_of tells pair more now session usable)

-- a reply was written since
pub usable_puts : (tells : Tells) (pair : Sessions) (more : ℕ) (now new : Scene) (bytes : List ℕ) (Failed : Type 0) → WritesTagged tells bytes Failed now new → AreUsable tells pair more now → AreUsable tells pair more new
usable_puts tells pair more now new bytes Failed puts usable = record {
  first = usable.first;
  second = usable.second;
  clock = λ told. omega (arith, ap (λ (s : Scene). length s.answers) puts.frame, usable.clock told);
  fits = subst (λ (d : Disk). Rattle.vs_multi.specs.Multi.FitsBoth tells pair.multi d) (sym (ap (λ (s : Scene). s.folder) puts.frame)) usable.fits;
  one_ready = usable.one_ready;
  two_ready = usable.two_ready;
}

-- ---- the end of a session

module _ (tells : Tells) (session : Which) (how : End) (multi : Multi) (now mid : Scene) (is_open : is_none (session_of session multi) ≡ false) where
  abbrev opened : (s : Session) × (session_of session multi ≡ Some s)
  opened = some_of (session_of session multi) is_open

  -- it failed
  module _ (finishes : IfSome (session_of session multi) (λ s. Finishes tells s now mid how false)) where
    pub close_keeps_err : (one two : List ℕ) (old : Scene) (most : ℕ) (marks : List Mark) → KeepsPair tells one two old now most marks → most ≤ 2 → EndsPair tells one two old mid ending.FolderFault marks
    close_keeps_err one two old most marks keeps few =
        ends_fault tells one two old now most marks keeps few opened.0 how mid (if_some (session_of session multi) opened.0 (λ s. Finishes tells s now mid how false) opened.1 finishes)

    pub close_told_err : TellsRun tells → (one two : List ℕ) (old : Scene) (marks : List Mark) (clean : Bool) (transcript : Transcript) (source : Source) (quit : Instruction) → ToldPair one two old now multi marks clean transcript
        → AsksEnd session how old.script transcript source (state_for session (files_in old one two) (answers_of transcript)) quit → HasRunBoth one two old mid ending.FolderFault marks
    close_told_err told one two old marks clean transcript source quit here asks =
        end_fails tells told one two old now multi marks clean transcript here session opened.0 opened.1 how source quit asks mid
        (if_some (session_of session multi) opened.0 (λ s. Finishes tells s now mid how false) opened.1 finishes)

  -- its last line is written
  module _ (finishes : IfSome (session_of session multi) (λ s. Finishes tells s now mid how true)) (bytes : List ℕ) (r : Result (Unit {0}) Ending) (new : Scene) (puts : WritesTagged tells (tagged_for session bytes) (IsErr r) mid new)
      (out : IfErr r (λ e. e ≡ ending.OutputFault)) where
    done : Finishes tells opened.0 now mid how true
    done = if_some (session_of session multi) opened.0 (λ s. Finishes tells s now mid how true) opened.1 finishes

    pub close_keeps_ok : (one two : List ℕ) (old : Scene) (most : ℕ) (marks : List Mark) → KeepsPair tells one two old now most marks
        → MatchResult r (λ _. KeepsPair tells one two old new most marks) (λ e. most ≤ 2 → EndsPair tells one two old new e marks)
    close_keeps_ok one two old most marks keeps =
        let keeps_mid = keeps_finish tells one two old now most marks keeps opened.0 how mid true done in
        by_put r (KeepsPair tells one two old new most marks) (λ e. most ≤ 2 → EndsPair tells one two old new e marks) out
        (λ calm. keeps_puts tells one two old mid most marks keeps_mid (tagged_for session bytes) (IsErr r) new puts calm)
        (λ failed few. ends_cut tells one two old mid most marks keeps_mid few (tagged_for session bytes) (IsErr r) new puts failed)

    pub close_told_ok : bytes ≡ line_of how → TellsRun tells → (multi' : Multi) → session_of session multi' ≡ None → session_of (other session) multi' ≡ session_of (other session) multi
        → Stays tells (session_of (other session) multi) now mid → (one two : List ℕ) (old : Scene) (marks : List Mark) (clean : Bool) (transcript : Transcript) (source : Source) (quit : Instruction)
        → ToldPair one two old now multi marks clean transcript → AsksEnd session how old.script transcript source (state_for session (files_in old one two) (answers_of transcript)) quit
        → MatchResult r (λ _. ToldPair one two old new multi' marks clean (taking source (last_answer how session quit true) ∷ transcript)) (λ e. HasRunBoth one two old new e marks)
    close_told_ok line told multi' gone same stays one two old marks clean transcript source quit here asks =
        by_put r (ToldPair one two old new multi' marks clean (taking source (last_answer how session quit true) ∷ transcript)) (λ e. HasRunBoth one two old new e marks) out
        (λ calm. end_whole tells told one two old now multi marks clean transcript here session opened.0 opened.1 how source quit asks mid done bytes line (IsErr r) new puts calm multi' gone same
        (fit_stays tells (session_of (other session) multi) now mid stays))
        (λ failed. end_cut tells told one two old now multi marks clean transcript here session opened.0 opened.1 how source quit asks mid done bytes line (IsErr r) new puts failed)

-- ---- a step

module _ (tells : Tells) (session : Which) (multi multi' : Multi) (now stepped : Scene) (request : Request) (same : session_of (other session) multi' ≡ session_of (other session) multi) where
  module _ (s : Rattle.vs_session.specs.declared.session.Step.Step) (steps : StepsWhere tells request s (session_of session multi) (session_of session multi') now stepped) where
    abbrev taken : (b : Session) × (a : Session) × (session_of session multi ≡ Some b) × (session_of session multi' ≡ Some a) × TakesStep tells request s b a now stepped
    taken = steps_one tells request s now stepped (session_of session multi) (session_of session multi') steps

    pub ended_still : sessions_ended multi' ≡ sessions_ended multi
    ended_still = ended_same session multi multi' (ap one_ended taken.3 ∙ sym (ap one_ended taken.2)) same

  -- it was answered
  module _ (mark : Mark) (reply : Reply) (steps : StepsWhere tells request (step.Answer mark reply) (session_of session multi) (session_of session multi') now stepped) (marks marks' : List Mark) (kept : marks' ≡ marks ++ mark ∷ [])
      (r : Result (Unit {0}) Ending) (new : Scene) (puts : WritesTagged tells (tagged_for session reply.bytes) (IsErr r) stepped new) (out : IfErr r (λ e. e ≡ ending.OutputFault)) where
    took : (b : Session) × (a : Session) × (session_of session multi ≡ Some b) × (session_of session multi' ≡ Some a) × TakesStep tells request (step.Answer mark reply) b a now stepped
    took = taken (step.Answer mark reply) steps

    pub answer_keeps : (one two : List ℕ) (old : Scene) → KeepsPair tells one two old now (sessions_ended multi) marks
        → MatchResult r (λ _. KeepsPair tells one two old new (sessions_ended multi') marks') (λ e. EndsPair tells one two old new e marks')
    answer_keeps one two old keeps =
        let stepped_keeps : KeepsPair tells one two old stepped (sessions_ended multi') marks' =
        subst (λ (n : ℕ). KeepsPair tells one two old stepped n marks') (sym (ended_still (step.Answer mark reply) steps))
        (subst (λ (l : List Mark). KeepsPair tells one two old stepped (sessions_ended multi) l) (sym kept)
        (keeps_mark tells one two old now (sessions_ended multi) marks keeps stepped took.4.frame took.4.cause.later mark took.4.clock took.4.cause.risen)) in
        by_put r (KeepsPair tells one two old new (sessions_ended multi') marks') (λ e. EndsPair tells one two old new e marks') out
        (λ calm. keeps_puts tells one two old stepped (sessions_ended multi') marks' stepped_keeps (tagged_for session reply.bytes) (IsErr r) new puts calm)
        (λ failed. ends_cut tells one two old stepped (sessions_ended multi') marks' stepped_keeps (ended_few multi') (tagged_for session reply.bytes) (IsErr r) new puts failed)

    pub answer_told : 0 < length reply.bytes → Stays tells (session_of (other session) multi) now stepped → TellsRun tells → (one two : List ℕ) (old : Scene) (clean clean' : Bool) → clean' ≡ (clean && (is_done mark.outcome && not reply.is_error))
        → (transcript : Transcript) (source : Source) (command : Instruction) → ToldPair one two old now multi marks clean transcript → IsRequest request command → AsksFor session old.script transcript source command
        → MatchResult r (λ _. HasCommand session one two old new multi' marks' clean' transcript source command) (λ e. HasRunBoth one two old new e marks')
    answer_told some stays told one two old clean clean' cleans transcript source command here meant asks =
        let state = state_for session (files_in old one two) (answers_of transcript) in
        let run = running tells told one two old now multi marks clean transcript here session took.0 took.2 in
        let answers = took.4.step told.folder state (Rattle.vs_safety.specs.History.syncs_of run.0) command run.3 meant in
        let fit = fit_stays tells (session_of (other session) multi) now stepped stays in
        by_put r (HasCommand session one two old new multi' marks' clean' transcript source command) (λ e. HasRunBoth one two old new e marks') out
        (λ calm. step_whole tells told one two old now multi marks clean transcript here session took.0 took.2 source command asks took.1 multi' took.3 same stepped took.4.frame fit mark reply took.4.file answers
        marks' kept some (IsErr r) new puts calm clean' cleans)
        (λ failed. step_cut tells told one two old now multi marks clean transcript here session took.0 took.2 source command asks took.1 multi' took.3 same stepped took.4.frame fit mark reply took.4.file answers
        marks' kept some (IsErr r) new puts failed)

  -- it was an accepted quit
  module _ (steps : StepsWhere tells request step.Quit (session_of session multi) (session_of session multi') now stepped) where
    left : (b : Session) × (a : Session) × (session_of session multi ≡ Some b) × (session_of session multi' ≡ Some a) × TakesStep tells request step.Quit b a now stepped
    left = taken step.Quit steps

    pub quit_keeps : (one two : List ℕ) (old : Scene) (marks : List Mark) → KeepsPair tells one two old now (sessions_ended multi) marks → KeepsPair tells one two old stepped (sessions_ended multi + 1) marks
    quit_keeps one two old marks keeps = keeps_quit tells one two old now (sessions_ended multi) marks keeps stepped left.4.frame left.4.cause.later left.4.clock

    module _ (told : TellsRun tells) (one two : List ℕ) (old : Scene) (marks : List Mark) (clean : Bool) (transcript : Transcript) (source : Source) (command : Instruction) (here : ToldPair one two old now multi marks clean transcript)
        (meant : IsRequest request command) (asks : AsksFor session old.script transcript source command) (stays : Stays tells (session_of (other session) multi) now stepped) where
      quit_step : IsStep step.Quit (state_for session (files_in old one two) (answers_of transcript)) (Rattle.vs_safety.specs.History.syncs_of (running tells told one two old now multi marks clean transcript here session left.0 left.2).0) command left.0 left.1 now stepped
      quit_step =
          let run = running tells told one two old now multi marks clean transcript here session left.0 left.2 in
          left.4.step told.folder (state_for session (files_in old one two) (answers_of transcript)) (Rattle.vs_safety.specs.History.syncs_of run.0) command run.3 meant

      pub quit_here : ToldPair one two old stepped multi' marks clean transcript
      quit_here =
          quit_told tells told one two old now multi marks clean transcript here session left.0 left.2 source command asks left.1 multi' left.3 same stepped left.4.frame
          (fit_stays tells (session_of (other session) multi) now stepped stays) quit_step.1 quit_step.2 quit_step.3 quit_step.4

      pub quit_asks : AsksEnd session end.Quit old.script transcript source (state_for session (files_in old one two) (answers_of transcript)) command
      quit_asks = record { may = quit_step.0; read = λ synced. asks (Left session command) (inr refl) }
