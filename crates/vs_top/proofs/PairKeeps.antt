-- What a run of two sessions keeps over any host, and what it says where it ends: counts of failed calls, times of marks, and room.
use Rattle.std.proofs.Common.{◌≡◌, ◌≤◌, ◌+◌, ℕ, Bool, true, false, List, [], ◌∷◌, ◌++◌, length, map, Option, Some, None, IsTrue, refl, sym, ap, subst, ◌∙◌, append_assoc, append-nil, arith}
use Rattle.std.specs.Prelude.{IsSomeAnd, if◌then◌else◌, is_none}
use Rattle.std.proofs.lemmas.List.{length-append}
use Rattle.std.proofs.lemmas.List.Elements.{All-nil, All-cons, All-append}
use Rattle.vs_faults.specs.Faults.{HasRisen}
use Rattle.vs_faults.proofs.Causes.{risen_after}
use Rattle.vs_host.specs.World.{Tells, Scene, ChangesScript, content_of}
use Rattle.vs_excmd.specs.declared.request.Request.{Request}
use Rattle.vs_script.specs.Ahead.{script_limit}
use Rattle.vs_script.specs.Feed.{IsReady}
use Rattle.vs_machine.specs.declared.command.Mark.{Mark}
use Rattle.vs_family.specs.declared.which.Which.{Which}
use Rattle.vs_family.specs.declared.which.Which.TheVariants as which
use Rattle.vs_tagged.specs.Tagged.{WritesTagged}
use Rattle.vs_session.specs.declared.ending.End.{End}
use Rattle.vs_session.specs.declared.session.Session.{Session}
use Rattle.vs_session.specs.declared.session.Step.{Step}
use Rattle.vs_session.specs.declared.session.Step.TheVariants as step
use Rattle.vs_session.specs.Session.{is_fault}
use Rattle.vs_session.specs.Calls.{Finishes}
use Rattle.vs_session.specs.Fits.{IsTimed, StepsIn}
use Rattle.vs_multi.specs.declared.multi.Multi.{Multi}
use Rattle.vs_multi.specs.Multi.{FitsBoth, other, session_of}
use Rattle.vs_multi.specs.Steps.{TakesStep}
use Rattle.vs_top.specs.Promise.{row}
use Rattle.vs_top.specs.Run.{counts_of, OnlyFolder, FaultHasCause}
use Rattle.vs_top.specs.PairPromise.{BothFit, EndsPair, IsMixed, IsTimedBoth, row_both}
use Rattle.vs_top.specs.PairTurns.{AreUsable, KeepsPair, TakesMore, sessions_ended, one_ended}
use Rattle.vs_top.specs.declared.pair.Sessions.{Sessions}
use Rattle.vs_top.specs.declared.ending.Ending.{Ending}
use Rattle.vs_top.specs.declared.ending.Ending.TheVariants as ending
use Rattle.vs_top.proofs.Pushes.{map_push}
use Rattle.vs_top.proofs.Counting.{causes_on, only_folder, only_output, only_script, only_then}

-- ---- times

-- one time more, of a mark
mixed_mark : (marks quits times : List ℕ) (at : ℕ) → IsMixed marks quits times → IsMixed (marks ++ at ∷ []) quits (times ++ at ∷ [])
mixed_mark [] quits times at is = (quits, [], [], sym (append-nil quits), ap (λ (l : List ℕ). l ++ at ∷ []) is, refl)
mixed_mark (m ∷ marks) quits times at is =
    let rest : List ℕ = is.2 in
    (is.0, is.1, rest ++ at ∷ [], is.3, ap (λ (l : List ℕ). l ++ at ∷ []) is.4 ∙ append_assoc is.0 (m ∷ rest) (at ∷ []), mixed_mark marks is.1 rest at is.5)

-- or of a quit
mixed_quit : (marks quits times : List ℕ) (at : ℕ) → IsMixed marks quits times → IsMixed marks (quits ++ at ∷ []) (times ++ at ∷ [])
mixed_quit [] quits times at is = ap (λ (l : List ℕ). l ++ at ∷ []) is
mixed_quit (m ∷ marks) quits times at is =
    let more : List ℕ = is.1 in
    let rest : List ℕ = is.2 in (
      is.0,
      more ++ at ∷ [],
      rest ++ at ∷ [],
      ap (λ (l : List ℕ). l ++ at ∷ []) is.3 ∙ append_assoc is.0 more (at ∷ []),
      ap (λ (l : List ℕ). l ++ at ∷ []) is.4 ∙ append_assoc is.0 (m ∷ rest) (at ∷ []),
      mixed_quit marks more rest at is.5,
    )

pub timed_same : (most : ℕ) (old now new : Scene) (marks : List Mark) → new.answers ≡ now.answers → IsTimedBoth most old now marks → IsTimedBoth most old new marks
timed_same most old now new marks same timed = record { quits = timed.quits; few = timed.few; times = timed.times; is = same ∙ timed.is; mixed = timed.mixed }

pub timed_more : (most more : ℕ) (old now : Scene) (marks : List Mark) → most ≤ more → IsTimedBoth most old now marks → IsTimedBoth more old now marks
timed_more most more old now marks le timed = record { quits = timed.quits; few = omega (arith, timed.few, le); times = timed.times; is = timed.is; mixed = timed.mixed }

timed_mark : (most : ℕ) (old now new : Scene) (marks : List Mark) (mark : Mark) → new.answers ≡ now.answers ++ mark.at ∷ [] → IsTimedBoth most old now marks
    → IsTimedBoth most old new (marks ++ mark ∷ [])
timed_mark most old now new marks mark more timed = record {
  quits = timed.quits;
  few = timed.few;
  times = timed.times ++ mark.at ∷ [];
  is = more ∙ ap (λ (l : List ℕ). l ++ mark.at ∷ []) timed.is ∙ append_assoc old.answers timed.times (mark.at ∷ []);
  mixed = subst (λ (l : List ℕ). IsMixed l timed.quits (timed.times ++ mark.at ∷ [])) (sym (map_push (λ (m : Mark). m.at) marks mark))
      (mixed_mark (map (λ (m : Mark). m.at) marks) timed.quits timed.times mark.at timed.mixed);
}

timed_quit : (most : ℕ) (old now new : Scene) (marks : List Mark) (at : ℕ) → new.answers ≡ now.answers ++ at ∷ [] → IsTimedBoth most old now marks
    → IsTimedBoth (most + 1) old new marks
timed_quit most old now new marks at more timed =
    let one : List ℕ = at ∷ [] in
    record {
      quits = timed.quits ++ one;
      few = omega (arith, timed.few, length-append timed.quits one);
      times = timed.times ++ one;
      is = more ∙ ap (λ (l : List ℕ). l ++ one) timed.is ∙ append_assoc old.answers timed.times one;
      mixed = mixed_quit (map (λ (m : Mark). m.at) marks) timed.quits timed.times at timed.mixed;
    }

-- ---- where a run goes on

module _ (tells : Tells) (one two : List ℕ) (old now : Scene) (most : ℕ) (marks : List Mark) (keeps : KeepsPair tells one two old now most marks) where
  -- the count of accepted quits may be smaller
  pub keeps_more : (more : ℕ) → most ≤ more → KeepsPair tells one two old now more marks
  keeps_more more le = record {
    free = keeps.free;
    fit = keeps.fit;
    counts = keeps.counts;
    causes = keeps.causes;
    taken = keeps.taken;
    times = λ told. timed_more most more old now marks le (keeps.times told);
  }

  -- calls after which the counts are no lower, that took nothing of the script and no time
  keeps_on : (new : Scene) → OnlyFolder (counts_of now) (counts_of new) → new.script ≡ now.script → new.answers ≡ now.answers → KeepsPair tells one two old new most marks
  keeps_on new only script answers = record {
    free = keeps.free;
    fit = keeps.fit;
    counts = only_then (counts_of old) (counts_of now) (counts_of new) keeps.counts only;
    causes = causes_on (counts_of old) (counts_of now) (counts_of new) marks only.later keeps.causes;
    taken = λ told. omega (arith, keeps.taken told, ap (λ (l : List ℕ). length l) script);
    times = λ told. timed_same most old now new marks answers (keeps.times told);
  }

  -- a reply was written
  pub keeps_puts : (bytes : List ℕ) (Failed : Type 0) (new : Scene) → WritesTagged tells bytes Failed now new → ¬ Failed → KeepsPair tells one two old new most marks
  keeps_puts bytes Failed new puts calm =
      let only = only_output now new puts.frame in
      keeps_on new (record { script = only.script; output = puts.quiet calm; later = only.later }) (ap (λ (s : Scene). s.script) puts.frame) (ap (λ (s : Scene). s.answers) puts.frame)

  -- a session ended
  pub keeps_finish : (session : Session) (how : End) (new : Scene) (done : Bool) → Finishes tells session now new how done → KeepsPair tells one two old new most marks
  keeps_finish session how new done finishes =
      keeps_on new (only_folder now new finishes.frame finishes.cause.later) (ap (λ (s : Scene). s.script) finishes.frame) (ap (λ (s : Scene). s.answers) finishes.frame)

  -- a command was answered
  module _ (new : Scene) (frame : StepsIn now new) (later : now.folder_faults ≤ new.folder_faults) where
    only_stepped : OnlyFolder (counts_of now) (counts_of new)
    only_stepped = record { script = ap (λ (s : Scene). s.script_faults) frame; output = ap (λ (s : Scene). s.out_faults) frame; later = later }

    pub keeps_mark : (mark : Mark) → (IsTrue tells.clock → new.answers ≡ now.answers ++ mark.at ∷ []) → (is_fault mark.outcome ≡ true → HasRisen now.folder_faults new.folder_faults)
        → KeepsPair tells one two old new most (marks ++ mark ∷ [])
    keeps_mark mark clock risen =
        let Has : Mark → Type 0 = FaultHasCause (counts_of old) (counts_of new) in
        record {
          free = keeps.free;
          fit = keeps.fit;
          counts = only_then (counts_of old) (counts_of now) (counts_of new) keeps.counts only_stepped;
          causes = All-append Has marks (mark ∷ []) (causes_on (counts_of old) (counts_of now) (counts_of new) marks later keeps.causes)
              (All-cons Has mark [] (λ is. risen_after keeps.counts.later (risen is)) (All-nil Has));
          taken = λ told. omega (arith, keeps.taken told, ap (λ (s : Scene). length s.script) frame);
          times = λ told. timed_mark most old now new marks mark (clock told) (keeps.times told);
        }

    -- or it was an accepted quit
    pub keeps_quit : (IsTrue tells.clock → (at : ℕ) × (new.answers ≡ now.answers ++ at ∷ [])) → KeepsPair tells one two old new (most + 1) marks
    keeps_quit clock = record {
      free = keeps.free;
      fit = keeps.fit;
      counts = only_then (counts_of old) (counts_of now) (counts_of new) keeps.counts only_stepped;
      causes = causes_on (counts_of old) (counts_of now) (counts_of new) marks later keeps.causes;
      taken = λ told. omega (arith, keeps.taken told, ap (λ (s : Scene). length s.script) frame);
      times = λ told. let at = clock told in timed_quit most old now new marks at.0 at.1 (keeps.times told);
    }

  -- ---- where it ends

  module _ (few : most ≤ 2) where
    ends_at : (new : Scene) (end : Ending) → (end ≡ ending.SwapFound → ⊥) → (BothFit one two old → (row_both end).files (content_of old one) (content_of old two)) → (IsTrue tells.script → length old.script ≤ length new.script + (row end).taken)
        → (row end).counts (counts_of old) (counts_of new) → now.folder_faults ≤ new.folder_faults → new.answers ≡ now.answers → EndsPair tells one two old new end marks
    ends_at new end not_swap files taken counts later answers = record {
      swap = λ told is. absurd (not_swap is);
      barred = λ told has. absurd (keeps.free told has);
      files = λ told. files (keeps.fit told);
      taken = taken;
      counts = counts;
      causes = causes_on (counts_of old) (counts_of now) (counts_of new) marks later keeps.causes;
      times = λ told. timed_more most 2 old new marks few (timed_same most old now new marks answers (keeps.times told));
    }

    -- a reply was written in part
    pub ends_cut : (bytes : List ℕ) (Failed : Type 0) (new : Scene) → WritesTagged tells bytes Failed now new → Failed → EndsPair tells one two old new ending.OutputFault marks
    ends_cut bytes Failed new puts failed =
        let only = only_output now new puts.frame in
        ends_at new ending.OutputFault (λ is. absurd (cc)) (λ fit. fit) (λ told. omega (arith, keeps.taken told, ap (λ (s : Scene). length s.script) puts.frame)) (
          subst (λ (k : ℕ). HasRisen k new.out_faults) keeps.counts.output (puts.cause.risen failed),
          record { script = only.script ∙ keeps.counts.script; output = refl; later = omega (arith, only.later, keeps.counts.later) },
        )
        only.later (ap (λ (s : Scene). s.answers) puts.frame)

    -- the last sync or the removal failed
    pub ends_fault : (session : Session) (how : End) (new : Scene) → Finishes tells session now new how false → EndsPair tells one two old new ending.FolderFault marks
    ends_fault session how new finishes =
        let only = only_folder now new finishes.frame finishes.cause.later in
        ends_at new ending.FolderFault (λ is. absurd (cc)) (λ fit. tt) (λ told. omega (arith, keeps.taken told, ap (λ (s : Scene). length s.script) finishes.frame))
        (risen_after keeps.counts.later (finishes.cause.risen refl), only_then (counts_of old) (counts_of now) (counts_of new) keeps.counts only)
        only.later (ap (λ (s : Scene). s.answers) finishes.frame)

    -- there was no memory
    pub ends_memory : EndsPair tells one two old now ending.NoMemory marks
    ends_memory = ends_at now ending.NoMemory (λ is. absurd (cc)) (λ fit. tt) keeps.taken keeps.counts (omega arith) refl

    -- all was answered
    pub ends_done : (clean : Bool) → EndsPair tells one two old now (if clean then ending.Done else ending.WithErrors) marks
    ends_done true = ends_at now ending.Done (λ is. absurd (cc)) (λ fit. fit) keeps.taken keeps.counts (omega arith) refl
    ends_done false = ends_at now ending.WithErrors (λ is. absurd (cc)) (λ fit. fit) keeps.taken keeps.counts (omega arith) refl

    -- a read failed
    pub ends_script : (new : Scene) → ChangesScript now new → HasRisen now.script_faults new.script_faults → (IsTrue tells.script → length old.script ≤ length new.script + script_limit)
        → EndsPair tells one two old new ending.ScriptFault marks
    ends_script new frame rose taken =
        let only = only_script now new frame in
        ends_at new ending.ScriptFault (λ is. absurd (cc)) (λ fit. fit) taken (
          subst (λ (k : ℕ). HasRisen k new.script_faults) keeps.counts.script rose,
          record { script = refl; output = only.output ∙ keeps.counts.output; later = omega (arith, only.later, keeps.counts.later) },
        )
        only.later (ap (λ (s : Scene). s.answers) frame)

    -- the script has more bytes than it may have
    pub ends_long : (new : Scene) → ChangesScript now new → new.script_faults ≡ now.script_faults → (IsTrue tells.script → length old.script ≤ length new.script + (script_limit + 1))
        → EndsPair tells one two old new ending.ScriptTooLong marks
    ends_long new frame quiet taken =
        let only = only_script now new frame in
        ends_at new ending.ScriptTooLong (λ is. absurd (cc)) (λ fit. fit) taken
        (record { script = quiet ∙ keeps.counts.script; output = only.output ∙ keeps.counts.output; later = omega (arith, only.later, keeps.counts.later) })
        only.later (ap (λ (s : Scene). s.answers) frame)

  -- lines were read
  pub keeps_read : (new : Scene) → ChangesScript now new → new.script_faults ≡ now.script_faults → (IsTrue tells.script → length old.script ≤ length new.script + script_limit) → KeepsPair tells one two old new most marks
  keeps_read new frame quiet taken =
      let only = only_script now new frame in
      record {
        free = keeps.free;
        fit = keeps.fit;
        counts = only_then (counts_of old) (counts_of now) (counts_of new) keeps.counts (record { script = quiet; output = only.output; later = only.later });
        causes = causes_on (counts_of old) (counts_of now) (counts_of new) marks only.later keeps.causes;
        taken = taken;
        times = λ told. timed_same most old now new marks (ap (λ (s : Scene). s.answers) frame) (keeps.times told);
      }

-- ---- how many have ended

ended_one : (session : Option Session) → one_ended session ≤ 1
ended_one None = omega arith
ended_one (Some session) = omega arith

pub ended_few : (multi : Multi) → sessions_ended multi ≤ 2
ended_few multi = omega (arith, ended_one multi.one, ended_one multi.two)

is_open : (session : Option Session) → is_none session ≡ false → one_ended session ≡ 0
is_open None is = absurd (cc)
is_open (Some s) is = refl

-- one more
pub ended_next : (session : Which) (before after : Multi) → is_none (session_of session before) ≡ false → session_of session after ≡ None
    → session_of (other session) after ≡ session_of (other session) before → sessions_ended after ≡ sessions_ended before + 1
ended_next which.One before after is_one gone same = omega (arith, is_open before.one is_one, ap one_ended gone, ap one_ended same)
ended_next which.Two before after is_one gone same = omega (arith, is_open before.two is_one, ap one_ended gone, ap one_ended same)

-- or none
pub ended_same : (session : Which) (before after : Multi) → one_ended (session_of session after) ≡ one_ended (session_of session before)
    → session_of (other session) after ≡ session_of (other session) before → sessions_ended after ≡ sessions_ended before
ended_same which.One before after own same = omega (arith, own, ap one_ended same)
ended_same which.Two before after own same = omega (arith, own, ap one_ended same)

-- ---- room

pub takes_fewer : (more fewer : ℕ) (session : Option Session) → fewer ≤ more → TakesMore more session → TakesMore fewer session
takes_fewer more fewer None le takes = tt
takes_fewer more fewer (Some s) le takes = (takes.0, omega (arith, le, takes.1))

takes_same : (more fewer : ℕ) (before after : Option Session) → fewer ≤ more → after ≡ before → TakesMore more before → TakesMore fewer after
takes_same more fewer before after le same takes = subst (TakesMore fewer) (sym same) (takes_fewer more fewer before le takes)

takes_none : (more : ℕ) (session : Option Session) → session ≡ None → TakesMore more session
takes_none more session none = subst (TakesMore more) (sym none) tt

-- a session that was not finished took this step
abbrev pub StepsWhere : Tells → Request → Step → Option Session → Option Session → Scene → Scene → Type 0
StepsWhere tells request s before after old new = IsSomeAnd before (λ was. IsSomeAnd after (λ is. TakesStep tells request s was is old new))

takes_step : (tells : Tells) (request : Request) (s : Step) (old new : Scene) (more : ℕ) (before after : Option Session) → StepsWhere tells request s before after old new → TakesMore (more + 1) before → TakesMore more after
takes_step tells request s old new more None after steps takes = absurd steps
takes_step tells request s old new more (Some b) None steps takes = absurd steps
takes_step tells request s old new more (Some b) (Some a) steps takes = (steps.undo, omega (arith, steps.room, takes.1))

-- a step was taken
pub steps_one : (tells : Tells) (request : Request) (s : Step) (old new : Scene) (before after : Option Session) → StepsWhere tells request s before after old new
    → (b : Session) × (a : Session) × (before ≡ Some b) × (after ≡ Some a) × TakesStep tells request s b a old new
steps_one tells request s old new None after steps = absurd steps
steps_one tells request s old new (Some b) None steps = absurd steps
steps_one tells request s old new (Some b) (Some a) steps = (b, a, refl, refl, steps)

timed_long : (s : Step) (old new : Scene) → IsTimed s old new → length new.answers ≡ length old.answers + 1
timed_long (step.Answer mark reply) old new is = let one : List ℕ = mark.at ∷ [] in omega (arith, ap (λ (l : List ℕ). length l) is, length-append old.answers one)
timed_long step.Quit old new is = let one : List ℕ = is.0 ∷ [] in omega (arith, ap (λ (l : List ℕ). length l) is.1, length-append old.answers one)

module _ (tells : Tells) (pair new_pair : Sessions) (old new : Scene) (one_same : new_pair.one ≡ pair.one) (two_same : new_pair.two ≡ pair.two) (fits : FitsBoth tells new_pair.multi new.folder) where
  pub usable_step : (request : Request) (s : Step) (session : Which) (more : ℕ) → StepsWhere tells request s (session_of session pair.multi) (session_of session new_pair.multi) old new
      → session_of (other session) new_pair.multi ≡ session_of (other session) pair.multi → AreUsable tells pair (more + 1) old → AreUsable tells new_pair more new
  usable_step request s which.One more steps same usable = record {
    first = takes_step tells request s old new more pair.multi.one new_pair.multi.one steps usable.first;
    second = takes_same (more + 1) more pair.multi.two new_pair.multi.two (omega arith) same usable.second;
    clock = λ told. omega (arith, timed_long s old new ((steps_one tells request s old new pair.multi.one new_pair.multi.one steps).4.clock told), usable.clock told);
    fits = fits;
    one_ready = subst IsReady (sym one_same) usable.one_ready;
    two_ready = subst IsReady (sym two_same) usable.two_ready;
  }
  usable_step request s which.Two more steps same usable = record {
    first = takes_same (more + 1) more pair.multi.one new_pair.multi.one (omega arith) same usable.first;
    second = takes_step tells request s old new more pair.multi.two new_pair.multi.two steps usable.second;
    clock = λ told. omega (arith, timed_long s old new ((steps_one tells request s old new pair.multi.two new_pair.multi.two steps).4.clock told), usable.clock told);
    fits = fits;
    one_ready = subst IsReady (sym one_same) usable.one_ready;
    two_ready = subst IsReady (sym two_same) usable.two_ready;
  }

  -- a session ended
  pub usable_finish : (session : Which) (more : ℕ) → session_of session new_pair.multi ≡ None → session_of (other session) new_pair.multi ≡ session_of (other session) pair.multi → new.answers ≡ old.answers
      → AreUsable tells pair more old → AreUsable tells new_pair more new
  usable_finish which.One more gone same answers usable = record {
    first = takes_none more new_pair.multi.one gone;
    second = takes_same more more pair.multi.two new_pair.multi.two (omega arith) same usable.second;
    clock = λ told. omega (arith, ap (λ (l : List ℕ). length l) answers, usable.clock told);
    fits = fits;
    one_ready = subst IsReady (sym one_same) usable.one_ready;
    two_ready = subst IsReady (sym two_same) usable.two_ready;
  }
  usable_finish which.Two more gone same answers usable = record {
    first = takes_same more more pair.multi.one new_pair.multi.one (omega arith) same usable.first;
    second = takes_none more new_pair.multi.two gone;
    clock = λ told. omega (arith, ap (λ (l : List ℕ). length l) answers, usable.clock told);
    fits = fits;
    one_ready = subst IsReady (sym one_same) usable.one_ready;
    two_ready = subst IsReady (sym two_same) usable.two_ready;
  }
