-- A mode from its two phases: it works on the folder, and then it writes.
use Rattle.std.proofs.Common.{◌≡◌, ◌≢◌, ◌≤◌, ◌+◌, ℕ, List, Result, ◌++◌, arith, Ok, Err, OnOk, OnErr, IfErr, IsErr, IsTrue, refl, sym, ◌∙◌, ap, subst}
use Rattle.std.specs.Result.{IsErrAnd}
use Rattle.vs_faults.specs.Faults.{HasCause, HasRisen}
use Rattle.vs_host.specs.Disk.{Disk}
use Rattle.vs_host.specs.Trace.{GoesOn}
use Rattle.vs_host.specs.World.{Tells, Scene, ChangesFolder, ChangesOutput}
use Rattle.vs_disk.specs.Runs.{CallsAtMost, Inside, Runs, FailsLast, NoneFails, Quiet}
use Rattle.vs_disk.proofs.Quiet.{calls_none, calls_then, calls_within}
use Rattle.vs_disk.proofs.Runs.{goes_weaker, reads_change}
use Rattle.vs_pair.specs.Acts.{Acts}
use Rattle.vs_recover.specs.Reading.{ReadsAtMost}
use Rattle.vs_modes.specs.declared.error.ModeErr.{ModeErr}
use Rattle.vs_modes.specs.declared.error.ModeErr.TheVariants as refusal
use Rattle.vs_modes.specs.Moments.{IsSame, IsUnwritten, Proceeds, WritesLast}
use Rattle.vs_modes.specs.Modes.{Ended, LeavesAll, LeavesBy, AnswersBy, RunsMode}
use Rattle.vs_modes.specs.Output.{WritesPart, Outputs, NoWriteFails}
use Rattle.vs_modes.proofs.OutputLaws.{proceeds_none, proceeds_then, unwritten_none, unwritten_runs, writes_last, writes_nothing}

-- ---- work on the folder

pub runs_proceed : (step : Disk → Disk → Type 0) (old new : Scene) → Runs step old new → FailsLast old new → Proceeds step old new
runs_proceed step old new runs last = record {
  moments = goes_weaker (Inside old (step old.folder)) (λ m. step old.folder m.folder) (λ m inside. inside.folder) old.trace new.trace runs.moments;
  now = runs.now;
  last = last;
}

pub acts_proceed : (tells : Tells) (step : Disk → Disk → Type 0) (old new : Scene) → Acts tells step old new → IsTrue tells.folder → Proceeds step old new
acts_proceed tells step old new acts told = runs_proceed step old new (acts.runs told) (acts.last told)

-- The folder goes by the step at each moment, in at most so many calls of which none failed, and nothing else changed. So what is to be
-- written can be.
pub record IsReady (step : Disk → Disk → Type 0) (tells : Tells) (most : ℕ) (old mid : Scene) : Type 0 where
  pub frame : ChangesFolder old mid
  pub faults : mid.folder_faults ≡ old.folder_faults
  pub quiet : IsTrue tells.folder → Quiet old mid
  pub proceeds : IsTrue tells.folder → Proceeds step old mid
  pub calls : CallsAtMost tells old mid most
  pub unwritten : IsTrue tells.folder → GoesOn (IsUnwritten old) old.trace mid.trace

pub acts_ready : (tells : Tells) (step : Disk → Disk → Type 0) (most : ℕ) (old mid : Scene) → Acts tells step old mid → NoneFails tells old mid → CallsAtMost tells old mid most
    → IsReady step tells most old mid
acts_ready tells step most old mid acts none calls = record {
  frame = acts.frame;
  faults = none.faults;
  quiet = none.quiet;
  proceeds = acts_proceed tells step old mid acts;
  calls = calls;
  unwritten = λ told. unwritten_runs step old mid (acts.runs told);
}

reads_proceed : {T E : Type 0} {result : Result T E} {failed : E} {tells : Tells} {most : ℕ} (old new : Scene) → ReadsAtMost tells result failed old new most → IsTrue tells.folder → Proceeds IsSame old new
reads_proceed old new reads told = runs_proceed IsSame old new (reads.looks told) (reads.last told)

pub reads_ready : {T E : Type 0} {x : T} {failed : E} {tells : Tells} {most : ℕ} (old mid : Scene) → ReadsAtMost tells {T = T} {E = E} (Ok x) failed old mid most → IsReady IsSame tells most old mid
reads_ready old mid reads = record {
  frame = reads_change old mid reads.frame;
  faults = reads.none.faults;
  quiet = reads.none.quiet;
  proceeds = reads_proceed old mid reads;
  calls = reads.calls;
  unwritten = λ told. unwritten_runs IsSame old mid (reads.looks told);
}

-- ---- a mode that is refused before it writes

abbrev pub failed_as : {T : Type 0} → ModeErr → Ended T
failed_as why = Err why

pub refused_as : {T : Type 0} (result : Ended T) (why : ModeErr) → IsErrAnd result (λ e. e ≡ why) → Err why ≡ result
refused_as (Ok answer) why is = absurd is
refused_as {T} (Err e) why is = ap (λ (x : ModeErr). failed_as {T = T} x) (sym is)

-- the frame of a call on the folder in which none failed
leaves_none : (old new : Scene) → ChangesFolder old new → new.folder_faults ≡ old.folder_faults → LeavesAll old new
leaves_none old new frame same = frame ∙ (λ i. record old { folder = new.folder; folder_faults = same i; trace = new.trace })

-- the frame of a mode whose output or its count of faults changed too
written_frame : (old mid new : Scene) → ChangesFolder old mid → mid.folder_faults ≡ old.folder_faults → ChangesOutput mid new
    → new ≡ record old { folder = new.folder; output = new.output; out_faults = new.out_faults; trace = new.trace }
written_frame old mid new first same second =
    let still : mid.folder ≡ new.folder = sym (ap (λ (s : Scene). s.folder) second) in
    second ∙ ap (λ (s : Scene). record s { output = new.output; out_faults = new.out_faults; trace = new.trace }) first
    ∙ (λ i. record old { folder = still i; folder_faults = same i; output = new.output; out_faults = new.out_faults; trace = new.trace })

all_frame : (old mid new : Scene) → ChangesFolder old mid → mid.folder_faults ≡ old.folder_faults → ChangesOutput mid new → new.out_faults ≡ mid.out_faults
    → new ≡ record old { folder = new.folder; output = new.output; trace = new.trace }
all_frame old mid new first same second outs =
    let none : new.out_faults ≡ old.out_faults = outs ∙ ap (λ (s : Scene). s.out_faults) first in
    written_frame old mid new first same second ∙ (λ i. record old { folder = new.folder; output = new.output; out_faults = none i; trace = new.trace })

module _ {T : Type 0} (step : Disk → Disk → Type 0) (Wanted : T → List ℕ → Type 0) (Refused : ModeErr → Type 0) (tells : Tells) (most : ℕ) where
  leaves_refused : (old new : Scene) (why : ModeErr) → why ≢ refusal.OutputFailed → (why ≡ refusal.FolderFailed → HasRisen old.folder_faults new.folder_faults) → (why ≢ refusal.FolderFailed → new.folder_faults ≡ old.folder_faults)
      → old.folder_faults ≤ new.folder_faults → ChangesFolder old new → LeavesBy {T = T} (Err why) old new
  leaves_refused old new refusal.NoSwap other risen same later frame = leaves_none old new frame (same (λ is. cc))
  leaves_refused old new refusal.Encrypted other risen same later frame = leaves_none old new frame (same (λ is. cc))
  leaves_refused old new refusal.NotSwap other risen same later frame = leaves_none old new frame (same (λ is. cc))
  leaves_refused old new refusal.OutputFailed other risen same later frame = absurd (other refl)
  leaves_refused old new refusal.FolderFailed other risen same later frame = (risen refl, later, frame)
  leaves_refused old new refusal.NoMemory other risen same later frame = leaves_none old new frame (same (λ is. cc))

  answers_refused : (old new : Scene) (why : ModeErr) → why ≢ refusal.OutputFailed → Refused why → AnswersBy Wanted Refused tells (Err why) old new
  answers_refused old new refusal.NoSwap other refused = refused
  answers_refused old new refusal.Encrypted other refused = refused
  answers_refused old new refusal.NotSwap other refused = refused
  answers_refused old new refusal.OutputFailed other refused = absurd (other refl)
  answers_refused old new refusal.FolderFailed other refused = refused
  answers_refused old new refusal.NoMemory other refused = refused

  pub mode_refused : (old new : Scene) (why : ModeErr) → why ≢ refusal.OutputFailed → (why ≡ refusal.FolderFailed → HasRisen old.folder_faults new.folder_faults) → (why ≢ refusal.FolderFailed → new.folder_faults ≡ old.folder_faults)
      → old.folder_faults ≤ new.folder_faults → ChangesFolder old new → (IsTrue tells.folder → Proceeds step old new) → CallsAtMost tells old new most → (IsTrue tells.folder → GoesOn (IsUnwritten old) old.trace new.trace)
      → (IsTrue tells.folder → Refused why) → RunsMode step Wanted Refused tells most old new (Err why)
  mode_refused old new why other risen same later frame proceeds calls unwritten refused = record {
    leaves = leaves_refused old new why other risen same later frame;
    proceeds = proceeds;
    calls = calls;
    order = λ told. writes_nothing old new (unwritten told);
    answer = λ told. answers_refused old new why other (refused told);
  }

  -- before anything is called
  pub mode_idle : (scene : Scene) → step scene.folder scene.folder → Refused refusal.NoMemory → RunsMode step Wanted Refused tells most scene scene (Err refusal.NoMemory)
  mode_idle scene same refused = record {
    leaves = refl;
    proceeds = λ told. proceeds_none step scene same;
    calls = calls_none tells scene most;
    order = λ told. writes_nothing scene scene (unwritten_none scene);
    answer = λ told. refused;
  }

  -- ---- a mode that writes at its end

  writes_proceed : (old mid new : Scene) → IsReady step tells most old mid → Outputs tells mid new → IsTrue tells.folder → Proceeds step old new
  writes_proceed old mid new ready outputs told =
      proceeds_then step IsSame step old mid new (λ d s. s) (λ d still. subst (λ (e : Disk). step old.folder e) (sym still) (ready.proceeds told).now) (ready.quiet told) (ready.proceeds told) (outputs.proceeds told)

  same_output : (old mid : Scene) → IsReady step tells most old mid → mid.output ≡ old.output
  same_output old mid ready = ap (λ (s : Scene). s.output) ready.frame

  written_calls : (old mid new : Scene) → IsReady step tells most old mid → CallsAtMost tells mid new 1 → CallsAtMost tells old new (most + 1)
  written_calls old mid new ready one = calls_then tells old mid new most 1 (most + 1) (omega arith) ready.calls one

  written_last : (old mid new : Scene) → IsReady step tells most old mid → Outputs tells mid new → CallsAtMost tells mid new 1 → IsTrue tells.folder → WritesLast old new
  written_last old mid new ready outputs one told =
      writes_last (λ m. IsSame mid.folder m.folder) old mid new (ready.unwritten told) (outputs.proceeds told).moments (one.calls told)

  -- all of it was written
  pub mode_wrote : (old mid new : Scene) (answer : T) (bytes : List ℕ) → (IsTrue tells.folder → Wanted answer bytes) → IsReady step tells most old mid → Outputs tells mid new → CallsAtMost tells mid new 1 → NoWriteFails tells mid new
      → (IsTrue tells.output → new.output ≡ mid.output ++ bytes) → RunsMode step Wanted Refused tells (most + 1) old new (Ok answer)
  mode_wrote old mid new answer bytes wanted ready outputs one none wrote = record {
    leaves = all_frame old mid new ready.frame ready.faults outputs.frame none.faults;
    proceeds = writes_proceed old mid new ready outputs;
    calls = written_calls old mid new ready one;
    order = written_last old mid new ready outputs one;
    answer = λ told. (bytes, wanted told, λ tells_it. wrote tells_it ∙ ap (λ (out : List ℕ). out ++ bytes) (same_output old mid ready));
  }

  -- a write failed
  pub mode_cut : (old mid new : Scene) (answer : T) (bytes : List ℕ) → (IsTrue tells.folder → Wanted answer bytes) → IsReady step tells most old mid → Outputs tells mid new → CallsAtMost tells mid new 1 → HasRisen mid.out_faults new.out_faults
      → (IsTrue tells.output → WritesPart bytes mid.output new.output) → RunsMode step Wanted Refused tells (most + 1) old new (Err refusal.OutputFailed)
  mode_cut old mid new answer bytes wanted ready outputs one risen part = record {
    leaves = (
      subst (λ (n : ℕ). HasRisen n new.out_faults) (ap (λ (s : Scene). s.out_faults) ready.frame) risen,
      written_frame old mid new ready.frame ready.faults outputs.frame,
    );
    proceeds = writes_proceed old mid new ready outputs;
    calls = written_calls old mid new ready one;
    order = written_last old mid new ready outputs one;
    answer = λ told. (answer, bytes, wanted told, λ tells_it. subst (λ (out : List ℕ). WritesPart bytes out new.output) (same_output old mid ready) (part tells_it));
  }

-- a mode that answers what its writing does
module _ (step : Disk → Disk → Type 0) (Wanted : Unit {0} → List ℕ → Type 0) (Refused : ModeErr → Type 0) (tells : Tells) (most : ℕ) where
  pub mode_written : (old mid new : Scene) (bytes : List ℕ) (result : Ended (Unit {0})) → (IsTrue tells.folder → Wanted tt bytes) → IsReady step tells most old mid → Outputs tells mid new → CallsAtMost tells mid new 1
      → HasCause mid.out_faults new.out_faults (IsErr result) → OnOk result (NoWriteFails tells mid new) → IfErr result (λ why. why ≡ refusal.OutputFailed)
      → OnOk result (IsTrue tells.output → new.output ≡ mid.output ++ bytes) → OnErr result (IsTrue tells.output → WritesPart bytes mid.output new.output) → RunsMode step Wanted Refused tells (most + 1) old new result
  mode_written old mid new bytes (Ok done) wanted ready outputs one cause none failed ok err = mode_wrote step Wanted Refused tells most old mid new done bytes wanted ready outputs one none ok
  mode_written old mid new bytes (Err why) wanted ready outputs one cause none failed ok err =
      subst (λ (e : ModeErr). RunsMode step Wanted Refused tells (most + 1) old new (Err e)) (sym failed) (mode_cut step Wanted Refused tells most old mid new tt bytes wanted ready outputs one (cause.risen refl) err)

-- ---- a mode that only reads before it is refused

module _ {T : Type 0} (Wanted : T → List ℕ → Type 0) (Refused : ModeErr → Type 0) (tells : Tells) where
  pub reading_refused : {U : Type 0} {most : ℕ} (old new : Scene) (why : ModeErr) → why ≢ refusal.OutputFailed → ReadsAtMost tells {T = U} {E = ModeErr} (Err why) refusal.FolderFailed old new most
      → (IsTrue tells.folder → Refused why) → RunsMode IsSame Wanted Refused tells (most + 1) old new (Err why)
  reading_refused {most} old new why other reads refused =
      mode_refused IsSame Wanted Refused tells (most + 1) old new why other (λ is. reads.cause.risen (ap (λ (e : ModeErr). Err e) is)) (λ not. (reads.none not).faults) reads.cause.later (reads_change old new reads.frame) (reads_proceed old new reads)
      (calls_within tells old new most (most + 1) (omega arith) reads.calls) (λ told. unwritten_runs IsSame old new (reads.looks told)) refused
