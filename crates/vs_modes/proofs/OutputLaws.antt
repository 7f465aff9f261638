-- What one write leaves, and how moments go on after a part in which no call failed.
use Rattle.std.proofs.Common.{◌≡◌, ◌≤◌, ◌+◌, ℕ, List, [], ◌∷◌, ◌++◌, length, take, drop, Result, IsErr, IsTrue, inl, inr, ap, ◌∙◌, arith}
use Rattle.std.proofs.lemmas.List.{length-append}
use Rattle.std.proofs.lemmas.List.{take-append-drop}
use Rattle.vs_faults.specs.Faults.{HasCause}
use Rattle.vs_host.specs.Disk.{Disk, Name}
use Rattle.vs_host.specs.Trace.{Kind, Snapshot, GoesOn, WroteOutput}
use Rattle.vs_host.specs.World.{Tells, Scene, IsTold, ChangesOutput, snapshot_of}
use Rattle.vs_disk.specs.Runs.{Inside, Quiet, Runs}
use Rattle.vs_disk.proofs.Runs.{fails_none, fails_call, quiet_none, quiet_call, goes_none, goes_then, goes_weaker}
use Rattle.vs_disk.proofs.Quiet.{last_then}
use Rattle.vs_modes.specs.Moments.{IsSame, IsUnwritten, Proceeds, WritesLast}
use Rattle.vs_modes.specs.Output.{WritesPart, Outputs, NoWriteFails}

-- ---- the moments

pub proceeds_none : (step : Disk → Disk → Type 0) (scene : Scene) → step scene.folder scene.folder → Proceeds step scene scene
proceeds_none step scene same = record { moments = goes_none (λ m. step scene.folder m.folder) scene.trace; now = same; last = fails_none scene }

call_moments : (P : Snapshot → Type 0) (kind : Kind) (names : List Name) {T E : Type 0} (result : Result T E) (old new : Scene) → IsTold kind names result old new → P (snapshot_of new kind names) → GoesOn P old.trace new.trace
call_moments P kind names result old new (inl is) here = record { added = snapshot_of new kind names ∷ []; is = is; each = (here, tt) }
call_moments P kind names result old new (inr missed) here = record { added = []; is = missed.1.trace; each = tt }

pub proceeds_call : (step : Disk → Disk → Type 0) (kind : Kind) (names : List Name) {T E : Type 0} (result : Result T E) (old new : Scene) → IsTold kind names result old new → step old.folder new.folder → Proceeds step old new
proceeds_call step kind names result old new told here = record {
  moments = call_moments (λ m. step old.folder m.folder) kind names result old new told here;
  now = here;
  last = fails_call kind names result old new told;
}

pub proceeds_then : (S T U : Disk → Disk → Type 0) (old mid new : Scene) → ((d : Disk) → S old.folder d → U old.folder d) → ((d : Disk) → T mid.folder d → U old.folder d)
    → Quiet old mid → Proceeds S old mid → Proceeds T mid new → Proceeds U old new
proceeds_then S T U old mid new weak joins quiet first second = record {
  moments = goes_then (λ m. U old.folder m.folder) old.trace mid.trace new.trace
      (goes_weaker (λ m. S old.folder m.folder) (λ m. U old.folder m.folder) (λ m. weak m.folder) old.trace mid.trace first.moments)
      (goes_weaker (λ m. T mid.folder m.folder) (λ m. U old.folder m.folder) (λ m. joins m.folder) mid.trace new.trace second.moments);
  now = joins new.folder second.now;
  last = last_then old mid new quiet second.last;
}

-- ---- what was written by the last call

pub unwritten_none : (scene : Scene) → GoesOn (IsUnwritten scene) scene.trace scene.trace
unwritten_none scene = goes_none (IsUnwritten scene) scene.trace

pub unwritten_runs : (step : Disk → Disk → Type 0) (old new : Scene) → Runs step old new → GoesOn (IsUnwritten old) old.trace new.trace
unwritten_runs step old new runs = goes_weaker (Inside old (step old.folder)) (IsUnwritten old) (λ m inside. inside.output) old.trace new.trace runs.moments

-- nothing was written
pub writes_nothing : (old new : Scene) → GoesOn (IsUnwritten old) old.trace new.trace → WritesLast old new
writes_nothing old new goes = record { last = []; earlier = goes.added; one = omega arith; is = goes.is; unwritten = goes.each }

-- one call more, which may have written
pub writes_last : (P : Snapshot → Type 0) (old mid new : Scene) → GoesOn (IsUnwritten old) old.trace mid.trace → GoesOn P mid.trace new.trace → length new.trace ≤ length mid.trace + 1
    → WritesLast old new
writes_last P old mid new goes more few = record {
  last = more.added;
  earlier = goes.added;
  one = let size = ap (λ (ms : List Snapshot). length ms) more.is ∙ length-append more.added mid.trace in omega (arith, size, few);
  is = more.is ∙ ap (λ (ms : List Snapshot). more.added ++ ms) goes.is;
  unwritten = goes.each;
}

-- ---- calls on the output

pub none_call : (tells : Tells) (names : List Name) {T E : Type 0} (result : Result T E) (old new : Scene) → ChangesOutput old new → (IsTrue tells.folder → IsTold WroteOutput names result old new) → new.out_faults ≡ old.out_faults → NoWriteFails tells old new
none_call tells names result old new frame told same = record {
  faults = same;
  quiet = λ tells_it. quiet_call WroteOutput names result old old new (quiet_none old) (told tells_it) (ap (λ (s : Scene). s.script_faults) frame) same (ap (λ (s : Scene). s.folder_faults) frame);
}

pub outputs_call : (tells : Tells) (names : List Name) {T E : Type 0} (result : Result T E) (old new : Scene) → ChangesOutput old new → HasCause old.out_faults new.out_faults (IsErr result)
    → (IsTrue tells.folder → IsTold WroteOutput names result old new) → Outputs tells old new
outputs_call tells names result old new frame cause told = record {
  frame = frame;
  later = cause.later;
  proceeds = λ tells_it. proceeds_call IsSame WroteOutput names result old new (told tells_it) (ap (λ (s : Scene). s.folder) frame);
}

-- ---- what was written

pub part_written : (bytes old new : List ℕ) → (n : ℕ) × (new ≡ old ++ take n bytes) → WritesPart bytes old new
part_written bytes old new found = (drop found.0 bytes, record { part = take found.0 bytes; is = take-append-drop found.0 bytes; output = found.1 })
