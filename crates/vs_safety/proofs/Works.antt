-- Work that a function says of the folder alone, read from the scene before the clock, and from the scene at its end.
use Rattle.std.proofs.Common.{◌≡◌, Bool, length, sym, ◌∙◌, ap, subst}
use Rattle.std.specs.Prelude.{None}
use Rattle.vs_host.specs.Disk.{Disk, Name}
use Rattle.vs_host.specs.Trace.{Snapshot, GoesOn}
use Rattle.vs_host.specs.World.{Scene, ChangesFolder}
use Rattle.vs_host.specs.declared.names.Names.{Names}
use Rattle.vs_disk.specs.Runs.{Inside, Runs}
use Rattle.vs_disk.proofs.Runs.{goes_then, goes_weaker}
use Rattle.vs_disk.proofs.Others.{same_then}
use Rattle.vs_safety.specs.Safety.{SparesAmong, WorksAmong}

-- a moment, seen from the end
inside_end : (mid new : Scene) (P Q : Disk → Type 0) → ChangesFolder mid new → ((d : Disk) → P d → Q d) → (m : Snapshot) → Inside mid P m → Inside new Q m
inside_end mid new P Q frame leads m inside = record {
  output = inside.output ∙ sym (ap (λ (s : Scene). s.output) frame);
  answered = inside.answered ∙ sym (ap (λ (s : Scene). length s.answers) frame);
  script_faults = inside.script_faults ∙ sym (ap (λ (s : Scene). s.script_faults) frame);
  out_faults = inside.out_faults ∙ sym (ap (λ (s : Scene). s.out_faults) frame);
  folder = leads m.folder inside.folder;
}

-- `mid` is the scene after the clock was read, or the scene before
pub works_from : (others : Name → Bool) (names : Names) (P : Disk → Type 0) (step : Disk → Disk → Type 0) (old mid new : Scene) → mid.folder ≡ old.folder → mid.output ≡ old.output → mid.trace ≡ old.trace → ChangesFolder mid new
    → Runs step mid new → ((d : Disk) → step mid.folder d → SparesAmong others names None P mid.folder d) → WorksAmong others names None P old new
works_from others names P step old mid new folder output trace frame runs leads =
    let spares : (d : Disk) → step mid.folder d → SparesAmong others names None P old.folder d = λ d s. subst (λ (f : Disk). SparesAmong others names None P f d) folder (leads d s) in
    record {
      moments = subst (λ t. GoesOn (Inside new (SparesAmong others names None P old.folder)) t new.trace) trace
          (goes_weaker (Inside mid (step mid.folder)) (Inside new (SparesAmong others names None P old.folder)) (inside_end mid new (step mid.folder) (SparesAmong others names None P old.folder) frame spares) mid.trace new.trace runs.moments);
      output = ap (λ (s : Scene). s.output) frame ∙ output;
      spared = (spares new.folder runs.now).spared;
    }

-- work after other work, by calls on the folder
pub works_then : (others : Name → Bool) (names : Names) (P : Disk → Type 0) (step : Disk → Disk → Type 0) (old mid new : Scene) → WorksAmong others names None P old mid → ChangesFolder mid new → Runs step mid new → ((d : Disk) → step mid.folder d → SparesAmong others names None P mid.folder d)
    → WorksAmong others names None P old new
works_then others names P step old mid new first frame runs leads =
    let spares : (d : Disk) → step mid.folder d → SparesAmong others names None P old.folder d = λ d s.
    let one = leads d s in record { folder = one.folder; spared = same_then others old.folder mid.folder d first.spared one.spared } in
    record {
      moments = goes_then (Inside new (SparesAmong others names None P old.folder)) old.trace mid.trace new.trace
          (goes_weaker (Inside mid (SparesAmong others names None P old.folder)) (Inside new (SparesAmong others names None P old.folder)) (inside_end mid new (SparesAmong others names None P old.folder) (SparesAmong others names None P old.folder) frame (λ d s. s)) old.trace mid.trace first.moments)
          (goes_weaker (Inside mid (step mid.folder)) (Inside new (SparesAmong others names None P old.folder)) (inside_end mid new (step mid.folder) (SparesAmong others names None P old.folder) frame spares) mid.trace new.trace runs.moments);
      output = ap (λ (s : Scene). s.output) frame ∙ first.output;
      spared = (spares new.folder runs.now).spared;
    }
