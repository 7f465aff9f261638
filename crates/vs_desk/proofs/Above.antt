-- Each call adds at most its own snapshot, which has the count as it is after it. So a desk goes on over a call on its folder.
use Rattle.std.proofs.Common.{◌≡◌, ◌≤◌, inl, inr, List, [], ◌∷◌, Result, IsErr, OnOk, IsTrue, arith}
use Rattle.vs_faults.specs.Faults.{HasCause}
use Rattle.vs_host.specs.Disk.{Name}
use Rattle.vs_host.specs.Trace.{Kind}
use Rattle.vs_host.specs.World.{Tells, Scene, ChangesFolder, IsTold, ReadsFolder, snapshot_of}
use Rattle.vs_faults.specs.OneCause.{HasOneCause}
use Rattle.vs_faults.proofs.OneCause.{one_as}
use Rattle.vs_disk.specs.Faults.{HasCounts, NeverFalls, earlier_faults}
use Rattle.vs_disk.proofs.Runs.{goes_weaker}
use Rattle.vs_backup.specs.Desks.{GoesOn, OnlyReads}
use Rattle.vs_backup.proofs.Counted.{stops_counted}
use Rattle.vs_backup.proofs.Going.{GoesOn-call, OnlyReads-call}
use Rattle.vs_desk.specs.Counts.{NoneAbove}

above_call : (kind : Kind) (names : List Name) {T E : Type 0} (result : Result T E) (old new : Scene) → old.folder_faults ≤ new.folder_faults → IsTold kind names result old new → NoneAbove old new
above_call kind names result old new later (inl is) = record { later = later; moments = record { added = snapshot_of new kind names ∷ []; is = is; each = (omega arith, tt) } }
above_call kind names result old new later (inr missed) = record { later = later; moments = record { added = []; is = missed.1.trace; each = tt } }

-- calls that only look
pub above_counted : (old new : Scene) → NeverFalls old new → NoneAbove old new
above_counted old new never = record {
  later = never.later;
  moments = goes_weaker (HasCounts old new) (λ m. m.folder_faults ≤ new.folder_faults) (λ m has. has.most) old.trace new.trace never.moments;
}

-- a call that leaves all but the folder and the counts
module _ {D : Type 0} {tells : Tells} {scene : D → Scene} {IsValid : D → Type 0} {Stays : D → D → Type 0} {old new : D} (kind : Kind) (names : List Name) {T E : Type 0}
    (result : Result T E) (valid : IsValid new) (stays : (IsTrue tells.folder → NoneAbove (scene old) (scene new)) → Stays old new)
    (cause : HasCause (scene old).folder_faults (scene new).folder_faults (IsErr result)) (quiet : OnOk result ((scene new).folder_faults ≡ (scene old).folder_faults))
    (told : IsTrue tells.folder → IsTold kind names result (scene old) (scene new)) where
  pub changes : ChangesFolder (scene old) (scene new) → GoesOn tells scene IsValid Stays (IsErr result) old new
  changes frame = GoesOn-call kind names result valid (stays (λ is. above_call kind names result (scene old) (scene new) cause.later (told is))) cause quiet told frame

  pub reads : ReadsFolder (scene old) (scene new) → OnlyReads tells scene IsValid Stays (IsErr result) old new
  reads frame = OnlyReads-call kind names result valid (stays (λ is. above_call kind names result (scene old) (scene new) cause.later (told is))) cause quiet told frame

-- a call that only looks, whose answer says of failures as much as the counts do
pub reads_counted : {D : Type 0} {tells : Tells} {scene : D → Scene} {IsValid : D → Type 0} {Stays : D → D → Type 0} {old new : D} (F G : Type 0) → IsValid new
    → ((IsTrue tells.folder → NoneAbove (scene old) (scene new)) → Stays old new) → ReadsFolder (scene old) (scene new) → (IsTrue tells.folder → NeverFalls (scene old) (scene new))
    → HasOneCause (scene old).folder_faults (scene new).folder_faults (earlier_faults tells (scene new)) F → (G → F) → (F → G) → OnlyReads tells scene IsValid Stays G old new
reads_counted {tells = tells} {scene = scene} {old = old} {new = new} F G valid stays frame never cause on back =
    let is : HasOneCause (scene old).folder_faults (scene new).folder_faults (earlier_faults tells (scene new)) G = one_as cause on back in
    record {
      valid = valid;
      stays = stays (λ told. above_counted (scene old) (scene new) (never told));
      frame = frame;
      cause = record { later = is.later; risen = is.risen };
      stops = stops_counted tells G (scene old) (scene new) frame never is;
    }
