-- A file that takes the mode of another one, and which modes a run keeps, call by call.
use Rattle.std.proofs.Common.{◌≡◌, inl, inr, ℕ, nat_eq, Bool, List, [], ◌∷◌, Option, Some, None, option_map, OnOk, OnErr, Result, IsTrue, refl, sym, ap, subst}
use Rattle.std.specs.Prelude.{unwrap_or}
use Rattle.std.proofs.lemmas.Bool.{cond-true, eq-eqb}
use Rattle.vs_host.specs.File.{Syncs}
use Rattle.vs_host.specs.Disk.{Disk, Mode, Name, names_of, mode_in, modes_like, like, ChangesFile, MayBeLike}
use Rattle.vs_host.specs.Trace.{Kind, Synced}
use Rattle.vs_host.specs.World.{Tells, Scene, IsTold, ChangesFolder}
use Rattle.vs_disk.specs.Modes.{HasMode, HasModes, IsOf, KeepsModes}
use Rattle.vs_disk.specs.Runs.{Runs}
use Rattle.vs_disk.proofs.Modes.{mode_made, modes_none, modes_then, modes_file, modes_liked}
use Rattle.vs_disk.proofs.Runs.{one_call, runs_on}
use Rattle.vs_backup.proofs.Frames.{either}

-- the file that took the mode of a model has that one, or its own where there is no model
pub mode_of_like : (model name : Name) (own : Mode) (disk : Disk) → mode_in disk name ≡ Some own → mode_in (like model name disk) name ≡ Some (unwrap_or (mode_in disk model) own)
mode_of_like model name own disk is = at (names_of disk model) (names_of disk name) is
  where
    at : (from to : Option ℕ) → option_map disk.modes to ≡ Some own → option_map (modes_like from to disk.modes) to ≡ Some (unwrap_or (option_map disk.modes from) own)
    at from None is = absurd (cc)
    at None (Some n) is = is
    at (Some m) (Some n) is = ap (λ (mode : Mode). Some mode) (cond-true (nat_eq n n) (disk.modes m) (disk.modes n) (eq-eqb n n refl))

-- ---- which modes a run keeps
module _ (allowed : Mode → Bool) where
  pub has_mode_now : (name : Name) (disk : Disk) → HasModes allowed name disk → HasMode allowed name disk
  has_mode_now name disk has number leads = has 0 number leads

  -- a file that has the mode of the model, or an allowed one where there is no model
  pub has_like : (model name : Name) (own : Mode) (old new : Disk) → IsOf allowed own → HasModes allowed model old → mode_in new name ≡ Some (unwrap_or (mode_in old model) own) → HasMode allowed name new
  has_like model name own old new may has is = mode_made allowed name (unwrap_or (mode_in old model) own) new (at (names_of old model) refl) is
    where
      at : (from : Option ℕ) → names_of old model ≡ from → IsOf allowed (unwrap_or (option_map old.modes from) own)
      at None leads = may
      at (Some m) leads = has 0 m leads

  pub modes_on : (old mid new : Scene) → ChangesFolder old mid → Runs (KeepsModes allowed) old mid → Runs (KeepsModes allowed) mid new → Runs (KeepsModes allowed) old new
  modes_on = runs_on (KeepsModes allowed) (modes_then allowed)

  pub keeps_same : (old new : Disk) → new ≡ old → KeepsModes allowed old new
  keeps_same old new same = subst (λ (d : Disk). KeepsModes allowed old d) (sym same) (modes_none allowed old)

  -- a call that did what it says, or left the folder
  pub either_modes : (tells : Tells) → IsTrue tells.folder → (A : Disk → Disk → Type 0) → ((before after : Disk) → A before after → KeepsModes allowed before after) → (kind : Kind) (names : List Name) {T E : Type 0} (result : Result T E) (old new : Scene)
      → OnOk result (IsTrue tells.folder → A old.folder new.folder) → OnErr result (new.folder ≡ old.folder) → IsTold kind names result old new → ChangesFolder old new → Runs (KeepsModes allowed) old new
  either_modes tells tells_it A leads kind names result old new ok err told frame =
      one_call (KeepsModes allowed) kind names result old new frame told
      (either (IsTrue tells.folder → A old.folder new.folder) (new.folder ≡ old.folder) (KeepsModes allowed old.folder new.folder) result ok err
      (λ did. leads old.folder new.folder (did tells_it)) (keeps_same old.folder new.folder))

  -- a file that takes the mode of a model and is synced, whatever the call answers
  pub like_modes : (tells : Tells) → IsTrue tells.folder → (model name : Name) {T E : Type 0} (result : Result T E) (old new : Scene) → HasModes allowed model old.folder
      → OnOk result (IsTrue tells.folder → ChangesFile name Syncs (like model name old.folder) new.folder) → OnErr result (MayBeLike model name old.folder new.folder)
      → IsTold Synced (name ∷ []) result old new → ChangesFolder old new → Runs (KeepsModes allowed) old new
  like_modes tells tells_it model name result old new has ok err told frame =
      one_call (KeepsModes allowed) Synced (name ∷ []) result old new frame told
      (either (IsTrue tells.folder → ChangesFile name Syncs (like model name old.folder) new.folder) (MayBeLike model name old.folder new.folder) (KeepsModes allowed old.folder new.folder) result ok err
      (λ did. modes_then allowed old.folder (like model name old.folder) new.folder liked (modes_file allowed name Syncs (like model name old.folder) new.folder (did tells_it))) may)
    where
      liked : KeepsModes allowed old.folder (like model name old.folder)
      liked = modes_liked allowed model name old.folder (has_mode_now model old.folder has)

      may : MayBeLike model name old.folder new.folder → KeepsModes allowed old.folder new.folder
      may (inl same) = keeps_same old.folder new.folder same
      may (inr is) = subst (λ (d : Disk). KeepsModes allowed old.folder d) (sym is) liked
