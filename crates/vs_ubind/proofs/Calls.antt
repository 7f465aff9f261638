-- Calls on a name as work on the folder that leaves the other names alone.
use Rattle.std.proofs.Common.{◌≡◌, ◌⊎◌, inl, inr, List, [], ◌∷◌, Result, OnOk, OnErr, IsErr, IsTrue, ℕ, refl, ◌∙◌}
use Rattle.vs_faults.specs.Faults.{HasCause}
use Rattle.vs_host.specs.File.{Syncs}
use Rattle.vs_host.specs.Disk.{Disk, Name, ChangesFile, MayBeLike, like}
use Rattle.vs_host.specs.Trace.{Kind, Synced}
use Rattle.vs_host.specs.World.{Tells, Scene, IsTold, ChangesFolder, ReadsFolder}
use Rattle.vs_disk.specs.Images.{Changes, Takes}
use Rattle.vs_disk.specs.Runs.{Runs, NoneFails}
use Rattle.vs_disk.proofs.Runs.{runs_as}
use Rattle.vs_pair.specs.Acts.{Acts}
use Rattle.vs_pair.proofs.Acts.{acts_as, acts_on}
use Rattle.vs_pair.proofs.Calls.{look_acts}
use Rattle.vs_backup.specs.Works.{IsAlone, Spares, one_name, two_names}
use Rattle.vs_backup.proofs.Filling.{changes_liked, changes_maybe}
use Rattle.vs_backup.proofs.Frames.{either, spares_file, spares_none, spares_one, spares_same, spares_then, spares_wider, takes_spared}
use Rattle.vs_ubind.specs.Storing.{ActsLike, Works}
use Rattle.vs_ubind.proofs.Works.{like_as, like_of, like_on, like_works, works_call, works_on}
use Rattle.vs_ubind.proofs.Modes.{like_modes}

spares_either : (on : Name → Type 0) (A : Disk → Disk → Type 0) → ((old new : Disk) → A old new → Spares on old new) → (old new : Disk) → A old new ⊎ (new ≡ old) → Spares on old new
spares_either on A leads old new (inl did) = leads old new did
spares_either on A leads old new (inr same) = spares_same on old new same

-- such a call as work that leaves the other names alone
pub spares_of : (tells : Tells) (on : Name → Type 0) (A : Disk → Disk → Type 0) → ((old new : Disk) → A old new → Spares on old new) → (old new : Scene) → Acts tells (λ a b. A a b ⊎ (b ≡ a)) old new → Acts tells (Spares on) old new
spares_of tells on A leads old new acts = acts_as tells (λ a b. A a b ⊎ (b ≡ a)) (Spares on) old new (λ tells_it d either. spares_either on A leads old.folder d either) acts

-- a call that only looks
pub spares_look : (tells : Tells) (on : Name → Type 0) (kind : Kind) (names : List Name) {T E : Type 0} (result : Result T E) (old new : Scene) → ReadsFolder old new → HasCause old.folder_faults new.folder_faults (IsErr result)
    → (IsTrue tells.folder → IsTold kind names result old new) → Acts tells (Spares on) old new
spares_look tells on kind names result old new frame cause told = look_acts tells (Spares on) kind names result old new frame cause told (λ tells_it. spares_none on old.folder)

-- work on a file that no other name leads to
pub spares_alone : (tells : Tells) (name : Name) (old new : Scene) → (IsTrue tells.folder → IsAlone name old.folder) → Acts tells (ChangesFile name Changes) old new → Acts tells (Spares (one_name name)) old new
spares_alone tells name old new alone acts =
    acts_as tells (ChangesFile name Changes) (Spares (one_name name)) old new (λ told d changes. spares_file name Changes old.folder d (alone told) changes) acts

-- work that goes on
pub spares_acts : (tells : Tells) (on : Name → Type 0) (old mid new : Scene) → NoneFails tells old mid → Acts tells (Spares on) old mid → Acts tells (Spares on) mid new → Acts tells (Spares on) old new
spares_acts tells on old mid new none first second = acts_on tells (Spares on) (spares_then on) old mid new none first second

-- ---- such work, by which files like another one are made
-- a call that did what it says, or left the folder
pub spares_call : (tells : Tells) (on : Name → Type 0) (A : Disk → Disk → Type 0) → ((old new : Disk) → A old new → Spares on old new) → (kind : Kind) (names : List Name) {T E : Type 0} (result : Result T E) (old new : Scene)
    → OnOk result (IsTrue tells.folder → A old.folder new.folder) → OnErr result (new.folder ≡ old.folder) → HasCause old.folder_faults new.folder_faults (IsErr result)
    → (IsTrue tells.folder → IsTold kind names result old new) → ChangesFolder old new → Works tells (Spares on) old new
spares_call tells on A leads kind names result old new ok err cause told frame =
    works_call tells (Spares on) kind names result old new frame cause told
    (λ tells_it. either (IsTrue tells.folder → A old.folder new.folder) (new.folder ≡ old.folder) (Spares on old.folder new.folder) result ok err
    (λ did. leads old.folder new.folder (did tells_it)) (λ same. spares_same on old.folder new.folder same))

pub spares_works : (tells : Tells) (on : Name → Type 0) (old mid new : Scene) → NoneFails tells old mid → Works tells (Spares on) old mid → Works tells (Spares on) mid new → Works tells (Spares on) old new
spares_works tells on old mid new none first second = works_on tells (Spares on) (spares_then on) old mid new none first second

module _ (tells : Tells) (model : Name) where
  -- a file that no other name leads to takes the mode of the model and is synced, whatever the call answers
  pub spares_synced_like : (name : Name) {T E : Type 0} (result : Result T E) (old new : Scene) → (IsTrue tells.folder → IsAlone name old.folder)
      → OnOk result (IsTrue tells.folder → ChangesFile name Syncs (like model name old.folder) new.folder) → OnErr result (MayBeLike model name old.folder new.folder)
      → HasCause old.folder_faults new.folder_faults (IsErr result) → (IsTrue tells.folder → IsTold Synced (name ∷ []) result old new) → ChangesFolder old new
      → ActsLike tells model (Spares (one_name name)) old new
  spares_synced_like name result old new alone ok err cause told frame =
      like_works tells model (Spares (one_name name)) old new
      (works_call tells (Spares (one_name name)) Synced (name ∷ []) result old new frame cause told
      (λ tells_it. either (IsTrue tells.folder → ChangesFile name Syncs (like model name old.folder) new.folder) (MayBeLike model name old.folder new.folder) (Spares (one_name name) old.folder new.folder) result ok err
      (λ did. spares_one name old.folder new.folder (alone tells_it) (changes_liked model name old.folder new.folder (did tells_it)))
      (λ may. spares_one name old.folder new.folder (alone tells_it) (changes_maybe model name old.folder new.folder may))))
      (λ tells_it allowed may has. like_modes allowed tells tells_it model name result old new has ok err (told tells_it) frame)

  -- work that goes on
  pub spares_like : (on : Name → Type 0) (old mid new : Scene) → NoneFails tells old mid → ActsLike tells model (Spares on) old mid → ActsLike tells model (Spares on) mid new → ActsLike tells model (Spares on) old new
  spares_like on old mid new none first second = like_on tells model (Spares on) (spares_then on) old mid new none first second

  -- after other work, by which files for their owner alone were made
  pub filled_like : (name : Name) (old mid new : Scene) → NoneFails tells old mid → Acts tells (Spares (one_name name)) old mid → ActsLike tells model (Spares (one_name name)) mid new
      → ActsLike tells model (Spares (one_name name)) old new
  filled_like name old mid new none first second = spares_like (one_name name) old mid new none (like_of tells model (Spares (one_name name)) old mid first) second

  pub wider_like : (a b : Name) (old new : Scene) → ActsLike tells model (Spares (one_name a)) old new → ActsLike tells model (Spares (two_names a b)) old new
  wider_like a b old new acts =
      like_as tells model (Spares (one_name a)) (Spares (two_names a b)) old new (λ told d spares. spares_wider (one_name a) (two_names a b) old.folder d (λ n is. inl is) spares) acts

  -- work on another name takes nothing
  pub takes_one : (name other : Name) (bytes : List ℕ) (old new : Scene) → (name ≡ other → ⊥) → ActsLike tells model (Spares (one_name other)) old new → IsTrue tells.folder → Runs (Takes name bytes) old new
  takes_one name other bytes old new differ acts told =
      runs_as (Spares (one_name other)) (Takes name bytes) old new (λ d here. takes_spared (one_name other) name bytes old.folder d differ here) (acts.runs told)

-- ---- calls that only look, after which the folder is as it was
abbrev pub Same : Disk → Disk → Type 0
Same before after = after ≡ before

pub looked_once : (tells : Tells) (kind : Kind) (names : List Name) {T E : Type 0} (result : Result T E) (old new : Scene) → ReadsFolder old new → HasCause old.folder_faults new.folder_faults (IsErr result)
    → (IsTrue tells.folder → IsTold kind names result old new) → Acts tells Same old new
looked_once tells kind names result old new frame cause told = look_acts tells Same kind names result old new frame cause told (λ tells_it. refl)

pub looked_then : (tells : Tells) (old mid new : Scene) → NoneFails tells old mid → Acts tells Same old mid → Acts tells Same mid new → Acts tells Same old new
looked_then tells old mid new none first second = acts_on tells Same (λ a b c one two. two ∙ one) old mid new none first second

pub looked_more : (tells : Tells) (kind : Kind) (names : List Name) {T E : Type 0} (result : Result T E) (old mid new : Scene) → NoneFails tells old mid → Acts tells Same old mid
    → ReadsFolder mid new → HasCause mid.folder_faults new.folder_faults (IsErr result) → (IsTrue tells.folder → IsTold kind names result mid new) → Acts tells Same old new
looked_more tells kind names result old mid new none first frame cause told = looked_then tells old mid new none first (looked_once tells kind names result mid new frame cause told)
