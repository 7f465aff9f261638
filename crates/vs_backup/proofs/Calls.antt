-- How a part of a write goes on by one call, at each moment and at its end.
use Rattle.std.proofs.Common.{◌≡◌, ℕ, Bool, List, [], ◌∷◌, Option, Some, Result, ap}
use Rattle.vs_host.specs.File.{File}
use Rattle.vs_host.specs.Disk.{Disk, Name, content_in}
use Rattle.vs_host.specs.Trace.{Looked}
use Rattle.vs_host.specs.World.{Scene, IsTold, ChangesFolder, ReadsFolder}
use Rattle.std.specs.Prelude.{is_some, IsSome}
use Rattle.vs_disk.specs.Images.{IsSynced}
use Rattle.vs_disk.specs.Runs.{Runs}
use Rattle.vs_disk.proofs.Runs.{one_call, runs_as, runs_on, reads_change}
use Rattle.vs_disk.proofs.Contents.{content_of_file}
use Rattle.vs_backup.specs.Works.{ChangesOne, IsAlone, Spares, one_name}
use Rattle.vs_backup.proofs.Frames.{spares_same, spares_then, spares_wider, spares_one}

-- ---- calls on names
module _ (on : Name → Type 0) where
  pub spares_on : (s0 s1 s2 : Scene) → ChangesFolder s0 s1 → Runs (Spares on) s0 s1 → Runs (Spares on) s1 s2 → Runs (Spares on) s0 s2
  spares_on s0 s1 s2 frame first second = runs_on (Spares on) (spares_then on) s0 s1 s2 frame first second

  pub looked_at : (name : Name) (result : Result Bool Rattle.vs_host.specs.declared.traits.Failed.Failed) (s0 s1 : Scene) → ReadsFolder s0 s1 → IsTold Looked (name ∷ []) result s0 s1 → Runs (Spares on) s0 s1
  looked_at name result s0 s1 frame told = one_call (Spares on) Looked (name ∷ []) result s0 s1 (reads_change s0 s1 frame) told (spares_same on s0.folder s1.folder (ap (λ (s : Scene). s.folder) frame))

pub runs_wider : (on wide : Name → Type 0) (s0 s1 : Scene) → ((name : Name) → on name → wide name) → Runs (Spares on) s0 s1 → Runs (Spares wide) s0 s1
runs_wider on wide s0 s1 leads runs = runs_as (Spares on) (Spares wide) s0 s1 (λ d spares. spares_wider on wide s0.folder d leads spares) runs

-- calls on a file that no other name leads to
pub runs_file : (name : Name) (s0 s1 : Scene) → IsAlone name s0.folder → Runs (ChangesOne name) s0 s1 → Runs (Spares (one_name name)) s0 s1
runs_file name s0 s1 alone runs = runs_as (ChangesOne name) (Spares (one_name name)) s0 s1 (λ d changes. spares_one name s0.folder d alone changes) runs

pub synced_there : (name : Name) (bytes : List ℕ) (disk : Disk) → IsSynced name bytes disk → IsSome (content_in disk name)
synced_there name bytes disk synced =
    let is : content_in disk name ≡ Some bytes = content_of_file disk name bytes (record { number = synced.number; leads = synced.leads; has = ap (λ (f : File). f.bytes) synced.has }) in
    ap (λ (o : Option (List ℕ)). is_some o) is

pub synced_bytes : (name : Name) (bytes : List ℕ) (disk : Disk) → IsSynced name bytes disk → content_in disk name ≡ Some bytes
synced_bytes name bytes disk synced = content_of_file disk name bytes (record { number = synced.number; leads = synced.leads; has = ap (λ (f : File). f.bytes) synced.has })
