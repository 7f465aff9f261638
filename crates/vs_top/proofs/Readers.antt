-- What is made by one stretch of calls and then by another: what the second one found has an allowed mode, or stood before the first one.
use Rattle.std.proofs.Common.{◌≡◌, ℕ, Bool, List, ◌∷◌, IsTrue, IsSome, sym, ap, subst}
use Rattle.vs_host.specs.Disk.{Disk, Mode, Name, mode_in}
use Rattle.vs_host.specs.Trace.{GoesOn}
use Rattle.vs_host.specs.World.{Scene, Tells}
use Rattle.vs_disk.specs.Modes.{KeepsModes, MakesPrivate}
use Rattle.vs_disk.specs.Runs.{Inside}
use Rattle.vs_disk.proofs.Modes.{has_kept, modes_none, modes_then}
use Rattle.vs_disk.proofs.Runs.{goes_then, goes_weaker}
use Rattle.vs_safety.specs.Safety.{IsWriting, Looks, Wrote}
use Rattle.vs_safety.specs.Writes.{State, state_in, state_now}
use Rattle.vs_session.specs.Modes.{KeepsReaders}
use Rattle.vs_top.specs.Calls.{IsNearEnd}
use Rattle.vs_top.specs.History.{CommandRun, Past}
use Rattle.vs_top.specs.Readers.{MakesOnly, MakesOwn, MakesReadable}

module _ (allowed : Mode → Bool) where
  pub makes_then : (start mid now : Scene) → MakesOnly allowed start mid → MakesOnly allowed mid now → MakesOnly allowed start now
  makes_then start mid now first second = (
    goes_then (λ m. KeepsModes allowed start.folder m.folder) start.trace mid.trace now.trace first.0
        (goes_weaker (λ m. KeepsModes allowed mid.folder m.folder) (λ m. KeepsModes allowed start.folder m.folder)
        (λ m keeps. modes_then allowed start.folder mid.folder m.folder first.1 keeps) mid.trace now.trace second.0),
    modes_then allowed start.folder mid.folder now.folder first.1 second.1,
  )

  same_modes : (old new : Disk) → new ≡ old → KeepsModes allowed old new
  same_modes old new same = subst (λ (d : Disk). KeepsModes allowed old d) (sym same) (modes_none allowed old)

  -- calls that left the folder
  makes_still : (old new : Scene) → GoesOn (λ m. m.folder ≡ old.folder) old.trace new.trace → new.folder ≡ old.folder → MakesOnly allowed old new
  makes_still old new goes same = (
    goes_weaker (λ m. m.folder ≡ old.folder) (λ m. KeepsModes allowed old.folder m.folder) (λ m is. same_modes old.folder m.folder is) old.trace new.trace goes,
    same_modes old.folder new.folder same,
  )

-- what a function says of a folder that is told
pub own_told : (tells : Tells) (old new : Scene) → MakesPrivate tells old new → IsTrue tells.folder → MakesOwn old new
own_told tells old new makes told allowed owner =
    let runs = makes told allowed owner in
    (goes_weaker (Inside old (KeepsModes allowed old.folder)) (λ m. KeepsModes allowed old.folder m.folder) (λ m inside. inside.folder) old.trace new.trace runs.moments, runs.now)

-- ---- before a command and without one
pub own_then : (start mid now : Scene) → MakesOwn start mid → MakesOwn mid now → MakesOwn start now
own_then start mid now first second allowed owner = makes_then allowed start mid now (first allowed owner) (second allowed owner)

pub own_still : (old new : Scene) → GoesOn (λ m. m.folder ≡ old.folder) old.trace new.trace → new.folder ≡ old.folder → MakesOwn old new
own_still old new goes same allowed owner = makes_still allowed old new goes same

pub own_looks : (old new : Scene) → Looks old new → MakesOwn old new
own_looks old new looks =
    own_still old new (goes_weaker (λ m. (m.output ≡ old.output) × (m.folder ≡ old.folder)) (λ m. m.folder ≡ old.folder) (λ m same. same.1) old.trace new.trace looks.moments) looks.folder

pub own_wrote : (old new : Scene) (bytes : List ℕ) → Wrote bytes old new → MakesOwn old new
own_wrote old new bytes wrote =
    own_still old new (goes_weaker (IsWriting old new) (λ m. m.folder ≡ old.folder) (λ m is. ap (λ (s : State). s.folder) is.state) old.trace new.trace wrote.moments) wrote.folder

pub readable_own : (name : Name) (past : Past) (start mid now : Scene) → MakesReadable name past start mid → MakesOwn mid now → MakesReadable name past start now
readable_own name past start mid now was own allowed owner found = makes_then allowed start mid now (was allowed owner found) (own allowed owner)

-- calls that left the folder and its count
pub readable_still : (name : Name) (past : Past) (start mid now : Scene) → MakesReadable name past start mid → GoesOn (λ m. state_in m ≡ state_now mid) mid.trace now.trace → state_now now ≡ state_now mid
    → MakesReadable name past start now
readable_still name past start mid now was goes same =
    readable_own name past start mid now was (own_still mid now
    (goes_weaker (λ m. state_in m ≡ state_now mid) (λ m. m.folder ≡ mid.folder) (λ m is. ap (λ (s : State). s.folder) is) mid.trace now.trace goes)
    (ap (λ (s : State). s.folder) same))

pub readable_near : (name : Name) (past : Past) (start ended now : Scene) → MakesReadable name past start ended → IsNearEnd ended now → MakesReadable name past start now
readable_near name past start ended now was near = readable_still name past start ended now was (record { added = near.last; is = near.is; each = near.each }) near.state

pub readable_looks : (name : Name) (past : Past) (start mid now : Scene) → MakesReadable name past start mid → Looks mid now → MakesReadable name past start now
readable_looks name past start mid now was looks = readable_own name past start mid now was (own_looks mid now looks)

-- ---- a command: the modes are allowed with which it finds the file
pub readable_command : (name : Name) (past : Past) (last : CommandRun) (start asked ended : Scene) → MakesReadable name past start asked → last.ended.found ≡ asked.folder
    → KeepsReaders name last.instruction asked ended → MakesReadable name (last ∷ past) start ended
readable_command name past last start asked ended was same keeps allowed owner found =
    let so_far = was allowed owner found.1 in
    makes_then allowed start asked ended so_far (keeps.each allowed owner (λ writes. (
      subst (λ (d : Disk). IsSome (mode_in d name)) same (found.0 writes).0,
      has_kept allowed name start.folder asked.folder so_far.1 (found.0 writes).1,
    )))
