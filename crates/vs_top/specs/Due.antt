-- How a mode other than `edit` is to end, where no call fails and there is memory.
use Rattle.std.specs.Prelude.{◌≡◌, ◌⊎◌, ⊤, ℕ, List, None, IsSome}
use Rattle.vs_faults.specs.Faults.{HasRisen}
use Rattle.vs_host.specs.World.{Scene}
use Rattle.vs_modes.specs.declared.error.ModeErr.TheVariants as refusal
use Rattle.vs_modes.specs.declared.recovering.Recovery.TheVariants as recovery
use Rattle.vs_modes.specs.Recover.{IsRecovery, RefusesRecover, Remains}
use Rattle.vs_top.specs.declared.ending.Ending.{Ending}
use Rattle.vs_top.specs.declared.ending.Ending.TheVariants as ending
use Rattle.vs_top.specs.declared.form.Mode.{Mode}
use Rattle.vs_top.specs.declared.form.Mode.TheVariants as mode

-- `recover` is to end so: with what is to be written, or for the reason why nothing is.
abbrev pub RecoverIsDue : Remains → Ending → Type 0
RecoverIsDue remains ending.Done = (bytes : List ℕ) × IsRecovery remains recovery.Whole bytes
RecoverIsDue remains ending.Salvaged = (bytes : List ℕ) × IsRecovery remains recovery.Marked bytes
RecoverIsDue remains ending.NoSwap = RefusesRecover remains refusal.NoSwap
RecoverIsDue remains ending.Encrypted = RefusesRecover remains refusal.Encrypted
RecoverIsDue remains ending.NotSwap = RefusesRecover remains refusal.NotSwap
RecoverIsDue remains end = ⊥

-- `info` is to end so, by whether a swap file is there.
abbrev pub InfoIsDue : Remains → Ending → Type 0
InfoIsDue remains ending.Done = IsSome remains.swp ⊎ IsSome remains.swo
InfoIsDue remains ending.NoSwap = (remains.swp ≡ None) × (remains.swo ≡ None)
InfoIsDue remains end = ⊥

-- `discard` has nothing to refuse.
abbrev pub DiscardIsDue : Ending → Type 0
DiscardIsDue ending.Done = ⊤
DiscardIsDue end = ⊥

-- A mode other than `edit` is to end so.
abbrev pub IsDue : Mode → Remains → Ending → Type 0
IsDue mode.Edit remains end = ⊥
IsDue mode.Recover remains end = RecoverIsDue remains end
IsDue mode.Info remains end = InfoIsDue remains end
IsDue mode.Discard remains end = DiscardIsDue end

-- A mode is to end so, and in no other way.
abbrev pub IsOnlyDue : Mode → Remains → Ending → Type 0
IsOnlyDue mode remains end = IsDue mode remains end × ((other : Ending) → IsDue mode remains other → other ≡ end)

-- no count of faults rose of those of the folder and of the output
pub record IsSpared (old new : Scene) : Type 0 where
  pub no_out_fault : ¬ HasRisen old.out_faults new.out_faults
  pub no_folder_fault : ¬ HasRisen old.folder_faults new.folder_faults
