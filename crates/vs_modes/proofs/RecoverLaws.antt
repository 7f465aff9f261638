-- What was found of a text is what is to be written, and when the refusals to choose and to salvage hold.
use Rattle.std.proofs.Common.{◌≡◌, ◌≤◌, ◌+◌, ℕ, zero, suc, List, Option, Result, Ok, Err, IfOk, ap, refl, subst, sym, ◌∙◌, inl, inr, arith}
use Rattle.vs_host.specs.Disk.{Name}
use Rattle.vs_host.specs.declared.names.Names.{Names}
use Rattle.vs_host.specs.World.{Scene, content_of}
use Rattle.vs_recover.specs.declared.choices.Swap.{Swap}
use Rattle.vs_recover.specs.declared.choices.Swap.TheVariants.{Swp, Swo}
use Rattle.vs_recover.specs.declared.error.RecErr.{RecErr}
use Rattle.vs_recover.specs.declared.error.RecErr.TheVariants as error
use Rattle.vs_recover.specs.declared.roots.Root.{Root}
use Rattle.vs_recover.specs.declared.roots.Root.TheVariants as root
use Rattle.vs_recover.specs.Choices.{root_chosen, root_of}
use Rattle.vs_recover.specs.Reading.{blocks_at}
use Rattle.vs_recover.specs.Salvage.{IsSalvage, swap_of}
use Rattle.vs_recover.specs.WalkedEntries.{most_calls}
use Rattle.vs_modes.specs.declared.recovering.Found.{Found}
use Rattle.vs_modes.specs.declared.recovering.Found.TheVariants as found
use Rattle.vs_modes.specs.Recover.{IsFound, IsRecovery, IsSalvaged, RefusesRecover, Remains, found_bytes, found_recovery, most_reads, recovery_by, remains_in, salvaged_in, swap_in}
use Rattle.vs_modes.specs.Refusals.{refusal_of}

salvaged_is : (remains : Remains) (bytes : List ℕ) (markers : ℕ) → IsSalvaged remains bytes markers → IsRecovery remains (recovery_by markers) bytes
salvaged_is remains bytes zero is = inr is
salvaged_is remains bytes (suc more) is = (suc more, omega arith, is)

pub found_is : (remains : Remains) (found : Found) → IsFound remains found → IsRecovery remains (found_recovery found) (found_bytes found)
found_is remains (found.Text text) is = inl (text, is, refl)
found_is remains (found.Salvage salvaged) is = salvaged_is remains salvaged.bytes.items salvaged.markers is

-- ---- the file that is chosen

abbrev root_at : Root → Root → Swap → Root
root_at first second Swp = first
root_at first second Swo = second

tree_chosen : (first second : Root) → IfOk (root_chosen first second) (λ which. root_at first second which ≡ root.Tree)
tree_chosen root.Tree second = refl
tree_chosen root.Absent root.Absent = tt
tree_chosen root.Absent root.Encrypted = tt
tree_chosen root.Absent root.Foreign = tt
tree_chosen root.Absent root.NoTree = tt
tree_chosen root.Absent root.Tree = refl
tree_chosen root.Encrypted root.Absent = tt
tree_chosen root.Encrypted root.Encrypted = tt
tree_chosen root.Encrypted root.Foreign = tt
tree_chosen root.Encrypted root.NoTree = tt
tree_chosen root.Encrypted root.Tree = refl
tree_chosen root.Foreign root.Absent = tt
tree_chosen root.Foreign root.Encrypted = tt
tree_chosen root.Foreign root.Foreign = tt
tree_chosen root.Foreign root.NoTree = tt
tree_chosen root.Foreign root.Tree = refl
tree_chosen root.NoTree root.Absent = tt
tree_chosen root.NoTree root.Encrypted = tt
tree_chosen root.NoTree root.Foreign = tt
tree_chosen root.NoTree root.NoTree = tt
tree_chosen root.NoTree root.Tree = refl

root_in_swap : (remains : Remains) (which : Swap) → root_at (root_of remains.swp) (root_of remains.swo) which ≡ root_of (swap_in remains which)
root_in_swap remains Swp = refl
root_in_swap remains Swo = refl

chosen_tree : (remains : Remains) (which : Swap) → salvaged_in remains ≡ Ok which → root_of (swap_in remains which) ≡ root.Tree
chosen_tree remains which is =
    sym (root_in_swap remains which) ∙ subst (λ (r : Result Swap RecErr). IfOk r (λ w. root_at (root_of remains.swp) (root_of remains.swo) w ≡ root.Tree)) is (tree_chosen (root_of remains.swp) (root_of remains.swo))

-- ---- refusals

-- a salvage of the file that was chosen is refused for want of memory or since a call failed
pub salvage_refused : (remains : Remains) (which : Swap) (why : RecErr) → salvaged_in remains ≡ Ok which → IsSalvage (swap_in remains which) remains.original (Err why) → RefusesRecover remains (refusal_of why)
salvage_refused remains which error.NoSwap chosen is = absurd is
salvage_refused remains which error.Encrypted chosen is = absurd is
salvage_refused remains which error.NotSwap chosen is = absurd is
salvage_refused remains which error.NotTree chosen is = absurd (is (chosen_tree remains which chosen))
salvage_refused remains which error.Failed chosen is = tt
salvage_refused remains which error.NoMemory chosen is = tt

-- ---- calls

-- a choice and a salvage of the file that was chosen, over a folder that stayed as it was
pub calls_within : (old mid : Scene) (names : Names) (which : Swap) → ((name : Name) → content_of mid name ≡ content_of old name)
    → 8 + blocks_at old names.swp + blocks_at old names.swo + most_calls (content_of mid (swap_of names which)) (content_of mid names.file) ≤ most_reads (remains_in old names)
calls_within old mid names Swp still =
    omega (arith, ap (λ (o : Option (List ℕ)). most_calls o (content_of mid names.file)) (still names.swp) ∙ ap (λ (o : Option (List ℕ)). most_calls (content_of old names.swp) o) (still names.file))
calls_within old mid names Swo still =
    omega (arith, ap (λ (o : Option (List ℕ)). most_calls o (content_of mid names.file)) (still names.swo) ∙ ap (λ (o : Option (List ℕ)). most_calls (content_of old names.swo) o) (still names.file))
