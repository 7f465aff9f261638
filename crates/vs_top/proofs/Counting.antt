-- The counts of failed calls over the calls of a run.
use Rattle.std.proofs.Common.{◌≡◌, ◌≤◌, List, [], ◌∷◌, ◌++◌, Option, All, refl, ap, ◌∙◌, arith}
use Rattle.std.proofs.lemmas.List.Elements.{All-nil, All-cons, All-head, All-tail}
use Rattle.vs_faults.proofs.Causes.{risen_before}
use Rattle.vs_host.specs.Disk.{Disk}
use Rattle.vs_host.specs.Trace.{WroteOutput, Snapshot}
use Rattle.vs_host.specs.World.{Scene, IsRecorded, ChangesFolder, ChangesOutput, ChangesScript}
use Rattle.vs_host.specs.declared.names.Names.{Names}
use Rattle.vs_disk.specs.Runs.{Inside}
use Rattle.vs_disk.proofs.Runs.{goes_weaker}
use Rattle.vs_script.specs.Reads.{IsAsBefore, ReadsAll}
use Rattle.vs_safety.specs.FileWork.{FileWork}
use Rattle.vs_safety.specs.Safety.{Spares, Works}
use Rattle.vs_safety.specs.Causes.{IsCounted, script_count, output_count, folder_count}
use Rattle.vs_safety.proofs.Causes.{counted_on, counted_told}
use Rattle.vs_machine.specs.declared.command.Mark.{Mark}
use Rattle.vs_top.specs.Run.{Counts, counts_of, OnlyFolder, FaultHasCause}
use Rattle.vs_top.specs.Turns.{AreCounted}

pub only_then : (a b c : Counts) → OnlyFolder a b → OnlyFolder b c → OnlyFolder a c
only_then a b c one two = record { script = two.script ∙ one.script; output = two.output ∙ one.output; later = omega (arith, one.later, two.later) }

pub only_folder : (old new : Scene) → ChangesFolder old new → old.folder_faults ≤ new.folder_faults → OnlyFolder (counts_of old) (counts_of new)
only_folder old new frame later = record { script = ap (λ (s : Scene). s.script_faults) frame; output = ap (λ (s : Scene). s.out_faults) frame; later = later }

-- a write or a read, but for its own count
pub only_output : (old new : Scene) → ChangesOutput old new → OnlyFolder (counts_of old) (record (counts_of new) { output = old.out_faults })
only_output old new frame = record { script = ap (λ (s : Scene). s.script_faults) frame; output = refl; later = omega (arith, ap (λ (s : Scene). s.folder_faults) frame) }

pub only_script : (old new : Scene) → ChangesScript old new → OnlyFolder (counts_of old) (record (counts_of new) { script = old.script_faults })
only_script old new frame = record { script = refl; output = ap (λ (s : Scene). s.out_faults) frame; later = omega (arith, ap (λ (s : Scene). s.folder_faults) frame) }

pub causes_on : (a b c : Counts) (marks : List Mark) → b.folder ≤ c.folder → All (FaultHasCause a b) marks → All (FaultHasCause a c) marks
causes_on a b c [] later all = All-nil (FaultHasCause a c)
causes_on a b c (m ∷ marks) later all =
    All-cons (FaultHasCause a c) m marks (λ is. risen_before (All-head (FaultHasCause a b) m marks all is) later) (causes_on a b c marks later (All-tail (FaultHasCause a b) m marks all))

-- the output's count is kept by work on the folder
pub counted_works : (names : Names) (write : Option FileWork) (P : Disk → Type 0) (old now mid : Scene) → mid.out_faults ≡ now.out_faults → Works names write P now mid → IsCounted output_count old now → IsCounted output_count old mid
counted_works names write P old now mid same works counted =
    counted_on output_count old now mid
    (goes_weaker (Inside mid (Spares names write P now.folder)) (λ m. m.out_faults ≡ now.out_faults) (λ m inside. inside.out_faults ∙ same) now.trace mid.trace works.moments) same counted

-- all three by a call that added its snapshot
pub all_counted : (old now new : Scene) → IsRecorded WroteOutput [] now new → (moments : List Snapshot) → now.trace ≡ moments ++ old.trace → AreCounted old new
all_counted old now new told moments added = record {
  script = counted_told script_count old now new WroteOutput [] refl told moments added;
  output = counted_told output_count old now new WroteOutput [] refl told moments added;
  folder = counted_told folder_count old now new WroteOutput [] refl told moments added;
}

-- and by reads that succeeded
pub counted_reads : (old now new : Scene) → ChangesScript now new → new.script_faults ≡ now.script_faults → ReadsAll now new → AreCounted old now → AreCounted old new
counted_reads old now new frame same reads counted = record {
  script = counted_on script_count old now new (goes_weaker (IsAsBefore now) (λ m. m.script_faults ≡ now.script_faults) (λ m is. is.script_faults) now.trace new.trace reads) same counted.script;
  output = counted_on output_count old now new (goes_weaker (IsAsBefore now) (λ m. m.out_faults ≡ now.out_faults) (λ m is. is.out_faults) now.trace new.trace reads) (ap (λ (s : Scene). s.out_faults) frame) counted.output;
  folder = counted_on folder_count old now new (goes_weaker (IsAsBefore now) (λ m. m.folder_faults ≡ now.folder_faults) (λ m is. is.folder_faults) now.trace new.trace reads) (ap (λ (s : Scene). s.folder_faults) frame) counted.folder;
}
