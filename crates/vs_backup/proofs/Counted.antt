-- That a call which only looks stops at a failed call is told by the counts of faults.
use Rattle.std.proofs.Common.{inl, inr, IsTrue, arith}
use Rattle.std.proofs.lemmas.Bool.{cases_eq, cases_lt}
use Rattle.vs_faults.specs.OneCause.{HasOneCause}
use Rattle.vs_host.specs.World.{Tells, Scene, ReadsFolder}
use Rattle.vs_disk.specs.Faults.{NeverFalls, earlier_faults, faults_before}
use Rattle.vs_disk.proofs.Faults.{earlier_told, last_counted, quiet_counted}
use Rattle.vs_backup.specs.Desks.{StopsAtFault}
use Rattle.vs_backup.proofs.Stops.{quiet_last}

pub stops_counted : (tells : Tells) (F : Type 0) (old new : Scene) → ReadsFolder old new → (IsTrue tells.folder → NeverFalls old new)
    → HasOneCause old.folder_faults new.folder_faults (earlier_faults tells new) F → StopsAtFault tells F old new
stops_counted tells F old new frame never cause = record {
  last = λ told. elim (cases_eq new.folder_faults old.folder_faults) [
    | inl same ↦ quiet_last old new (quiet_counted old new frame (never told) same)
    | inr more ↦ elim (cases_lt old.folder_faults (faults_before new.trace)) [
      | inl above ↦ absurd (more (cause.none (λ failed. omega (arith, above, cause.last failed, earlier_told tells new told))))
      | inr within ↦ last_counted old new (never told) within
    ]
  ];
  none = λ told calm. quiet_counted old new frame (never told) (cause.none calm);
}
