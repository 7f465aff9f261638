-- How work goes on that stops at a failed call: what went before did not fail.
use Rattle.std.proofs.Common.{◌≡◌, List, Result, Ok, Err, IsErr, OnOk, IsTrue, refl, sym, subst, ap}
use Rattle.vs_host.specs.Disk.{Name}
use Rattle.vs_host.specs.Trace.{Kind}
use Rattle.vs_host.specs.World.{Tells, Scene, IsTold, ChangesFolder}
use Rattle.vs_disk.specs.Runs.{FailsLast, Quiet}
use Rattle.vs_disk.proofs.Runs.{fails_call, fails_none, quiet_call, quiet_none}
use Rattle.vs_disk.proofs.Quiet.{last_then, quiet_then}
use Rattle.vs_backup.specs.Desks.{StopsAtFault}

-- calls of which none failed end with none
pub quiet_last : (old new : Scene) → Quiet old new → FailsLast old new
quiet_last old new quiet = last_then old new new quiet (fails_none new)

-- ---- and that is answered

-- no call
pub stops_still : (tells : Tells) (F : Type 0) (old new : Scene) → (IsTrue tells.folder → new ≡ old) → StopsAtFault tells F old new
stops_still tells F old new same = record {
  last = λ told. subst (λ (s : Scene). FailsLast old s) (sym (same told)) (fails_none old);
  none = λ told calm. subst (λ (s : Scene). Quiet old s) (sym (same told)) (quiet_none old);
}

-- one call
pub stops_call : (tells : Tells) (kind : Kind) (names : List Name) {T E : Type 0} (result : Result T E) (old new : Scene) → ChangesFolder old new → (IsTrue tells.folder → IsTold kind names result old new)
    → OnOk result (new.folder_faults ≡ old.folder_faults) → StopsAtFault tells (IsErr result) old new
stops_call tells kind names {T} {E} (Ok x) old new frame told same = record {
  last = λ tells_it. fails_call kind names {T = T} {E = E} (Ok x) old new (told tells_it);
  none = λ tells_it calm. quiet_call kind names {T = T} {E = E} (Ok x) old old new (quiet_none old) (told tells_it) (ap (λ (s : Scene). s.script_faults) frame) (ap (λ (s : Scene). s.out_faults) frame) same;
}
stops_call tells kind names {T} {E} (Err e) old new frame told same = record { last = λ tells_it. fails_call kind names {T = T} {E = E} (Err e) old new (told tells_it); none = λ tells_it calm. absurd (calm refl) }

-- calls that did not fail, and more
pub stops_then : (tells : Tells) (F G : Type 0) (old mid new : Scene) → ¬ F → StopsAtFault tells F old mid → StopsAtFault tells G mid new → StopsAtFault tells G old new
stops_then tells F G old mid new calm first second = record {
  last = λ told. last_then old mid new (first.none told calm) (second.last told);
  none = λ told clean. quiet_then old mid new (first.none told calm) (second.none told clean);
}

-- another answer that says as much
pub stops_as : (tells : Tells) (F G : Type 0) (old new : Scene) → (¬ G → ¬ F) → StopsAtFault tells F old new → StopsAtFault tells G old new
stops_as tells F G old new says stops = record { last = stops.last; none = λ told calm. stops.none told (says calm) }
