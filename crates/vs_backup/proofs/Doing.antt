-- Which calls of a write failed, and which is its first: what is known of its parts is put together.
use Rattle.std.proofs.Common.{◌≡◌, ◌≤◌, inl, inr, ℕ, Bool, List, [], ◌∷◌, ◌++◌, length, Result, Ok, Err, IfOk, IsErr, IsErrOf, IsTrue, is_ok, refl, sym, ◌∙◌, ap, subst, append_assoc, arith}
use Rattle.std.proofs.lemmas.Bool.{true≢false}
use Rattle.vs_faults.specs.Faults.{HasCause, HasRisen}
use Rattle.vs_faults.proofs.Causes.{HasCause-trans, HasCause-weaker}
use Rattle.vs_host.specs.Disk.{Name}
use Rattle.vs_host.specs.Trace.{Looked, Snapshot}
use Rattle.vs_host.specs.World.{HasNewest, IsRecorded, IsTold, Tells, Scene, snapshot_of}
use Rattle.vs_host.specs.declared.traits.Failed.{Failed}
use Rattle.vs_disk.specs.Images.{HoldsBytes}
use Rattle.vs_disk.specs.Runs.{FailsLast, Quiet}
use Rattle.vs_disk.proofs.Runs.{fails_none, quiet_none}
use Rattle.vs_disk.proofs.Quiet.{last_then, quiet_then}
use Rattle.vs_backup.specs.Desks.{StopsAtFault}
use Rattle.vs_backup.specs.Writing.{BeginsByLook, FailsNoEarlier, IsFailed, OldIn, PutsBack, nowhere, stopped, stopped_after}
use Rattle.vs_backup.proofs.Copying.{never_other}
use Rattle.vs_backup.proofs.Going.{err_as, stop_here, stop_there}
use Rattle.vs_backup.proofs.Stops.{stops_as}
use Rattle.vs_backup.specs.declared.errors.Stop.{Stop}
use Rattle.vs_backup.specs.declared.errors.Stop.TheVariants as stop
use Rattle.vs_backup.specs.declared.errors.Place.{Place}
use Rattle.vs_backup.specs.declared.errors.Place.TheVariants.{Backup, File, Nowhere}
use Rattle.vs_backup.specs.declared.errors.WriteErr.{WriteErr}
use Rattle.vs_backup.specs.declared.errors.WriteErr.TheVariants as error

ok_is_no_err : {T E : Type 0} (value : T) (error : E) → Ok value ≡ err_as T error → ⊥
ok_is_no_err value error is = true≢false (ap is_ok is)

-- ---- a write that was refused
-- it stopped, and nothing was to be put back
pub refused_once : (tells : Tells) (why : WriteErr) (s0 s1 : Scene) → IsTrue tells.folder → (OldIn {T = ℕ} Backup (Err why) → ⊥) → StopsAtFault tells (IsFailed (err_as ℕ why)) s0 s1
    → HasCause s0.folder_faults s1.folder_faults (IsFailed (err_as ℕ why)) → PutsBack s0 s1 (Err why)
refused_once tells why s0 s1 told elsewhere stops cause = record {
  stopped = s1;
  last = stops.last told;
  none = λ calm. stops.none told calm;
  later = cause.later;
  failed = λ is failed. absurd (elsewhere is);
  back_last = fails_none s1;
  back_none = λ calm. quiet_none s1;
  back_failed = λ is. absurd (elsewhere is);
  alone = λ is. stops.last told;
}

-- without a failed call
pub refused_quiet : (why : WriteErr) (s0 s1 : Scene) → (OldIn {T = ℕ} Backup (Err why) → ⊥) → Quiet s0 s1 → PutsBack s0 s1 (Err why)
refused_quiet why s0 s1 elsewhere quiet = record {
  stopped = s1;
  last = last_then s0 s1 s1 quiet (fails_none s1);
  none = λ calm. quiet;
  later = omega (arith, quiet.folder);
  failed = λ is failed. absurd (elsewhere is);
  back_last = fails_none s1;
  back_none = λ calm. quiet_none s1;
  back_failed = λ is. absurd (elsewhere is);
  alone = λ is. last_then s0 s1 s1 quiet (fails_none s1);
}

-- at a call that failed
pub refused_at : {F : Type 0} (tells : Tells) (at : Place) → (at ≡ Backup → ⊥) → (s0 s1 : Scene) → IsTrue tells.folder → F → StopsAtFault tells F s0 s1
    → HasCause s0.folder_faults s1.folder_faults F → PutsBack s0 s1 (Err (error.Failed at))
refused_at {F} tells at elsewhere s0 s1 told here stops cause = refused_once tells (error.Failed at) s0 s1 told (λ is. never_other stop.Failed at Backup elsewhere is)
    (stops_as tells F (IsFailed (err_as ℕ (error.Failed at))) s0 s1 (λ calm. absurd (calm (at, refl))) stops) (HasCause-weaker cause (λ failed. here))

-- at a part that stopped
pub refused_stop : {T : Type 0} (tells : Tells) (why : Stop) (at : Place) → (at ≡ Backup → ⊥) → (s0 s1 : Scene) → IsTrue tells.folder → StopsAtFault tells (err_as T why ≡ Err stop.Failed) s0 s1
    → HasCause s0.folder_faults s1.folder_faults (err_as T why ≡ Err stop.Failed) → PutsBack s0 s1 (Err (stopped why at))
refused_stop {T} tells why at elsewhere s0 s1 told stops cause = refused_once tells (stopped why at) s0 s1 told (λ is. never_other why at Backup elsewhere is)
    (stops_as tells (err_as T why ≡ Err stop.Failed) (IsFailed (err_as ℕ (stopped why at))) s0 s1 (λ calm failed. calm (stop_here why at (stopped why at) refl failed)) stops)
    (HasCause-weaker cause (λ failed. stop_there why at (stopped why at) refl failed))

-- it stopped, and then the file was put back, or that failed
failed_why : {T : Type 0} (why : Stop) (back : Result (Unit {0}) Failed) → IsFailed (err_as ℕ (stopped_after why back)) → err_as T why ≡ Err stop.Failed
failed_why stop.Failed back is = refl
failed_why stop.NoMemory (Ok done) is = let same = is.1 in absurd (cc)
failed_why stop.NoMemory (Err failed) is = let same = is.1 in absurd (cc)

why_failed : {T : Type 0} (why : Stop) (back : Result (Unit {0}) Failed) → err_as T why ≡ Err stop.Failed → IsFailed (err_as ℕ (stopped_after why back))
why_failed stop.Failed (Ok done) is = (File, refl)
why_failed stop.Failed (Err failed) is = (Backup, refl)
why_failed stop.NoMemory back is = absurd (cc)

back_there : (why : Stop) (back : Result (Unit {0}) Failed) → OldIn {T = ℕ} Backup (Err (stopped_after why back)) → IsErr back
back_there why (Err failed) is = refl
back_there stop.Failed (Ok done) (inl is) = absurd (cc)
back_there stop.Failed (Ok done) (inr is) = absurd (cc)
back_there stop.NoMemory (Ok done) (inl is) = absurd (cc)
back_there stop.NoMemory (Ok done) (inr is) = absurd (cc)

there_back : (why : Stop) (back : Result (Unit {0}) Failed) → IsErr back → OldIn {T = ℕ} Backup (Err (stopped_after why back))
there_back stop.Failed (Err failed) is = inl refl
there_back stop.NoMemory (Err failed) is = inr refl
there_back why (Ok done) is = absurd (true≢false (sym is))

not_nowhere : (why : Stop) (back : Result (Unit {0}) Failed) → OldIn {T = ℕ} Nowhere (Err (stopped_after why back)) → ⊥
not_nowhere stop.Failed (Ok done) (inl is) = absurd (cc)
not_nowhere stop.Failed (Ok done) (inr is) = absurd (cc)
not_nowhere stop.Failed (Err failed) (inl is) = absurd (cc)
not_nowhere stop.Failed (Err failed) (inr is) = absurd (cc)
not_nowhere stop.NoMemory (Ok done) (inl is) = absurd (cc)
not_nowhere stop.NoMemory (Ok done) (inr is) = absurd (cc)
not_nowhere stop.NoMemory (Err failed) (inl is) = absurd (cc)
not_nowhere stop.NoMemory (Err failed) (inr is) = absurd (cc)

module _ (why : Stop) (back : Result (Unit {0}) Failed) (s0 s1 s2 : Scene) (first : HasCause s0.folder_faults s1.folder_faults (err_as ℕ why ≡ Err stop.Failed))
    (second : HasCause s1.folder_faults s2.folder_faults (IsErr back)) where
  pub refused_back : (tells : Tells) → IsTrue tells.folder → StopsAtFault tells (err_as ℕ why ≡ Err stop.Failed) s0 s1 → StopsAtFault tells (IsErr back) s1 s2
      → PutsBack s0 s2 (Err (stopped_after why back))
  refused_back tells told stops returns = record {
    stopped = s1;
    last = stops.last told;
    none = λ calm. stops.none told (λ failed. calm (why_failed why back failed));
    later = first.later;
    failed = λ is failed. first.risen (failed_why why back failed);
    back_last = returns.last told;
    back_none = λ calm. returns.none told (λ failed. calm (there_back why back failed));
    back_failed = λ is. second.risen (back_there why back is);
    alone = λ is. absurd (not_nowhere why back is);
  }

  pub back_cause : HasCause s0.folder_faults s2.folder_faults (IsFailed (err_as ℕ (stopped_after why back)))
  back_cause = HasCause-trans first second (λ failed. inl (failed_why why back failed))

-- after calls that did not fail
pub refused_after : (result : Result ℕ WriteErr) (s0 s1 s2 : Scene) → Quiet s0 s1 → PutsBack s1 s2 result → PutsBack s0 s2 result
refused_after result s0 s1 s2 quiet back = record {
  stopped = back.stopped;
  last = last_then s0 s1 back.stopped quiet back.last;
  none = λ calm. quiet_then s0 s1 back.stopped quiet (back.none calm);
  later = subst (λ (n : ℕ). n ≤ back.stopped.folder_faults) quiet.folder back.later;
  failed = λ is failed. subst (λ (n : ℕ). HasRisen n back.stopped.folder_faults) quiet.folder (back.failed is failed);
  back_last = back.back_last;
  back_none = back.back_none;
  back_failed = back.back_failed;
  alone = λ is. last_then s0 s1 s2 quiet (back.alone is);
}

module _ (name : Name) (new : List ℕ) where
  -- the file has the new bytes, and no call failed; the calls that follow end at a failed one
  pub written_then : (s0 s1 s2 : Scene) (size : ℕ) → HasNewest s1 → Quiet s0 s1 → HoldsBytes name new s1.folder → FailsLast s1 s2 → FailsNoEarlier name new s0 s2 (Ok size)
  written_then s0 s1 s2 size moment quiet holds later = record { done = record { written = s1; moment = moment; quiet = quiet; holds = holds; later = later }; refused = tt }

  -- one without a backup
  pub fails_plain : (tells : Tells) (answer : Result ℕ Stop) (s0 s1 : Scene) → IsTrue tells.folder → HasNewest s1 → StopsAtFault tells (IsErrOf answer stop.Failed) s0 s1
      → HasCause s0.folder_faults s1.folder_faults (IsErrOf answer stop.Failed) → IfOk answer (λ size. (size ≡ length new) × HoldsBytes name new s1.folder)
      → FailsNoEarlier name new s0 s1 (nowhere answer)
  fails_plain tells (Ok size) s0 s1 told moment stops cause holds = written_then s0 s1 s1 size moment (stops.none told (λ failed. ok_is_no_err size _ failed)) holds.1 (fails_none s1)
  fails_plain tells (Err why) s0 s1 told moment stops cause holds = record { done = tt; refused = refused_stop tells why Nowhere (λ e. cc) s0 s1 told stops cause }

  -- after calls that did not fail
  pub fails_then : (result : Result ℕ WriteErr) (s0 s1 s2 : Scene) → Quiet s0 s1 → FailsNoEarlier name new s1 s2 result → FailsNoEarlier name new s0 s2 result
  fails_then (Ok size) s0 s1 s2 quiet fails = record {
    done = record { written = fails.done.written; moment = fails.done.moment; quiet = quiet_then s0 s1 fails.done.written quiet fails.done.quiet; holds = fails.done.holds; later = fails.done.later };
    refused = tt;
  }
  fails_then (Err why) s0 s1 s2 quiet fails = record { done = tt; refused = refused_after (Err why) s0 s1 s2 quiet fails.refused }

  -- want of memory, and no call
  pub fails_memory : (at : Place) → (at ≡ Backup → ⊥) → (s0 : Scene) → FailsNoEarlier name new s0 s0 (Err (error.NoMemory at))
  fails_memory at elsewhere s0 = record { done = tt; refused = refused_quiet (error.NoMemory at) s0 s0 (λ is. never_other stop.NoMemory at Backup elsewhere is) (quiet_none s0) }

-- ---- the calls that are made

-- snapshots were added
abbrev Adds : Scene → Scene → Type 0
Adds s0 s1 = (added : List Snapshot) × (s1.trace ≡ added ++ s0.trace)

adds_last : (s0 s1 : Scene) → FailsLast s0 s1 → Adds s0 s1
adds_last s0 s1 last = (last.last ++ last.earlier, last.is ∙ sym (append_assoc last.last last.earlier s0.trace))

adds_then : (s0 s1 s2 : Scene) → Adds s0 s1 → Adds s1 s2 → Adds s0 s2
adds_then s0 s1 s2 one two = (two.0 ++ one.0, two.1 ∙ ap (λ (ms : List Snapshot). two.0 ++ ms) one.1 ∙ sym (append_assoc two.0 one.0 s0.trace))

recorded : (value : Bool) (names : List Name) (s0 s1 : Scene) → IsTold {E = Failed} Looked names (Ok value) s0 s1 → IsRecorded Looked names s0 s1
recorded value names s0 s1 (inl is) = is
recorded value names s0 s1 (inr failed) = absurd (true≢false (sym failed.0))

begins_by : (name : Name) (value : Bool) (s0 s1 s2 : Scene) → IsTold {E = Failed} Looked (name ∷ []) (Ok value) s0 s1 → Adds s1 s2 → BeginsByLook name s0 s2
begins_by name value s0 s1 s2 told adds = record {
  look = snapshot_of s1 Looked (name ∷ []);
  later = adds.0;
  is = adds.1 ∙ ap (λ (ms : List Snapshot). adds.0 ++ ms) (recorded value (name ∷ []) s0 s1 told);
  looked = (refl, refl);
}

-- after the look, calls of which none but the last one failed
pub looks_last : (name : Name) (value : Bool) (s0 s1 s2 : Scene) → IsTold {E = Failed} Looked (name ∷ []) (Ok value) s0 s1 → FailsLast s1 s2 → BeginsByLook name s0 s2
looks_last name value s0 s1 s2 told last = begins_by name value s0 s1 s2 told (adds_last s1 s2 last)

-- and those of a write
pub looks_write : (name : Name) (value : Bool) (s0 s1 s2 : Scene) (new : List ℕ) (result : Result ℕ WriteErr) → IsTold {E = Failed} Looked (name ∷ []) (Ok value) s0 s1 → FailsNoEarlier name new s1 s2 result
    → BeginsByLook name s0 s2
looks_write name value s0 s1 s2 new (Ok size) told fails =
    let done = fails.done in
    begins_by name value s0 s1 s2 told (adds_then s1 done.written s2 (done.quiet.moments.added, done.quiet.moments.is) (adds_last done.written s2 done.later))
looks_write name value s0 s1 s2 new (Err why) told fails =
    let back = fails.refused in
    begins_by name value s0 s1 s2 told (adds_then s1 back.stopped s2 (adds_last s1 back.stopped back.last) (adds_last back.stopped s2 back.back_last))
