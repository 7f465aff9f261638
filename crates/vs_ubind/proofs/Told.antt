-- Each call adds at most its own snapshot, so calls on names of a set go on to calls on names of it.
use Rattle.std.proofs.Common.{◌≢◌, inl, inr, List, [], ◌∷◌, ◌++◌, Result, IsTrue, IsErr, refl, sym, ap, ◌∙◌}
use Rattle.std.proofs.lemmas.List.{append_assoc}
use Rattle.vs_host.specs.Disk.{Name}
use Rattle.vs_host.specs.Trace.{Kind, Renamed, SyncedNames, Snapshot, Each, GoesOn}
use Rattle.vs_host.specs.World.{Tells, Scene, IsTold, snapshot_of}
use Rattle.vs_disk.proofs.Runs.{Each-append, goes_then}
use Rattle.vs_backup.specs.Works.{one_name}
use Rattle.vs_ubind.specs.Storing.{IsCallOn, CallsOn, EndInRename, EndInSync, AreStoring, StoresBy}

told_goes : (on : Name → Type 0) (kind : Kind) (names : List Name) → Each on names → names ≢ [] → {T E : Type 0} (result : Result T E) (old new : Scene)
    → IsTold kind names result old new → GoesOn (IsCallOn on) old.trace new.trace
told_goes on kind names each some result old new (inl is) = record { added = snapshot_of new kind names ∷ []; is = is; each = (record { names = each; some = some }, tt) }
told_goes on kind names each some result old new (inr missed) = record { added = []; is = missed.1.trace; each = tt }

-- one call, whatever it answers
pub calls_one : (tells : Tells) (on : Name → Type 0) (kind : Kind) (names : List Name) → Each on names → names ≢ [] → {T E : Type 0} (result : Result T E) (old new : Scene)
    → (IsTrue tells.folder → IsTold kind names result old new) → CallsOn tells on old new
calls_one tells on kind names each some result old new told = record { calls = λ tells_it. told_goes on kind names each some result old new (told tells_it) }

-- calls that go on
pub calls_then : (tells : Tells) (on : Name → Type 0) (old mid new : Scene) → CallsOn tells on old mid → CallsOn tells on mid new → CallsOn tells on old new
calls_then tells on old mid new first second = record { calls = λ told. goes_then (IsCallOn on) old.trace mid.trace new.trace (first.calls told) (second.calls told) }

-- ---- the calls of a storing
-- calls on the first name alone
pub stores_on : (tells : Tells) (from to : Name) (old new : Scene) → IsTrue tells.folder → CallsOn tells (one_name from) old new → StoresBy from to old new
stores_on tells from to old new told calls =
    let goes = calls.calls told in record { added = goes.added; is = goes.is; calls = inl goes.each }

-- the rename, whatever it answers
pub stores_renamed : (from to : Name) {T E : Type 0} (renamed : Result T E) (old new : Scene) → IsTold Renamed (from ∷ to ∷ []) renamed old new → StoresBy from to old new
stores_renamed from to renamed old new (inl is) = record {
  added = snapshot_of new Renamed (from ∷ to ∷ []) ∷ [];
  is = is;
  calls = inr (inl (record { kind = refl; names = refl }, tt));
}
stores_renamed from to renamed old new (inr missed) = record { added = []; is = missed.1.trace; calls = inl tt }

-- the rename, and the sync of the names, whatever that answers
pub stores_synced : (from to : Name) {T E U V : Type 0} (renamed : Result T E) (synced : Result U V) (old mid new : Scene) → ¬ IsErr renamed
    → IsTold Renamed (from ∷ to ∷ []) renamed old mid → IsTold SyncedNames [] synced mid new → StoresBy from to old new
stores_synced from to renamed synced old mid new ok (inr missed) told = absurd (ok missed.0)
stores_synced from to renamed synced old mid new ok (inl is) (inl last) = record {
  added = snapshot_of new SyncedNames [] ∷ snapshot_of mid Renamed (from ∷ to ∷ []) ∷ [];
  is = last ∙ ap (λ (trace : List Snapshot). snapshot_of new SyncedNames [] ∷ trace) is;
  calls = inr (inr (record { kind = refl; names = refl }, (record { kind = refl; names = refl }, tt)));
}
stores_synced from to renamed synced old mid new ok (inl is) (inr missed) = record {
  added = snapshot_of mid Renamed (from ∷ to ∷ []) ∷ [];
  is = missed.1.trace ∙ is;
  calls = inr (inl (record { kind = refl; names = refl }, tt));
}

renames_longer : (from to : Name) (calls before : List Snapshot) → EndInRename from to calls → Each (IsCallOn (one_name from)) before → EndInRename from to (calls ++ before)
renames_longer from to [] before ends each = absurd ends
renames_longer from to (call ∷ calls) before ends each = (ends.0, Each-append (IsCallOn (one_name from)) calls before ends.1 each)

syncs_longer : (from to : Name) (calls before : List Snapshot) → EndInSync from to calls → Each (IsCallOn (one_name from)) before → EndInSync from to (calls ++ before)
syncs_longer from to [] before ends each = absurd ends
syncs_longer from to (call ∷ calls) before ends each = (ends.0, renames_longer from to calls before ends.1 each)

storing_longer : (from to : Name) (calls before : List Snapshot) → AreStoring from to calls → Each (IsCallOn (one_name from)) before → AreStoring from to (calls ++ before)
storing_longer from to calls before (inl on) each = inl (Each-append (IsCallOn (one_name from)) calls before on each)
storing_longer from to calls before (inr (inl ends)) each = inr (inl (renames_longer from to calls before ends each))
storing_longer from to calls before (inr (inr ends)) each = inr (inr (syncs_longer from to calls before ends each))

-- calls on the first name, and what goes on from there
pub stores_then : (tells : Tells) (from to : Name) (old mid new : Scene) → IsTrue tells.folder → CallsOn tells (one_name from) old mid → StoresBy from to mid new → StoresBy from to old new
stores_then tells from to old mid new told first second =
    let goes = first.calls told in
    record {
      added = second.added ++ goes.added;
      is = second.is ∙ ap (λ (trace : List Snapshot). second.added ++ trace) goes.is ∙ sym (append_assoc second.added goes.added old.trace);
      calls = storing_longer from to second.added goes.added second.calls goes.each;
    }
