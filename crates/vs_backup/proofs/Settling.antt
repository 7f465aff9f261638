-- One sync after another, and one alone.
use Rattle.std.proofs.Common.{◌≡◌, inl, inr, Bool, false, List, [], ◌∷◌, IsTrue, OnOk, OnErr, Result, Ok, Err, refl, sym, ◌∙◌, ap, subst}
use Rattle.vs_host.specs.File.{Syncs}
use Rattle.vs_host.specs.Disk.{Disk, Name, ChangesFile, SyncsNames}
use Rattle.vs_host.specs.Trace.{Kind, Snapshot, Synced, SyncedNames}
use Rattle.vs_host.specs.World.{Scene, ChangesFolder, IsRecorded, IsTold, snapshot_of}
use Rattle.vs_host.specs.declared.traits.Failed.{Failed}
use Rattle.vs_disk.specs.Names.{IsApart, SameAt}
use Rattle.vs_disk.proofs.Runs.{one_call, runs_on}
use Rattle.vs_disk.proofs.Others.{same_none, same_then, file_outside, sync_outside}
use Rattle.vs_backup.specs.Works.{Narrowed, Settles, SettlesAny, SyncsBytes, SyncsInOrder}
use Rattle.vs_backup.specs.Writing.{SettlesBytes, SettlesSynced}
use Rattle.vs_backup.proofs.Following.{narrowed_call, narrowed_on}
use Rattle.vs_backup.proofs.Frames.{either, narrowed_none, narrowed_file, narrowed_names}

pub settles_on : (told : Bool) (name : Name) (s0 s1 s2 : Scene) → ChangesFolder s0 s1 → Settles told name s0 s1 → SettlesAny told s1 s2 → Settles told name s0 s2
settles_on told name s0 s1 s2 frame first second =
    let then = second.each name in
    record {
      narrowed = λ is. narrowed_on s0 s1 s2 frame (first.narrowed is) (then.narrowed is);
      same = λ is inside out apart. runs_on (SameAt inside) (same_then inside) s0 s1 s2 frame (first.same is inside out apart) (then.same is inside out (first.apart is inside out apart));
      apart = λ is inside out apart. then.apart is inside out (first.apart is inside out apart);
    }

pub settles_any : (told : Bool) (name : Name) (s0 s1 : Scene) → SettlesAny told s0 s1 → Settles told name s0 s1
settles_any told name s0 s1 any = any.each name

pub settles_bytes : (told : Bool) (name : Name) (s0 s1 s2 : Scene) → SyncsBytes told name s0 s1 → SettlesSynced told s1 s2 → SettlesBytes told name s0 s2
settles_bytes told name s0 s1 s2 first second = record { settled = λ is bytes content. second.settled is name bytes (first.synced is bytes content) }

recorded : (kind : Kind) (names : List Name) (result : Result (Unit {0}) Failed) (s0 s1 : Scene) → result ≡ Ok tt → IsTold kind names result s0 s1 → IsRecorded kind names s0 s1
recorded kind names result s0 s1 is (inl added) = added
recorded kind names (Ok done) s0 s1 is (inr missed) = let failed = missed.0 in absurd (cc)
recorded kind names (Err why) s0 s1 is (inr missed) = absurd (cc)

-- a sync of the file that succeeded, and then one of the names
pub synced_in_order : (told : Bool) (name : Name) (s0 s1 s2 : Scene) → (IsTrue told → IsTold {T = Unit {0}} {E = Failed} Synced (name ∷ []) (Ok tt) s0 s1)
    → (IsTrue told → IsTold {T = Unit {0}} {E = Failed} SyncedNames [] (Ok tt) s1 s2) → SyncsInOrder told name s2
synced_in_order told name s0 s1 s2 file names = record {
  order = λ is. record {
    file_synced = snapshot_of s1 Synced (name ∷ []);
    names_synced = snapshot_of s2 SyncedNames [];
    earlier = s0.trace;
    is = recorded SyncedNames [] (Ok tt) s1 s2 refl (names is) ∙ ap (λ (trace : List Snapshot). snapshot_of s2 SyncedNames [] ∷ trace) (recorded Synced (name ∷ []) (Ok tt) s0 s1 refl (file is));
    first = (refl, refl);
    second = refl;
  };
}

-- one call that syncs, or that failed
module _ (told : Bool) (name : Name) (kind : Kind) (names : List Name) (result : Result (Unit {0}) Failed) (s0 s1 : Scene) (frame : ChangesFolder s0 s1)
    (is_told : IsTrue told → IsTold kind names result s0 s1) where
  settles_call : Narrowed s0.folder s1.folder → ((inside : Name → Bool) → inside name ≡ false → IsApart inside s0.folder → SameAt inside s0.folder s1.folder × IsApart inside s1.folder)
      → Settles told name s0 s1
  settles_call narrowed same = record {
    narrowed = λ is. narrowed_call kind names result s0 s1 frame (is_told is) narrowed;
    same = λ is inside out apart. one_call (SameAt inside) kind names result s0 s1 frame (is_told is) (same inside out apart).0;
    apart = λ is inside out apart. (same inside out apart).1;
  }

  settles_none : s1.folder ≡ s0.folder → Settles told name s0 s1
  settles_none is = settles_call (narrowed_none s0.folder s1.folder is)
      (λ inside out apart. subst (λ (d : Disk). SameAt inside s0.folder d × IsApart inside d) (sym is) (same_none inside s0.folder, apart))

  when_told : (IsTrue told → Settles told name s0 s1) → Settles told name s0 s1
  when_told leads = record { narrowed = λ is. (leads is).narrowed is; same = λ is. (leads is).same is; apart = λ is. (leads is).apart is }

  pub settles_file : OnOk result (IsTrue told → ChangesFile name Syncs s0.folder s1.folder) → OnErr result (s1.folder ≡ s0.folder) → Settles told name s0 s1
  settles_file ok err = either (IsTrue told → ChangesFile name Syncs s0.folder s1.folder) (s1.folder ≡ s0.folder) (Settles told name s0 s1) result ok err
      (λ changes. when_told (λ is. settles_call (narrowed_file name s0.folder s1.folder (changes is)) (λ inside out apart. file_outside inside name Syncs s0.folder s1.folder out apart (changes is))))
      settles_none

  pub settles_names : OnOk result (IsTrue told → SyncsNames s0.folder s1.folder) → OnErr result (s1.folder ≡ s0.folder) → Settles told name s0 s1
  settles_names ok err = either (IsTrue told → SyncsNames s0.folder s1.folder) (s1.folder ≡ s0.folder) (Settles told name s0 s1) result ok err
      (λ syncs. when_told (λ is. settles_call (narrowed_names s0.folder s1.folder (syncs is)) (λ inside out apart. sync_outside inside s0.folder s1.folder apart (syncs is)))) settles_none

-- what the two syncs at the beginning come to, in whatever order they stand
pub ruleset settle_steps = (settles_on, settles_any, settles_bytes)
