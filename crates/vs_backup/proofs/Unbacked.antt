-- Writing without a backup: the file alone changes, or its temporary name until the file takes its own.
use Rattle.std.specs.Prelude.{IsErrOf}
use Rattle.std.proofs.Common.{◌≡◌, inl, inr, ℕ, List, [], ◌∷◌, Some, None, length, OnOk, OnErr, IfOk, Result, Ok, Err, refl, sym, ◌∙◌, subst}
use Rattle.vs_host.specs.File.{Cuts}
use Rattle.vs_host.specs.Disk.{Disk, Name, content_in, mode_in, ChangesFile, IsFolder}
use Rattle.vs_host.specs.Trace.{Cut}
use Rattle.vs_host.specs.World.{Scene, ChangesFolder, IsTold}
use Rattle.vs_host.specs.declared.traits.Failed.{Failed}
use Rattle.vs_disk.specs.Images.{IsSynced, MayLeave, Takes}
use Rattle.vs_disk.specs.Runs.{Runs}
use Rattle.vs_disk.proofs.Runs.{one_call, runs_on}
use Rattle.vs_disk.proofs.Contents.{holds_synced}
use Rattle.vs_backup.specs.Works.{ChangesOne, HasSynced, IsAlone, IsGone, Narrowed, Renews, Spares, SparesOthers, StaysGone, Steps, Widens, one_name, two_names}
use Rattle.vs_backup.specs.Writing.{BeginsPlain, IsFailed, IsSettled, WritesFresh, WritesNew, WritesPlain, nowhere}
use Rattle.vs_backup.specs.declared.errors.Place.TheVariants.{Nowhere}
use Rattle.vs_backup.specs.declared.errors.Stop.{Stop}
use Rattle.vs_backup.specs.declared.errors.Stop.TheVariants as stop
use Rattle.vs_backup.specs.declared.errors.WriteErr.{WriteErr}
use Rattle.vs_backup.proofs.Calls.{runs_wider, runs_file, spares_on, synced_bytes}
use Rattle.vs_backup.proofs.Frames.{spares_same, content_spared, absent_now}
use Rattle.vs_backup.proofs.Filling.{changes_by, changes_same, changes_then, fills_cut}
use Rattle.vs_backup.proofs.Following.{narrowed_now}
use Rattle.vs_backup.proofs.Kept.{fills_widens, may_leave_now, settled_holds}
use Rattle.vs_backup.proofs.Modes.{mode_file, mode_narrowed}
use Rattle.vs_backup.proofs.Copying.{alone_now}
use Rattle.vs_backup.proofs.Others.{others_spared, others_on}
use Rattle.vs_backup.proofs.Places.{in_place_changed}
use Rattle.vs_backup.proofs.Renewing.{renews_but}
use Rattle.vs_backup.proofs.Replacing.{takes_on, takes_others}
use Rattle.vs_backup.proofs.Backed.{narrowed_content}

-- ---- over a file that is there
module _ (name : Name) (old new : List ℕ) (s0 s1 : Scene) (content : content_in s0.folder name ≡ Some old) (looked : Steps Narrowed s0 s1) (spared : SparesOthers (one_name name) s0 s1) where
  pub plain_not_begun : (result : Result ℕ Stop) → OnOk result ⊥ → WritesPlain name old new s0 s1 result
  plain_not_begun (Ok size) none = absurd none
  plain_not_begun (Err why) none = record {
    moments = inr (looked, refl);
    others = spared;
    written = tt;
    mode = tt;
    not_written = inl (may_leave_now name old s1.folder (narrowed_content name s0.folder s1.folder (narrowed_now s0 s1 looked) ∙ content));
  }

  module _ (frame : ChangesFolder s0 s1) (order : HasSynced name s1) (settled : IsSettled name old s1.folder) (folder : IsFolder s1.folder) (s2 : Scene) (framed : ChangesFolder s1 s2) (answer : Result (Unit {0}) Failed) (told : IsTold Cut (name ∷ []) answer s1 s2) where
    begins : (s : Scene) → Runs (ChangesOne name) s1 s → Runs (Spares (one_name name)) s1 s → BeginsPlain name old s0 s
    begins s changes spares = record { begun = s1; looked = looked; order = order; settled = settled; in_place = in_place_changed name s1 s settled.pending changes; spares = spares }

    cut_spares : s2.folder ≡ s1.folder → Runs (Spares (one_name name)) s1 s2
    cut_spares same = one_call (Spares (one_name name)) Cut (name ∷ []) answer s1 s2 framed told (spares_same (one_name name) s1.folder s2.folder same)

    pub plain_not_cut : (result : Result ℕ Stop) → OnOk result ⊥ → s2.folder ≡ s1.folder → WritesPlain name old new s0 s2 result
    plain_not_cut (Ok size) none same = absurd none
    plain_not_cut (Err why) none same = record {
      moments = inl (begins s2 (one_call (ChangesOne name) Cut (name ∷ []) answer s1 s2 framed told (changes_same name s1.folder s2.folder same)) (cut_spares same));
      others = others_on (one_name name) s0 s1 s2 frame looked spared (others_spared (one_name name) s1 s2 (cut_spares same));
      written = tt;
      mode = tt;
      not_written = inl (subst (λ (d : Disk). MayLeave d name (Some old)) (sym same) (may_leave_now name old s1.folder (synced_bytes name old s1.folder settled.synced)));
    }

    module _ (cuts : ChangesFile name (Cuts 0) s1.folder s2.folder) (s3 : Scene) (runs : Runs (ChangesOne name) s2 s3) where
      there : content_in s1.folder name ≡ Some old
      there = synced_bytes name old s1.folder settled.synced

      plain_alone : IsAlone name s1.folder
      plain_alone = alone_now name old s1.folder settled.pending folder there

      plain_changes : Runs (ChangesOne name) s1 s3
      plain_changes =
          runs_on (ChangesOne name) (changes_then name) s1 s2 s3 framed (one_call (ChangesOne name) Cut (name ∷ []) answer s1 s2 framed told (changes_by name (Cuts 0) s1.folder s2.folder cuts)) runs

      plain_spares : Runs (Spares (one_name name)) s1 s3
      plain_spares = runs_file name s1 s3 plain_alone plain_changes

      plain_others : SparesOthers (one_name name) s0 s3
      plain_others = others_on (one_name name) s0 s1 s3 frame looked spared (others_spared (one_name name) s1 s3 plain_spares)

      pub plain_filled : (result : Result ℕ Stop) → IfOk result (λ size. (size ≡ length new) × IsSynced name new s3.folder) → OnErr result (Widens name s2.folder s3.folder)
          → OnOk result (mode_in s3.folder name ≡ mode_in s2.folder name) → WritesPlain name old new s0 s3 result
      plain_filled (Ok size) done widens mode = record {
        moments = inl (begins s3 plain_changes plain_spares);
        others = plain_others;
        written = (done.0, holds_synced name new s3.folder (runs.now.pending ∙ cuts.pending ∙ settled.pending) done.1);
        mode = mode ∙ mode_file name name (Cuts 0) s1.folder s2.folder cuts ∙ mode_narrowed name s0.folder s1.folder (narrowed_now s0 s1 looked);
        not_written = tt;
      }
      plain_filled (Err why) done widens mode = record {
        moments = inl (begins s3 plain_changes plain_spares);
        others = plain_others;
        written = tt;
        mode = tt;
        not_written = inl (widens (Some old) (fills_widens name s1.folder s2.folder (fills_cut name s1.folder s2.folder cuts) (Some old) (may_leave_now name old s1.folder there)));
      }

-- ---- a file that was not there
module _ (name temporary : Name) (new : List ℕ) (s0 s1 : Scene) (differ : name ≡ temporary → ⊥) (free : content_in s0.folder name ≡ None) (spares : Runs (Spares (one_name temporary)) s0 s1) where
  fresh_takes : Runs (Takes name new) s0 s1
  fresh_takes = takes_others (one_name temporary) name new s0 s1 differ spares

  fresh_spares : Runs (Spares (two_names temporary name)) s0 s1
  fresh_spares = runs_wider (one_name temporary) (two_names temporary name) s0 s1 (λ n is. inl is) spares

  pub fresh_free : content_in s1.folder name ≡ None
  fresh_free = content_spared (one_name temporary) name s0.folder s1.folder differ spares.now ∙ free

  pub fresh_not_taken : Runs (Renews temporary) s0 s1 → (result : Result ℕ Stop) → OnOk result ⊥ → (IsErrOf result stop.NoMemory → StaysGone temporary s0.folder s1.folder)
      → WritesFresh (two_names temporary name) name new s0 s1 result
  fresh_not_taken renews (Ok size) none clears = absurd none
  fresh_not_taken renews (Err why) none clears = record {
    takes = fresh_takes;
    spares = fresh_spares;
    written = tt;
    not_written = absent_now name s1.folder fresh_free;
    anew = renews_but temporary name s0 s1 renews;
    aside = tt;
    clears = λ memory other works not_name. elim works [
      | inl same ↦ subst (λ (n : Name). StaysGone n s0.folder s1.folder) (sym same) (clears memory)
      | inr same ↦ absurd (not_name same)
    ];
  }

  module _ (s2 : Scene) (frame : ChangesFolder s0 s1) (renews : Runs (Renews temporary) s0 s2) (takes : Runs (Takes name new) s1 s2) (moved : Runs (Spares (two_names temporary name)) s1 s2) where
    pub fresh_refused : (result : Result ℕ Stop) → OnOk result ⊥ → (IsErrOf result stop.NoMemory → ⊥) → MayLeave s2.folder name None → WritesFresh (two_names temporary name) name new s0 s2 result
    fresh_refused (Ok size) none failed absent = absurd none
    fresh_refused (Err why) none failed absent = record {
      takes = takes_on name new s0 s1 s2 frame fresh_takes takes;
      spares = spares_on (two_names temporary name) s0 s1 s2 frame fresh_spares moved;
      written = tt;
      not_written = absent;
      anew = renews_but temporary name s0 s2 renews;
      aside = tt;
      clears = λ memory. absurd (failed memory);
    }

    pub fresh_done : (size : ℕ) → size ≡ length new → IsSettled name new s2.folder → IsGone temporary s2.folder → WritesFresh (two_names temporary name) name new s0 s2 (Ok size)
    fresh_done size is settled gone = record {
      takes = takes_on name new s0 s1 s2 frame fresh_takes takes;
      spares = spares_on (two_names temporary name) s0 s1 s2 frame fresh_spares moved;
      written = (is, settled_holds name new s2.folder settled);
      not_written = tt;
      anew = renews_but temporary name s0 s2 renews;
      aside = λ other works not_name. elim works [
        | inl same ↦ subst (λ (n : Name). IsGone n s2.folder) (sym same) gone
        | inr same ↦ absurd (not_name same)
      ];
      clears = λ memory. absurd (cc);
    }

-- under the temporary name a write that is not answered as a failed call leaves no file where none was
pub fresh_clears : (temporary name : Name) (new : List ℕ) (before after : Scene) (result : Result ℕ WriteErr) → (IsFailed result → ⊥) → (temporary ≡ name → ⊥) → WritesNew temporary name new before after result
    → StaysGone temporary before.folder after.folder
fresh_clears temporary name new before after result calm differ writes = by writes.answer writes.is writes.fresh
  where
    by : (answer : Result ℕ Stop) → result ≡ nowhere answer → WritesFresh (two_names temporary name) name new before after answer → StaysGone temporary before.folder after.folder
    by (Ok size) is fresh was = fresh.aside temporary (inl refl) differ
    by (Err stop.Failed) is fresh was = absurd (calm (Nowhere, is))
    by (Err stop.NoMemory) is fresh was = fresh.clears refl temporary (inl refl) differ was
