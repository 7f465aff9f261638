-- Writing a file anew after it was renamed to its backup: in each image the name or the backup name leads to the old file.
use Rattle.std.proofs.Common.{◌≡◌, inl, inr, ℕ, false, List, [], ◌∷◌, Some, None, length, OnOk, OnErr, Result, Ok, Err, sym, ◌∙◌}
use Rattle.std.proofs.lemmas.Bool.{true≢false}
use Rattle.vs_host.specs.Disk.{Disk, Name, Renames, mode_in, ChangesNames, IsFolder}
use Rattle.vs_host.specs.Trace.{Renamed}
use Rattle.vs_host.specs.World.{Scene, ChangesFolder, IsTold}
use Rattle.vs_host.specs.declared.traits.Failed.{Failed}
use Rattle.vs_disk.specs.Images.{MayLeave, Takes}
use Rattle.vs_disk.specs.Runs.{Runs}
use Rattle.vs_disk.proofs.Steps.{one_state}
use Rattle.vs_disk.proofs.Runs.{frames, one_call, runs_as, runs_then}
use Rattle.vs_disk.proofs.Contents.{takes_renamed}
use Rattle.vs_backup.specs.Works.{HandsOver, IsGone, IsHeld, LeadsTo, Spares, StandsUnder, Widens, one_name, two_names}
use Rattle.vs_backup.specs.Writing.{IsKept, IsSettled, IsGuarded, MakesAnew, Replaces, WritesAnew, WritesOver, stopped_after}
use Rattle.vs_backup.specs.declared.errors.Place.TheVariants as place
use Rattle.vs_backup.specs.declared.errors.Stop.{Stop}
use Rattle.vs_backup.proofs.Calls.{runs_wider, spares_on}
use Rattle.vs_backup.proofs.Frames.{spares_renamed}
use Rattle.vs_backup.proofs.Kept.{guard_kept, guard_moved, guard_bytes, held_kept, settled_holds}
use Rattle.vs_backup.proofs.Modes.{mode_renamed}
use Rattle.vs_backup.proofs.Places.{leads_away}
use Rattle.vs_backup.proofs.Replacing.{replaces_takes, takes_on, takes_others}
use Rattle.vs_backup.proofs.Copying.{kept_on, may_leave_held, never_no_name, never_other, never_refused}

-- ---- the name was made anew
pub anew_done : (name backup : Name) (number size : ℕ) (old new : List ℕ) (s0 s1 : Scene) → MakesAnew name backup number old s0 s1 → size ≡ length new → IsSettled name new s1.folder
    → WritesAnew name backup number old new s0 s1 (Ok size)
anew_done name backup number size old new s0 s1 made is settled = record { spares = made.spares; guarded = made.guarded; written = (is, settled); absent = tt }

pub anew_stopped : (name backup : Name) (number : ℕ) (why : Stop) (old new : List ℕ) (s0 s1 : Scene) → MakesAnew name backup number old s0 s1 → MayLeave s1.folder name None
    → WritesAnew name backup number old new s0 s1 (Err why)
anew_stopped name backup number why old new s0 s1 made absent = record { spares = made.spares; guarded = made.guarded; written = tt; absent = absent }

-- ---- the whole
module _ (name backup : Name) (old new : List ℕ) (s0 s1 s2 : Scene) (is : IsSettled name old s0.folder) (frame : ChangesFolder s0 s1) (answer : Result (Unit {0}) Failed)
    (told : IsTold Renamed (name ∷ backup ∷ []) answer s0 s1) (renames : ChangesNames (Renames name backup) s0.folder s1.folder) where
  guarded : IsGuarded name backup is.synced.number old s1.folder
  guarded = guard_moved name backup old s0.folder s1.folder is renames

  renamed_spares : Runs (Spares (two_names name backup)) s0 s1
  renamed_spares = one_call (Spares (two_names name backup)) Renamed (name ∷ backup ∷ []) answer s0 s1 frame told (spares_renamed name backup s0.folder s1.folder renames)

  renamed_kept : Runs (λ a b. IsKept name backup old b) s0 s1
  renamed_kept = one_call (λ a b. IsKept name backup old b) Renamed (name ∷ backup ∷ []) answer s0 s1 frame told (guard_kept name backup is.synced.number old s1.folder guarded)

  moved_spares : (result : Result ℕ Stop) → WritesAnew name backup is.synced.number old new s1 s2 result → Runs (Spares (two_names name backup)) s0 s2
  moved_spares result anew = spares_on (two_names name backup) s0 s1 s2 frame renamed_spares (runs_wider (one_name name) (two_names name backup) s1 s2 (λ n here. inl here) anew.spares)

  moved_kept : (result : Result ℕ Stop) → WritesAnew name backup is.synced.number old new s1 s2 result → Runs (λ a b. IsKept name backup old b) s0 s2
  moved_kept result anew = kept_on (IsKept name backup old) s0 s1 s2 frame renamed_kept
      (runs_as (λ a b. IsGuarded name backup is.synced.number old b) (λ a b. IsKept name backup old b) s1 s2 (λ d here. guard_kept name backup is.synced.number old d here) anew.guarded)

  moved_replaced : (result : Result ℕ Stop) → (name ≡ backup → ⊥) → WritesAnew name backup is.synced.number old new s1 s2 result → Runs (Takes backup old) s0 s2
  moved_replaced result differ anew = takes_on backup old s0 s1 s2 frame
      (one_call (Takes backup old) Renamed (name ∷ backup ∷ []) answer s0 s1 frame told (takes_renamed name backup old s0.folder s1.folder is.synced renames))
      (takes_others (one_name name) backup old s1 s2 (λ e. differ (sym e)) anew.spares)

  held_under : (d : Disk) → IsHeld name backup is.synced.number old d → StandsUnder name backup s0.folder d
  held_under d d_held lost = elim (d_held.each lost) [
    | inl by_name ↦ inl (by_name ∙ sym is.synced.leads)
    | inr by_backup ↦ inr (by_backup ∙ sym is.synced.leads)
  ]

  moved_under : (result : Result ℕ Stop) → WritesAnew name backup is.synced.number old new s1 s2 result → Runs (StandsUnder name backup) s0 s2
  moved_under result anew =
      let renamed = one_call (StandsUnder name backup) Renamed (name ∷ backup ∷ []) answer s0 s1 frame told (held_under s1.folder guarded.held) in
      runs_then (StandsUnder name backup) (λ a b. IsGuarded name backup is.synced.number old b) (StandsUnder name backup) s0 s1 s2 (λ d under. under) (λ d guard. held_under d guard.held) frame renamed anew.guarded

  backup_leads : (size : ℕ) → WritesAnew name backup is.synced.number old new s1 s2 (Ok size) → LeadsTo backup name s0.folder s2.folder
  backup_leads size anew lost = one_state s2.folder anew.written.1.pending lost backup ∙ anew.guarded.now.now ∙ sym is.synced.leads

  pub moving_done : (size : ℕ) (temporary : Name) → (name ≡ backup → ⊥) → IsFolder s2.folder → mode_in s2.folder name ≡ mode_in s1.folder backup
      → WritesAnew name backup is.synced.number old new s1 s2 (Ok size)
      → WritesOver false name temporary backup old new s0 s2 (Ok size)
  moving_done size temporary differ folder mode anew = record {
    mode = mode ∙ mode_renamed name backup s0.folder s1.folder renames;
    spares = moved_spares (Ok size) anew;
    kept = moved_kept (Ok size) anew;
    places = record {
      under = moved_under (Ok size) anew;
      another = leads_away name backup is.synced.number s0.folder s2.folder differ folder is.synced.leads (backup_leads size anew);
      kept = λ keeps. backup_leads size anew;
      in_file = λ refused. absurd (never_refused size place.File refused);
      in_backup = λ refused. absurd (never_refused size place.Backup refused);
    };
    replaced = runs_as (Takes backup old) (Replaces false name backup old) s0 s2 (λ d takes. replaces_takes false name backup old s0.folder d takes) (moved_replaced (Ok size) differ anew);
    aside = λ copies. absurd (true≢false (sym copies));
    anew = λ copies. absurd (true≢false (sym copies));
    written = (anew.written.0, settled_holds name new s2.folder anew.written.1, guard_bytes name backup is.synced.number old s2.folder anew.written.1.pending anew.guarded.now);
    not_written = tt;
    in_file = λ refused. absurd (never_refused size place.File refused);
    in_backup = λ refused. absurd (never_refused size place.Backup refused);
    somewhere = (λ refused. never_refused size place.Nowhere refused, λ is. cc);
  }

  -- the file was put back, or that failed
  module _ (why : Stop) (s3 : Scene) (differ : name ≡ backup → ⊥) (anew : WritesAnew name backup is.synced.number old new s1 s2 (Err why)) (second : ChangesFolder s1 s2)
      (spares : Runs (Spares (two_names backup name)) s2 s3) (held : Runs (λ a b. IsHeld name backup is.synced.number old b) s2 s3) (hands : Runs (HandsOver backup name) s2 s3) where
    frame_all : ChangesFolder s0 s2
    frame_all = frames s0 s1 s2 frame second

    both : (n : Name) → two_names backup name n → two_names name backup n
    both n (inl e) = inr e
    both n (inr e) = inl e

    back_spares : Runs (Spares (two_names name backup)) s0 s3
    back_spares = spares_on (two_names name backup) s0 s2 s3 frame_all (moved_spares (Err why) anew) (runs_wider (two_names backup name) (two_names name backup) s2 s3 both spares)

    back_kept : Runs (λ a b. IsKept name backup old b) s0 s3
    back_kept = kept_on (IsKept name backup old) s0 s2 s3 frame_all (moved_kept (Err why) anew)
        (runs_as (λ a b. IsHeld name backup is.synced.number old b) (λ a b. IsKept name backup old b) s2 s3 (λ d here. held_kept name backup is.synced.number old d here) held)

    back_under : Runs (StandsUnder name backup) s0 s3
    back_under = runs_then (StandsUnder name backup) (λ a b. IsHeld name backup is.synced.number old b) (StandsUnder name backup) s0 s2 s3 (λ d under. under) held_under frame_all (moved_under (Err why) anew) held

    handed : (d : Disk) → HandsOver backup name s2.folder d → Replaces false name backup old s0.folder d
    handed d over found leaves = elim (over found leaves) [
      | inl left ↦ inl ((moved_replaced (Err why) differ anew).now found left)
      | inr gone ↦ inr (gone.0, gone.1 ∙ anew.guarded.now.now ∙ sym is.synced.leads)
    ]

    back_replaced : Runs (Replaces false name backup old) s0 s3
    back_replaced = runs_then (Takes backup old) (HandsOver backup name) (Replaces false name backup old) s0 s2 s3
        (λ d takes. replaces_takes false name backup old s0.folder d takes) handed frame_all (moved_replaced (Err why) differ anew) hands

    back_leads : IsGone backup s3.folder → LeadsTo name name s0.folder s3.folder
    back_leads gone lost = elim (back_under.now lost) [
      | inl by_name ↦ by_name
      | inr by_backup ↦ let clash : None ≡ Some is.synced.number = sym (gone lost) ∙ by_backup ∙ is.synced.leads in absurd (cc clash)
    ]

    pub moving_stopped : (temporary : Name) (back : Result (Unit {0}) Failed) → OnOk back (IsSettled name old s3.folder × IsGone backup s3.folder) → OnErr back (Widens name s2.folder s3.folder)
        → WritesOver false name temporary backup old new s0 s3 (Err (stopped_after why back))
    moving_stopped temporary (Ok done) returned widens = record {
      spares = back_spares;
      kept = back_kept;
      places = record {
        under = back_under;
        another = tt;
        kept = λ keeps. tt;
        in_file = λ refused. back_leads returned.1;
        in_backup = λ refused. absurd (never_other why place.File place.Backup (λ e. cc) refused);
      };
      replaced = back_replaced;
      aside = λ copies. absurd (true≢false (sym copies));
      anew = λ copies. absurd (true≢false (sym copies));
      written = tt;
      mode = tt;
      not_written = inl (may_leave_held name old s3.folder (settled_holds name old s3.folder returned.0));
      in_file = λ refused. settled_holds name old s3.folder returned.0;
      in_backup = λ refused. absurd (never_other why place.File place.Backup (λ e. cc) refused);
      somewhere = (λ refused. never_other why place.File place.Nowhere (λ e. cc) refused, λ is. never_no_name why place.File is);
    }
    moving_stopped temporary (Err failed) returned widens = record {
      spares = back_spares;
      kept = back_kept;
      places = record {
        under = back_under;
        another = tt;
        kept = λ keeps. tt;
        in_file = λ refused. absurd (never_other why place.Backup place.File (λ e. cc) refused);
        in_backup = λ refused. back_under.now;
      };
      replaced = back_replaced;
      aside = λ copies. absurd (true≢false (sym copies));
      anew = λ copies. absurd (true≢false (sym copies));
      written = tt;
      mode = tt;
      not_written = inr (widens None anew.absent);
      in_file = λ refused. absurd (never_other why place.Backup place.File (λ e. cc) refused);
      in_backup = λ refused some. (None, widens None anew.absent, λ same. cc);
      somewhere = (λ refused. never_other why place.Backup place.Nowhere (λ e. cc) refused, λ is. never_no_name why place.Backup is);
    }
