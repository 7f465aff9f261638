-- The whole of a write after the first look at the folder, which has left it as it was.
use Rattle.std.proofs.Common.{◌≡◌, ◌⊎◌, inl, inr, ℕ, Bool, true, false, List, [], ◌∷◌, Option, Some, None, Result, Ok, Err, refl, sym, ◌∙◌, ap, subst}
use Rattle.std.specs.Prelude.{is_some, IsSome}
use Rattle.std.proofs.lemmas.Result.{on_ok_weaker}
use Rattle.vs_host.specs.Disk.{Disk, Name, content_in, mode_in}
use Rattle.vs_host.specs.Names.{temporary}
use Rattle.vs_host.specs.Trace.{Looked}
use Rattle.vs_host.specs.World.{Scene, ChangesFolder, IsTold, ReadsFolder}
use Rattle.vs_host.specs.declared.traits.Failed.{Failed}
use Rattle.vs_disk.specs.Runs.{FailsLast, Looks, Quiet}
use Rattle.vs_disk.proofs.Quiet.{last_then, quiet_then}
use Rattle.vs_disk.proofs.Runs.{runs_as, runs_then, looks_on, reads_change}
use Rattle.vs_backup.specs.Backups.{WorksOn, backup_of, copies}
use Rattle.vs_backup.specs.Backups.WorksOn.{TheFile, TheNewFile, TheBackup, TheCopy}
use Rattle.vs_backup.specs.declared.options.WriteOptions.{WriteOptions}
use Rattle.vs_backup.specs.Works.{IsGone, RenewsBut, Spares, SparesOthers, one_name, two_names}
use Rattle.vs_backup.specs.Writing.{FindsNoName, IsUnseen, OldIn, WritesFresh, WritesInPlace, WritesPlain, WritesWith, backed_names}
use Rattle.vs_backup.specs.declared.errors.Place.TheVariants as place
use Rattle.vs_backup.specs.declared.errors.Stop.{Stop}
use Rattle.vs_backup.specs.declared.errors.WriteErr.{WriteErr}
use Rattle.vs_backup.specs.declared.errors.WriteErr.TheVariants as error
use Rattle.vs_backup.proofs.Calls.{spares_on}
use Rattle.vs_backup.proofs.Following.{looks_narrowed, narrowed_on}
use Rattle.vs_backup.proofs.Frames.{spares_same}
use Rattle.vs_backup.proofs.Renewing.{renews_same}
use Rattle.vs_backup.proofs.Replacing.{takes_on, takes_looks}
use Rattle.vs_backup.proofs.Copying.{never_refused}
use Rattle.vs_backup.proofs.Others.{others_spared, others_looks, others_wider, others_on}

pub unseen : (s0 s1 : Scene) → Looks s0 s1 → FailsLast s0 s1 → IsUnseen s0 s1 (Err (error.Failed place.Nowhere))
unseen s0 s1 looks last = record { looks = looks; last = last; failed = refl }

-- the look that failed is the call of the whole
pub told_alone : {T : Type 0} (name : Name) (answer : Result T Failed) (s0 s1 : Scene) (why : WriteErr) → IsTold Looked (name ∷ []) answer s0 s1 → IsTold {T = ℕ} Looked (name ∷ []) (Err why) s0 s1
told_alone name answer s0 s1 why (inl recorded) = inl recorded
told_alone name answer s0 s1 why (inr silent) = inr (refl, silent.1)

-- one place is no other
one_place : (result : Result ℕ WriteErr) → (result ≡ Err error.NoBackupName) ⊎ OldIn place.File result → OldIn place.Nowhere result → ⊥
one_place (Ok size) refused nowhere = never_refused size place.Nowhere nowhere
one_place (Err why) (inl is) (inl failed) = cc
one_place (Err why) (inl is) (inr memory) = cc
one_place (Err why) (inr (inl is)) (inl failed) = cc
one_place (Err why) (inr (inl is)) (inr memory) = cc
one_place (Err why) (inr (inr is)) (inl failed) = cc
one_place (Err why) (inr (inr is)) (inr memory) = cc

module _ (s0 s1 s2 : Scene) (frame : ReadsFolder s0 s1) (looks : Looks s0 s1) (result : Result ℕ WriteErr) where
  changed : ChangesFolder s0 s1
  changed = reads_change s0 s1 frame

  pub none_after : Quiet s0 s1 → FindsNoName s1 s2 result → FindsNoName s0 s2 result
  none_after quiet none = record {
    looks = looks_on s0 s1 s2 changed looks none.looks;
    last = last_then s0 s1 s2 quiet none.last;
    none = λ calm. quiet_then s0 s1 s2 quiet (none.none calm);
    refused = none.refused;
  }

  pub plain_after : (name : Name) (old new : List ℕ) → WritesInPlace name old new s1 s2 result → WritesInPlace name old new s0 s2 result
  plain_after name old new here = record {
    answer = here.answer;
    is = here.is;
    plain = record {
      moments = elim here.plain.moments [
        | inl begins ↦ inl (record {
          begun = begins.begun;
          looked = narrowed_on s0 s1 begins.begun changed (looks_narrowed s0 s1 looks) begins.looked;
          order = begins.order;
          settled = begins.settled;
          in_place = begins.in_place;
          spares = begins.spares;
        })
        | inr none ↦ inr (narrowed_on s0 s1 s2 changed (looks_narrowed s0 s1 looks) none.0, none.1)
      ];
      others = others_on (one_name name) s0 s1 s2 changed (looks_narrowed s0 s1 looks) (others_looks (one_name name) s0 s1 looks) here.plain.others;
      written = here.plain.written;
      mode = on_ok_weaker here.answer (λ same. same ∙ ap (λ (d : Disk). mode_in d name) looks.now) here.plain.mode;
      not_written = here.plain.not_written;
    };
  }

  pub fresh_after : (temporary name : Name) (new : List ℕ) (answer : Result ℕ Stop) → WritesFresh (two_names temporary name) name new s1 s2 answer → WritesFresh (two_names temporary name) name new s0 s2 answer
  fresh_after temporary name new answer here =
      let on = two_names temporary name in
      record {
        takes = takes_on name new s0 s1 s2 changed (takes_looks name new s0 s1 looks) here.takes;
        spares = spares_on on s0 s1 s2 changed (runs_as (λ a b. b ≡ a) (Spares on) s0 s1 (λ d same. spares_same on s0.folder d same) looks) here.spares;
        written = here.written;
        not_written = here.not_written;
        anew = runs_then (λ a b. b ≡ a) (RenewsBut on name) (RenewsBut on name) s0 s1 s2 (λ d same other works differ. renews_same other s0.folder d same)
            (λ d renews. subst (λ (e : Disk). RenewsBut on name e d) looks.now renews) changed looks here.anew;
        aside = here.aside;
        clears = λ memory other works differ was. here.clears memory other works differ (subst (λ (d : Disk). IsGone other d) (sym looks.now) was);
      }

-- ---- the names on which a write works
none_there : (at : Option (List ℕ)) → is_some at ≡ false → at ≡ None
none_there None is = refl
none_there (Some bytes) is = cc

module _ (options : WriteOptions) (name : Name) (s0 s1 : Scene) where
  works_by : (copying : Bool) (backup n : Name) → IsSome (content_in s0.folder name) → backup_of options name s0.folder ≡ Some backup → copies options.copy ≡ copying
      → backed_names copying name (temporary backup) backup n → WorksOn options name s0.folder n
  works_by true backup n there chosen is (inl e) = TheFile e
  works_by true backup n there chosen is (inr (inl e)) = TheCopy backup there chosen is e
  works_by true backup n there chosen is (inr (inr e)) = TheBackup backup there chosen e
  works_by false backup n there chosen is (inl e) = TheFile e
  works_by false backup n there chosen is (inr e) = TheBackup backup there chosen e

  chosen_as : (old new : List ℕ) (result : Result ℕ WriteErr) → IsSome (content_in s0.folder name) → (chosen : Option Name) → backup_of options name s0.folder ≡ chosen
      → ((backup : Name) → backup_of options name s0.folder ≡ Some backup → WritesWith options name backup old new s0 s1 result)
      → (backup_of options name s0.folder ≡ None → FindsNoName s0 s1 result) → SparesOthers (WorksOn options name s0.folder) s0 s1
  chosen_as old new result there None is backed none = others_looks (WorksOn options name s0.folder) s0 s1 (none is).looks
  chosen_as old new result there (Some backup) is backed none =
      others_wider (backed_names (copies options.copy) name (temporary backup) backup) (WorksOn options name s0.folder) s0 s1
      (λ n works. works_by (copies options.copy) backup n there is refl works) (backed backup is).others

  -- a write with a backup, where a name is free for it
  pub chosen_others : (old new : List ℕ) (result : Result ℕ WriteErr) → IsSome (content_in s0.folder name)
      → ((backup : Name) → backup_of options name s0.folder ≡ Some backup → WritesWith options name backup old new s0 s1 result)
      → (backup_of options name s0.folder ≡ None → FindsNoName s0 s1 result) → SparesOthers (WorksOn options name s0.folder) s0 s1
  chosen_others old new result there backed none = chosen_as old new result there (backup_of options name s0.folder) refl backed none

  somewhere_as : (old new : List ℕ) (result : Result ℕ WriteErr) (chosen : Option Name) → backup_of options name s0.folder ≡ chosen
      → ((backup : Name) → backup_of options name s0.folder ≡ Some backup → WritesWith options name backup old new s0 s1 result)
      → (backup_of options name s0.folder ≡ None → FindsNoName s0 s1 result) → OldIn place.Nowhere result → ⊥
  somewhere_as old new result None is backed none = one_place result (none is).refused
  somewhere_as old new result (Some backup) is backed none = (backed backup is).somewhere.0

  pub chosen_somewhere : (old new : List ℕ) (result : Result ℕ WriteErr)
      → ((backup : Name) → backup_of options name s0.folder ≡ Some backup → WritesWith options name backup old new s0 s1 result)
      → (backup_of options name s0.folder ≡ None → FindsNoName s0 s1 result) → OldIn place.Nowhere result → ⊥
  chosen_somewhere old new result backed none = somewhere_as old new result (backup_of options name s0.folder) refl backed none

  pub plain_others : (old new : List ℕ) (answer : Result ℕ Stop) → WritesPlain name old new s0 s1 answer → SparesOthers (WorksOn options name s0.folder) s0 s1
  plain_others old new answer plain = others_wider (one_name name) (WorksOn options name s0.folder) s0 s1 (λ n is. TheFile is) plain.others

  works_new : (made n : Name) → content_in s0.folder name ≡ None → made ≡ temporary name → two_names made name n → WorksOn options name s0.folder n
  works_new made n none is (inl e) = TheNewFile none (e ∙ is)
  works_new made n none is (inr e) = TheFile e

  pub fresh_others : (made : Name) (new : List ℕ) (answer : Result ℕ Stop) → content_in s0.folder name ≡ None → made ≡ temporary name → WritesFresh (two_names made name) name new s0 s1 answer
      → SparesOthers (WorksOn options name s0.folder) s0 s1
  fresh_others made new answer none is fresh =
      others_wider (two_names made name) (WorksOn options name s0.folder) s0 s1 (λ n works. works_new made n none is works) (others_spared (two_names made name) s0 s1 fresh.spares)

-- after a look at the folder
pub others_after : (options : WriteOptions) (name : Name) (s0 s1 s2 : Scene) → ReadsFolder s0 s1 → Looks s0 s1 → SparesOthers (WorksOn options name s1.folder) s1 s2 → SparesOthers (WorksOn options name s0.folder) s0 s2
others_after options name s0 s1 s2 frame looks others =
    let on = WorksOn options name s0.folder in
    others_on on s0 s1 s2 (reads_change s0 s1 frame) (looks_narrowed s0 s1 looks) (others_looks on s0 s1 looks)
    (subst (λ (d : Disk). SparesOthers (WorksOn options name d) s1 s2) looks.now others)

pub not_there_now : (name : Name) (disk : Disk) → false ≡ is_some (content_in disk name) → content_in disk name ≡ None
not_there_now name disk is = none_there (content_in disk name) (sym is)
