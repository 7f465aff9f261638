-- A file that is made anew where its name is free: calls on that name alone, which leave what guards the old bytes.
use Rattle.std.proofs.Common.{◌≡◌, ℕ, Bool, List, [], ◌∷◌, Option, None, OnErr, Result, IsTrue, refl, sym, ◌∙◌, ap, subst}
use Rattle.std.specs.Prelude.{is_some}
use Rattle.vs_host.specs.Disk.{Disk, Name, Creates, names_at, content_in, mode_in, IsImageOf, CreatesFile, SyncsNames}
use Rattle.vs_host.specs.Trace.{Created}
use Rattle.vs_host.specs.World.{Scene, ChangesFolder, IsTold}
use Rattle.vs_host.specs.declared.traits.Failed.{Failed}
use Rattle.vs_disk.specs.Images.{MayLeave}
use Rattle.vs_disk.specs.Runs.{Runs}
use Rattle.vs_disk.proofs.Steps.{at_name, older_names}
use Rattle.vs_disk.proofs.Runs.{one_call, runs_as}
use Rattle.vs_disk.proofs.Contents.{leads_nowhere}
use Rattle.vs_backup.specs.Modes.{Makes, TakesMode}
use Rattle.vs_backup.specs.Works.{ChangesOne, IsAlone, Spares, SyncsAll, Unchanged, one_name}
use Rattle.vs_text.specs.declared.format.Format.{Format}
use Rattle.vs_backup.specs.Writing.{IsFilled, IsFilledFirm, IsGuarded, IsMadeLike, MakesAnew, MakesAnewFrom, MayBeAbsent, SettlesSynced}
use Rattle.vs_backup.specs.declared.errors.Stop.{Stop}
use Rattle.vs_backup.proofs.Calls.{runs_file, spares_on}
use Rattle.vs_backup.proofs.Frames.{alone_created, err_is, content_spared, same_one, spares_same, spares_created, spares_synced}
use Rattle.vs_backup.proofs.Kept.{guard_same, guard_created, guard_file, guard_synced}
use Rattle.vs_backup.proofs.Copying.{kept_on}
use Rattle.vs_backup.proofs.Modes.{makes_any, makes_as, makes_looks, makes_syncs, makes_then, mode_spared, mode_synced}

-- ---- no file stands under the name
absent_free : (name : Name) (disk : Disk) → content_in disk name ≡ None → MayLeave disk name None
absent_free name disk none = (0, subst (λ (at : Option ℕ). IsImageOf disk at None) (sym (leads_nowhere disk name none)) refl)

pub absent_not_made : (name : Name) (a b : Disk) → b ≡ a → content_in a name ≡ None → MayLeave b name None
absent_not_made name a b is none = subst (λ (d : Disk). MayLeave d name None) (sym is) (absent_free name a none)

absent_created : (name : Name) (a b : Disk) → content_in a name ≡ None → CreatesFile name a b → names_at b 1 name ≡ None
absent_created name a b none creates = at_name (names_at b 1) (names_at a 0) name (older_names (Creates name creates.number) a b creates.synced creates.pending 0) ∙ leads_nowhere a name none

pub absent_filled : (name : Name) (a b c : Disk) → content_in a name ≡ None → CreatesFile name a b → ChangesOne name b c → MayLeave c name None
absent_filled name a b c none creates changes =
    (1, subst (λ (at : Option ℕ). IsImageOf c at None) (sym (same_one name b c changes 1 name ∙ absent_created name a b none creates)) refl)

-- ---- the file is made and filled
module _ (name backup : Name) (number : ℕ) (old : List ℕ) (differ : backup ≡ name → ⊥) (s0 s1 : Scene) (guard : IsGuarded name backup number old s0.folder)
    (frame : ChangesFolder s0 s1) (answer : Result (Unit {0}) Failed) (told : IsTold Created (name ∷ []) answer s0 s1) where
  pub anew_not_made : s1.folder ≡ s0.folder → MakesAnew name backup number old s0 s1
  anew_not_made same = record {
    spares = one_call (Spares (one_name name)) Created (name ∷ []) answer s0 s1 frame told (spares_same (one_name name) s0.folder s1.folder same);
    guarded = one_call (λ a b. IsGuarded name backup number old b) Created (name ∷ []) answer s0 s1 frame told (guard_same name backup number old s0.folder s1.folder same guard);
  }

  pub anew_filled : CreatesFile name s0.folder s1.folder → (s2 : Scene) → Runs (ChangesOne name) s1 s2 → MakesAnew name backup number old s0 s2
  anew_filled creates s2 runs =
      let made = guard_created name backup number old s0.folder s1.folder differ creates guard in
      let alone : IsAlone name s1.folder = alone_created name s0.folder s1.folder creates in
      record {
        spares = spares_on (one_name name) s0 s1 s2 frame
            (one_call (Spares (one_name name)) Created (name ∷ []) answer s0 s1 frame told (spares_created name s0.folder s1.folder creates)) (runs_file name s1 s2 alone runs);
        guarded = kept_on (IsGuarded name backup number old) s0 s1 s2 frame
            (one_call (λ a b. IsGuarded name backup number old b) Created (name ∷ []) answer s0 s1 frame told made)
            (runs_as (ChangesOne name) (λ a b. IsGuarded name backup number old b) s1 s2 (λ d changes. guard_file name backup number old s1.folder d differ alone changes made) runs);
      }

-- ---- the names are synced then, or not
module _ (told : Bool) (name backup : Name) (s0 s1 s2 : Scene) (frame : ChangesFolder s0 s1) (made : MakesAnewFrom told name backup s0 s1) where
  goes_on : (S : Disk → Disk → Type 0) → Makes told None s1 s2 → ((d : Disk) → S s1.folder d → Spares (one_name name) s1.folder d)
      → ((number : ℕ) (old : List ℕ) (d : Disk) → S s1.folder d → IsGuarded name backup number old s1.folder → IsGuarded name backup number old d) → (IsTrue told → Runs S s1 s2)
      → MakesAnewFrom told name backup s0 s2
  goes_on S makes spares guards runs = record {
    modes = λ differ. makes_then frame (made.modes differ) (makes_any (mode_in s0.folder backup) makes);
    each = λ is number old differ guard.
        let first = made.each is number old differ guard in
        record {
          spares = spares_on (one_name name) s0 s1 s2 frame first.spares (runs_as S (Spares (one_name name)) s1 s2 spares (runs is));
          guarded = kept_on (IsGuarded name backup number old) s0 s1 s2 frame first.guarded
              (runs_as S (λ a b. IsGuarded name backup number old b) s1 s2 (λ d step. guards number old d step first.guarded.now) (runs is));
        };
  }

  pub anew_synced : SyncsAll told s1 s2 → MakesAnewFrom told name backup s0 s2
  anew_synced syncs = goes_on SyncsNames (makes_syncs told None s1 s2 syncs.runs) (λ d step. spares_synced (one_name name) s1.folder d step) (λ number old d step guard. guard_synced name backup number old s1.folder d step guard) syncs.runs

  pub anew_not_synced : Unchanged told s1 s2 → MakesAnewFrom told name backup s0 s2
  anew_not_synced none = goes_on (λ a b. b ≡ a) (makes_looks told None s1 s2 none.looks) (λ d same. spares_same (one_name name) s1.folder d same) (λ number old d same guard. guard_same name backup number old s1.folder d same guard) none.looks

pub absent_not_synced : (told : Bool) (name : Name) (s1 s2 : Scene) → MayBeAbsent told name s1 → Unchanged told s1 s2 → MayBeAbsent told name s2
absent_not_synced told name s1 s2 absent none = record { leaves = λ is. subst (λ (d : Disk). MayLeave d name None) (sym (none.looks is).now) (absent.leaves is) }

pub absent_err : (told : Bool) (name : Name) (s1 : Scene) (result : Result ℕ Stop) → MayBeAbsent told name s1 → OnErr result (MayBeAbsent told name s1)
absent_err told name s1 result absent = err_is (MayBeAbsent told name s1) result absent

pub filled_firm : (told : Bool) (name : Name) (format : Format) (has : List (List ℕ) → Type 0) (size : ℕ) (s1 s2 : Scene) → IsFilled told name format has size s1 → SettlesSynced told s1 s2 → IsFilledFirm told name format has size s2
filled_firm told name format has size s1 s2 filled settles = record {
  each = λ is text here. let done = filled.each is text here in (done.0, settles.settled is name _ done.1);
}

-- ---- the mode of the backup
pub made_filled : (told : Bool) (name backup : Name) (s0 s1 s2 : Scene) → (IsTrue told → CreatesFile name s0.folder s1.folder) → ChangesFolder s0 s1 → Makes told None s0 s1
    → Makes told (mode_in s1.folder backup) s1 s2 → (backup ≡ name → ⊥) → Makes told (mode_in s0.folder backup) s0 s2
made_filled told name backup s0 s1 s2 creates frame first second differ = makes_then frame (makes_any (mode_in s0.folder backup) first)
    (makes_as (mode_in s1.folder backup) (mode_in s0.folder backup) (λ is. mode_spared (one_name name) backup s0.folder s1.folder differ (spares_created name s0.folder s1.folder (creates is))) second)

pub made_like : (told : Bool) (name backup : Name) (s0 s1 s2 : Scene) → (IsTrue told → CreatesFile name s0.folder s1.folder) → TakesMode told backup name s1 s2 → IsMadeLike told name backup s0 s2
made_like told name backup s0 s1 s2 creates takes = record {
  takes = λ differ. record {
    same = λ is there.
        let spares = spares_created name s0.folder s1.folder (creates is) in
        takes.same is (ap (λ (o : Option (List ℕ)). is_some o) (content_spared (one_name name) backup s0.folder s1.folder differ spares) ∙ there)
        ∙ mode_spared (one_name name) backup s0.folder s1.folder differ spares;
  };
}

pub made_like_synced : (told : Bool) (name backup : Name) (s0 s1 s2 : Scene) → IsMadeLike told name backup s0 s1 → SyncsAll told s1 s2 → IsMadeLike told name backup s0 s2
made_like_synced told name backup s0 s1 s2 made syncs = record {
  takes = λ differ. record { same = λ is there. mode_synced name s1.folder s2.folder (syncs.runs is).now ∙ (made.takes differ).same is there };
}

-- what a file that was made anew comes to, with the names synced or not
pub ruleset anew_steps = (anew_synced, anew_not_synced, absent_not_synced, absent_err, filled_firm, made_like_synced)
