-- A write that copies, until the file is empty: it has the old bytes until a settled copy of it stands, and then the copy has.
use Rattle.std.proofs.Common.{◌≡◌, ℕ, Bool, List, Option, Some, OnErr, Result, IsTrue, sym, ap, subst}
use Rattle.std.specs.Prelude.{is_some, IsSome}
use Rattle.vs_host.specs.File.{Cuts}
use Rattle.vs_host.specs.Disk.{Disk, Name, content_in}
use Rattle.vs_host.specs.World.{Scene, ChangesFolder, content_of}
use Rattle.vs_host.specs.declared.traits.Failed.{Failed}
use Rattle.vs_disk.specs.Images.{HoldsBytes}
use Rattle.vs_disk.proofs.Runs.{runs_as}
use Rattle.vs_backup.specs.Works.{ChangesOne, Empties, LeavesNone, Renews, RenewsFile, Spares, SparesTwo, Unchanged, three_names}
use Rattle.vs_backup.specs.Writing.{CopiesBytes, IsKept, IsSettled, ReplacesByCopy, StartsOverFrom, StartedOverFrom, StillHolds}
use Rattle.vs_backup.proofs.Calls.{spares_on, synced_bytes, synced_there}
use Rattle.vs_backup.proofs.Copying.{kept_on, cut_content, over_spares, over_kept, over_backed, over_replaced, copy_spares, copy_kept, copy_in_place, copy_holds, copy_content}
use Rattle.vs_backup.proofs.Filling.{changes_by, changes_same, fills_changes, fills_cut}
use Rattle.vs_backup.proofs.Frames.{spares_same, err_is}
use Rattle.vs_backup.proofs.Kept.{fills_widens, kept_by_name, settled_holds, may_leave_now}
use Rattle.vs_backup.proofs.Places.{in_place_on, in_place_changed}
use Rattle.vs_backup.proofs.Renewing.{renews_gone, renews_looked, renews_same}
use Rattle.vs_backup.proofs.Replacing.{takes_on, takes_looks, gone_changed}

-- ---- at each moment
pub over_copied : (told : Bool) (name temporary backup : Name) (s0 s1 : Scene) → (name ≡ temporary → ⊥) → (name ≡ backup → ⊥) → SparesTwo told temporary backup s0 s1
    → ReplacesByCopy told name backup s0 s1 → RenewsFile told temporary s0 s1 → StartsOverFrom told name temporary backup s0 s1
over_copied told name temporary backup s0 s1 differ differ_name aside replaces renews = record {
  each = λ is old settled.
      let runs = aside.spares is in
      record {
        spares = copy_spares name backup temporary old s0 s1 differ differ_name settled runs;
        kept = copy_kept name backup temporary old s0 s1 differ differ_name settled runs;
        in_place = copy_in_place name backup temporary old s0 s1 differ differ_name settled runs;
        replaced = replaces.takes is old (synced_bytes name old s0.folder settled.synced);
        anew = renews.runs is;
      };
}

pub over_unchanged : (told : Bool) (name temporary backup : Name) (s0 s1 : Scene) → Unchanged told s0 s1 → StartsOverFrom told name temporary backup s0 s1
over_unchanged told name temporary backup s0 s1 none = record {
  each = λ is old settled.
      let on = three_names name temporary backup in
      let holds = settled_holds name old s0.folder settled in
      record {
        spares = runs_as (λ a b. b ≡ a) (Spares on) s0 s1 (λ d same. spares_same on s0.folder d same) (none.looks is);
        kept = runs_as (λ a b. b ≡ a) (λ a b. IsKept name backup old b) s0 s1
            (λ d same. kept_by_name name backup old d (subst (λ (e : Disk). HoldsBytes name old e) (sym same) holds)) (none.looks is);
        in_place = in_place_changed name s0 s1 settled.pending (runs_as (λ a b. b ≡ a) (ChangesOne name) s0 s1 (λ d same. changes_same name s0.folder d same) (none.looks is));
        replaced = takes_looks backup old s0 s1 (none.looks is);
        anew = runs_as (λ a b. b ≡ a) (Renews temporary) s0 s1 (λ d same. renews_same temporary s0.folder d same) (none.looks is);
      };
}

pub over_not_emptied : (told : Bool) (name temporary backup : Name) (s0 s1 s2 : Scene) → (name ≡ temporary → ⊥) → (name ≡ backup → ⊥) → ChangesFolder s0 s1 → SparesTwo told temporary backup s0 s1
    → ReplacesByCopy told name backup s0 s1 → RenewsFile told temporary s0 s1 → Unchanged told s1 s2 → StartsOverFrom told name temporary backup s0 s2
over_not_emptied told name temporary backup s0 s1 s2 differ differ_name frame aside replaces renews none = record {
  each = λ is old settled.
      let on = three_names name temporary backup in
      let over = (over_copied told name temporary backup s0 s1 differ differ_name aside replaces renews).each is old settled in
      record {
        spares = spares_on on s0 s1 s2 frame over.spares (runs_as (λ a b. b ≡ a) (Spares on) s1 s2 (λ d same. spares_same on s1.folder d same) (none.looks is));
        kept = kept_on (IsKept name backup old) s0 s1 s2 frame over.kept
            (runs_as (λ a b. b ≡ a) (λ a b. IsKept name backup old b) s1 s2 (λ d same. subst (λ (e : Disk). IsKept name backup old e) (sym same) over.kept.now) (none.looks is));
        in_place = in_place_on name s0 s1 s2 frame over.in_place (runs_as (λ a b. b ≡ a) (ChangesOne name) s1 s2 (λ d same. changes_same name s1.folder d same) (none.looks is));
        replaced = takes_on backup old s0 s1 s2 frame over.replaced (takes_looks backup old s1 s2 (none.looks is));
        anew = renews_looked temporary s0 s1 s2 frame over.anew (none.looks is);
      };
}

module _ (told : Bool) (name temporary backup : Name) (s0 s1 s2 : Scene) (differ : name ≡ temporary → ⊥) (differ_name : name ≡ backup → ⊥) (frame : ChangesFolder s0 s1)
    (aside : SparesTwo told temporary backup s0 s1) (replaces : ReplacesByCopy told name backup s0 s1) (copies : CopiesBytes told name backup s0 s1) (empties : Empties told name s1 s2) where
  copied : IsTrue told → (old : List ℕ) → IsSettled name old s0.folder → IsSettled backup old s1.folder
  copied is old settled = copies.settled is old (synced_bytes name old s0.folder settled.synced)

  before : IsTrue told → (old : List ℕ) → IsSettled name old s0.folder → content_in s1.folder name ≡ Some old
  before is old settled = copy_content name backup temporary old s0 s1 differ differ_name settled (aside.spares is)

  pub over_emptied : RenewsFile told temporary s0 s1 → LeavesNone told temporary s1 → StartsOverFrom told name temporary backup s0 s2
  over_emptied renews none = record {
    each = λ is old settled.
        let on = three_names name temporary backup in
        let apart = λ (e : backup ≡ name). differ_name (sym e) in
        let first = aside.spares is in
        let content = before is old settled in
        let standing = copied is old settled in
        record {
          spares = spares_on on s0 s1 s2 frame (copy_spares name backup temporary old s0 s1 differ differ_name settled first)
              (over_spares name backup temporary old s1 s2 apart standing (empties.folder is) old content (fills_changes name s1 s2 (empties.runs is)));
          kept = kept_on (IsKept name backup old) s0 s1 s2 frame (copy_kept name backup temporary old s0 s1 differ differ_name settled first)
              (over_kept name backup temporary old s1 s2 apart standing (empties.folder is) old content (fills_changes name s1 s2 (empties.runs is)));
          in_place = in_place_on name s0 s1 s2 frame (copy_in_place name backup temporary old s0 s1 differ differ_name settled first) (fills_changes name s1 s2 (empties.runs is));
          replaced = takes_on backup old s0 s1 s2 frame (replaces.takes is old (synced_bytes name old s0.folder settled.synced))
              (over_replaced name backup temporary old s1 s2 apart standing (empties.folder is) old content (fills_changes name s1 s2 (empties.runs is)));
          anew = renews_gone temporary s0 s1 s2 frame (renews.runs is) name (none.gone is) (fills_changes name s1 s2 (empties.runs is));
        };
  }

  pub started_over : StartedOverFrom told name backup s0 s2
  started_over = record {
    each = λ is old settled.
        let apart = λ (e : backup ≡ name). differ_name (sym e) in
        let content = before is old settled in
        let cuts = empties.cuts is in
        record {
          backed = over_backed name backup temporary old s1 s2 apart (copied is old settled) (empties.folder is) old content (fills_changes name s1 s2 (empties.runs is));
          empty = cut_content name old s1.folder s2.folder cuts content;
          may_leave = fills_widens name s1.folder s2.folder (fills_cut name s1.folder s2.folder cuts) (Some old) (may_leave_now name old s1.folder content);
        };
  }

-- the name under which the copy was made still leads to no file
pub aside_emptied : (told : Bool) (name temporary : Name) (s1 s2 : Scene) → LeavesNone told temporary s1 → Empties told name s1 s2 → LeavesNone told temporary s2
aside_emptied told name temporary s1 s2 none empties = record { gone = λ is. gone_changed temporary name s1.folder s2.folder (changes_by name (Cuts 0) s1.folder s2.folder (empties.cuts is)) (none.gone is) }

-- ---- after an error
pub still_copied : (told : Bool) (name temporary backup : Name) (s0 s1 : Scene) → (name ≡ temporary → ⊥) → (name ≡ backup → ⊥) → SparesTwo told temporary backup s0 s1 → StillHolds told name s0 s1
still_copied told name temporary backup s0 s1 differ differ_name aside = record {
  each = λ is old settled. copy_holds name backup temporary old s0 s1 differ differ_name settled (aside.spares is);
}

pub still_unchanged : (told : Bool) (name : Name) (s0 s1 : Scene) → Unchanged told s0 s1 → StillHolds told name s0 s1
still_unchanged told name s0 s1 none = record {
  each = λ is old settled. subst (λ (d : Disk). HoldsBytes name old d) (sym (none.looks is).now) (settled_holds name old s0.folder settled);
}

pub still_not_emptied : (told : Bool) (name temporary backup : Name) (s0 s1 s2 : Scene) → (name ≡ temporary → ⊥) → (name ≡ backup → ⊥) → SparesTwo told temporary backup s0 s1
    → Unchanged told s1 s2 → StillHolds told name s0 s2
still_not_emptied told name temporary backup s0 s1 s2 differ differ_name aside none = record {
  each = λ is old settled.
      subst (λ (d : Disk). HoldsBytes name old d) (sym (none.looks is).now) (copy_holds name backup temporary old s0 s1 differ differ_name settled (aside.spares is));
}

pub still_err : (told : Bool) (name : Name) (s0 s1 : Scene) (result : Result (Unit {0}) Failed) → StillHolds told name s0 s1 → OnErr result (StillHolds told name s0 s1)
still_err told name s0 s1 result still = err_is (StillHolds told name s0 s1) result still

-- ---- the file is there
pub there_settled : (told : Bool) (name : Name) (s0 : Scene) → (IsTrue told → (old : List ℕ) × IsSettled name old s0.folder) → IsTrue told → IsSome (content_of s0 name)
there_settled told name s0 settled is = let had = settled is in synced_there name had.0 s0.folder had.1.synced

pub there_copied : (told : Bool) (name temporary backup : Name) (s0 s1 : Scene) → (name ≡ temporary → ⊥) → (name ≡ backup → ⊥)
    → (IsTrue told → (old : List ℕ) × IsSettled name old s0.folder) → SparesTwo told temporary backup s0 s1 → IsTrue told → IsSome (content_of s1 name)
there_copied told name temporary backup s0 s1 differ differ_name settled aside is =
    let had = settled is in
    ap (λ (o : Option (List ℕ)). is_some o) (copy_content name backup temporary had.0 s0 s1 differ differ_name had.1 (aside.spares is))

pub there_emptied : (told : Bool) (name : Name) (s0 s1 : Scene) → (IsTrue told → (old : List ℕ) × IsSettled name old s0.folder) → Empties told name s0 s1 → IsTrue told
    → IsSome (content_of s1 name)
there_emptied told name s0 s1 settled empties is =
    let had = settled is in
    ap (λ (o : Option (List ℕ)). is_some o) (cut_content name had.0 s0.folder s1.folder (empties.cuts is) (synced_bytes name had.0 s0.folder had.1.synced))

-- what copying and emptying come to, in whatever order they stand
pub ruleset start_steps = (over_copied, over_not_emptied, over_unchanged, over_emptied, started_over, aside_emptied, still_copied, still_not_emptied, still_unchanged, still_err, there_settled, there_copied, there_emptied)
