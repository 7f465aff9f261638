-- The answer to `w` with `undofile`: after the write its undo file is stored, which leaves the edited file and its backup.
use Rattle.std.proofs.Common.{◌≡◌, ◌⊎◌, inl, inr, ℕ, ◌≤◌, Bool, true, false, ◌&&◌, not, length, List, ◌∷◌, Option, Some, Ok, Err, refl, sym, ◌∙◌, ap, subst}
use Rattle.std.specs.Prelude.{IsSomeAnd}
use Rattle.std.specs.Str.{bytes_eq}
use Rattle.std.proofs.lemmas.Slice.Eq.{bytes_eq-Decides}
use Rattle.std.proofs.lemmas.Bool.{true≢false}
use Rattle.vs_faults.specs.Faults.{HasCause, HasRisen}
use Rattle.vs_host.specs.File.{File, IsFileImage}
use Rattle.vs_host.specs.Disk.{Disk, Name, IsFolder, IsImageOf}
use Rattle.vs_host.specs.Names.{AreNames}
use Rattle.vs_host.specs.World.{Scene, ChangesFolder, ReadsFolder}
use Rattle.vs_host.specs.declared.names.Names.{Names}
use Rattle.vs_disk.specs.Images.{HoldsBytes, MayLeave}
use Rattle.vs_disk.specs.Names.{SameAt}
use Rattle.vs_disk.specs.Runs.{Inside, Runs, FailsLast, Looks, Quiet}
use Rattle.vs_disk.proofs.Others.{same_none, same_then}
use Rattle.vs_disk.proofs.Quiet.{quiet_then}
use Rattle.vs_disk.proofs.Runs.{fails_none, goes_weaker, quiet_none, frames, reads_change, runs_as, runs_then}
use Rattle.vs_disk.proofs.Steps.{itself}
use Rattle.vs_pair.specs.Pair.{Rises, is_swap}
use Rattle.vs_pair.proofs.Others.{rises_kept}
use Rattle.vs_excmd.specs.Request.{Instruction}
use Rattle.vs_backup.specs.Backups.{WorksOn, copies}
use Rattle.vs_backup.specs.Works.{Spares as SparesNames, two_names}
use Rattle.vs_backup.specs.declared.errors.WriteErr.TheVariants as error
use Rattle.vs_backup.specs.declared.errors.Place.TheVariants.{Backup, Nowhere}
use Rattle.vs_backup.specs.Writing.{BecomesWritten, IsUnseen, IsWhole, OldIn}
use Rattle.vs_backup.proofs.Backed.{whole_new}
use Rattle.vs_backup.proofs.Copying.{never_failed}
use Rattle.vs_backup.proofs.Replacing.{replaces_spared}
use Rattle.vs_machine.specs.Machine.{took_effect}
use Rattle.vs_machine.specs.Replies.{Answer, says}
use Rattle.vs_machine.specs.declared.command.Outcome.{Outcome}
use Rattle.vs_machine.specs.declared.command.Outcome.TheVariants.{Done, NoUndo}
use Rattle.vs_undo.specs.History.{history_marked}
use Rattle.vs_ubind.specs.Storing.{StoresBy}
use Rattle.vs_safety.specs.Texts.{Sync, Text, recoverable}
use Rattle.vs_safety.specs.Undo.{HasStored, HasUndo, UndoWrite}
use Rattle.vs_safety.specs.Writes.{Write, HasWritten, IsWholeIn, backup_for, new_bytes, state_now}
use Rattle.vs_safety.specs.FileWork.{BothFiles, FileWork}
use Rattle.vs_safety.specs.Safety.{IsUnderWay, Spares}
use Rattle.vs_paged.specs.Fits as folder
use Rattle.vs_paged.proofs.SyncLemmas.{fits_recovers}
use Rattle.vs_desk.specs.Counts.{NoneAbove}
use Rattle.vs_desk.specs.PageLaws.{above_then}
use Rattle.vs_desk.specs.Still.{KeepsLeft}
use Rattle.vs_desk.specs.Writes.{KeepsSwap}
use Rattle.vs_session.specs.declared.session.Session.{Session}
use Rattle.vs_session.specs.Session.{SessionState, after_sync, info_written, is_fault, is_write, line_by, reply_of, sync_in, undo_after, write_in, write_reply, written_bytes, written_state}
use Rattle.vs_session.specs.Failures.{FailsOnce}
use Rattle.vs_session.specs.Wholeness.{StaysWhole}
use Rattle.vs_session.specs.Stores.{StoresUndo}
use Rattle.vs_session.specs.Modes.{OnlyLike, SameMode}
use Rattle.vs_session.specs.Writes.{HasSynced, Wrote}
use Rattle.vs_session.specs.Fits.{Answers, Fits, names_of}
use Rattle.vs_session.specs.Made.{LeavesNoneMade}
use Rattle.vs_session.proofs.Cleared.{but_carried, but_stored, cleared_stored, cleared_then, moved_stored, moved_then}
use Rattle.vs_session.proofs.Failing.{above_quiet, once_after}
use Rattle.vs_session.proofs.Steps.{recovers_synced, risen_since, risen_until, works_runs}
use Rattle.vs_session.proofs.FileWrites.{backup_named}
use Rattle.vs_session.proofs.Modes.{LeavesFiles, like_looks, mode_outside, mode_then, modes_like, modes_then, private_looked}
use Rattle.vs_session.proofs.Wholeness.{whole_then}
use Rattle.vs_session.proofs.Stored.{fits_stored, undo_outside}
use Rattle.vs_session.proofs.UndoNames.{backup_outside, file_outside}
use Rattle.vs_session.proofs.Written.{Moment, answers_free, are, bytes_left, cleared_by, ended, fits_by, has_left, lacks, lead, line_is, mark, mode_by, modes_by, moved_by, not_lacks, recovers_on, replied_done, replied_none, stays_whole, under, writes, written_frame, written_rises, written_runs}

-- ---- before the write

-- the folder was looked at after the sync
pub synced_looked : (state : SessionState) (syncs : List Sync) (before between next : Session) (old mid new : Scene) → HasSynced state syncs before between old mid → ReadsFolder mid new → Looks mid new → Quiet mid new
    → names_of next ≡ names_of between → Fits next new.folder (after_sync state true) (sync_in state true ∷ syncs) → HasSynced state syncs before next old new
synced_looked state syncs before between next old mid new s reads looks quiet names fits = record {
  fits = s.fits;
  frame = frames old mid new s.frame (reads_change mid new reads);
  runs = runs_then (folder.Syncing before.text before.options.write.format) (λ a b. b ≡ a) (folder.Syncing before.text before.options.write.format) old mid new (λ d syncing. syncing)
      (λ d is. subst (λ (e : Disk). folder.Syncing before.text before.options.write.format old.folder e) (sym is) s.runs.now) s.frame s.runs looks;
  quiet = quiet_then old mid new s.quiet quiet;
  modes = private_looked old mid new s.frame s.modes looks;
  rises = subst (λ (d : Disk). Rises (names_of before) old.folder d) (sym looks.now) s.rises;
  names = names ∙ s.names;
  synced = fits;
}

-- nothing but that was done: as where a call failed before it was known whether there is a file
pub wrote_nothing : (state : SessionState) (syncs : List Sync) (before after : Session) (old new : Scene) → IsFolder old.folder → Looks old new → FailsLast old new → NoneAbove old new → Fits before old.folder state syncs
    → Fits after new.folder state syncs → Wrote state syncs before after (Err (error.Failed Nowhere)) old new
wrote_nothing state syncs before after old new folder looks last above fits now =
    let unseen : IsUnseen old new (Err (error.Failed Nowhere)) = record { looks = looks; last = last; failed = refl } in
    let elsewhere : OldIn {T = ℕ} Backup (Err (error.Failed Nowhere)) → ⊥ = λ is. elim is [ inl failed ↦ cc | inr memory ↦ cc ] in
    record {
      file = record { backed = λ was there backup made. inl unseen; all_taken = λ there on none. inl unseen; plain = λ was there off. inl unseen; fresh = λ none. inl unseen };
      no_name = λ e. absurd (cc);
      swap = runs_as (λ a b. b ≡ a) (KeepsSwap (names_of before) (recoverable syncs)) old new
          (λ d is. subst (λ (e : Disk). KeepsSwap (names_of before) (recoverable syncs) old.folder e) (sym is)
          (record { same = same_none (is_swap (names_of before)) old.folder; recovers = fits_recovers before.text old.folder state.machine.text syncs fits.stands.text })) looks;
      folder = folder;
      others = λ inside out apart. runs_as (λ a b. b ≡ a) (SameAt inside) old new (λ d is. subst (λ (e : Disk). SameAt inside old.folder e) (sym is) (same_none inside old.folder)) looks;
      left = runs_as (λ a b. b ≡ a) (KeepsLeft (WorksOn state.options.write (names_of before).file old.folder)) old new
          (λ d is. subst (λ (e : Disk). KeepsLeft (WorksOn state.options.write (names_of before).file old.folder) old.folder e) (sym is) (λ name out left may. may)) looks;
      modes = λ there. like_looks (names_of before).file old new looks;
      above = above;
      calls = record {
        done = tt;
        refused = record {
          stopped = new;
          last = last;
          none = λ calm. absurd (calm (Nowhere, refl));
          later = above.later;
          failed = λ is failed. absurd (elsewhere is);
          back_last = fails_none new;
          back_none = λ _. quiet_none new;
          back_failed = λ is. absurd (elsewhere is);
          alone = λ _. last;
        };
      };
      fits = now;
    }

-- ---- what storing leaves

-- a name that has these bytes in each image
held : (bytes : List ℕ) (disk : Disk) (name : Name) → HoldsBytes name bytes disk → (found : Option (List ℕ)) → MayLeave disk name found → found ≡ Some bytes
held bytes disk name holds found may =
    let here = holds may.0 in
    let image = subst (λ (o : Option ℕ). IsImageOf disk o found) here.leads may.1 in
    image.1 ∙ ap (λ (b : List ℕ). Some b) (here.leaves image.0 image.2)

module _ (names : Names) (old new : Disk) (spares : SparesNames (two_names names.undo_new names.undo) old new) where
  same_alone : (name : Name) → (two_names names.undo_new names.undo name → ⊥) → SameAt (bytes_eq name) old new
  same_alone name out = spares (bytes_eq name) (λ other is on. out (subst (two_names names.undo_new names.undo) (sym ((bytes_eq-Decides name other).0 is)) on))

  holds_spared : (name : Name) (bytes : List ℕ) → (two_names names.undo_new names.undo name → ⊥) → HoldsBytes name bytes old → HoldsBytes name bytes new
  holds_spared name bytes out holds lost =
      let same = same_alone name out in
      let at = same.back lost in
      let here = holds at.0 in
      let leads = at.1 name (itself name) ∙ here.leads in
      record {
        number = here.number;
        leads = leads;
        leaves = λ c image. here.leaves c (subst (λ (f : File). IsFileImage f c) (same.files lost name here.number (itself name) leads) image);
      }

  -- the file has the new bytes in each image, and so it goes on
  kept_whole : (write : Write) → (two_names names.undo_new names.undo names.file → ⊥) → ((backup : Name) → backup_for names write ≡ Some backup → two_names names.undo_new names.undo backup → ⊥)
      → HoldsBytes names.file (new_bytes write) new → IsWholeIn names write old → IsWholeIn names write new
  kept_whole write out out_backup holds whole = record {
    backed = λ was backup is made. inr (λ image left.
        inl (subst (λ (o : Option (List ℕ)). IsSomeAnd o (λ c. (c ≡ was) ⊎ (c ≡ new_bytes write))) (sym (held (new_bytes write) new names.file holds (image names.file) (left.0, left.1 names.file))) (inr refl)));
    replaced = λ was backup is made.
        replaces_spared (two_names names.undo_new names.undo) (copies write.options.copy) names.file backup was write.found old new out (out_backup backup made) (whole.replaced was backup is made) spares;
    in_place = λ was backup is made copied. (same_alone names.file out).now names.file (itself names.file) ∙ whole.in_place was backup is made copied;
    fresh = λ none found may. inl (held (new_bytes write) new names.file holds found may);
  }

-- ---- the step

module _ (state : SessionState) (syncs : List Sync) (instruction : Instruction) (is : is_write instruction.parsed ≡ true) (before between : Session) (old mid : Scene) (s : HasSynced state syncs before between old mid)
    (on : state.options.undofile ≡ true) (size at : ℕ) (after : Session) (made new : Scene) (second : ChangesFolder mid made) (names_after : names_of after ≡ names_of before)
    (wrote : Wrote (after_sync state true) (sync_in state true ∷ syncs) between after (Ok size) mid made) (third : ChangesFolder made new) (later : made.folder_faults ≤ new.folder_faults)
    (stores : Runs (StoresUndo (names_of before) state.machine.text (history_marked state.machine.history)) made new) (likes : OnlyLike (names_of before).file made new) where
  abbrev names : Names
  names = names_of before

  abbrev text : Text
  text = state.machine.text

  abbrev write : Write
  write = write_in state old.folder

  abbrev undo : UndoWrite
  undo = undo_after state old.folder

  abbrev all : List Sync
  all = sync_in state true ∷ syncs

  abbrev during : List Sync
  during = under state syncs instruction is before between old mid s

  abbrev work : FileWork
  work = BothFiles write undo

  becomes : BecomesWritten names.file (written_bytes state) mid made
  becomes = subst (λ (n : Names). BecomesWritten n.file (written_bytes state) mid made) s.names wrote.calls.done

  named : AreNames names
  named = are state syncs instruction is before between old mid s

  above : NoneAbove old made
  above = above_then old mid made (above_quiet old mid s.quiet) wrote.above

  free : lacks state syncs instruction is before between old mid s ≡ false
  free = not_lacks state syncs instruction is before between old mid s after (Ok size) made second wrote size refl

  runs : Runs (λ a d. Moment names write during old.folder d) old made
  runs = written_runs state syncs instruction is before between old mid s after (Ok size) made second wrote

  frame : ChangesFolder old made
  frame = written_frame state syncs instruction is before between old mid s after (Ok size) made second wrote

  bytes : (size ≡ length (written_bytes state)) × HoldsBytes names.file (written_bytes state) made.folder
  bytes = bytes_left state syncs instruction is before between old mid s after (Ok size) made second wrote

  wrote_made : HasWritten names write true false (state_now old) (state_now made)
  wrote_made = has_left state syncs instruction is before between old mid s after (Ok size) made second wrote false (λ e. absurd (true≢false (sym e)))

  holds_on : (d : Disk) → SparesNames (two_names names.undo_new names.undo) made.folder d → HoldsBytes names.file (written_bytes state) d
  holds_on d spares = holds_spared names made.folder d spares names.file (written_bytes state) (file_outside names named) bytes.1

  fits_on : (d : Disk) → SparesNames (two_names names.undo_new names.undo) made.folder d → Fits after d (written_state (after_sync state true)) all
  fits_on d spares =
      fits_stored after made.folder d (written_state (after_sync state true)) all (subst AreNames (sym names_after) named)
      (subst (λ (n : Names). SparesNames (two_names n.undo_new n.undo) made.folder d) (sym names_after) spares) wrote.fits

  backup_is : (backup : Name) → backup_for names write ≡ Some backup → two_names names.undo_new names.undo backup → ⊥
  backup_is backup made_as = backup_outside names named backup (backup_named names named state.options.write old.folder backup made_as)

  abbrev Both : Disk → Disk → Type 0
  Both a d = Spares names (Some work) (IsUnderWay names during (Some work)) old.folder d

  while_stored : (d : Disk) → StoresUndo names text (history_marked state.machine.history) made.folder d → Spares names (Some work) (IsUnderWay names during (Some work)) old.folder d
  while_stored d storing = record {
    folder = record {
      recovers = recovers_on state syncs instruction is before between old mid s d (recovers_synced names after d (written_state (after_sync state true)) all names_after (fits_on d storing.spares));
      whole = (
        kept_whole names made.folder d storing.spares write (file_outside names named) backup_is (holds_on d storing.spares) runs.now.whole,
        (
          λ left may. elim (storing.undo left may) [ inl was ↦ inl (runs.now.undo left was) | inr stored ↦ inr stored ],
          inr (holds_on d storing.spares),
        ),
      );
    };
    spared = record {
      apart = λ inside foreign avoids apart. same_then inside old.folder made.folder d (runs.now.keeps.apart inside foreign avoids.0 apart) (storing.spares inside avoids.1);
      settled = λ inside start foreign avoids settled spared.
          same_then inside start made.folder d (runs.now.keeps.settled inside start foreign avoids.0 settled spared) (storing.spares inside avoids.1);
    };
  }

  both_runs : Runs Both old new
  both_runs = runs_then (λ a d. Moment names write during old.folder d) (StoresUndo names text (history_marked state.machine.history)) Both old made new
      (λ d m. lead state syncs instruction is before between old mid s true d m) while_stored frame runs stores

  rises : Rises names old.folder new.folder
  rises = rises_kept names made.folder new.folder (stores.now.spares (is_swap names) (undo_outside names named)) old.folder (written_rises state syncs instruction is before between old mid s after (Ok size) made second wrote)

  wrote_new : (failed : Bool) → HasWritten names write true failed (state_now old) (state_now new)
  wrote_new failed = record {
    found = refl;
    written = λ done. holds_on new.folder stores.now.spares;
    kept = λ was backup done keep there made_as. holds_spared names made.folder new.folder stores.now.spares backup was (backup_is backup made_as) (wrote_made.kept was backup refl keep there made_as);
    gone = λ backup done off there made_as calm lost.
        let at = (same_alone names made.folder new.folder stores.now.spares backup (backup_is backup made_as)).back lost in
        at.1 backup (itself backup) ∙ wrote_made.gone backup refl off there made_as (λ risen. calm (risen_until old.folder_faults made.folder_faults new.folder_faults risen later)) at.0;
    not_written = λ was none there. absurd (true≢false none);
    returned = λ was backup none there made_as. absurd (true≢false none);
    absent = λ none gone. absurd (true≢false none);
  }

  written : (outcome : Outcome) → took_effect outcome ≡ true → (((is_write instruction.parsed && true) && not (lacks state syncs instruction is before between old mid s)) && took_effect outcome) ≡ true
  written outcome took = λ i. ((is i && true) && not (free i)) && took i

  -- while the undo file is stored the file has the new bytes
  whole_on : (outcome : Outcome) → took_effect outcome ≡ true → StaysWhole names state instruction (ended state syncs instruction is before between old mid s outcome at) old new
  whole_on outcome took begins was backup there made_as =
      let stays = stays_whole state syncs instruction is before between old mid s after (Ok size) made second wrote outcome at (λ failed. absurd (true≢false (sym failed))) in
      elim (stays begins was backup there made_as) [
        | inl becomes ↦ inl (whole_then names.file backup was (written_bytes state) old made new becomes
            (goes_weaker (Inside made (StoresUndo names text (history_marked state.machine.history) made.folder)) (λ m. IsWhole names.file backup was (written_bytes state) m.folder)
            (λ m inside. whole_new names.file backup was (written_bytes state) m.folder (holds_on m.folder inside.folder.spares)) made.trace new.trace stores.moments)
            (whole_new names.file backup was (written_bytes state) new.folder (holds_on new.folder stores.now.spares)))
        | inr refused ↦ absurd (true≢false (sym took ∙ refused.0))
      ]

  -- the calls after the sync
  calls_by : (outcome : Outcome) → (outcome ≡ Done) ⊎ (outcome ≡ NoUndo) → took_effect outcome ≡ true → HasCause made.folder_faults new.folder_faults (is_fault outcome ≡ true) → StoresBy names.undo_new names.undo made new
      → FailsLast made new → (is_fault outcome ≡ false → Quiet made new) → FailsOnce names state instruction (ended state syncs instruction is before between old mid s outcome at) mid new
  calls_by outcome ended_as took cause calls last quiet = record {
    writes = λ _. record {
      wrote = made;
      file = becomes;
      above = wrote.above;
      calls = calls;
      last = last;
      none = λ stored. elim ended_as [ inl done ↦ quiet (ap is_fault done) | inr none ↦ absurd (stored none) ];
      unstored = λ none. cause.risen (ap is_fault none);
    };
    refused = λ unwritten. absurd (true≢false (sym (written outcome took) ∙ unwritten));
    last = λ unwritten. absurd (true≢false (sym (written outcome took) ∙ unwritten));
    none = λ unwritten. absurd (true≢false (sym (written outcome took) ∙ unwritten));
  }

  -- however the storing ended
  answers_by : (outcome : Outcome) (reply : Answer) → took_effect outcome ≡ true → reply ≡ reply_of state instruction (ended state syncs instruction is before between old mid s outcome at)
      → ((true && not (is_fault outcome)) ≡ true → HasUndo names text (history_marked state.machine.history) new.folder) → (is_fault outcome ≡ true → HasRisen old.folder_faults new.folder_faults)
      → FailsOnce names state instruction (ended state syncs instruction is before between old mid s outcome at) old new → LeavesFiles names state instruction (ended state syncs instruction is before between old mid s outcome at) old new → Answers state syncs instruction before after (mark state syncs instruction is before between old mid s outcome at) reply old new
  answers_by outcome reply took replied stored cause calls files =
      answers_free state syncs instruction is before between old mid s free true on after outcome at reply new names_after (λ none. refl) calls (whole_on outcome took) files replied
      (fits_by state syncs instruction is before between old mid s after new.folder outcome at true (written outcome took) (fits_on new.folder stores.now.spares))
      (works_runs names (Some work) (IsUnderWay names during (Some work)) Both old new (frames old made new frame third) (λ d both. both) both_runs)
      (subst (λ (done : Bool). HasWritten names write done (is_fault outcome) (state_now old) (state_now new) × HasStored names undo (done && not (is_fault outcome)) (state_now old) (state_now new)) (sym took)
      (wrote_new (is_fault outcome), record { found = refl; stored = stored }))
      both_runs.now.folder.whole rises cause

  mode_made : SameMode names.file old.folder made.folder
  mode_made = mode_by state syncs instruction is before between old mid s size after made second wrote

  cleared_made : LeavesNoneMade old.folder made.folder
  cleared_made = cleared_by state syncs instruction is before between old mid s after (Ok size) made second wrote (never_failed size)

  replied_as : (outcome : Outcome) → (outcome ≡ Done) ⊎ (outcome ≡ NoUndo) → write_reply state outcome old.folder ≡ reply_of state instruction (ended state syncs instruction is before between old mid s outcome at)
  replied_as outcome (inl done) =
      subst (λ (o : Outcome). write_reply state o old.folder ≡ reply_of state instruction (ended state syncs instruction is before between old mid s o at)) (sym done)
      (replied_done state syncs instruction is before between old mid s at)
  replied_as outcome (inr none) =
      subst (λ (o : Outcome). write_reply state o old.folder ≡ reply_of state instruction (ended state syncs instruction is before between old mid s o at)) (sym none)
      (replied_none state syncs instruction is before between old mid s at)

  took_as : (outcome : Outcome) → (outcome ≡ Done) ⊎ (outcome ≡ NoUndo) → took_effect outcome ≡ true
  took_as outcome (inl done) = ap took_effect done
  took_as outcome (inr none) = ap took_effect none

  done_as : (outcome : Outcome) → (outcome ≡ Done) ⊎ (outcome ≡ NoUndo) → (true && not (is_fault outcome)) ≡ true → outcome ≡ Done
  done_as outcome (inl done) calm = done
  done_as outcome (inr none) calm = absurd (true≢false (sym calm ∙ ap (λ (o : Outcome). true && not (is_fault o)) none))

  pub answers_both : (outcome : Outcome) (reply : Answer) → (outcome ≡ Done) ⊎ (outcome ≡ NoUndo) → reply ≡ says (line_by outcome state.name (info_written state size))
      → (outcome ≡ Done → HasUndo names text (history_marked state.machine.history) new.folder) → HasCause made.folder_faults new.folder_faults (is_fault outcome ≡ true)
      → StoresBy names.undo_new names.undo made new → FailsLast made new → (is_fault outcome ≡ false → Quiet made new) → Answers state syncs instruction before after (mark state syncs instruction is before between old mid s outcome at) reply old new
  answers_both outcome reply ended_as replied stored cause calls last quiet =
      answers_by outcome reply (took_as outcome ended_as) (replied ∙ line_is state syncs instruction is before between old mid s free outcome size bytes.0 ∙ replied_as outcome ended_as)
      (λ calm. stored (done_as outcome ended_as calm))
      (λ failed. risen_since old.folder_faults made.folder_faults new.folder_faults above.later (cause.risen failed))
      (once_after names state instruction (ended state syncs instruction is before between old mid s outcome at) old mid new s.quiet (calls_by outcome ended_as (took_as outcome ended_as) cause calls last quiet))
      (record {
        cleared = record {
          left = but_carried names state instruction old.folder outcome ended_as old.folder new.folder
              (λ done. cleared_then old.folder made.folder new.folder cleared_made (cleared_stored names named made.folder new.folder stores.now.spares (stored done).3))
              (λ name out was. but_stored names named made.folder new.folder stores.now.spares name out (cleared_made name was));
          moved = moved_then names named old made new (moved_by state syncs instruction is before between old mid s after (Ok size) made second wrote)
              (moved_stored names named (StoresUndo names text (history_marked state.machine.history)) made new (λ d storing. storing.spares) stores);
        };
        modes = modes_then names.file instruction old made new mode_made (modes_by state syncs instruction is before between old mid s after (Ok size) made second wrote)
            (modes_like names.file instruction made new (writes state syncs instruction is before between old mid s) (λ there. likes));
        mode = λ took. mode_then names.file old.folder made.folder new.folder mode_made
            (λ there. mode_outside (two_names names.undo_new names.undo) names.file made.folder new.folder (file_outside names named) stores.now.spares);
      })
