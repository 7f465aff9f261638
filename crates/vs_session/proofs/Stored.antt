-- The answer to `wundo`, and the calls that store an undo file.
use Rattle.std.proofs.Common.{◌≡◌, ◌⊎◌, inl, inr, ℕ, Bool, true, false, cond, ◌&&◌, not, List, [], ◌++◌, Option, Some, None, Result, Ok, Err, IsTrue, refl, sym, ◌∙◌, ap, subst}
use Rattle.std.specs.Prelude.{IsSomeAnd, OnOk}
use Rattle.std.proofs.lemmas.Bool.{true≢false}
use Rattle.std.proofs.lemmas.List.{append-nil}
use Rattle.vs_faults.specs.Faults.{HasCause}
use Rattle.vs_host.specs.Disk.{Disk, Name}
use Rattle.vs_host.specs.Names.{AreNames, temporary}
use Rattle.vs_host.specs.World.{Scene, Tells, ChangesFolder, ReadsFolder}
use Rattle.vs_host.specs.declared.names.Names.{Names}
use Rattle.vs_disk.specs.Images.{Takes}
use Rattle.vs_disk.specs.Runs.{Inside, Runs, Looks}
use Rattle.vs_disk.proofs.Runs.{goes_weaker, reads_change, runs_as, runs_then}
use Rattle.vs_pair.specs.Pair.{is_swap}
use Rattle.vs_exparse.specs.Command.Command.{WriteUndo}
use Rattle.vs_exparse.specs.declared.command.ExErr.TheVariants.{E492}
use Rattle.vs_excmd.specs.Request.{Instruction}
use Rattle.vs_backup.specs.Desks.{StopsAtFault}
use Rattle.vs_backup.specs.Works.{Spares as SparesNames, IsOutside, two_names}
use Rattle.vs_backup.proofs.Frames.{spares_none}
use Rattle.vs_backup.proofs.NamesApart.{temporary_apart}
use Rattle.vs_edit.specs.declared.store.StoreErr.{StoreErr}
use Rattle.vs_undo.specs.History.{History}
use Rattle.vs_ufile.specs.Decode.{IsUndoFile, IsWellFormed}
use Rattle.vs_ufile.specs.Values as file
use Rattle.vs_ufile.specs.Writing.{IsWritten}
use Rattle.vs_ubind.specs.Bound.{IsDataOf}
use Rattle.vs_options.specs.declared.setting.Options.{Options}
use Rattle.vs_machine.specs.Machine as machine
use Rattle.vs_machine.specs.Machine.{State, took_effect}
use Rattle.vs_machine.specs.Machine.Meaning.{Refused}
use Rattle.vs_machine.specs.Replies.{Answer, says, undo_file_written}
use Rattle.vs_machine.specs.declared.command.Mark.{Mark}
use Rattle.vs_machine.specs.declared.command.Outcome.{Outcome}
use Rattle.vs_machine.specs.declared.command.Outcome.TheVariants.{Done, NoMemory, Fault, NoUndo}
use Rattle.vs_safety.specs.Texts.{Sync, Text, Recovers, recoverable}
use Rattle.vs_safety.specs.Undo.{HasUndo, IsUndoOf, UndoWrite}
use Rattle.vs_safety.specs.FileWork.{UndoFile}
use Rattle.vs_safety.specs.Safety.{IsUnderWay, Spares, Works}
use Rattle.vs_paged.proofs.SyncLemmas.{fits_kept, fits_recovers}
use Rattle.vs_desk.proofs.Left.{goes_both}
use Rattle.vs_session.specs.declared.session.Session.{Session}
use Rattle.vs_session.specs.Session.{SessionState, Ended, accepts_quit, after_sync, answered, begins_after, begins_sync, carried, has_written, is_fault, is_rundo, is_write, is_wundo, lacks_name, options_after, quits, reply_of, session_reply, state_after, sync_in, undo_in, undo_work, with_history, work_of, write_work, written_state}
use Rattle.vs_session.specs.Stores.{StoresUndo}
use Rattle.vs_session.specs.Fits.{Answers, Fits, names_of}
use Rattle.vs_session.specs.Made.{IsLeftBy, LeavesNoneBut}
use Rattle.vs_session.proofs.Cleared.{but_stored, cleared_same, cleared_stored, moved_stored, swap_name}
use Rattle.vs_session.specs.Modes.{OnlyLike}
use Rattle.vs_session.proofs.Failing.{once_stops}
use Rattle.vs_session.proofs.Modes.{modes_like, writes_undo}
use Rattle.vs_session.proofs.Wholeness.{whole_unbegun}
use Rattle.vs_session.proofs.SessionLemmas.{carried_still}
use Rattle.vs_session.proofs.UndoNames.{new_name, undo_apart}
use Rattle.vs_session.proofs.Steps.{assemble, between_synced, no_history, unread, works_runs}

-- ---- the bytes

pub undo_of_bytes : (text : Text) (history : History) (contents : file.History) (bytes : List ℕ) → IsWellFormed contents → ((more : List ℕ) → IsUndoFile contents (bytes ++ more)) → IsWritten contents bytes
    → IsDataOf contents text history → IsUndoOf text history bytes
undo_of_bytes text history contents bytes formed file written made = record {
  contents = contents;
  formed = formed;
  file = subst (λ (b : List ℕ). IsUndoFile contents b) (append-nil bytes) (file []);
  written = written;
  made = made;
}

-- ---- the calls

pub both_ok : {T E : Type 0} (result : Result T E) (A B P : Type 0) → (A → B → P) → OnOk result A → OnOk result B → OnOk result P
both_ok (Ok value) A B P leads one other = leads one other
both_ok (Err why) A B P leads one other = tt

module _ (names : Names) (text : Text) (history : History) where
  pub stores_none : (disk : Disk) → StoresUndo names text history disk disk
  stores_none disk = record { spares = spares_none (two_names names.undo_new names.undo) disk; undo = λ left may. inl may }

  same_stores : (old d : Disk) → d ≡ old → StoresUndo names text history old d
  same_stores old d is = subst (λ (e : Disk). StoresUndo names text history old e) (sym is) (stores_none old)

  pub stores_looked : (old new : Scene) → Looks old new → Runs (StoresUndo names text history) old new
  stores_looked old new looks = runs_as (λ a b. b ≡ a) (StoresUndo names text history) old new (same_stores old.folder) looks

  taken : (bytes : List ℕ) (left : Option (List ℕ)) → IsUndoOf text history bytes → left ≡ Some bytes → IsSomeAnd left (IsUndoOf text history)
  taken bytes left is same = subst (λ (o : Option (List ℕ)). IsSomeAnd o (IsUndoOf text history)) (sym same) is

  stores : (bytes : List ℕ) → IsUndoOf text history bytes → (old new : Disk) → SparesNames (two_names names.undo_new names.undo) old new → Takes names.undo bytes old new → StoresUndo names text history old new
  stores bytes is old new spares takes = record { spares = spares; undo = λ left may. elim (takes left may) [ inl same ↦ inr (taken bytes left is same) | inr before ↦ inl before ] }

  pub stores_runs : (bytes : List ℕ) → IsUndoOf text history bytes → (old new : Scene) → Runs (SparesNames (two_names names.undo_new names.undo)) old new → Runs (Takes names.undo bytes) old new
      → Runs (StoresUndo names text history) old new
  stores_runs bytes is old new spares takes = record {
    moments = goes_weaker (λ m. Inside old (SparesNames (two_names names.undo_new names.undo) old.folder) m × Inside old (Takes names.undo bytes old.folder) m) (Inside old (StoresUndo names text history old.folder))
        (λ m both. record {
          output = both.0.output;
          answered = both.0.answered;
          script_faults = both.0.script_faults;
          out_faults = both.0.out_faults;
          folder = stores bytes is old.folder m.folder both.0.folder both.1.folder;
        }) old.trace new.trace
        (goes_both (Inside old (SparesNames (two_names names.undo_new names.undo) old.folder)) (Inside old (Takes names.undo bytes old.folder)) old.trace new.trace spares.moments takes.moments);
    now = stores bytes is old.folder new.folder spares.now takes.now;
  }

-- looked at first
pub stores_after : (names : Names) (text : Text) (history : History) (old mid new : Scene) → ChangesFolder old mid → ChangesFolder mid new → Looks old mid → Runs (StoresUndo names text history) mid new
    → Runs (StoresUndo names text history) old new
stores_after names text history old mid new first second looks runs =
    runs_then (λ a b. b ≡ a) (StoresUndo names text history) (StoresUndo names text history) old mid new
    (λ d is. subst (λ (e : Disk). StoresUndo names text history old.folder e) (sym is) (stores_none names text history old.folder))
    (λ d is. subst (λ (a : Disk). StoresUndo names text history a d) looks.now is) first looks runs

-- with the names and the bytes as the calls had them
module _ (names other : Names) (text : Text) (history : History) (bytes given : List ℕ) (same : other ≡ names) (copied : given ≡ bytes) (is : IsUndoOf text history bytes) where
  given_is : IsUndoOf text history given
  given_is = subst (λ (b : List ℕ). IsUndoOf text history b) (sym copied) is

  pub stored_runs : (old mid new : Scene) → ReadsFolder old mid → Looks old mid → ChangesFolder mid new → ((t : Text) (h : History) → IsUndoOf t h given → Runs (StoresUndo other t h) mid new)
      → Runs (StoresUndo names text history) old new
  stored_runs old mid new first looks second stores =
      stores_after names text history old mid new (reads_change old mid first) second looks (subst (λ (n : Names). Runs (StoresUndo n text history) mid new) same (stores text history given_is))

  pub stored_bytes : (disk : Disk) → ((t : Text) (h : History) → IsUndoOf t h given → HasUndo other t h disk) → HasUndo names text history disk
  stored_bytes disk holds = subst (λ (n : Names). HasUndo n text history disk) same (holds text history given_is)

abbrev pub error_is : {T : Type 0} → StoreErr → Result T StoreErr
error_is why = Err why

-- ---- the swap files

module _ (names : Names) (are : AreNames names) where
  swap_as : (name other : Name) → name ≡ other → is_swap names name ≡ true → (other ≡ names.swp) ⊎ (other ≡ names.swo)
  swap_as name other same is = subst (λ (n : Name). (n ≡ names.swp) ⊎ (n ≡ names.swo)) same (swap_name names name is)

  -- the storing works on no swap file
  pub undo_outside : IsOutside (two_names names.undo_new names.undo) (is_swap names)
  undo_outside name is (inl same) = temporary_apart names are names.undo (swap_as name (temporary names.undo) (same ∙ new_name names are) is)
  undo_outside name is (inr same) = undo_apart names are (swap_as name names.undo same is)

-- the session goes on to fit
pub fits_stored : (session : Session) (old new : Disk) (state : SessionState) (syncs : List Sync) → AreNames (names_of session) → SparesNames (two_names (names_of session).undo_new (names_of session).undo) old new
    → Fits session old state syncs → Fits session new state syncs
fits_stored session old new state syncs are spares fits = record {
  stands = record { text = fits_kept session.text old new state.machine.text syncs (spares (is_swap (names_of session)) (undo_outside (names_of session) are)) fits.stands.text; history = fits.stands.history };
  name = fits.name;
  cursor = fits.cursor;
  saved = fits.saved;
  saved_format = fits.saved_format;
  steps = fits.steps;
  options = fits.options;
  acknowledged = fits.acknowledged;
}

-- ---- the command

pub never_quits : (parsed : _) (saved : Bool) → is_wundo parsed ≡ true → quits parsed saved ≡ false
never_quits (Ok WriteUndo) saved is = refl
never_quits parsed saved is = absurd (true≢false (sym is))

and_false : (b : Bool) → (b && false) ≡ false
and_false true = refl
and_false false = refl

pub begins_none : (steps : ℕ) (parsed : _) → is_wundo parsed ≡ true → begins_after steps parsed ≡ false
begins_none steps (Ok WriteUndo) is = and_false _
begins_none steps parsed is = absurd (true≢false (sym is))

no_read : (parsed : _) → is_wundo parsed ≡ true → is_rundo parsed ≡ false
no_read (Ok WriteUndo) is = refl
no_read parsed is = absurd (true≢false (sym is))

no_write : (parsed : _) → is_wundo parsed ≡ true → is_write parsed ≡ false
no_write (Ok WriteUndo) is = refl
no_write parsed is = absurd (true≢false (sym is))

work_is : (state : SessionState) (found : Disk) (parsed : _) → is_wundo parsed ≡ true → undo_work state found parsed ≡ Some (UndoFile (undo_in state found))
work_is state found (Ok WriteUndo) is = refl
work_is state found parsed is = absurd (true≢false (sym is))

reply_is : (state : SessionState) (outcome : Outcome) (found : Disk) (parsed : _) → is_wundo parsed ≡ true → session_reply state outcome found unread parsed ≡ Some (says undo_file_written)
reply_is state outcome found (Ok WriteUndo) is = refl
reply_is state outcome found parsed is = absurd (true≢false (sym is))

refused : (m : State) (block : _) (parsed : _) → is_wundo parsed ≡ true → machine.meaning_of m parsed block ≡ Refused E492
refused m block (Ok WriteUndo) is = refl
refused m block parsed is = absurd (true≢false (sym is))

options_stay : (options : Options) (outcome : Outcome) (parsed : _) → is_wundo parsed ≡ true → options_after outcome options parsed ≡ options
options_stay options Done (Ok WriteUndo) is = refl
options_stay options Done parsed is = absurd (true≢false (sym is))
options_stay options NoMemory parsed is = refl
options_stay options Fault parsed is = refl
options_stay options NoUndo (Ok WriteUndo) is = refl
options_stay options NoUndo parsed is = absurd (true≢false (sym is))

module _ (state : SessionState) (syncs : List Sync) (instruction : Instruction) (before : Session) (old : Scene) (fits : Fits before old.folder state syncs) (is : is_wundo instruction.parsed ≡ true) (after : Session)
    (outcome : Outcome) (at : ℕ) (reply : Answer) (new : Scene) (names_after : names_of after ≡ names_of before) (frame : ChangesFolder old new)
    (tells : Tells) (told : IsTrue tells.folder) (stops : StopsAtFault tells (is_fault outcome ≡ true) old new) (runs : Runs (StoresUndo (names_of before) state.machine.text state.machine.history) old new) (likes : OnlyLike (names_of before).file old new)
    (stored : outcome ≡ Done → HasUndo (names_of before) state.machine.text state.machine.history new.folder) (idle : outcome ≡ NoMemory → new.folder ≡ old.folder) (cause : HasCause old.folder_faults new.folder_faults (is_fault outcome ≡ true)) (never : outcome ≡ NoUndo → ⊥)
    (reply_to : reply ≡ answered outcome (Some (says undo_file_written)) (machine.reply_of state.machine instruction (record { outcome = outcome; at = at }))) (left : Fits after new.folder state syncs) where
  abbrev names : Names
  names = names_of before

  abbrev mark : Mark
  mark = record { outcome = outcome; at = at }

  abbrev ended : Ended
  ended = record { mark = mark; acknowledged = false; found = old.folder; read = unread }

  abbrev undo : UndoWrite
  undo = undo_in state old.folder

  abbrev lacks : Bool
  lacks = lacks_name state.options.write state.name old.folder

  goes_on : accepts_quit state instruction ≡ false
  goes_on = never_quits instruction.parsed _ is

  none_begun : begins_sync state instruction ≡ false
  none_begun = begins_none state.steps instruction.parsed is

  -- the state is as before
  stays : Fits after new.folder (carried state instruction mark) syncs
  stays =
      subst (λ (s : SessionState). Fits after new.folder s syncs) (sym (carried_still state instruction mark E492 (refused state.machine instruction.block instruction.parsed is)))
      (record {
        stands = left.stands;
        name = left.name;
        cursor = left.cursor;
        saved = left.saved;
        saved_format = left.saved_format;
        steps = left.steps;
        options = left.options ∙ sym (options_stay state.options outcome instruction.parsed is);
        acknowledged = left.acknowledged;
      })

  now : Fits after new.folder (state_after state instruction ended) syncs
  now =
      subst (λ (o : Option History). Fits after new.folder (cond (((is_write instruction.parsed && false) && not lacks) && took_effect outcome) (written_state (after_sync state (begins_sync state instruction && false)))
      (with_history o (carried (after_sync state (begins_sync state instruction && false)) instruction mark))) syncs) (sym (no_history instruction ended (no_read instruction.parsed is)))
      (subst (λ (w : Bool). Fits after new.folder (cond (((w && false) && not lacks) && took_effect outcome) (written_state (after_sync state (begins_sync state instruction && false))) (carried (after_sync state (begins_sync state instruction && false)) instruction mark)) syncs)
      (sym (no_write instruction.parsed is))
      (subst (λ (c : Bool). Fits after new.folder (carried (after_sync state (c && false)) instruction mark) syncs) (sym none_begun) stays))

  replied_as : reply ≡ reply_of state instruction ended
  replied_as =
      reply_to ∙ ap (λ (own : Option Answer). answered outcome own (machine.reply_by outcome state.machine (machine.meaning_of state.machine instruction.parsed instruction.block))) (sym (reply_is state outcome old.folder instruction.parsed is))

  work : work_of state instruction ended ≡ Some (UndoFile undo)
  work =
      ap (λ (w : Bool). cond ((w && false) && not lacks) (Some (write_work state old.folder)) (undo_work state old.folder instruction.parsed)) (no_write instruction.parsed is)
      ∙ work_is state old.folder instruction.parsed is

  abbrev P : Disk → Type 0
  P = IsUnderWay names syncs (Some (UndoFile undo))

  recovers : (d : Disk) → SparesNames (two_names names.undo_new names.undo) old.folder d → Recovers names (recoverable syncs) d
  recovers d spares = fits_recovers before.text d state.machine.text syncs (fits_stored before old.folder d state syncs fits.stands.text.fit.named spares fits).stands.text

  spared : (d : Disk) → StoresUndo names state.machine.text state.machine.history old.folder d → Spares names (Some (UndoFile undo)) P old.folder d
  spared d stores = record {
    folder = record { recovers = recovers d stores.spares; whole = stores.undo };
    spared = λ inside foreign avoids. stores.spares inside avoids;
  }

  works : Works names (Some (UndoFile undo)) P old new
  works = works_runs names (Some (UndoFile undo)) P (StoresUndo names state.machine.text state.machine.history) old new frame spared runs

  done_is : (o : Outcome) → (o ≡ NoUndo → ⊥) → took_effect o ≡ true → o ≡ Done
  done_is Done none one = refl
  done_is NoMemory none one = absurd (true≢false (sym one))
  done_is Fault none one = absurd (true≢false (sym one))
  done_is NoUndo none one = absurd (none refl)

  named : AreNames names
  named = fits.stands.text.fit.named

  -- under its temporary name it leaves a file only where a call failed
  made_left : (o : Outcome) → outcome ≡ o → LeavesNoneBut (IsLeftBy o names state instruction old.folder) old.folder new.folder
  made_left Done at = λ made out was. cleared_stored names named old.folder new.folder runs.now.spares (stored at).3 made was
  made_left NoMemory at = λ made out was. cleared_same old.folder new.folder (idle at) made was
  made_left Fault at = λ made out was. but_stored names named old.folder new.folder runs.now.spares made (λ same. out (inr (is, same))) was
  made_left NoUndo at = absurd (never at)

  unwritten : has_written state instruction ended ≡ false
  unwritten = ap (λ (w : Bool). ((w && false) && not lacks) && took_effect outcome) (no_write instruction.parsed is)

  pub answers_stored : Answers state syncs instruction before after mark reply old new
  answers_stored =
      assemble state syncs instruction before old goes_on fits after mark false reply new None (Some (UndoFile undo)) (no_read instruction.parsed is) (λ unstored. absurd (never unstored))
      (once_stops names state instruction ended tells old new told unwritten stops)
      (whole_unbegun names state instruction ended old new (ap (λ (w : Bool). (w && false) && not lacks) (no_write instruction.parsed is)))
      (record {
        cleared = record { left = made_left outcome refl; moved = moved_stored names named (StoresUndo names state.machine.text state.machine.history) old new (λ d storing. storing.spares) runs };
        modes = modes_like names.file instruction old new (writes_undo instruction.parsed is) (λ there. likes);
        mode = λ written. absurd (true≢false (sym written ∙ unwritten));
      }) (ap (λ (c : Bool). cond c (Some (sync_in state false)) None) none_begun) work replied_as now
      (record {
        found = refl;
        works = works;
        wrote = record { found = refl; stored = λ done. stored (done_is outcome never done) };
        whole = runs.now.undo;
        flag = tt;
        cause = cause.risen;
        between = between_synced names after new.folder (state_after state instruction ended) syncs names_after now;
      })
