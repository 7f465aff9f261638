-- The answer to `w`, after the sync that it begins was acknowledged: the moments of the sync and of the write one after the other, and
-- what is left.
use Rattle.std.proofs.Common.{◌≡◌, ◌⊎◌, inl, inr, ℕ, ◌≤◌, Bool, true, false, cond, ◌&&◌, not, length, List, [], ◌∷◌, Option, Some, None, Result, Ok, Err, IfOk, OnErr, is_ok, IsErr, IsSome, refl, sym, ◌∙◌, ap, subst}
use Rattle.std.proofs.lemmas.Bool.{true≢false, cases_Bool}
use Rattle.vs_faults.specs.Faults.{HasCause, HasRisen}
use Rattle.vs_host.specs.Disk.{Disk, Name, content_in, mode_in}
use Rattle.vs_host.specs.Names.{AreNames, temporary}
use Rattle.vs_host.specs.Trace.{Snapshot, GoesOn}
use Rattle.vs_host.specs.World.{Scene, ChangesFolder}
use Rattle.vs_host.specs.declared.names.Names.{Names}
use Rattle.vs_text.specs.Documents.{file_in}
use Rattle.vs_disk.specs.Images.{HoldsBytes}
use Rattle.vs_disk.specs.Names.{SameAt}
use Rattle.vs_disk.specs.Runs.{Inside, Runs, Quiet}
use Rattle.vs_disk.proofs.Quiet.{last_then}
use Rattle.vs_disk.proofs.Runs.{fails_none, frames, goes_weaker, quiet_none, runs_as, runs_then}
use Rattle.vs_pair.specs.Pair.{Rises, Unmoved, is_apart, is_swap}
use Rattle.vs_pair.proofs.Others.{rises_kept}
use Rattle.vs_excmd.specs.Request.{Instruction}
use Rattle.vs_backup.specs.declared.options.WriteOptions.{WriteOptions}
use Rattle.vs_options.specs.declared.setting.Options.{Options}
use Rattle.vs_backup.specs.declared.errors.WriteErr.{WriteErr}
use Rattle.vs_backup.specs.declared.errors.WriteErr.TheVariants as error
use Rattle.vs_backup.specs.Backups.{IsNoName, WorksOn, backup_of, is_backed}
use Rattle.vs_backup.specs.Works.{SparesOthers}
use Rattle.vs_backup.specs.declared.errors.Place.TheVariants.{Backup}
use Rattle.vs_backup.specs.Writing.{FailsNoEarlier, IsFailed, OldIn, PutsBack}
use Rattle.vs_backup.proofs.Copying.{never_failed}
use Rattle.vs_machine.specs.Machine as machine
use Rattle.vs_machine.specs.Machine.{took_effect}
use Rattle.vs_machine.specs.Replies.{Answer, says, refuses, device_fault, no_backup_name, out_of_memory, written_line}
use Rattle.vs_machine.specs.declared.command.Mark.{Mark}
use Rattle.vs_machine.specs.declared.command.Outcome.{Outcome}
use Rattle.vs_machine.specs.declared.command.Outcome.TheVariants.{Done, NoMemory, Fault, NoUndo}
use Rattle.vs_undo.specs.History.{History}
use Rattle.vs_safety.specs.Texts.{Sync, Text, Recovers, begun, recoverable}
use Rattle.vs_safety.specs.Undo.{HasStored, LeavesUndo, UndoWrite}
use Rattle.vs_safety.specs.Writes.{Write, HasWritten, IsWholeIn, state_now}
use Rattle.vs_safety.specs.FileWork.{BothFiles, EditedFile, FileWork, HasLeft, IsWholeAt, Keeps}
use Rattle.vs_safety.specs.Safety.{IsUnderWay, Spares, Works}
use Rattle.vs_paged.specs.Fits as folder
use Rattle.vs_desk.specs.Still.{IsStill, KeepsLeft}
use Rattle.vs_desk.specs.Writes.{KeepsSwap, WritesFile}
use Rattle.vs_desk.proofs.Left.{goes_both}
use Rattle.vs_desk.proofs.Stillness.{still_fits}
use Rattle.vs_session.specs.declared.session.Session.{Session}
use Rattle.vs_session.specs.Session.{SessionState, Ended, accepts_quit, after_sync, answered, begins_sync, carried, is_fault, info_written, is_write, lacks_name, line_by, reply_of, state_after, sync_in, undo_after, undo_work, with_history, write_in, write_reply, write_work, writes_files, written_state, document_in}
use Rattle.vs_session.specs.Modes.{KeepsReaders, OnlyLike, SameMode}
use Rattle.vs_session.specs.Writes.{HasSynced, Wrote}
use Rattle.vs_session.specs.Fits.{Answers, Fits, names_of}
use Rattle.vs_session.specs.Made.{LeavesNoneBut, LeavesNoneMade, StaysMoved, WritesUnder}
use Rattle.vs_session.specs.Failures.{FailsOnce, StopsWriting}
use Rattle.vs_session.specs.Wholeness.{BecomesWhole, StaysUntouched, StaysWhole}
use Rattle.vs_session.proofs.Cleared.{but_refused, cleared_same, cleared_synced, cleared_then, cleared_written, clears_none, gone_spared, moved_apart, moved_looks, moved_then, moved_write}
use Rattle.vs_session.proofs.Failing.{above_quiet, once_after, once_refused, once_unwritten}
use Rattle.vs_session.proofs.Steps.{assemble, between_synced, flag_true, looked_synced, no_history, risen_since, unread, works_runs}
use Rattle.vs_session.proofs.FileWrites.{undo_same, works_same}
use Rattle.vs_session.proofs.Wholeness.{becomes, whole_unbegun}
use Rattle.vs_session.proofs.UndoNames.{undo_unworked}
use Rattle.vs_session.proofs.WriteCommand.{begins_is, carried_on, never_quits, no_read, no_undo, reply_is}
use Rattle.vs_session.proofs.Modes.{LeavesFiles, mode_synced, mode_then, mode_written, modes_like, modes_private, modes_then, writes_file}
use Rattle.vs_session.proofs.WriteMoments.{IsAlone, IsIdle, alone_by, facts, has_written, keeps_moments, keeps_now, keeps_synced, lacks_looks, named_lacks, whole_moments, whole_synced}

-- what a write did, for these names
record Did (names : Names) (options : WriteOptions) (text : Text) (syncs : List Sync) (mid new : Scene) (result : Result ℕ WriteErr) : Type 0 where
  pub file : WritesFile options names (file_in options.format text) mid new result
  pub no_name : result ≡ Err error.NoBackupName → IsNoName options names.file true mid.folder
  pub swap : Runs (KeepsSwap names (recoverable syncs)) mid new
  pub others : SparesOthers (WorksOn options names.file mid.folder) mid new
  pub left : Runs (KeepsLeft (WorksOn options names.file mid.folder)) mid new
  pub modes : IsSome (mode_in mid.folder names.file) → OnlyLike names.file mid new
  pub calls : FailsNoEarlier names.file (file_in options.format text) mid new result

-- A moment of the write, over a folder as the command found it.
pub record Moment (names : Names) (write : Write) (syncs : List Sync) (old d : Disk) : Type 0 where
  pub recovers : Recovers names (recoverable syncs) d
  pub whole : IsWholeIn names write d
  pub undo : LeavesUndo names old d
  pub keeps : Keeps names (Some (EditedFile write)) old d

abbrev pub err_of : WriteErr → Result ℕ WriteErr
err_of why = Err why

-- which calls failed of a write that was refused
back_of : {name new : List ℕ} {old now : Scene} (result : Result ℕ WriteErr) → FailsNoEarlier name new old now result → OnErr result (PutsBack old now result)
back_of result calls = calls.refused

-- why a write is refused, and how it ends so
abbrev pub Refuses : WriteErr → Outcome → Answer → Type 0
Refuses error.NoBackupName outcome reply = (outcome ≡ Done) × (reply ≡ refuses no_backup_name)
Refuses why outcome reply = ((outcome ≡ NoMemory) × (reply ≡ refuses out_of_memory)) ⊎ ((outcome ≡ Fault) × (reply ≡ refuses device_fault))

module _ (state : SessionState) (syncs : List Sync) (instruction : Instruction) (is : is_write instruction.parsed ≡ true) (before between : Session) (old mid : Scene) (s : HasSynced state syncs before between old mid) where
  abbrev names : Names
  names = names_of before

  abbrev options : WriteOptions
  options = state.options.write

  abbrev text : Text
  text = state.machine.text

  abbrev write : Write
  write = write_in state old.folder

  abbrev undo : UndoWrite
  undo = undo_after state old.folder

  abbrev all : List Sync
  all = sync_in state true ∷ syncs

  abbrev pub under : List Sync
  under = begun (document_in state) (sync_in state false).dirty ∷ syncs

  abbrev pub mark : Outcome → ℕ → Mark
  mark outcome at = record { outcome = outcome; at = at }

  abbrev pub ended : Outcome → ℕ → Ended
  ended outcome at = record { mark = mark outcome at; acknowledged = true; found = old.folder; read = unread }

  pub are : AreNames names
  are = s.fits.stands.text.fit.named

  file_name : names.file ≡ state.name
  file_name = ap (λ (n : Names). n.file) before.named ∙ s.fits.name

  abbrev pub lacks : Bool
  lacks = lacks_name options state.name old.folder

  lacks_here : lacks_name options names.file old.folder ≡ lacks
  lacks_here = ap (λ (n : List ℕ). lacks_name options n old.folder) file_name

  later : old.folder_faults ≤ mid.folder_faults
  later = (above_quiet old mid s.quiet).later

  same : SameAt (is_apart names) old.folder mid.folder
  same = s.runs.now.spared text syncs s.fits.stands.text

  unmoved : Unmoved (is_apart names) old.folder mid.folder
  unmoved = s.runs.now.unmoved text syncs s.fits.stands.text

  goes_on : accepts_quit state instruction ≡ false
  goes_on = never_quits instruction.parsed _ is

  begins : begins_sync state instruction ≡ true
  begins = begins_is state.steps instruction.parsed is

  sync_is : cond (begins_sync state instruction) (Some (sync_in state true)) None ≡ Some (sync_in state true)
  sync_is = ap (λ (c : Bool). cond c (Some (sync_in state true)) None) begins

  -- ---- the state after it, and its reply

  pub fits_by : (after : Session) (new : Disk) (outcome : Outcome) (at : ℕ) (b : Bool) → (((is_write instruction.parsed && true) && not lacks) && took_effect outcome) ≡ b
      → Fits after new (cond b (written_state (after_sync state true)) (carried (after_sync state true) instruction (mark outcome at))) all → Fits after new (state_after state instruction (ended outcome at)) all
  fits_by after new outcome at b which now =
      subst (λ (o : Option History). Fits after new (cond (((is_write instruction.parsed && true) && not lacks) && took_effect outcome) (written_state (after_sync state (begins_sync state instruction && true)))
      (with_history o (carried (after_sync state (begins_sync state instruction && true)) instruction (mark outcome at)))) all) (sym (no_history instruction (ended outcome at) (no_read instruction.parsed is)))
      (subst (λ (c : Bool). Fits after new (cond (((is_write instruction.parsed && true) && not lacks) && took_effect outcome) (written_state (after_sync state (c && true))) (carried (after_sync state (c && true)) instruction (mark outcome at))) all) (sym begins)
      (subst (λ (c : Bool). Fits after new (cond c (written_state (after_sync state true)) (carried (after_sync state true) instruction (mark outcome at))) all) (sym which) now))

  -- where the file was not written
  stays : (after : Session) (new : Disk) (outcome : Outcome) (at : ℕ) → (((is_write instruction.parsed && true) && not lacks) && took_effect outcome) ≡ false → Fits after new (after_sync state true) all
      → Fits after new (state_after state instruction (ended outcome at)) all
  stays after new outcome at which now = fits_by after new outcome at false which (carried_on after new (after_sync state true) all instruction (mark outcome at) is now)

  pub replied_done : (at : ℕ) → write_reply state Done old.folder ≡ reply_of state instruction (ended Done at)
  replied_done at = λ i. answered Done (reply_is state Done old.folder instruction.parsed is i) (machine.reply_of state.machine instruction (mark Done at))

  pub replied_none : (at : ℕ) → write_reply state NoUndo old.folder ≡ reply_of state instruction (ended NoUndo at)
  replied_none at = λ i. answered NoUndo (reply_is state NoUndo old.folder instruction.parsed is i) (machine.reply_of state.machine instruction (mark NoUndo at))

  -- ---- the moments

  -- what may be recovered after the sync, may be while it is under way
  pub recovers_on : (d : Disk) → Recovers names (recoverable all) d → Recovers names (recoverable under) d
  recovers_on d recovers image whole = let given = recovers image whole in (given.0, elim given.1 [ inl here ↦ inl here | inr none ↦ absurd none ], given.2)

  in_sync : (d : Disk) → folder.Syncing before.text before.options.write.format old.folder d → Moment names write under old.folder d
  in_sync d syncing =
      let apart : SameAt (is_apart names) old.folder d = syncing.spared text syncs s.fits.stands.text in
      record {
        recovers = subst (λ (o : Options). Recovers names (record { text = text; format = o.write.format } ∷ recoverable syncs) d) s.fits.options (syncing.safe text syncs s.fits.stands.text);
        whole = whole_synced names are options text old.folder d apart;
        undo = undo_same names are old.folder d apart;
        keeps = keeps_synced names write old.folder d apart;
      }

  abbrev pub AtMoment : Disk → Disk → Type 0
  AtMoment a d = Moment names write under old.folder d

  sync_apart : GoesOn (λ m. SameAt (is_apart names) old.folder m.folder) old.trace mid.trace
  sync_apart = goes_weaker (Inside old (folder.Syncing before.text before.options.write.format old.folder)) (λ m. SameAt (is_apart names) old.folder m.folder) (λ m inside. inside.folder.spared text syncs s.fits.stands.text) old.trace mid.trace s.runs.moments

  sync_mode : mode_in mid.folder names.file ≡ mode_in old.folder names.file
  sync_mode = mode_synced names are old.folder mid.folder same

  pub writes : writes_files instruction.parsed ≡ true
  writes = writes_file instruction.parsed is

  sync_moved : StaysMoved names old mid
  sync_moved = moved_apart names are old mid sync_apart same

  sync_unmoved : GoesOn (λ m. Unmoved (is_apart names) old.folder m.folder) old.trace mid.trace
  sync_unmoved = goes_weaker (Inside old (folder.Syncing before.text before.options.write.format old.folder)) (λ m. Unmoved (is_apart names) old.folder m.folder) (λ m inside. inside.folder.unmoved text syncs s.fits.stands.text) old.trace mid.trace s.runs.moments

  sync_runs : Runs AtMoment old mid
  sync_runs = runs_as (folder.Syncing before.text before.options.write.format) AtMoment old mid in_sync s.runs

  module _ (after : Session) (result : Result ℕ WriteErr) (new : Scene) (second : ChangesFolder mid new) (wrote : Wrote (after_sync state true) all between after result mid new) where
    did : Did names options text all mid new result
    did = subst (λ (n : Names). Did n options text all mid new result) s.names (record { file = wrote.file; no_name = wrote.no_name; swap = wrote.swap; others = wrote.others; left = wrote.left; modes = wrote.modes; calls = wrote.calls })

    abbrev Base : Snapshot → Type 0
    Base m = Inside mid (KeepsSwap names (recoverable all) mid.folder) m

    undo_left : (d : Disk) → KeepsLeft (WorksOn options names.file mid.folder) mid.folder d → LeavesUndo names old.folder d
    undo_left d keeps left may = undo_same names are old.folder mid.folder same left (keeps names.undo (undo_unworked names are options mid.folder) left may)

    whole_all : GoesOn (λ m. IsWholeIn names write m.folder) mid.trace new.trace × IsWholeIn names write new.folder
    whole_all = whole_moments names are options text old.folder mid new same result did.file Base did.swap.moments

    left_all : GoesOn (λ m. LeavesUndo names old.folder m.folder) mid.trace new.trace
    left_all = goes_weaker (Inside mid (KeepsLeft (WorksOn options names.file mid.folder) mid.folder)) (λ m. LeavesUndo names old.folder m.folder) (λ m inside. undo_left m.folder inside.folder) mid.trace new.trace did.left.moments

    still : IsStill (is_swap names) mid.folder
    still = subst (λ (n : Names). IsStill (is_swap n) mid.folder) s.names (still_fits between.text mid.folder _ _ s.synced.stands.text)

    keeps_all : GoesOn (λ m. Keeps names (Some (EditedFile write)) old.folder m.folder) mid.trace new.trace
    keeps_all = keeps_moments names are options text old.folder mid new same wrote.folder still did.others Base did.swap.moments

    abbrev Parts : Snapshot → Type 0
    Parts m = Keeps names (Some (EditedFile write)) old.folder m.folder × (IsWholeIn names write m.folder × LeavesUndo names old.folder m.folder)

    parts_all : GoesOn Parts mid.trace new.trace
    parts_all =
        goes_both (λ m. Keeps names (Some (EditedFile write)) old.folder m.folder) (λ m. IsWholeIn names write m.folder × LeavesUndo names old.folder m.folder) mid.trace new.trace keeps_all
        (goes_both (λ m. IsWholeIn names write m.folder) (λ m. LeavesUndo names old.folder m.folder) mid.trace new.trace whole_all.0 left_all)

    write_runs : Runs AtMoment mid new
    write_runs = record {
      moments = goes_weaker (λ m. Base m × Parts m) (Inside mid (AtMoment mid.folder))
          (λ m both. record {
            output = both.0.output;
            answered = both.0.answered;
            script_faults = both.0.script_faults;
            out_faults = both.0.out_faults;
            folder = record { recovers = recovers_on m.folder both.0.folder.recovers; whole = both.1.1.0; undo = both.1.1.1; keeps = both.1.0 };
          }) mid.trace new.trace (goes_both Base Parts mid.trace new.trace did.swap.moments parts_all);
      now = record {
        recovers = recovers_on new.folder did.swap.now.recovers;
        whole = whole_all.1;
        undo = undo_left new.folder did.left.now;
        keeps = keeps_now names are options text old.folder mid new same wrote.folder still did.others;
      };
    }

    pub written_runs : Runs AtMoment old new
    written_runs = runs_then AtMoment AtMoment AtMoment old mid new (λ d m. m) (λ d m. m) s.frame sync_runs write_runs

    pub written_frame : ChangesFolder old new
    written_frame = frames old mid new s.frame second

    pub written_rises : Rises names old.folder new.folder
    written_rises = rises_kept names mid.folder new.folder did.swap.now.same old.folder s.rises

    pub has_left : (failed : Bool) → (failed ≡ true → OldIn Backup result → IsFailed result) → HasWritten names write (is_ok result) failed (state_now old) (state_now new)
    has_left failed fails = has_written names are options text old.folder mid new same result did.file old.folder_faults later failed (back_of result did.calls) fails

    became : (was : List ℕ) (backup : Name) → content_in old.folder names.file ≡ Some was → backup_of options names.file old.folder ≡ Some backup
        → BecomesWhole names.file backup was (file_in options.format text) old new ⊎ (IsErr result × StaysUntouched names.file backup old new)
    became was backup there made = becomes names are options (file_in options.format text) old mid new same unmoved sync_unmoved was backup there made result did.file

    pub stays_whole : (outcome : Outcome) (at : ℕ) → (IsErr result → took_effect outcome ≡ false) → StaysWhole names state instruction (ended outcome at) old new
    stays_whole outcome at none is_begun was backup there made = elim (became was backup there made) [ inl whole ↦ inl whole | inr refused ↦ inr (none refused.0, refused.1) ]

    pub cleared_by : (IsFailed result → ⊥) → LeavesNoneMade old.folder new.folder
    cleared_by calm = cleared_then old.folder mid.folder new.folder (cleared_synced names are old.folder mid.folder same)
        (cleared_written names are options (file_in options.format text) result calm mid new did.file did.others)

    -- and one in which a call failed leaves one only where it works
    but_by : LeavesNoneBut (WritesUnder names state instruction old.folder) old.folder new.folder
    but_by made out was =
        gone_spared (WorksOn options names.file mid.folder) (temporary made) mid new did.others (λ works. out (is, works_same names are old.folder mid.folder same options (temporary made) works))
        (cleared_synced names are old.folder mid.folder same made was)

    -- at no moment is there one for a swap file
    pub moved_by : StaysMoved names old new
    moved_by = moved_then names are old mid new sync_moved (moved_write names are options mid new did.others)

    -- what it makes has a mode of the file
    pub modes_by : KeepsReaders names.file instruction old new
    modes_by = modes_then names.file instruction old mid new (λ there. sync_mode) (modes_private names.file instruction old mid s.modes) (modes_like names.file instruction mid new writes did.modes)

    pub bytes_left : IfOk result (λ size. (size ≡ length (file_in options.format text)) × HoldsBytes names.file (file_in options.format text) new.folder)
    bytes_left = (facts names are options text old.folder mid new same result did.file old.folder_faults later).written

    -- where no backup name is free, nothing is done
    looked : lacks ≡ true → IsIdle mid new result
    looked taken = lacks_looks names are options text old.folder mid new same result did.file old.folder_faults later (lacks_here ∙ taken)

    pub not_lacks : (size : ℕ) → result ≡ Ok size → lacks ≡ false
    not_lacks size ok = elim (cases_Bool lacks) [ inl taken ↦ absurd ((looked taken).refused size ok) | inr free ↦ free ]

    never : lacks ≡ false → result ≡ Err error.NoBackupName → ⊥
    never free none = true≢false (sym (named_lacks names are options text old.folder mid new same result did.file old.folder_faults later (did.no_name none)) ∙ lacks_here ∙ free)

  -- the file has the mode that it had
  module _ (size : ℕ) (after : Session) (new : Scene) (second : ChangesFolder mid new) (wrote : Wrote (after_sync state true) all between after (Ok size) mid new) where
    pub mode_by : SameMode names.file old.folder new.folder
    mode_by = mode_then names.file old.folder mid.folder new.folder (λ there. sync_mode)
        (mode_written options names (file_in options.format text) mid new size (did after (Ok size) new second wrote).file)

  -- ---- what it is to the run

  abbrev pub work_by : Bool → FileWork
  work_by b = cond b (BothFiles write undo) (EditedFile write)

  pub lead : (b : Bool) (d : Disk) → Moment names write under old.folder d → Spares names (Some (work_by b)) (IsUnderWay names under (Some (work_by b))) old.folder d
  lead true d m = record {
    folder = record { recovers = m.recovers; whole = (m.whole, (λ left may. inl (m.undo left may), inl m.undo)) };
    spared = record {
      apart = λ inside foreign avoids apart. m.keeps.apart inside foreign avoids.0 apart;
      settled = λ inside start foreign avoids settled spared. m.keeps.settled inside start foreign avoids.0 settled spared;
    };
  }
  lead false d m = record { folder = record { recovers = m.recovers; whole = (m.whole, m.undo) }; spared = m.keeps }

  whole_by : (b : Bool) (d : Disk) → Moment names write under old.folder d → IsWholeAt names (work_by b) d
  whole_by true d m = (m.whole, (λ left may. inl (m.undo left may), inl m.undo))
  whole_by false d m = (m.whole, m.undo)

  left_by : (b : Bool) (done failed : Bool) (new : Scene) → HasWritten names write done failed (state_now old) (state_now new) → HasStored names undo (done && not failed) (state_now old) (state_now new)
      → HasLeft names (work_by b) done failed (state_now old) (state_now new)
  left_by true done failed new wrote stored = (wrote, stored)
  left_by false done failed new wrote stored = wrote

  -- where the file may be written
  module _ (free : lacks ≡ false) (b : Bool) (flag : state.options.undofile ≡ b) where
    pub answers_free : (after : Session) (outcome : Outcome) (at : ℕ) (reply : Answer) (new : Scene) → names_of after ≡ names → (outcome ≡ NoUndo → b ≡ true) → FailsOnce names state instruction (ended outcome at) old new → StaysWhole names state instruction (ended outcome at) old new → LeavesFiles names state instruction (ended outcome at) old new → reply ≡ reply_of state instruction (ended outcome at)
        → Fits after new.folder (state_after state instruction (ended outcome at)) all → Works names (Some (work_by b)) (IsUnderWay names under (Some (work_by b))) old new
        → HasLeft names (work_by b) (took_effect outcome) (is_fault outcome) (state_now old) (state_now new) → IsWholeAt names (work_by b) new.folder → Rises names old.folder new.folder
        → (is_fault outcome ≡ true → HasRisen old.folder_faults new.folder_faults) → Answers state syncs instruction before after (mark outcome at) reply old new
    answers_free after outcome at reply new names_after both calls whole_on files replied now works wrote whole rises cause =
        assemble state syncs instruction before old goes_on s.fits after (mark outcome at) true reply new (Some (sync_in state true)) (Some (work_by b)) (no_read instruction.parsed is)
        (λ none. (λ i. ((is i && true) && not (free i)) && (flag ∙ both none) i)) calls whole_on files sync_is
        ((λ i. cond ((is i && true) && not (free i)) (Some (write_work state old.folder)) (undo_work state old.folder instruction.parsed)) ∙ (λ i. Some (work_by (flag i)))) replied now
        (record {
          found = refl;
          works = works;
          wrote = wrote;
          whole = whole;
          flag = flag_true names (took_effect outcome) old.folder new.folder rises;
          cause = cause;
          between = between_synced names after new.folder (state_after state instruction (ended outcome at)) all names_after now;
        })

  -- ---- a write that was refused

  module _ (why : WriteErr) (at : ℕ) (after : Session) (new : Scene) (second : ChangesFolder mid new) (names_after : names_of after ≡ names) (wrote : Wrote (after_sync state true) all between after (Err why) mid new) where
    abbrev IsAnswer : Outcome → Answer → Type 0
    IsAnswer outcome reply = Answers state syncs instruction before after (mark outcome at) reply old new

    -- where no fault is answered, no call failed before the write began, or the write says that none did
    abbrev IsCalm : Outcome → Type 0
    IsCalm outcome = is_fault outcome ≡ false → (Quiet mid new × (new.folder ≡ mid.folder)) ⊎ (IsFailed (err_of why) → ⊥)

    -- what put the file back failed after a call that failed, where a fault is answered
    abbrev HasFailed : Outcome → Type 0
    HasFailed outcome = is_fault outcome ≡ true → OldIn Backup (err_of why) → IsFailed (err_of why)

    -- until the write stopped, and then
    put_back : (fault : Bool) → (fault ≡ false → Quiet mid wrote.calls.refused.stopped) → StopsWriting fault mid new
    put_back fault none =
        let back = wrote.calls.refused in
        record { stopped = back.stopped; last = back.last; none = none; back_last = back.back_last; back_none = λ calm. back.back_none (λ is. calm (back.back_failed is)) }

    stops_as : (outcome : Outcome) (fault : Bool) → is_fault outcome ≡ fault → IsCalm outcome → StopsWriting fault mid new
    stops_as outcome true is_fault_here calm = put_back true (λ none. absurd (true≢false none))
    stops_as outcome false is_fault_here calm = elim (calm is_fault_here) [
      | inl idle ↦ record { stopped = new; last = last_then mid new new idle.0 (fails_none new); none = λ _. idle.0; back_last = fails_none new; back_none = λ _. quiet_none new }
      | inr none ↦ put_back false (λ _. wrote.calls.refused.none none)
    ]

    -- where it makes no backup, nothing is put back
    alone : is_backed options state.name old.folder ≡ false → IsAlone mid new (err_of why)
    alone off =
        let here = did after (Err why) new second wrote in
        alone_by names are options text old.folder mid new same (Err why) here.file here.calls.refused (ap (λ (n : List ℕ). is_backed options n old.folder) file_name ∙ off)

    once_free : lacks ≡ false → (outcome : Outcome) → IsCalm outcome → took_effect outcome ≡ false → FailsOnce names state instruction (ended outcome at) mid new
    once_free free outcome calm none =
        let begun : ((is_write instruction.parsed && true) && not lacks) ≡ true = λ i. (is i && true) && not (free i) in
        let unwritten : (((is_write instruction.parsed && true) && not lacks) && took_effect outcome) ≡ false = λ i. ((is i && true) && not (free i)) && none i in
        elim (cases_Bool (is_backed options state.name old.folder)) [
          | inl backed ↦ once_refused names state instruction (ended outcome at) mid new (λ i. begun i && backed i) unwritten (stops_as outcome (is_fault outcome) refl calm)
          | inr off ↦ once_unwritten names state instruction (ended outcome at) mid new unwritten (alone off).last
              (λ here. elim (calm here) [ inl idle ↦ idle.0 | inr never ↦ (alone off).none never ])
        ]

    -- nor does it leave a file that it made
    cleared_calm : (outcome : Outcome) → IsCalm outcome → is_fault outcome ≡ false → LeavesNoneMade old.folder new.folder
    cleared_calm outcome calm here = elim (calm here) [
      | inl idle ↦ cleared_then old.folder mid.folder new.folder (cleared_synced names are old.folder mid.folder same) (cleared_same mid.folder new.folder idle.1)
      | inr never ↦ cleared_by after (Err why) new second wrote never
    ]

    -- no backup name is free
    refused_taken : lacks ≡ true → (outcome : Outcome) (reply : Answer) → (outcome ≡ NoUndo → ⊥) → IsCalm outcome → reply ≡ reply_of state instruction (ended outcome at) → (is_fault outcome ≡ true → HasRisen old.folder_faults new.folder_faults)
        → IsAnswer outcome reply
    refused_taken taken outcome reply stored calm replied cause =
        let idle = looked after (Err why) new second wrote taken in
        let unwritten : (((is_write instruction.parsed && true) && not lacks) && took_effect outcome) ≡ false = λ i. ((is i && true) && not (taken i)) && took_effect outcome in
        let now : Fits after new.folder (state_after state instruction (ended outcome at)) all = stays after new.folder outcome at unwritten wrote.fits in
        assemble state syncs instruction before old goes_on s.fits after (mark outcome at) true reply new (Some (sync_in state true)) None (no_read instruction.parsed is) (λ none. absurd (stored none))
        (once_after names state instruction (ended outcome at) old mid new s.quiet (once_unwritten names state instruction (ended outcome at) mid new unwritten idle.last
        (λ here. elim (calm here) [ inl looked ↦ looked.0 | inr none ↦ idle.none none ])))
        (whole_unbegun names state instruction (ended outcome at) old new (λ i. (is i && true) && not (taken i)))
        (record {
          cleared = clears_none names state instruction (ended outcome at) old new
              (cleared_then old.folder mid.folder new.folder (cleared_synced names are old.folder mid.folder same) (cleared_same mid.folder new.folder idle.looks.now))
              (moved_then names are old mid new sync_moved (moved_looks names are mid new idle.looks));
          modes = modes_by after (Err why) new second wrote;
          mode = λ written. absurd (true≢false (sym written ∙ unwritten));
        }) sync_is
        ((λ i. cond ((is i && true) && not (taken i)) (Some (write_work state old.folder)) (undo_work state old.folder instruction.parsed)) ∙ no_undo state old.folder instruction.parsed is) replied now
        (looked_synced before after state syncs (state_after state instruction (ended outcome at)) (took_effect outcome) (is_fault outcome) (reply_of state instruction (ended outcome at)).bytes old mid new s.fits between s.names names_after
        s.frame s.runs s.rises s.synced idle.looks.now second idle.looks cause now)

    refused_free : lacks ≡ false → (outcome : Outcome) (reply : Answer) → (outcome ≡ NoUndo → ⊥) → IsCalm outcome → HasFailed outcome → took_effect outcome ≡ false → reply ≡ reply_of state instruction (ended outcome at)
        → (is_fault outcome ≡ true → HasRisen old.folder_faults new.folder_faults) → IsAnswer outcome reply
    refused_free free outcome reply stored calm failed none replied cause =
        let b : Bool = state.options.undofile in
        let unwritten : (((is_write instruction.parsed && true) && not lacks) && took_effect outcome) ≡ false = λ i. ((is i && true) && not (free i)) && none i in
        let runs = written_runs after (Err why) new second wrote in
        answers_free free b refl after outcome at reply new names_after (λ unstored. absurd (stored unstored))
        (once_after names state instruction (ended outcome at) old mid new s.quiet (once_free free outcome calm none))
        (stays_whole after (Err why) new second wrote outcome at (λ _. none)) (record {
          cleared = record {
            left = but_refused names state instruction old.folder outcome none old.folder new.folder (but_by after (Err why) new second wrote) (cleared_calm outcome calm);
            moved = moved_by after (Err why) new second wrote;
          };
          modes = modes_by after (Err why) new second wrote;
          mode = λ written. absurd (true≢false (sym written ∙ unwritten));
        }) replied
        (stays after new.folder outcome at unwritten wrote.fits)
        (works_runs names (Some (work_by b)) (IsUnderWay names under (Some (work_by b))) AtMoment old new (written_frame after (Err why) new second wrote) (lead b) runs)
        (left_by b (took_effect outcome) (is_fault outcome) new
        (subst (λ (done : Bool). HasWritten names write done (is_fault outcome) (state_now old) (state_now new)) (sym none) (has_left after (Err why) new second wrote (is_fault outcome) failed))
        (record { found = refl; stored = λ done. absurd (true≢false (sym done ∙ ap (λ (c : Bool). c && not (is_fault outcome)) none)) }))
        (whole_by b new.folder runs.now) (written_rises after (Err why) new second wrote) cause

    refused_by : (outcome : Outcome) (reply : Answer) → (outcome ≡ NoUndo → ⊥) → IsCalm outcome → HasFailed outcome → took_effect outcome ≡ false → reply ≡ reply_of state instruction (ended outcome at) → (is_fault outcome ≡ true → HasRisen old.folder_faults new.folder_faults)
        → IsAnswer outcome reply
    refused_by outcome reply stored calm failed none replied cause = elim (cases_Bool lacks) [
      | inl taken ↦ refused_taken taken outcome reply stored calm replied cause
      | inr free ↦ refused_free free outcome reply stored calm failed none replied cause
    ]

    as_answer : (o outcome : Outcome) (r reply : Answer) → outcome ≡ o → reply ≡ r → IsAnswer o r → IsAnswer outcome reply
    as_answer o outcome r reply o_is r_is answer = subst (λ (p : Outcome). IsAnswer p reply) (sym o_is) (subst (λ (a : Answer). IsAnswer o a) (sym r_is) answer)

    refused_fault : HasFailed Fault → HasRisen mid.folder_faults new.folder_faults → IsAnswer Fault (refuses device_fault)
    refused_fault failed risen =
        refused_by Fault (refuses device_fault) (λ e. absurd (cc)) (λ calm. absurd (true≢false calm)) failed refl refl (λ _. risen_since old.folder_faults mid.folder_faults new.folder_faults later risen)

    refused_memory : IsCalm NoMemory → IsAnswer NoMemory (refuses out_of_memory)
    refused_memory calm = refused_by NoMemory (refuses out_of_memory) (λ e. absurd (cc)) calm (λ fault. absurd (true≢false (sym fault))) refl refl (λ e. absurd (true≢false (sym e)))

    refused_name : why ≡ error.NoBackupName → IsCalm Done → IsAnswer Done (refuses no_backup_name)
    refused_name unnamed calm = elim (cases_Bool lacks) [
      | inl taken ↦ refused_taken taken Done (refuses no_backup_name) (λ e. absurd (cc)) calm
          (ap (λ (c : Bool). cond c (refuses no_backup_name) (says (written_line state.name (info_written state (length (file_in options.format text)))))) (sym taken) ∙ replied_done at) (λ e. absurd (true≢false (sym e)))
      | inr free ↦ absurd (never after (Err why) new second wrote free (ap err_of unnamed))
    ]

    by_fault : (outcome : Outcome) (reply : Answer) → IsCalm outcome → HasFailed outcome → HasCause mid.folder_faults new.folder_faults (is_fault outcome ≡ true) → ((outcome ≡ NoMemory) × (reply ≡ refuses out_of_memory)) ⊎ ((outcome ≡ Fault) × (reply ≡ refuses device_fault))
        → IsAnswer outcome reply
    by_fault outcome reply calm failed cause (inl memory) = as_answer NoMemory outcome (refuses out_of_memory) reply memory.0 memory.1 (refused_memory (λ _. calm (ap is_fault memory.0)))
    by_fault outcome reply calm failed cause (inr fault) =
        as_answer Fault outcome (refuses device_fault) reply fault.0 fault.1 (refused_fault (λ _ in_backup. failed (ap is_fault fault.0) in_backup) (cause.risen (ap is_fault fault.0)))

    by_why : (w : WriteErr) → why ≡ w → (outcome : Outcome) (reply : Answer) → IsCalm outcome → HasFailed outcome → HasCause mid.folder_faults new.folder_faults (is_fault outcome ≡ true) → Refuses w outcome reply → IsAnswer outcome reply
    by_why error.NoBackupName w_is outcome reply calm failed cause answer = as_answer Done outcome (refuses no_backup_name) reply answer.0 answer.1 (refused_name w_is (λ _. calm (ap is_fault answer.0)))
    by_why (error.Failed place) w_is outcome reply calm failed cause answer = by_fault outcome reply calm failed cause answer
    by_why (error.NoMemory place) w_is outcome reply calm failed cause answer = by_fault outcome reply calm failed cause answer

    pub answers_refused : (outcome : Outcome) (reply : Answer) → IsCalm outcome → HasFailed outcome → HasCause mid.folder_faults new.folder_faults (is_fault outcome ≡ true) → Refuses why outcome reply → IsAnswer outcome reply
    answers_refused outcome reply calm failed cause answer = by_why why refl outcome reply calm failed cause answer

  -- ---- a write that was carried out

  -- the reply to it
  pub line_is : lacks ≡ false → (outcome : Outcome) (size : ℕ) → size ≡ length (file_in options.format text) → says (line_by outcome state.name (info_written state size)) ≡ write_reply state outcome old.folder
  line_is free outcome size size_is =
      ap (λ (n : ℕ). says (line_by outcome state.name (info_written state n))) size_is
      ∙ ap (λ (c : Bool). cond c (refuses no_backup_name) (says (line_by outcome state.name (info_written state (length (file_in options.format text)))))) (sym free)

  written : lacks ≡ false → (((is_write instruction.parsed && true) && not lacks) && true) ≡ true
  written free = λ i. ((is i && true) && not (free i)) && true

  module _ (size : ℕ) (at : ℕ) (after : Session) (reply : Answer) (new : Scene) (second : ChangesFolder mid new) (names_after : names_of after ≡ names) (wrote : Wrote (after_sync state true) all between after (Ok size) mid new)
      (off : state.options.undofile ≡ false) (reply_to : reply ≡ says (written_line state.name (info_written state size))) where
    pub answers_alone : Answers state syncs instruction before after (mark Done at) reply old new
    answers_alone =
        let free : lacks ≡ false = not_lacks after (Ok size) new second wrote size refl in
        let runs = written_runs after (Ok size) new second wrote in
        answers_free free false off after Done at reply new names_after (λ e. absurd (cc))
        (once_after names state instruction (ended Done at) old mid new s.quiet (record {
          writes = λ _. record { wrote = new; file = (did after (Ok size) new second wrote).calls.done; above = wrote.above; calls = record { added = []; is = refl; calls = inl tt }; last = fails_none new; none = λ _. quiet_none new; unstored = λ e. absurd (cc) };
          refused = λ unwritten. absurd (true≢false (sym (written free) ∙ unwritten));
          last = λ unwritten. absurd (true≢false (sym (written free) ∙ unwritten));
          none = λ unwritten. absurd (true≢false (sym (written free) ∙ unwritten));
        })) (stays_whole after (Ok size) new second wrote Done at (λ failed. absurd (true≢false (sym failed)))) (record {
          cleared = clears_none names state instruction (ended Done at) old new (cleared_by after (Ok size) new second wrote (never_failed size)) (moved_by after (Ok size) new second wrote);
          modes = modes_by after (Ok size) new second wrote;
          mode = λ took. mode_by size after new second wrote;
        })
        (reply_to ∙ line_is free Done size (bytes_left after (Ok size) new second wrote).0 ∙ replied_done at)
        (fits_by after new.folder Done at true (written free) wrote.fits)
        (works_runs names (Some (EditedFile write)) (IsUnderWay names under (Some (EditedFile write))) AtMoment old new (written_frame after (Ok size) new second wrote) (lead false) runs)
        (has_left after (Ok size) new second wrote false (λ e. absurd (true≢false (sym e)))) (whole_by false new.folder runs.now) (written_rises after (Ok size) new second wrote) (λ e. absurd (true≢false (sym e)))
