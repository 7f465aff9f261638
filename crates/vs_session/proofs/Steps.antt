-- One step of a session, as the run sees it: what its sync and its command do, one after the other.
use Rattle.std.proofs.Common.{◌≡◌, inl, inr, ℕ, ◌≤◌, Bool, true, false, cond, ◌&&◌, ◌||◌, not, length, List, ◌∷◌, Option, Some, None, Result, Ok, Err, OnOk, OnErr, IsErr, IsTrue, is_ok, refl, sym, ◌∙◌, ap, subst, arith}
use Rattle.std.specs.Str.{bytes_eq}
use Rattle.std.proofs.lemmas.Bool.{true≢false, cases_Bool}
use Rattle.vs_faults.specs.Faults.{HasCause, HasRisen}
use Rattle.vs_host.specs.Disk.{Disk, Name, mode_in}
use Rattle.vs_host.specs.Trace.{Snapshot}
use Rattle.vs_host.specs.World.{Scene, Tells, ChangesFolder, ChangesClock, ReadsFolder}
use Rattle.vs_host.specs.declared.names.Names.{Names}
use Rattle.vs_disk.specs.Names.{SameAt}
use Rattle.vs_disk.specs.Runs.{FailsLast, Inside, Runs, Looks, Quiet}
use Rattle.vs_disk.proofs.Runs.{goes_then, goes_weaker, reads_change, runs_as}
use Rattle.vs_disk.proofs.Others.{same_none, same_then}
use Rattle.vs_pair.specs.Pair.{Rises, is_swap, is_apart, is_foreign}
use Rattle.vs_backup.specs.Desks.{StopsAtFault}
use Rattle.vs_pair.proofs.MadeFiles.{same_weaker}
use Rattle.vs_exparse.specs.Command.Command.{Write as WriteFile, WriteUndo, ReadUndo}
use Rattle.vs_excmd.specs.Request.{Instruction}
use Rattle.vs_machine.specs.Machine as machine
use Rattle.vs_machine.specs.Machine.{is_done, took_effect, current_of}
use Rattle.vs_machine.specs.Replies.{Answer, refuses, device_fault}
use Rattle.vs_machine.specs.declared.command.Mark.{Mark}
use Rattle.vs_machine.specs.declared.command.Outcome.{Outcome}
use Rattle.vs_machine.specs.declared.command.Outcome.TheVariants.{Fault, NoUndo}
use Rattle.vs_safety.specs.Texts.{Sync, IsBetween, IsFlag, Recovers, RecoversOrNone, begun, recoverable}
use Rattle.vs_safety.specs.Turns.{Turn, with_sync, last_turn}
use Rattle.vs_safety.specs.FileWork.{FileWork}
use Rattle.vs_safety.specs.Safety.{Spares, Works, IsUnderWay, Stepped}
use Rattle.vs_options.specs.declared.setting.Options.{Options}
use Rattle.vs_undo.specs.History.{History}
use Rattle.vs_paged.specs.Fits as folder
use Rattle.vs_paged.proofs.SyncLemmas.{fits_between, fits_recovers}
use Rattle.vs_session.specs.declared.session.Session.{Session}
use Rattle.vs_session.specs.declared.session.Step.{Step}
use Rattle.vs_session.specs.declared.session.Step.TheVariants as steps
use Rattle.vs_session.specs.declared.taking.TakeErr.{TakeErr}
use Rattle.vs_session.specs.declared.taking.TakeErr.TheVariants as take
use Rattle.vs_session.specs.Session.{SessionState, Ended, HasFound, accepts_quit, after_sync, answered, begins_after, begins_sync, carried, history_by, history_taken, is_fault, is_rundo, is_write, is_wundo, lacks_name, own_reply, reply_of, session_reply, state_after, stores_both, sync_in, sync_of, undo_work, uses_files, with_history, work_of, write_work, writes_files, written_state, has_written, document_in}
use Rattle.vs_session.specs.Fits.{Answers, Fits, HasSyncs, IsStep, Leaves, names_of}
use Rattle.vs_session.specs.Made.{LeavesNoneMade, StaysMoved}
use Rattle.vs_session.specs.Failures.{FailsOnce}
use Rattle.vs_session.specs.Wholeness.{StaysWhole}
use Rattle.vs_session.specs.Modes.{OnlyPrivate}
use Rattle.vs_session.proofs.Cleared.{cleared_same, cleared_synced, cleared_then, clears_none, moved_apart, moved_looks, moved_then}
use Rattle.vs_session.proofs.Modes.{LeavesFiles, leaves_looked, mode_looks, mode_synced, modes_looks, modes_private, modes_then}
use Rattle.vs_session.proofs.Failing.{once_after, once_stops, once_unwritten, quiet_clock}
use Rattle.vs_session.proofs.SessionLemmas.{counted_same}
use Rattle.vs_session.proofs.Wholeness.{whole_clock, whole_unbegun}

-- ---- work on the folder

pub inside_new : (old new : Scene) (P : Disk → Type 0) → ChangesFolder old new → (m : Snapshot) → Inside old P m → Inside new P m
inside_new old new P frame m inside = record {
  output = inside.output ∙ sym (ap (λ (s : Scene). s.output) frame);
  answered = inside.answered ∙ sym (ap (λ (s : Scene). length s.answers) frame);
  script_faults = inside.script_faults ∙ sym (ap (λ (s : Scene). s.script_faults) frame);
  out_faults = inside.out_faults ∙ sym (ap (λ (s : Scene). s.out_faults) frame);
  folder = inside.folder;
}

inside_as : (start : Scene) (P Q : Disk → Type 0) → ((d : Disk) → P d → Q d) → (m : Snapshot) → Inside start P m → Inside start Q m
inside_as start P Q leads m inside = record { output = inside.output; answered = inside.answered; script_faults = inside.script_faults; out_faults = inside.out_faults; folder = leads m.folder inside.folder }

pub works_runs : (names : Names) (work : Option FileWork) (P : Disk → Type 0) (step : Disk → Disk → Type 0) (old new : Scene) → ChangesFolder old new → ((d : Disk) → step old.folder d → Spares names work P old.folder d)
    → Runs step old new → Works names work P old new
works_runs names work P step old new frame leads runs = record {
  moments = goes_weaker (Inside old (step old.folder)) (Inside new (Spares names work P old.folder))
      (λ m inside. inside_new old new (Spares names work P old.folder) frame m (inside_as old (step old.folder) (Spares names work P old.folder) leads m inside)) old.trace new.trace runs.moments;
  output = ap (λ (s : Scene). s.output) frame;
  spared = (leads new.folder runs.now).spared;
}

pub works_looks : (names : Names) (P : Disk → Type 0) (old new : Scene) → ReadsFolder old new → P old.folder → Looks old new → Works names None P old new
works_looks names P old new frame here looks =
    works_runs names None P (λ a b. b ≡ a) old new (reads_change old new frame)
    (λ d is. subst (λ (e : Disk). Spares names None P old.folder e) (sym is) (record { folder = here; spared = same_none (is_foreign names) old.folder })) looks

pub works_then : (names : Names) (P : Disk → Type 0) (old mid new : Scene) → ChangesFolder mid new → Works names None P old mid → Works names None P mid new → Works names None P old new
works_then names P old mid new frame first second = record {
  moments = goes_then (Inside new (Spares names None P old.folder)) old.trace mid.trace new.trace
      (goes_weaker (Inside mid (Spares names None P old.folder)) (Inside new (Spares names None P old.folder)) (inside_new mid new (Spares names None P old.folder) frame) old.trace mid.trace first.moments)
      (goes_weaker (Inside new (Spares names None P mid.folder)) (Inside new (Spares names None P old.folder))
      (inside_as new (Spares names None P mid.folder) (Spares names None P old.folder) (λ d spares. record { folder = spares.folder; spared = same_then (is_foreign names) old.folder mid.folder d first.spared spares.spared }))
      mid.trace new.trace second.moments);
  output = second.output ∙ first.output;
  spared = same_then (is_foreign names) old.folder mid.folder new.folder first.spared second.spared;
}

-- all names but those of the pair are no swap files
pub apart_foreign : (names : Names) (name : Name) → is_foreign names name ≡ true → is_apart names name ≡ true
apart_foreign names name foreign = elim (cases_Bool (is_swap names name)) [
  | inl swap ↦ absurd (true≢false (sym foreign ∙ ap (λ (b : Bool). not (b || (bytes_eq names.swp_new name || bytes_eq names.swo_new name))) swap))
  | inr apart ↦ ap not apart
]

pub spares_apart : (names : Names) (old new : Disk) → SameAt (is_apart names) old new → SameAt (is_foreign names) old new
spares_apart names old new same = same_weaker (is_apart names) (is_foreign names) old new (apart_foreign names) same

-- ---- flags and faults

pub flag_true : (names : Names) (done : Bool) (old new : Disk) → Rises names old new → IsFlag names done old new true
flag_true names done old new rises = record { if_done = λ _. refl; rises = λ _ _. rises; if_rises = λ _ _. refl }

pub flag_false : (names : Names) (old new : Disk) → (Rises names old new → ⊥) → IsFlag names false old new false
flag_false names old new none = record { if_done = λ is. absurd (true≢false (sym is)); rises = λ _ is. absurd (true≢false (sym is)); if_rises = λ _ rises. absurd (none rises) }

pub risen_since : (a b c : ℕ) → a ≤ b → HasRisen b c → HasRisen a c
risen_since a b c le (inl less) = inl (omega (arith, le, less))
risen_since a b c le (inr full) = inr full

pub risen_until : (a b c : ℕ) → HasRisen a b → b ≤ c → HasRisen a c
risen_until a b c (inl less) le = inl (omega (arith, le, less))
risen_until a b c (inr full) le = inr (omega (arith, le, full))

pub between_synced : (names : Names) (session : Session) (disk : Disk) (state : SessionState) (syncs : List Sync) → names_of session ≡ names → Fits session disk state syncs → IsBetween names syncs disk
between_synced names session disk state syncs is fits = subst (λ (n : Names). IsBetween n syncs disk) is (fits_between session.text disk state.machine.text syncs fits.stands.text)

pub recovers_synced : (names : Names) (session : Session) (disk : Disk) (state : SessionState) (syncs : List Sync) → names_of session ≡ names → Fits session disk state syncs → Recovers names (recoverable syncs) disk
recovers_synced names session disk state syncs is fits = subst (λ (n : Names). Recovers n (recoverable syncs) disk) is (fits_recovers session.text disk state.machine.text syncs fits.stands.text)

-- no write is under way
pub no_write : (names : Names) (syncs : List Sync) (disk : Disk) → Recovers names (recoverable syncs) disk → IsUnderWay names syncs None disk
no_write names syncs disk recovers = record { recovers = recovers; whole = tt }

-- the syncs while the document of this state is synced
abbrev pub under_sync : SessionState → List Sync → List Sync
under_sync state syncs = begun (document_in state) (sync_in state false).dirty ∷ syncs

-- while the text is synced
pub synced_works : (names : Names) (session : Session) (old new : Scene) (state : SessionState) (syncs : List Sync) → names_of session ≡ names → Fits session old.folder state syncs → ChangesFolder old new
    → Runs (folder.Syncing session.text session.options.write.format) old new → Works names None (IsUnderWay names (under_sync state syncs) None) old new
synced_works names session old new state syncs is fits frame runs =
    subst (λ (n : Names). Works n None (IsUnderWay n (under_sync state syncs) None) old new) is
    (works_runs (names_of session) None (IsUnderWay (names_of session) (under_sync state syncs) None) (folder.Syncing session.text session.options.write.format) old new frame
    (λ d syncing. record {
      folder = no_write (names_of session) (under_sync state syncs) d
          (subst (λ (o : Options). Recovers (names_of session) (record { text = state.machine.text; format = o.write.format } ∷ recoverable syncs) d) fits.options (syncing.safe state.machine.text syncs fits.stands.text));
      spared = spares_apart (names_of session) old.folder d (syncing.spared state.machine.text syncs fits.stands.text);
    }) runs)

-- after a sync that was acknowledged, before anything else
pub recovers_under : (before between : Session) (state : SessionState) (syncs : List Sync) (disk : Disk) → names_of between ≡ names_of before → Fits between disk (after_sync state true) (sync_in state true ∷ syncs)
    → Recovers (names_of before) (recoverable (under_sync state syncs)) disk
recovers_under before between state syncs disk same synced image whole =
    let given = recovers_synced (names_of before) between disk (after_sync state true) (sync_in state true ∷ syncs) same synced image whole in
    (given.0, elim given.1 [ inl is ↦ inl is | inr none ↦ absurd none ], given.2)

here_synced : (before between : Session) (state : SessionState) (syncs : List Sync) (disk : Disk) → names_of between ≡ names_of before → Fits between disk (after_sync state true) (sync_in state true ∷ syncs)
    → IsUnderWay (names_of before) (under_sync state syncs) None disk
here_synced before between state syncs disk same synced =
    no_write (names_of before) (under_sync state syncs) disk (recovers_under before between state syncs disk same synced)

abbrev under_way : Session → SessionState → List Sync → Disk → Type 0
under_way before state syncs disk = IsUnderWay (names_of before) (under_sync state syncs) None disk

-- a sync that was acknowledged, and calls after it that only look at the folder
pub looked_synced : (before after : Session) (state : SessionState) (syncs : List Sync) (then : SessionState) (done failed : Bool) (reply : List ℕ) (old mid new : Scene) → Fits before old.folder state syncs
    → (between : Session) → names_of between ≡ names_of before → names_of after ≡ names_of before → ChangesFolder old mid
    → Runs (folder.Syncing before.text before.options.write.format) old mid → Rises (names_of before) old.folder mid.folder → Fits between mid.folder (after_sync state true) (sync_in state true ∷ syncs)
    → new.folder ≡ mid.folder → ChangesFolder mid new → Looks mid new → (failed ≡ true → HasRisen old.folder_faults new.folder_faults) → Fits after new.folder then (sync_in state true ∷ syncs)
    → Stepped (names_of before) syncs (record { found = Some old.folder; sync = Some (sync_in state true); write = None; done = done; failed = failed; reply = reply }) old new
looked_synced before after state syncs then done failed reply old mid new fits between same names frame runs rises synced stays second looks cause now = record {
  works = works_then (names_of before) (under_way before state syncs) old mid new second (synced_works (names_of before) before old mid state syncs refl fits frame runs)
      (works_runs (names_of before) None (under_way before state syncs) (λ a b. b ≡ a) mid new second
      (λ d is. subst (λ (e : Disk). Spares (names_of before) None (under_way before state syncs) mid.folder e) (sym is) (record { folder = here_synced before between state syncs mid.folder same synced; spared = same_none (is_foreign (names_of before)) mid.folder })) looks);
  found = refl;
  wrote = tt;
  whole = tt;
  flag = flag_true (names_of before) done old.folder new.folder (subst (λ (d : Disk). Rises (names_of before) old.folder d) (sym stays) rises);
  cause = cause;
  between = between_synced (names_of before) after new.folder then (sync_in state true ∷ syncs) names now;
}

-- ---- one command

and_false : (b : Bool) → (b && false) ≡ false
and_false true = refl
and_false false = refl

-- a command that neither writes nor reads another file is answered by the session, or by the machine
plain_reply : (state : SessionState) (outcome : Outcome) (found : Disk) (read : Result History TakeErr) (parsed : _) → uses_files parsed ≡ false → own_reply parsed ≡ session_reply state outcome found read parsed
plain_reply state outcome found read (Ok (WriteFile bang)) none = absurd (true≢false none)
plain_reply state outcome found read (Ok WriteUndo) none = absurd (true≢false none)
plain_reply state outcome found read (Ok ReadUndo) none = absurd (true≢false none)
plain_reply state outcome found read parsed none = refl

none_left : (a b : Bool) → (a || b) ≡ false → a ≡ false
none_left true b none = none
none_left false b none = refl

none_right : (a b : Bool) → (a || b) ≡ false → b ≡ false
none_right true b none = absurd (true≢false none)
none_right false b none = none

pub plain_write : (parsed : _) → uses_files parsed ≡ false → is_write parsed ≡ false
plain_write parsed plain = none_left (is_write parsed) (is_wundo parsed) (none_left (writes_files parsed) (is_rundo parsed) plain)

plain_read : (parsed : _) → uses_files parsed ≡ false → is_rundo parsed ≡ false
plain_read parsed plain = none_right (writes_files parsed) (is_rundo parsed) plain

plain_work : (state : SessionState) (found : Disk) (parsed : _) → uses_files parsed ≡ false → undo_work state found parsed ≡ None
plain_work state found (Ok WriteUndo) plain = absurd (true≢false plain)
plain_work state found parsed plain = refl

-- `wundo` begins no sync
begun_work : (steps : ℕ) (state : SessionState) (found : Disk) (parsed : _) → begins_after steps parsed ≡ true → undo_work state found parsed ≡ None
begun_work steps state found (Ok WriteUndo) begun = absurd (true≢false (sym begun ∙ and_false _))
begun_work steps state found parsed begun = refl

-- nor does `rundo`
begun_read : (steps : ℕ) (parsed : _) → begins_after steps parsed ≡ true → is_rundo parsed ≡ false
begun_read steps (Ok ReadUndo) begun = absurd (true≢false (sym begun ∙ and_false _))
begun_read steps parsed begun = refl

-- ---- the names under which files are made

-- calls on the swap files alone
pub synced_none : (session : Session) (old new : Scene) (state : SessionState) (syncs : List Sync) → Fits session old.folder state syncs → Runs (SameAt (is_apart (names_of session))) old new
    → LeavesNoneMade old.folder new.folder × StaysMoved (names_of session) old new
synced_none session old new state syncs fits runs = (
  cleared_synced (names_of session) fits.stands.text.fit.named old.folder new.folder runs.now,
  moved_apart (names_of session) fits.stands.text.fit.named old new
      (goes_weaker (Inside old (SameAt (is_apart (names_of session)) old.folder)) (λ m. SameAt (is_apart (names_of session)) old.folder m.folder) (λ m inside. inside.folder) old.trace new.trace runs.moments) runs.now,
)

-- ---- no other command takes a history

-- what is kept of a command that does not read the undo file
abbrev pub unread : Result History TakeErr
unread = Err take.NoFile

no_history_by : (done : Bool) (parsed : _) (read : Result History TakeErr) → is_rundo parsed ≡ false → cond done (history_by parsed read) None ≡ None
no_history_by false parsed read none = refl
no_history_by true (Ok ReadUndo) read none = absurd (true≢false none)
no_history_by true parsed read none = refl

pub no_history : (instruction : Instruction) (ended : Ended) → is_rundo instruction.parsed ≡ false → history_taken instruction ended ≡ None
no_history instruction ended none = no_history_by (is_done ended.mark.outcome) instruction.parsed ended.read none

pub untaken : (session : Session) (disk : Disk) (state : SessionState) (syncs : List Sync) (instruction : Instruction) (ended : Ended) → is_rundo instruction.parsed ≡ false → Fits session disk state syncs
    → Fits session disk (with_history (history_taken instruction ended) state) syncs
untaken session disk state syncs instruction ended none fits = subst (λ (o : Option History). Fits session disk (with_history o state) syncs) (sym (no_history instruction ended none)) fits

module _ (state : SessionState) (syncs : List Sync) (instruction : Instruction) (before : Session) (old : Scene) (goes_on : accepts_quit state instruction ≡ false) (fits : Fits before old.folder state syncs) where
  abbrev begins : Bool
  begins = begins_sync state instruction

  abbrev writes : Bool
  writes = is_write instruction.parsed

  abbrev ended_with : Mark → Bool → Ended
  ended_with mark acknowledged = record { mark = mark; acknowledged = acknowledged; found = old.folder; read = unread }

  abbrev lacks : Bool
  lacks = lacks_name state.options.write state.name old.folder

  -- the answer, by the sync and the write that the command began, and by what it read
  pub assemble_read : (after : Session) (mark : Mark) (acknowledged : Bool) (read : Result History TakeErr) (reply : Answer) (new : Scene) (sync : Option Sync) (write : Option FileWork)
      → let ended : Ended = record { mark = mark; acknowledged = acknowledged; found = old.folder; read = read } in
      HasFound state instruction ended → FailsOnce (names_of before) state instruction ended old new → StaysWhole (names_of before) state instruction ended old new → LeavesFiles (names_of before) state instruction ended old new → sync_of state instruction ended ≡ sync → work_of state instruction ended ≡ write → reply ≡ reply_of state instruction ended
      → Fits after new.folder (state_after state instruction ended) (with_sync sync syncs)
      → Stepped (names_of before) syncs (record { found = Some old.folder; sync = sync; write = write; done = took_effect mark.outcome; failed = is_fault mark.outcome; reply = (reply_of state instruction ended).bytes }) old new
      → Answers state syncs instruction before after mark reply old new
  assemble_read after mark acknowledged read reply new sync write found calls whole files sync_is write_is replied now stepped =
      let ended : Ended = record { mark = mark; acknowledged = acknowledged; found = old.folder; read = read } in
      record {
        not_quit = goes_on;
        ended = ended;
        mark_is = refl;
        found = found;
        reply_is = replied;
        fits = subst (λ (o : Option Sync). Fits after new.folder (state_after state instruction ended) (with_sync o syncs)) (sym sync_is) now;
        stepped = subst (λ (t : Turn). Stepped (names_of before) syncs t old new)
            (λ i. record { found = Some old.folder; sync = sym sync_is i; write = sym write_is i; done = took_effect mark.outcome; failed = is_fault mark.outcome; reply = (reply_of state instruction ended).bytes }) stepped;
        calls = calls;
        whole = whole;
        cleared = files.cleared;
        modes = files.modes;
        mode = files.mode;
      }

  -- that of a command which reads no undo file
  pub assemble : (after : Session) (mark : Mark) (acknowledged : Bool) (reply : Answer) (new : Scene) (sync : Option Sync) (write : Option FileWork) → is_rundo instruction.parsed ≡ false
      → (mark.outcome ≡ NoUndo → stores_both state instruction (ended_with mark acknowledged) ≡ true) → FailsOnce (names_of before) state instruction (ended_with mark acknowledged) old new → StaysWhole (names_of before) state instruction (ended_with mark acknowledged) old new → LeavesFiles (names_of before) state instruction (ended_with mark acknowledged) old new → sync_of state instruction (ended_with mark acknowledged) ≡ sync → work_of state instruction (ended_with mark acknowledged) ≡ write → reply ≡ reply_of state instruction (ended_with mark acknowledged)
      → Fits after new.folder (state_after state instruction (ended_with mark acknowledged)) (with_sync sync syncs)
      → Stepped (names_of before) syncs (record { found = Some old.folder; sync = sync; write = write; done = took_effect mark.outcome; failed = is_fault mark.outcome; reply = (reply_of state instruction (ended_with mark acknowledged)).bytes }) old new
      → Answers state syncs instruction before after mark reply old new
  assemble after mark acknowledged reply new sync write none both calls whole files sync_is write_is replied now stepped =
      assemble_read after mark acknowledged unread reply new sync write (record { read = λ reads. absurd (true≢false (sym reads ∙ none)); unstored = both }) calls whole files sync_is write_is replied now stepped

  -- a sync leaves no file under a name under which files are made
  synced_clears : (new : Scene) → Runs (folder.Syncing before.text before.options.write.format) old new → LeavesNoneMade old.folder new.folder × StaysMoved (names_of before) old new
  synced_clears new runs = synced_none before old new state syncs fits (runs_as (folder.Syncing before.text before.options.write.format) (SameAt (is_apart (names_of before))) old new (λ d inside. inside.spared state.machine.text syncs fits.stands.text) runs)

  -- and leaves the mode of the file
  synced_mode : (new : Scene) → Runs (folder.Syncing before.text before.options.write.format) old new → mode_in new.folder (names_of before).file ≡ mode_in old.folder (names_of before).file
  synced_mode new runs = mode_synced (names_of before) fits.stands.text.fit.named old.folder new.folder (runs.now.spared state.machine.text syncs fits.stands.text)

  sync_is : (b : Bool) (mark : Mark) (acknowledged : Bool) → begins ≡ b → sync_of state instruction (ended_with mark acknowledged) ≡ cond b (Some (sync_in state acknowledged)) None
  sync_is b mark acknowledged is = ap (λ (c : Bool). cond c (Some (sync_in state acknowledged)) None) is

  -- a command that neither writes nor reads another file
  module _ (plain : uses_files instruction.parsed ≡ false) where
    no_file : (mark : Mark) (acknowledged : Bool) → work_of state instruction (ended_with mark acknowledged) ≡ None
    no_file mark acknowledged =
        ap (λ (w : Bool). cond ((w && acknowledged) && not lacks) (Some (write_work state old.folder)) (undo_work state old.folder instruction.parsed)) (plain_write instruction.parsed plain)
        ∙ plain_work state old.folder instruction.parsed plain

    unwritten : (mark : Mark) (acknowledged : Bool) → has_written state instruction (ended_with mark acknowledged) ≡ false
    unwritten mark acknowledged = ap (λ (w : Bool). ((w && acknowledged) && not lacks) && took_effect mark.outcome) (plain_write instruction.parsed plain)

    unbegun : (mark : Mark) (acknowledged : Bool) (new : Scene) → StaysWhole (names_of before) state instruction (ended_with mark acknowledged) old new
    unbegun mark acknowledged new =
        whole_unbegun (names_of before) state instruction (ended_with mark acknowledged) old new (ap (λ (w : Bool). (w && acknowledged) && not lacks) (plain_write instruction.parsed plain))

    plainly : (after : Session) (mark : Mark) (acknowledged : Bool) (new : Scene) (b : Bool) (ss : List Sync) → begins ≡ b → Fits after new.folder (carried (after_sync state (b && acknowledged)) instruction mark) ss
        → Fits after new.folder (state_after state instruction (ended_with mark acknowledged)) ss
    plainly after mark acknowledged new b ss is now =
        let synced : SessionState = after_sync state (begins && acknowledged) in
        subst (λ (w : Bool). Fits after new.folder (cond (((w && acknowledged) && not lacks) && took_effect mark.outcome) (written_state synced) (with_history (history_taken instruction (ended_with mark acknowledged)) (carried synced instruction mark))) ss) (sym (plain_write instruction.parsed plain))
        (untaken after new.folder (carried synced instruction mark) ss instruction (ended_with mark acknowledged) (plain_read instruction.parsed plain)
        (subst (λ (c : Bool). Fits after new.folder (carried (after_sync state (c && acknowledged)) instruction mark) ss) (sym is) now))

    replied_plainly : (mark : Mark) (acknowledged : Bool) (reply : Answer) → reply ≡ answered mark.outcome (own_reply instruction.parsed) (machine.reply_of state.machine instruction mark)
        → reply ≡ reply_of state instruction (ended_with mark acknowledged)
    replied_plainly mark acknowledged reply is =
        is ∙ ap (λ (o : Option Answer). answered mark.outcome o (machine.reply_of state.machine instruction mark)) (plain_reply state mark.outcome old.folder unread instruction.parsed plain)

    -- no sync
    pub answers_plainly : (tells : Tells) → IsTrue tells.folder → (after : Session) (mark : Mark) (reply : Answer) (new : Scene) → (mark.outcome ≡ NoUndo → ⊥) → begins ≡ false → names_of after ≡ names_of before → ReadsFolder old new → Looks old new
        → StopsAtFault tells (is_fault mark.outcome ≡ true) old new → HasCause old.folder_faults new.folder_faults (is_fault mark.outcome ≡ true) → reply ≡ answered mark.outcome (own_reply instruction.parsed) (machine.reply_of state.machine instruction mark)
        → Fits after new.folder (carried state instruction mark) syncs → Answers state syncs instruction before after mark reply old new
    answers_plainly tells told after mark reply new stored none names frame looks stops cause replied now =
        assemble after mark false reply new None None (plain_read instruction.parsed plain) (λ is. absurd (stored is))
        (once_stops (names_of before) state instruction (ended_with mark false) tells old new told (unwritten mark false) stops) (unbegun mark false new) (leaves_looked (names_of before) fits.stands.text.fit.named state instruction (ended_with mark false) old new looks) (sync_is false mark false none) (no_file mark false) (replied_plainly mark false reply replied) (plainly after mark false new false syncs none now)
        (record {
          works = works_looks (names_of before) (IsUnderWay (names_of before) syncs None) old new frame
              (no_write (names_of before) syncs old.folder (recovers_synced (names_of before) before old.folder state syncs refl fits)) looks;
          found = refl;
          wrote = tt;
          whole = tt;
          flag = tt;
          cause = cause.risen;
          between = between_synced (names_of before) after new.folder (carried state instruction mark) syncs names now;
        })

    -- a sync that was acknowledged, and the command after it
    pub answers_synced : (tells : Tells) → IsTrue tells.folder → (between after : Session) (mark : Mark) (reply : Answer) (mid new : Scene) → (mark.outcome ≡ NoUndo → ⊥) → begins ≡ true → names_of between ≡ names_of before → names_of after ≡ names_of before → ChangesFolder old mid
        → Runs (folder.Syncing before.text before.options.write.format) old mid → OnlyPrivate old mid → Quiet old mid → old.folder_faults ≤ mid.folder_faults → Rises (names_of before) old.folder mid.folder → Fits between mid.folder (after_sync state true) (sync_in state true ∷ syncs)
        → ReadsFolder mid new → Looks mid new → StopsAtFault tells (is_fault mark.outcome ≡ true) mid new → HasCause mid.folder_faults new.folder_faults (is_fault mark.outcome ≡ true)
        → reply ≡ answered mark.outcome (own_reply instruction.parsed) (machine.reply_of state.machine instruction mark)
        → Fits after new.folder (carried (after_sync state true) instruction mark) (sync_in state true ∷ syncs) → Answers state syncs instruction before after mark reply old new
    answers_synced tells told between after mark reply mid new stored begun same names frame runs private quiet later rises synced second looks stops cause replied now =
        assemble after mark true reply new (Some (sync_in state true)) None (plain_read instruction.parsed plain) (λ is. absurd (stored is))
        (let ended = ended_with mark true in once_after (names_of before) state instruction ended old mid new quiet (once_stops (names_of before) state instruction ended tells mid new told (unwritten mark true) stops))
        (unbegun mark true new)
        (record {
          cleared = clears_none (names_of before) state instruction (ended_with mark true) old new
              (cleared_then old.folder mid.folder new.folder (synced_clears mid runs).0 (cleared_same mid.folder new.folder looks.now))
              (moved_then (names_of before) fits.stands.text.fit.named old mid new (synced_clears mid runs).1 (moved_looks (names_of before) fits.stands.text.fit.named mid new looks));
          modes = modes_then (names_of before).file instruction old mid new (λ there. synced_mode mid runs) (modes_private (names_of before).file instruction old mid private)
              (modes_looks (names_of before).file instruction mid new looks);
          mode = λ written there. mode_looks (names_of before).file mid new looks ∙ synced_mode mid runs;
        }) (sync_is true mark true begun) (no_file mark true) (replied_plainly mark true reply replied) (plainly after mark true new true (sync_in state true ∷ syncs) begun now)
        (looked_synced before after state syncs (carried (after_sync state true) instruction mark) (took_effect mark.outcome) (is_fault mark.outcome) (reply_of state instruction (ended_with mark true)).bytes old mid new fits between same names frame runs rises synced
        (ap (λ (s : Scene). s.folder) second) (reads_change mid new second) looks (λ failed. risen_since old.folder_faults mid.folder_faults new.folder_faults later (cause.risen failed)) now)

  -- a sync that failed
  pub answers_failed : (after : Session) (at : ℕ) (reply : Answer) (new : Scene) → begins ≡ true → names_of after ≡ names_of before → ChangesFolder old new → Runs (folder.Syncing before.text before.options.write.format) old new → OnlyPrivate old new → FailsLast old new
      → HasRisen old.folder_faults new.folder_faults → reply ≡ refuses device_fault → (Rises (names_of before) old.folder new.folder → ⊥) → Fits after new.folder state (sync_in state false ∷ syncs)
      → Answers state syncs instruction before after (record { outcome = Fault; at = at }) reply old new
  answers_failed after at reply new begun names frame runs private last risen replied none now =
      assemble after mark false reply new (Some (sync_in state false)) None (begun_read state.steps instruction.parsed begun) (λ is. absurd (cc))
      (once_unwritten (names_of before) state instruction (ended_with mark false) old new (and_false _) last (λ calm. absurd (true≢false calm)))
      (whole_unbegun (names_of before) state instruction (ended_with mark false) old new (ap (λ (w : Bool). w && not lacks) (and_false writes))) (record {
        cleared = clears_none (names_of before) state instruction (ended_with mark false) old new (synced_clears new runs).0 (synced_clears new runs).1;
        modes = modes_private (names_of before).file instruction old new private;
        mode = λ written there. synced_mode new runs;
      }) (sync_is true mark false begun)
      (ap (λ (w : Bool). cond (w && not lacks) (Some (write_work state old.folder)) (undo_work state old.folder instruction.parsed)) (and_false writes)
      ∙ begun_work state.steps state old.folder instruction.parsed begun) replied stays
      (record {
        works = synced_works (names_of before) before old new state syncs refl fits frame runs;
        found = refl;
        wrote = tt;
        whole = tt;
        flag = flag_false (names_of before) old.folder new.folder none;
        cause = λ _. risen;
        between = between_synced (names_of before) after new.folder state (sync_in state false ∷ syncs) names now;
      })
    where
      mark : Mark
      mark = record { outcome = Fault; at = at }

      carried_on : Fits after new.folder (carried state instruction mark) (sync_in state false ∷ syncs)
      carried_on = record {
        stands = now.stands;
        name = now.name;
        cursor = now.cursor;
        saved = now.saved;
        saved_format = now.saved_format;
        steps = now.steps ∙ sym (counted_same state.steps (current_of state.machine));
        options = now.options;
        acknowledged = now.acknowledged;
      }

      stays : Fits after new.folder (state_after state instruction (ended_with mark false)) (sync_in state false ∷ syncs)
      stays =
          subst (λ (w : Bool). Fits after new.folder (cond ((w && not lacks) && false) (written_state (after_sync state (begins && false))) (carried (after_sync state (begins && false)) instruction mark)) (sync_in state false ∷ syncs)) (sym (and_false writes))
          (subst (λ (c : Bool). Fits after new.folder (carried (after_sync state (c && false)) instruction mark) (sync_in state false ∷ syncs)) (sym begun) carried_on)

-- ---- the clock before it

pub answers_from : (state : SessionState) (syncs : List Sync) (instruction : Instruction) (before after : Session) (mark : Mark) (reply : Answer) (old mid new : Scene) → ChangesClock old mid
    → Answers state syncs instruction before after mark reply mid new → Answers state syncs instruction before after mark reply old new
answers_from state syncs instruction before after mark reply old mid new clock is =
    let now : Answers state syncs instruction before after mark reply (record old { answers = mid.answers }) new =
    subst (λ (s : Scene). Answers state syncs instruction before after mark reply s new) clock is in
    record {
      not_quit = now.not_quit;
      ended = now.ended;
      mark_is = now.mark_is;
      found = now.found;
      reply_is = now.reply_is;
      fits = now.fits;
      stepped = record {
        works = record { moments = now.stepped.works.moments; output = now.stepped.works.output; spared = now.stepped.works.spared };
        found = now.stepped.found;
        flag = now.stepped.flag;
        wrote = now.stepped.wrote;
        whole = now.stepped.whole;
        cause = now.stepped.cause;
        between = now.stepped.between;
      };
      calls = once_after (names_of before) state instruction now.ended old (record old { answers = mid.answers }) new (quiet_clock old mid.answers) now.calls;
      whole = whole_clock (names_of before) state instruction now.ended old mid.answers new now.whole;
      cleared = record { left = now.cleared.left; moved = now.cleared.moved };
      modes = record { each = λ allowed owner given. now.modes.each allowed owner given };
      mode = now.mode;
    }

-- ---- the end of a session leaves no file under a name under which files are made

pub last_clears : (session : Session) (old new : Scene) (fits : (state : SessionState) × (syncs : List Sync) × Fits session old.folder state syncs) → Runs (folder.Syncing session.text session.options.write.format) old new
    → LeavesNoneMade old.folder new.folder × StaysMoved (names_of session) old new
last_clears session old new fits runs =
    synced_none session old new fits.0 fits.1 fits.2 (runs_as (folder.Syncing session.text session.options.write.format) (SameAt (is_apart (names_of session))) old new (λ d inside. inside.spared fits.0.machine.text fits.1 fits.2.stands.text) runs)

pub end_clears : (session : Session) (old new : Scene) (fits : (state : SessionState) × (syncs : List Sync) × Fits session old.folder state syncs) → Runs (folder.Ending session.text) old new
    → LeavesNoneMade old.folder new.folder × StaysMoved (names_of session) old new
end_clears session old new fits runs =
    synced_none session old new fits.0 fits.1 fits.2 (runs_as (folder.Ending session.text) (SameAt (is_apart (names_of session))) old new (λ d inside. inside.spared fits.0.machine.text fits.1 fits.2.stands.text) runs)

-- ---- what a call answered

pub when_ok : {T E : Type 0} (result : Result T E) (A : Type 0) → is_ok result ≡ true → OnOk result A → A
when_ok (Ok value) A ok a = a
when_ok (Err why) A ok a = absurd (true≢false (sym ok))

pub when_err : {T E : Type 0} (result : Result T E) (A : Type 0) → is_ok result ≡ false → OnErr result A → A
when_err (Ok value) A not_ok a = absurd (true≢false not_ok)
when_err (Err why) A not_ok a = a

pub unless_err : {T E : Type 0} (result : Result T E) (A : Type 0) → ¬ IsErr result → OnOk result A → A
unless_err (Ok value) A done a = a
unless_err (Err why) A done a = absurd (done refl)

pub not_ok : {T E : Type 0} (result : Result T E) → is_ok result ≡ false → IsErr result
not_ok (Ok value) is = absurd (true≢false is)
not_ok (Err why) is = refl

-- ---- the last sync

module _ (names : Names) (session : Session) (state : SessionState) (syncs : List Sync) (old new : Scene) (is : names_of session ≡ names) (fits : Fits session old.folder state syncs) (frame : ChangesFolder old new)
    (runs : Runs (folder.Syncing session.text session.options.write.format) old new) where
  last_works : Works names None (IsUnderWay names (under_sync state syncs) None) old new
  last_works = synced_works names session old new state syncs is fits frame runs

  pub last_acknowledged : Rises names old.folder new.folder → IsBetween names (sync_in state true ∷ syncs) new.folder → Stepped names syncs (last_turn (sync_in state true)) old new
  last_acknowledged rises between = record { found = tt; works = last_works; wrote = tt; whole = tt; flag = flag_true names true old.folder new.folder rises; cause = λ no. absurd (true≢false (sym no)); between = between }

  pub last_failed : HasRisen old.folder_faults new.folder_faults → (Rises names old.folder new.folder → ⊥) → IsBetween names (sync_in state false ∷ syncs) new.folder → Stepped names syncs (last_turn (sync_in state false)) old new
  last_failed risen none between = record { found = tt; works = last_works; wrote = tt; whole = tt; flag = flag_false names old.folder new.folder none; cause = λ _. risen; between = between }

pub last_step : {T E : Type 0} (result : Result T E) (session after : Session) (state : SessionState) (syncs : List Sync) (old new : Scene) → names_of after ≡ names_of session → Fits session old.folder state syncs
    → ChangesFolder old new → Runs (folder.Syncing session.text session.options.write.format) old new → HasCause old.folder_faults new.folder_faults (IsErr result) → OnOk result (Rises (names_of session) old.folder new.folder)
    → OnErr result (Rises (names_of session) old.folder new.folder → ⊥) → OnOk result (Fits after new.folder (after_sync state true) (sync_in state true ∷ syncs)) → OnErr result (Fits after new.folder state (sync_in state false ∷ syncs))
    → Stepped (names_of session) syncs (last_turn (sync_in state (is_ok result))) old new
last_step (Ok x) session after state syncs old new same fits frame runs cause rises none ok err =
    last_acknowledged (names_of session) session state syncs old new refl fits frame runs rises (between_synced (names_of session) after new.folder (after_sync state true) (sync_in state true ∷ syncs) same ok)
last_step (Err e) session after state syncs old new same fits frame runs cause rises none ok err =
    last_failed (names_of session) session state syncs old new refl fits frame runs (cause.risen refl) none (between_synced (names_of session) after new.folder state (sync_in state false ∷ syncs) same err)

pub has_syncs : {T E : Type 0} (result : Result T E) (session after : Session) (state : SessionState) (syncs : List Sync) (disk : Disk) → names_of after ≡ names_of session
    → OnOk result (Fits after disk (after_sync state true) (sync_in state true ∷ syncs)) → OnErr result (Fits after disk state (sync_in state false ∷ syncs)) → HasSyncs (names_of session) (sync_in state (is_ok result) ∷ syncs) disk
has_syncs (Ok x) session after state syncs disk same ok err = record { session = after; state = after_sync state true; named = same; fits = ok }
has_syncs (Err e) session after state syncs disk same ok err = record { session = after; state = state; named = same; fits = err }

-- ---- the removal

pub leaves : (session : Session) (state : SessionState) (syncs : List Sync) (old new : Scene) → Fits session old.folder state syncs → ChangesFolder old new → Runs (folder.Ending session.text) old new → Leaves (names_of session) syncs old new
leaves session state syncs old new fits frame runs = record {
  works = works_runs (names_of session) None (RecoversOrNone (names_of session) (recoverable syncs)) (folder.Ending session.text) old new frame
      (λ d ending. record { folder = ending.safe state.machine.text syncs fits.stands.text; spared = spares_apart (names_of session) old.folder d (ending.spared state.machine.text syncs fits.stands.text) }) runs;
  now = runs.now.safe state.machine.text syncs fits.stands.text;
}

-- ---- a step of either answer

pub fits_moved : (session : Session) (was now : Disk) (state : SessionState) (syncs : List Sync) → now ≡ was → Fits session was state syncs → Fits session now state syncs
fits_moved session was now state syncs same fits = subst (λ (d : Disk). Fits session d state syncs) (sym same) fits

pub step_from : (step : Step) (state : SessionState) (syncs : List Sync) (instruction : Instruction) (before after : Session) (old mid new : Scene) → ChangesClock old mid → IsStep step state syncs instruction before after mid new
    → IsStep step state syncs instruction before after old new
step_from (steps.Answer mark reply) state syncs instruction before after old mid new clock is = answers_from state syncs instruction before after mark reply old mid new clock is
step_from steps.Quit state syncs instruction before after old mid new clock is = (is.0, is.1, is.2 ∙ ap (λ (s : Scene). s.trace) clock, is.3 ∙ ap (λ (s : Scene). s.folder) clock, is.4 ∙ ap (λ (s : Scene). s.folder_faults) clock)
