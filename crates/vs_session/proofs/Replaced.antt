-- The answer to `rundo`.
use Rattle.std.proofs.Common.{◌≡◌, ℕ, Bool, true, false, cond, ◌&&◌, not, List, Option, Some, None, Result, Ok, Err, IsTrue, refl, sym, ◌∙◌, ap, subst}
use Rattle.std.proofs.lemmas.Bool.{true≢false}
use Rattle.vs_faults.specs.Faults.{HasCause}
use Rattle.vs_host.specs.Disk.{Disk, content_in}
use Rattle.vs_host.specs.Names.{names_of_file}
use Rattle.vs_host.specs.World.{Scene, Tells, ReadsFolder}
use Rattle.vs_host.specs.declared.names.Names.{Names}
use Rattle.vs_disk.specs.Runs.{Looks}
use Rattle.vs_backup.specs.Desks.{StopsAtFault}
use Rattle.vs_exparse.specs.Command.Command.{ReadUndo}
use Rattle.vs_exparse.specs.declared.command.ExErr.TheVariants.{E492}
use Rattle.vs_excmd.specs.Request.{Instruction}
use Rattle.vs_undo.specs.History.{History, IsHistory}
use Rattle.vs_undo.specs.declared.parts.Parts.{Parts}
use Rattle.vs_options.specs.declared.setting.Options.{Options}
use Rattle.vs_machine.specs.Machine as machine
use Rattle.vs_machine.specs.Machine.{State, is_done, took_effect, current_of}
use Rattle.vs_machine.specs.Machine.Meaning.{Refused}
use Rattle.vs_machine.specs.Replies.{Answer, says, undo_file_read}
use Rattle.vs_machine.specs.declared.command.Mark.{Mark}
use Rattle.vs_machine.specs.declared.command.Outcome.{Outcome}
use Rattle.vs_machine.specs.declared.command.Outcome.TheVariants.{Done, NoMemory, Fault, NoUndo}
use Rattle.vs_safety.specs.Texts.{Sync}
use Rattle.vs_safety.specs.Safety.{IsUnderWay}
use Rattle.vs_session.specs.declared.session.Session.{Session}
use Rattle.vs_session.specs.declared.taking.TakeErr.{TakeErr}
use Rattle.vs_session.specs.declared.taking.TakeErr.TheVariants as take
use Rattle.vs_session.specs.Taken.{IsTaken, outcome_by, taken_reply}
use Rattle.vs_session.specs.Session.{SessionState, Ended, HasFound, after_sync, answered, begins_after, begins_sync, carried, history_by, history_in, history_taken, is_fault, is_rundo, is_saved, is_write, lacks_name, options_after, quits, reply_of, session_reply, state_after, sync_in, undo_work, with_history, work_of, write_work, written_state}
use Rattle.vs_session.specs.Fits.{Answers, Fits, names_of}
use Rattle.vs_session.proofs.Modes.{leaves_looked}
use Rattle.vs_session.proofs.Failing.{once_stops}
use Rattle.vs_session.proofs.Wholeness.{whole_unbegun}
use Rattle.vs_session.proofs.SessionLemmas.{carried_still, saved_is}
use Rattle.vs_session.proofs.Steps.{assemble_read, between_synced, no_write, recovers_synced, works_looks}

-- ---- the command

never_quits : (parsed : _) (saved : Bool) → is_rundo parsed ≡ true → quits parsed saved ≡ false
never_quits (Ok ReadUndo) saved is = refl
never_quits parsed saved is = absurd (true≢false (sym is))

and_false : (b : Bool) → (b && false) ≡ false
and_false true = refl
and_false false = refl

pub begins_none : (steps : ℕ) (parsed : _) → is_rundo parsed ≡ true → begins_after steps parsed ≡ false
begins_none steps (Ok ReadUndo) is = and_false _
begins_none steps parsed is = absurd (true≢false (sym is))

writes_none : (parsed : _) → is_rundo parsed ≡ true → is_write parsed ≡ false
writes_none (Ok ReadUndo) is = refl
writes_none parsed is = absurd (true≢false (sym is))

stores_none : (state : SessionState) (found : Disk) (parsed : _) → is_rundo parsed ≡ true → undo_work state found parsed ≡ None
stores_none state found (Ok ReadUndo) is = refl
stores_none state found parsed is = absurd (true≢false (sym is))

reply_is : (state : SessionState) (outcome : Outcome) (found : Disk) (read : Result History TakeErr) (parsed : _) → is_rundo parsed ≡ true → session_reply state outcome found read parsed ≡ Some (taken_reply read)
reply_is state outcome found read (Ok ReadUndo) is = refl
reply_is state outcome found read parsed is = absurd (true≢false (sym is))

refused : (m : State) (block : _) (parsed : _) → is_rundo parsed ≡ true → machine.meaning_of m parsed block ≡ Refused E492
refused m block (Ok ReadUndo) is = refl
refused m block parsed is = absurd (true≢false (sym is))

options_stay : (options : Options) (outcome : Outcome) (parsed : _) → is_rundo parsed ≡ true → options_after outcome options parsed ≡ options
options_stay options Done (Ok ReadUndo) is = refl
options_stay options Done parsed is = absurd (true≢false (sym is))
options_stay options NoMemory parsed is = refl
options_stay options Fault parsed is = refl
options_stay options NoUndo (Ok ReadUndo) is = refl
options_stay options NoUndo parsed is = absurd (true≢false (sym is))

replied : (read : Result History TakeErr) (m : State) (meaning : machine.Meaning) → taken_reply read ≡ answered (outcome_by read) (Some (taken_reply read)) (machine.reply_by (outcome_by read) m meaning)
replied (Ok history) m meaning = refl
replied (Err take.NoFile) m meaning = refl
replied (Err (take.Unreadable error)) m meaning = refl
replied (Err take.OtherText) m meaning = refl
replied (Err (take.Misfit number)) m meaning = refl
replied (Err take.NoMemory) m meaning = refl
replied (Err take.Failed) m meaning = refl

never_unstored : (read : Result History TakeErr) → outcome_by read ≡ NoUndo → ⊥
never_unstored (Ok history) is = cc
never_unstored (Err take.NoFile) is = cc
never_unstored (Err (take.Unreadable error)) is = cc
never_unstored (Err take.OtherText) is = cc
never_unstored (Err (take.Misfit number)) is = cc
never_unstored (Err take.NoMemory) is = cc
never_unstored (Err take.Failed) is = cc

cond_none : (b : Bool) → cond b None None ≡ history_in (Err take.NoFile)
cond_none true = refl
cond_none false = refl

history_there : (read : Result History TakeErr) → cond (is_done (outcome_by read)) (history_in read) None ≡ history_in read
history_there (Ok history) = refl
history_there (Err error) = cond_none (is_done (outcome_by (Err error)))

taken_by : (read : Result History TakeErr) (parsed : _) → is_rundo parsed ≡ true → history_by parsed read ≡ history_in read
taken_by read (Ok ReadUndo) is = refl
taken_by read parsed is = absurd (true≢false (sym is))

-- ---- the state

-- the session has this history of its text in place of its own
pub fits_replaced : (session after : Session) (undo : Parts) (disk : Disk) (state : SessionState) (syncs : List Sync) (history : History) → Fits session disk state syncs → IsHistory undo state.machine.text history
    → after.text ≡ session.text → after.history ≡ undo → after.name ≡ session.name → after.cursor ≡ session.cursor → after.saved_format ≡ session.saved_format → after.steps ≡ session.steps → after.options ≡ session.options → after.acknowledged ≡ session.acknowledged
    → after.saved ≡ cond (is_saved session.saved session.history.current) (Some undo.current) None → Fits after disk (with_history (Some history) state) syncs
fits_replaced session after undo disk state syncs history fits is text own name cursor saved_format steps options acknowledged saved = record {
  stands = record {
    text = subst (λ t. Rattle.vs_paged.specs.Fits.Fits t disk state.machine.text syncs) (sym text) fits.stands.text;
    history = subst (λ (p : Parts). IsHistory p state.machine.text history) (sym own) is;
  };
  name = ap (λ n. Rattle.std.specs.Prelude.string_bytes n) name ∙ fits.name;
  cursor = cursor ∙ fits.cursor;
  saved = saved ∙ ap (λ (b : Bool). cond b (Some undo.current) None) (saved_is session disk state syncs fits) ∙ ap (λ (n : ℕ). cond (is_saved state.saved (current_of state.machine)) (Some n) None) (ap (λ (p : Parts). p.current) is.links);
  saved_format = saved_format ∙ fits.saved_format;
  steps = steps ∙ fits.steps;
  options = options ∙ fits.options;
  acknowledged = acknowledged ∙ fits.acknowledged;
}

abbrev pub err_taken : {T : Type 0} → TakeErr → Result T TakeErr
err_taken error = Err error

-- the mark of a fault is that of a call that failed
pub failed_taken : (error : TakeErr) (outcome : Outcome) → outcome ≡ outcome_by (Err error) → is_fault outcome ≡ true → error ≡ take.Failed
failed_taken take.NoFile outcome ended fault = absurd (true≢false (sym fault ∙ ap is_fault ended))
failed_taken (take.Unreadable why) outcome ended fault = absurd (true≢false (sym fault ∙ ap is_fault ended))
failed_taken take.OtherText outcome ended fault = absurd (true≢false (sym fault ∙ ap is_fault ended))
failed_taken (take.Misfit number) outcome ended fault = absurd (true≢false (sym fault ∙ ap is_fault ended))
failed_taken take.NoMemory outcome ended fault = absurd (true≢false (sym fault ∙ ap is_fault ended))
failed_taken take.Failed outcome ended fault = refl

-- and only that
pub fault_taken : {T : Type 0} (error : TakeErr) → err_taken {T = T} error ≡ Err take.Failed → is_fault (outcome_by (Err error)) ≡ true
fault_taken take.NoFile failed = absurd (cc)
fault_taken (take.Unreadable why) failed = absurd (cc)
fault_taken take.OtherText failed = absurd (cc)
fault_taken (take.Misfit number) failed = absurd (cc)
fault_taken take.NoMemory failed = absurd (cc)
fault_taken take.Failed failed = refl

-- the reply to a history that was taken
pub read_line : (undo : Parts) (text : _) (history : History) (number changes : ℕ) → IsHistory undo text history → number ≡ undo.current → changes ≡ Rattle.std.specs.Prelude.length history.links.nodes
    → says (undo_file_read number changes) ≡ taken_reply (Ok history)
read_line undo text history number changes is number_is changes_are = λ i. says (undo_file_read ((number_is ∙ ap (λ (p : Parts). p.current) is.links) i) (changes_are i))

-- ---- the step

module _ (state : SessionState) (syncs : List Sync) (instruction : Instruction) (before : Session) (old : Scene) (fits : Fits before old.folder state syncs) (is : is_rundo instruction.parsed ≡ true) (after : Session)
    (read : Result History TakeErr) (outcome : Outcome) (at : ℕ) (reply : Answer) (new : Scene) (names_after : names_of after ≡ names_of before) (frame : ReadsFolder old new) (looks : Looks old new)
    (tells : Tells) (told : IsTrue tells.folder) (stops : StopsAtFault tells (is_fault outcome ≡ true) old new)
    (taken : IsTaken state.machine.text (content_in old.folder (names_of before).undo) read) (outcome_is : outcome ≡ outcome_by read) (reply_as : reply ≡ taken_reply read)
    (cause : HasCause old.folder_faults new.folder_faults (is_fault outcome ≡ true)) (left : Fits after new.folder (with_history (history_in read) state) syncs) where
  abbrev names : Names
  names = names_of before

  abbrev mark : Mark
  mark = record { outcome = outcome; at = at }

  abbrev ended : Ended
  ended = record { mark = mark; acknowledged = false; found = old.folder; read = read }

  abbrev lacks : Bool
  lacks = lacks_name state.options.write state.name old.folder

  names_are : names ≡ names_of_file state.name
  names_are = before.named ∙ ap names_of_file fits.name

  found : HasFound state instruction ended
  found = record {
    read = λ reads. (subst (λ (n : Names). IsTaken state.machine.text (content_in old.folder n.undo) read) names_are taken, outcome_is);
    unstored = λ unstored. absurd (never_unstored read (sym outcome_is ∙ unstored));
  }

  none_begun : begins_sync state instruction ≡ false
  none_begun = begins_none state.steps instruction.parsed is

  -- but for the history the state is as before
  same : carried state instruction mark ≡ state
  same = carried_still state instruction mark E492 (refused state.machine instruction.block instruction.parsed is)
      ∙ ap (λ (o : Options). record state { options = o }) (options_stay state.options outcome instruction.parsed is)

  history_is : history_taken instruction ended ≡ history_in read
  history_is = (λ i. cond (is_done (outcome_is i)) (taken_by read instruction.parsed is i) None) ∙ history_there read

  now : Fits after new.folder (state_after state instruction ended) syncs
  now =
      subst (λ (w : Bool). Fits after new.folder (cond (((w && false) && not lacks) && took_effect outcome) (written_state (after_sync state (begins_sync state instruction && false)))
      (with_history (history_taken instruction ended) (carried (after_sync state (begins_sync state instruction && false)) instruction mark))) syncs) (sym (writes_none instruction.parsed is))
      (subst (λ (c : Bool). Fits after new.folder (with_history (history_taken instruction ended) (carried (after_sync state (c && false)) instruction mark)) syncs) (sym none_begun)
      (subst (λ (o : Option History). Fits after new.folder (with_history o (carried state instruction mark)) syncs) (sym history_is)
      (subst (λ (s : SessionState). Fits after new.folder (with_history (history_in read) s) syncs) (sym same) left)))

  replied_as : reply ≡ reply_of state instruction ended
  replied_as =
      reply_as ∙ replied read state.machine (machine.meaning_of state.machine instruction.parsed instruction.block)
      ∙ (λ i. answered (sym outcome_is i) (sym (reply_is state outcome old.folder read instruction.parsed is) i) (machine.reply_by (sym outcome_is i) state.machine (machine.meaning_of state.machine instruction.parsed instruction.block)))

  work : work_of state instruction ended ≡ None
  work =
      ap (λ (w : Bool). cond ((w && false) && not lacks) (Some (write_work state old.folder)) (undo_work state old.folder instruction.parsed)) (writes_none instruction.parsed is)
      ∙ stores_none state old.folder instruction.parsed is

  pub answers_read : Answers state syncs instruction before after mark reply old new
  answers_read =
      assemble_read state syncs instruction before old (never_quits instruction.parsed _ is) fits after mark false read reply new None None found
      (once_stops names state instruction ended tells old new told (ap (λ (w : Bool). ((w && false) && not lacks) && took_effect outcome) (writes_none instruction.parsed is)) stops)
      (whole_unbegun names state instruction ended old new (ap (λ (w : Bool). (w && false) && not lacks) (writes_none instruction.parsed is))) (leaves_looked names fits.stands.text.fit.named state instruction ended old new looks) (ap (λ (c : Bool). cond c (Some (sync_in state false)) None) none_begun) work replied_as now
      (record {
        works = works_looks names (IsUnderWay names syncs None) old new frame (no_write names syncs old.folder (recovers_synced names before old.folder state syncs refl fits)) looks;
        found = refl;
        wrote = tt;
        whole = tt;
        flag = tt;
        cause = cause.risen;
        between = between_synced names after new.folder (state_after state instruction ended) syncs names_after now;
      })
