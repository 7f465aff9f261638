-- What the command `w` is, whatever it does to the files.
use Rattle.std.proofs.Common.{◌≡◌, ℕ, Bool, true, false, List, Some, None, Ok, refl, sym, ◌∙◌, subst}
use Rattle.std.proofs.lemmas.Bool.{true≢false}
use Rattle.vs_host.specs.Disk.{Disk}
use Rattle.vs_exparse.specs.Command.Command.{Write as WriteFile}
use Rattle.vs_exparse.specs.declared.command.ExErr.TheVariants.{E492}
use Rattle.vs_excmd.specs.Request.{Instruction}
use Rattle.vs_options.specs.declared.setting.Options.{Options}
use Rattle.vs_machine.specs.Machine as machine
use Rattle.vs_machine.specs.Machine.{State}
use Rattle.vs_machine.specs.Machine.Meaning.{Refused}
use Rattle.vs_machine.specs.declared.command.Mark.{Mark}
use Rattle.vs_machine.specs.declared.command.Outcome.{Outcome}
use Rattle.vs_machine.specs.declared.command.Outcome.TheVariants.{Done, NoMemory, Fault, NoUndo}
use Rattle.vs_safety.specs.Texts.{Sync}
use Rattle.vs_session.specs.declared.session.Session.{Session}
use Rattle.vs_session.specs.Session.{SessionState, begins_after, carried, is_rundo, is_write, options_after, quits, session_reply, undo_work, write_reply}
use Rattle.vs_session.specs.Fits.{Fits}
use Rattle.vs_session.proofs.SessionLemmas.{carried_still}
use Rattle.vs_session.proofs.Steps.{unread}

pub never_quits : (parsed : _) (saved : Bool) → is_write parsed ≡ true → quits parsed saved ≡ false
never_quits (Ok (WriteFile bang)) saved is = refl
never_quits parsed saved is = absurd (true≢false (sym is))

pub begins_is : (steps : ℕ) (parsed : _) → is_write parsed ≡ true → begins_after steps parsed ≡ true
begins_is steps (Ok (WriteFile bang)) is = refl
begins_is steps parsed is = absurd (true≢false (sym is))

pub reply_is : (state : SessionState) (outcome : Outcome) (found : Disk) (parsed : _) → is_write parsed ≡ true → Some (write_reply state outcome found) ≡ session_reply state outcome found unread parsed
reply_is state outcome found (Ok (WriteFile bang)) is = refl
reply_is state outcome found parsed is = absurd (true≢false (sym is))

pub no_read : (parsed : _) → is_write parsed ≡ true → is_rundo parsed ≡ false
no_read (Ok (WriteFile bang)) is = refl
no_read parsed is = absurd (true≢false (sym is))

pub no_undo : (state : SessionState) (found : Disk) (parsed : _) → is_write parsed ≡ true → undo_work state found parsed ≡ None
no_undo state found (Ok (WriteFile bang)) is = refl
no_undo state found parsed is = absurd (true≢false (sym is))

refused : (m : State) (block : _) (parsed : _) → is_write parsed ≡ true → machine.meaning_of m parsed block ≡ Refused E492
refused m block (Ok (WriteFile bang)) is = refl
refused m block parsed is = absurd (true≢false (sym is))

options_stay : (options : Options) (outcome : Outcome) (parsed : _) → is_write parsed ≡ true → options_after outcome options parsed ≡ options
options_stay options Done (Ok (WriteFile bang)) is = refl
options_stay options Done parsed is = absurd (true≢false (sym is))
options_stay options NoMemory parsed is = refl
options_stay options Fault parsed is = refl
options_stay options NoUndo (Ok (WriteFile bang)) is = refl
options_stay options NoUndo parsed is = absurd (true≢false (sym is))

-- where the file was not written, the state is as before
pub carried_on : (session : Session) (disk : Disk) (state : SessionState) (syncs : List Sync) (instruction : Instruction) (mark : Mark) → is_write instruction.parsed ≡ true → Fits session disk state syncs
    → Fits session disk (carried state instruction mark) syncs
carried_on session disk state syncs instruction mark is fits =
    subst (λ (s : SessionState). Fits session disk s syncs) (sym (carried_still state instruction mark E492 (refused state.machine instruction.block instruction.parsed is)))
    (record {
      stands = fits.stands;
      name = fits.name;
      cursor = fits.cursor;
      saved = fits.saved;
      saved_format = fits.saved_format;
      steps = fits.steps;
      options = fits.options ∙ sym (options_stay state.options mark.outcome instruction.parsed is);
      acknowledged = fits.acknowledged;
    })
