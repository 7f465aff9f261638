-- What a sync, and a command, make of a session that fits.
use Rattle.std.proofs.Common.{◌≡◌, ◌≤◌, ℕ, Bool, true, ◌==◌, ◌&&◌, not, List, ◌∷◌, Option, Some, None, Result, Ok, refl, sym, ◌∙◌, ap, subst, arith}
use Rattle.std.specs.Prelude.{string_bytes}
use Rattle.std.proofs.lemmas.Bool.Decides.{nat_tests}
use Rattle.vs_host.specs.Disk.{Disk}
use Rattle.vs_exparse.specs.Command.{Command}
use Rattle.vs_exparse.specs.Form.{HasSettingForm}
use Rattle.vs_exparse.specs.declared.command.ExErr.{ExErr}
use Rattle.vs_exparse.specs.declared.command.ExErr.TheVariants.{E492}
use Rattle.vs_exparse.specs.Command.Command.{Preserve, Quit, Set}
use Rattle.vs_exparse.specs.declared.command.Setting.{Setting}
use Rattle.vs_exparse.specs.declared.command.Setting.TheVariants as setting
use Rattle.vs_options.specs.Options.{options_with}
use Rattle.vs_options.specs.declared.setting.Options.{Options}
use Rattle.vs_excmd.specs.Request.{Instruction}
use Rattle.vs_undo.specs.History.{IsHistory}
use Rattle.vs_undo.specs.declared.keep.Keep.{Keep}
use Rattle.vs_undo.specs.declared.parts.Parts.{Parts}
use Rattle.vs_machine.specs.Machine as machine
use Rattle.vs_machine.specs.Machine.{State, Meaning, current_of}
use Rattle.vs_machine.specs.Machine.Meaning.{Refused}
use Rattle.vs_machine.specs.Saved.{saved_after}
use Rattle.vs_machine.specs.Replies.{Answer}
use Rattle.vs_machine.specs.declared.command.Mark.{Mark}
use Rattle.vs_machine.specs.declared.command.Outcome.{Outcome}
use Rattle.vs_machine.specs.declared.command.Outcome.TheVariants.{Done, NoMemory, Fault, NoUndo}
use Rattle.vs_safety.specs.Texts.{Sync}
use Rattle.vs_paged.specs.Fits as folder
use Rattle.vs_paged.specs.declared.paged.PagedText.{PagedText}
use Rattle.vs_session.specs.declared.session.Session.{Session}
use Rattle.vs_session.specs.Session.{SessionState, accepts_quit, answered, begins_after, begins_sync, carried, counted, is_clean_in, is_same_format, is_saved, keep_of, options_after, options_set, own_reply, quits, sync_in}
use Rattle.vs_session.specs.Standing.{FitsState}
use Rattle.vs_session.specs.Fits.{Fits, is_clean_session}

-- the number of the current state
pub current_is : (undo : Parts) (state : State) → IsHistory undo state.text state.history → undo.current ≡ current_of state
current_is undo state is = ap (λ (p : Parts). p.current) is.links

pub saved_is : (session : Session) (disk : Disk) (state : SessionState) (syncs : List Sync) → Fits session disk state syncs → is_saved session.saved session.history.current ≡ is_saved state.saved (current_of state.machine)
saved_is session disk state syncs fits = ap (λ (n : ℕ). is_saved session.saved n) (current_is session.history state.machine fits.stands.history) ∙ ap (λ (o : Option ℕ). is_saved o (current_of state.machine)) fits.saved

pub clean_is : (session : Session) (disk : Disk) (state : SessionState) (syncs : List Sync) → Fits session disk state syncs → is_clean_session session ≡ is_clean_in state
clean_is session disk state syncs fits = λ i. saved_is session disk state syncs fits i && is_same_format (fits.saved_format i) (fits.options i).write.format

-- the session goes on where its text does, and nothing else of it changes
pub fits_again : (old new : Session) (was now : Disk) (state : SessionState) (syncs : List Sync) → Fits old was state syncs → FitsState new.text new.history now state.machine syncs → new.name ≡ old.name → new.cursor ≡ old.cursor
    → new.saved ≡ old.saved → new.saved_format ≡ old.saved_format → new.steps ≡ old.steps → new.options ≡ old.options → new.acknowledged ≡ old.acknowledged → Fits new now state syncs
fits_again old new was now state syncs fits stands name cursor saved saved_format steps options acknowledged = record {
  stands = stands;
  name = ap string_bytes name ∙ fits.name;
  cursor = cursor ∙ fits.cursor;
  saved = saved ∙ fits.saved;
  saved_format = saved_format ∙ fits.saved_format;
  steps = steps ∙ fits.steps;
  options = options ∙ fits.options;
  acknowledged = acknowledged ∙ fits.acknowledged;
}

-- one more sync of this state
pub stands_synced : (old : Session) (paged : PagedText) (was now : Disk) (state : SessionState) (syncs : List Sync) (here : Bool) (flag : Bool) → Fits old was state syncs → here ≡ is_clean_session old
    → folder.Fits paged now state.machine.text (record { document = record { text = state.machine.text; format = old.options.write.format }; dirty = not here; acknowledged = flag } ∷ syncs) → FitsState paged old.history now state.machine (sync_in state flag ∷ syncs)
stands_synced old paged was now state syncs here flag fits is text = record {
  text = subst (λ (s : Sync). folder.Fits paged now state.machine.text (s ∷ syncs))
      (λ i. record { document = record { text = state.machine.text; format = (fits.options i).write.format }; dirty = not ((is ∙ clean_is old was state syncs fits) i); acknowledged = flag }) text;
  history = fits.stands.history;
}

-- ---- the steps

same_number : (n : ℕ) → (n == n) ≡ true
same_number n = grind (arith, nat_tests)

-- the state is the same
pub counted_same : (steps n : ℕ) → counted steps (n == n) ≡ steps
counted_same steps n = ap (λ (b : Bool). counted steps b) (same_number n)

pub counted_is : (old : Session) (undo : Parts) (was : Disk) (state : SessionState) (after : State) (syncs : List Sync) (k n : ℕ) → Fits old was state syncs → IsHistory undo after.text after.history
    → k ≡ old.history.current → n ≡ undo.current → counted old.steps (n == k) ≡ counted state.steps (current_of after == current_of state.machine)
counted_is old undo was state after syncs k n fits history before now =
    ap (λ (steps : ℕ). counted steps (n == k)) fits.steps
    ∙ ap (λ (m : ℕ). counted state.steps (m == k)) (now ∙ current_is undo after history)
    ∙ ap (λ (m : ℕ). counted state.steps (current_of after == m)) (before ∙ current_is old.history state.machine fits.stands.history)

refused_state : (outcome : Outcome) (m : State) (keep : Keep) (error : ExErr) → machine.state_by outcome m keep (Refused error) ≡ m
refused_state Done m keep error = refl
refused_state NoMemory m keep error = refl
refused_state Fault m keep error = refl
refused_state NoUndo m keep error = refl

refused_saved : (outcome : Outcome) (m : State) (keep : Keep) (error : ExErr) (saved : Option ℕ) → machine.saved_by outcome m keep (Refused error) saved ≡ saved
refused_saved Done m keep error saved = refl
refused_saved NoMemory m keep error saved = refl
refused_saved Fault m keep error saved = refl
refused_saved NoUndo m keep error saved = refl

-- a command that the machine refuses leaves the state, but for the options
pub carried_still : (state : SessionState) (instruction : Instruction) (mark : Mark) (error : ExErr) → machine.meaning_of state.machine instruction.parsed instruction.block ≡ Refused error
    → carried state instruction mark ≡ record state { options = options_after mark.outcome state.options instruction.parsed }
carried_still state instruction mark error is = λ i. record {
  name = state.name;
  machine = stays i;
  saved = (ap (λ (meaning : Meaning). machine.saved_by mark.outcome state.machine (keep_of state mark) meaning state.saved) is ∙ refused_saved mark.outcome state.machine (keep_of state mark) error state.saved) i;
  saved_format = state.saved_format;
  steps = (ap (λ (m : State). counted state.steps (current_of m == current_of state.machine)) stays ∙ counted_same state.steps (current_of state.machine)) i;
  options = options_after mark.outcome state.options instruction.parsed;
}
  where
    stays : machine.state_after state.machine instruction mark state.options.undo_levels ≡ state.machine
    stays = ap (λ (meaning : Meaning). machine.state_by mark.outcome state.machine (keep_of state mark) meaning) is ∙ refused_state mark.outcome state.machine (keep_of state mark) error

-- the machine refuses a command that the session answers itself
own_refused : (m : State) (block : List (List ℕ)) (parsed : Result Command ExErr) (reply : Answer) → own_reply parsed ≡ Some reply → machine.meaning_of m parsed block ≡ Refused E492
own_refused m block (Ok Preserve) reply e = refl
own_refused m block (Ok (Quit bang)) reply e = refl
own_refused m block (Ok (Set setting)) reply e = refl
own_refused m block parsed reply e = absurd (cc)

pub own_carried : (session : Session) (options : Options) (parsed : Result Command ExErr) (disk : Disk) (state : SessionState) (syncs : List Sync) (instruction : Instruction) (reply : _) (at : ℕ) → parsed ≡ instruction.parsed
    → own_reply parsed ≡ Some reply → options ≡ options_set session.options parsed → (some : 1 ≤ options.undo_levels) → Fits session disk state syncs
    → Fits (record session { options = options; some_levels = some }) disk (carried state instruction (record { outcome = Done; at = at })) syncs
own_carried session options parsed disk state syncs instruction reply at is own set some fits =
    subst (λ (s : SessionState). Fits (record session { options = options; some_levels = some }) disk s syncs)
    (sym (carried_still state instruction (record { outcome = Done; at = at }) E492 (own_refused state.machine instruction.block instruction.parsed reply (sym (ap own_reply is) ∙ own))))
    (record {
      stands = fits.stands;
      name = fits.name;
      cursor = fits.cursor;
      saved = fits.saved;
      saved_format = fits.saved_format;
      steps = fits.steps;
      options = set ∙ ap (λ p. options_set session.options p) is ∙ ap (λ (o : Options). options_set o instruction.parsed) fits.options;
      acknowledged = fits.acknowledged;
    })

-- a command that the machine answers leaves the options
pub options_stay : (options : Options) (parsed : Result Command ExErr) → own_reply parsed ≡ None → options_set options parsed ≡ options
options_stay options (Ok (Set setting)) none = absurd (cc)
options_stay options parsed none = refl

-- some changes are kept after each setting
pub some_levels : (options : Options) (setting : Setting) → HasSettingForm setting → 1 ≤ options.undo_levels → 1 ≤ (options_with options setting).undo_levels
some_levels options (setting.Backup on) form some = some
some_levels options (setting.WriteBackup on) form some = some
some_levels options setting.CopyYes form some = some
some_levels options setting.CopyNo form some = some
some_levels options setting.CopyAuto form some = some
some_levels options (setting.UndoFile on) form some = some
some_levels options setting.Unix form some = some
some_levels options setting.Dos form some = some
some_levels options (setting.UndoLevels levels) form some = form.0

-- ---- a command that the machine answers

-- what the session keeps of it, where its option is that of the state
pub kept_alike : (session : Session) (disk : Disk) (state : SessionState) (syncs : List Sync) (mark : Mark) (levels : ℕ) → Fits session disk state syncs → levels ≡ session.options.undo_levels
    → record { time = mark.at; levels = levels } ≡ keep_of state mark
kept_alike session disk state syncs mark levels fits is = ap (λ (n : ℕ). record { time = mark.at; levels = n }) is ∙ ap (λ (o : Options). record { time = mark.at; levels = o.undo_levels }) fits.options

pub stands_kept : {a b : Keep} → a ≡ b → (text : PagedText) (undo : Parts) (disk : Disk) (state : State) (syncs : List Sync) (meaning : Meaning) (cursor : ℕ)
    → FitsState text undo disk (machine.done_state state a meaning) syncs × (cursor ≡ (machine.done_state state a meaning).cursor)
    → FitsState text undo disk (machine.done_state state b meaning) syncs × (cursor ≡ (machine.done_state state b meaning).cursor)
stands_kept same text undo disk state syncs meaning cursor stands =
    subst (λ (k : Keep). FitsState text undo disk (machine.done_state state k meaning) syncs × (cursor ≡ (machine.done_state state k meaning).cursor)) same stands

-- the saved state after it, by the number that the oldest state had before
pub saved_is_left : {a b : Keep} → a ≡ b → (state : State) (meaning : Meaning) (oldest was saved now : Option ℕ) → oldest ≡ machine.done_oldest state a meaning → was ≡ saved
    → now ≡ saved_after oldest (machine.done_state state b meaning).history.links.nodes was → now ≡ machine.done_saved state b meaning saved
saved_is_left {a} {b} same state meaning oldest was saved now by is left =
    left ∙ ap (λ (o : Option ℕ). saved_after o (machine.done_state state b meaning).history.links.nodes was) (by ∙ ap (λ (k : Keep). machine.done_oldest state k meaning) same)
    ∙ ap (λ (o : Option ℕ). saved_after (machine.done_oldest state b meaning) (machine.done_state state b meaning).history.links.nodes o) is

-- ---- what a command is

pub answered_none : (outcome : Outcome) (reply : Answer) → answered outcome None reply ≡ reply
answered_none Done reply = refl
answered_none NoMemory reply = refl
answered_none Fault reply = refl
answered_none NoUndo reply = refl

pub quits_is : (session : Session) (disk : Disk) (state : SessionState) (syncs : List Sync) (instruction : Instruction) (parsed : Result Command ExErr) (b : Bool) → Fits session disk state syncs → parsed ≡ instruction.parsed
    → quits parsed (is_clean_session session) ≡ b → accepts_quit state instruction ≡ b
quits_is session disk state syncs instruction parsed b fits is same =
    sym (ap (λ p. quits p (is_clean_in state)) is) ∙ sym (ap (λ (x : Bool). quits parsed x) (clean_is session disk state syncs fits)) ∙ same

pub begins_is : (session : Session) (disk : Disk) (state : SessionState) (syncs : List Sync) (instruction : Instruction) (parsed : Result Command ExErr) (b : Bool) → Fits session disk state syncs → parsed ≡ instruction.parsed
    → begins_after session.steps parsed ≡ b → begins_sync state instruction ≡ b
begins_is session disk state syncs instruction parsed b fits is same = sym (ap (λ p. begins_after state.steps p) is) ∙ sym (ap (λ (n : ℕ). begins_after n parsed) fits.steps) ∙ same

pub reply_own : (own : Option Answer) (reply other : Answer) → own ≡ Some reply → reply ≡ answered Done own other
reply_own own reply other is = sym (ap (λ (o : Option Answer). answered Done o other) is)

pub reply_machine : (outcome : Outcome) (own : Option Answer) (reply other : Answer) → own ≡ None → reply ≡ other → reply ≡ answered outcome own other
reply_machine outcome own reply other none is = is ∙ sym (ap (λ (o : Option Answer). answered outcome o other) none ∙ answered_none outcome other)

pub stays_set : (session : Session) (disk : Disk) (state : SessionState) (syncs : List Sync) (instruction : Instruction) (parsed : Result Command ExErr) → Fits session disk state syncs → parsed ≡ instruction.parsed
    → own_reply parsed ≡ None → session.options ≡ options_set state.options instruction.parsed
stays_set session disk state syncs instruction parsed fits is none =
    sym (options_stay session.options parsed none) ∙ ap (λ p. options_set session.options p) is ∙ ap (λ (o : Options). options_set o instruction.parsed) fits.options
