-- What a session makes of what the write of its text answered.
use Rattle.std.proofs.Common.{◌≡◌, inl, inr, ℕ, true, false, ◌==◌, string_bytes, List, Result, Err, IsSome, refl, sym, ◌∙◌, ap, subst}
use Rattle.std.proofs.lemmas.Bool.{cases_Bool, true≢false}
use Rattle.vs_host.specs.Disk.{Disk, IsFolder, mode_in}
use Rattle.vs_host.specs.World.{Scene}
use Rattle.vs_text.specs.Documents.{file_in}
use Rattle.vs_disk.specs.Runs.{Runs}
use Rattle.vs_options.specs.declared.setting.Options.{Options}
use Rattle.vs_backup.specs.declared.errors.WriteErr.{WriteErr}
use Rattle.vs_backup.specs.declared.errors.WriteErr.TheVariants as error
use Rattle.vs_backup.specs.Backups.{IsNoName, WorksOn}
use Rattle.vs_backup.specs.Works.{SparesOthers}
use Rattle.vs_undo.specs.History.{marked}
use Rattle.vs_undo.specs.declared.parts.Parts.{Parts}
use Rattle.vs_backup.specs.Writing.{FailsNoEarlier, IsFailed}
use Rattle.vs_machine.specs.Replies.{Answer, says}
use Rattle.vs_machine.specs.declared.command.Outcome.{Outcome}
use Rattle.vs_safety.specs.Texts.{Sync, recoverable}
use Rattle.vs_desk.specs.Counts.{NoneAbove}
use Rattle.vs_desk.specs.Still.{KeepsLeft}
use Rattle.vs_desk.specs.Writes.{KeepsSwap, WritesFile}
use Rattle.vs_session.specs.declared.session.Session.{Session}
use Rattle.vs_session.specs.Session.{SessionState, info_written, is_fault, line_by}
use Rattle.vs_session.specs.Writes.{Wrote, info_of, outcome_to, reply_to, state_to}
use Rattle.vs_session.specs.Modes.{OnlyLike}
use Rattle.vs_session.specs.Fits.{Fits, names_of}
use Rattle.vs_session.proofs.Written.{Refuses, err_of}

-- with the options that the state has
pub wrote : (state : SessionState) (syncs : List Sync) (before after : Session) (old new : Scene) (result : Result ℕ WriteErr) → Fits before old.folder state syncs
    → WritesFile before.options.write (names_of before) (file_in before.options.write.format state.machine.text) old new result → (result ≡ Err error.NoBackupName → IsNoName before.options.write (names_of before).file true old.folder)
    → Runs (KeepsSwap (names_of before) (recoverable syncs)) old new → IsFolder old.folder → SparesOthers (WorksOn before.options.write (names_of before).file old.folder) old new
    → Runs (KeepsLeft (WorksOn before.options.write (names_of before).file old.folder)) old new → (IsSome (mode_in old.folder (names_of before).file) → OnlyLike (names_of before).file old new) → NoneAbove old new → FailsNoEarlier (names_of before).file (file_in before.options.write.format state.machine.text) old new result → Fits after new.folder (state_to state result) syncs → Wrote state syncs before after result old new
wrote state syncs before after old new result fits file no_name swap folder others left modes above calls now = record {
  file = subst (λ (o : Options). WritesFile o.write (names_of before) (file_in o.write.format state.machine.text) old new result) fits.options file;
  no_name = λ is. subst (λ (o : Options). IsNoName o.write (names_of before).file true old.folder) fits.options (no_name is);
  swap = swap;
  folder = folder;
  others = subst (λ (o : Options). SparesOthers (WorksOn o.write (names_of before).file old.folder) old new) fits.options others;
  left = subst (λ (o : Options). Runs (KeepsLeft (WorksOn o.write (names_of before).file old.folder)) old new) fits.options left;
  modes = modes;
  above = above;
  calls = subst (λ (o : Options). FailsNoEarlier (names_of before).file (file_in o.write.format state.machine.text) old new result) fits.options calls;
  fits = now;
}

-- the mark of a write leaves the current state
pub marked_current : (parts : Parts) → (marked parts).current ≡ parts.current
marked_current parts = elim (cases_Bool (parts.current == 0)) [
  | inl root ↦ at_root root
  | inr other ↦ at_other other
]
  where
    at_root : (parts.current == 0) ≡ true → (marked parts).current ≡ parts.current
    at_root is = rw is refl

    at_other : (parts.current == 0) ≡ false → (marked parts).current ≡ parts.current
    at_other is = rw is refl

-- ---- why a write is refused

pub refuses_as : (why : WriteErr) (outcome : Outcome) (reply : Answer) → outcome ≡ outcome_to why → reply ≡ reply_to why → Refuses why outcome reply
refuses_as error.NoBackupName outcome reply ended replied = (ended, replied)
refuses_as (error.Failed place) outcome reply ended replied = inr (ended, replied)
refuses_as (error.NoMemory place) outcome reply ended replied = inl (ended, replied)

pub failed_why : (why : WriteErr) (outcome : Outcome) → outcome ≡ outcome_to why → is_fault outcome ≡ true → IsFailed (err_of why)
failed_why error.NoBackupName outcome ended fault = absurd (true≢false (sym fault ∙ ap is_fault ended))
failed_why (error.Failed place) outcome ended fault = (place, refl)
failed_why (error.NoMemory place) outcome ended fault = absurd (true≢false (sym fault ∙ ap is_fault ended))

-- where no fault is answered, no call failed
pub calm_why : (why : WriteErr) (outcome : Outcome) → outcome ≡ outcome_to why → is_fault outcome ≡ false → ¬ IsFailed (err_of why)
calm_why error.NoBackupName outcome ended calm failed = let is = failed.1 in cc
calm_why (error.Failed place) outcome ended calm failed = true≢false (sym (ap is_fault ended) ∙ calm)
calm_why (error.NoMemory place) outcome ended calm failed = let is = failed.1 in cc

-- ---- what was written

-- what the session says of its file is said of that of the state
pub numbers : (session : Session) (disk : Disk) (state : SessionState) (syncs : List Sync) (outcome : Outcome) (size : ℕ) → Fits session disk state syncs
    → says (line_by outcome (string_bytes session.name) (info_of session size)) ≡ says (line_by outcome state.name (info_written state size))
numbers session disk state syncs outcome size fits =
    λ i. says (line_by outcome (fits.name i) (record { format = (fits.options i).write.format; lines = sym fits.stands.text.pages.present.lines i; bytes = size }))
