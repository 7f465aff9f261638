-- From when on the file or its backup is whole: the sync of the command leaves both untouched from moment to moment, and so does the write
-- until it makes them so.
use Rattle.std.proofs.Common.{◌≡◌, ◌⊎◌, inl, inr, ℕ, false, List, ◌++◌, Some, Result, IsErr, refl, sym, ◌∙◌, ap, append_assoc, subst}
use Rattle.std.proofs.lemmas.Bool.{true≢false}
use Rattle.vs_host.specs.Disk.{Disk, Name, content_in}
use Rattle.vs_host.specs.Names.{AreNames, temporary}
use Rattle.vs_host.specs.Trace.{Snapshot, GoesOn}
use Rattle.vs_host.specs.World.{Scene}
use Rattle.vs_host.specs.declared.names.Names.{Names}
use Rattle.vs_disk.specs.Names.{SameAt}
use Rattle.vs_disk.specs.Runs.{Inside}
use Rattle.vs_disk.proofs.Runs.{goes_then, goes_weaker}
use Rattle.vs_pair.specs.Pair.{Unmoved, is_apart}
use Rattle.vs_backup.specs.declared.options.WriteOptions.{WriteOptions}
use Rattle.vs_backup.specs.declared.errors.WriteErr.{WriteErr}
use Rattle.vs_backup.specs.Backups.{IsBackupName, backup_of, copies}
use Rattle.vs_backup.specs.Works.{Follows, Narrowed, Steps}
use Rattle.vs_backup.specs.Writing.{BeginsWhole, IsUnseen, IsWhole, WritesWith}
use Rattle.vs_backup.proofs.Backed.{whole_kept}
use Rattle.vs_backup.proofs.Following.{follows_among, follows_as, follows_from, follows_then, looks_narrowed}
use Rattle.vs_backup.proofs.Kept.{kept_by_name, settled_holds}
use Rattle.vs_excmd.specs.Request.{Instruction}
use Rattle.vs_safety.specs.Writes.{IsUntouched}
use Rattle.vs_desk.specs.Writes.{WritesFile}
use Rattle.vs_session.specs.Session.{SessionState, Ended, begins_write}
use Rattle.vs_session.specs.Wholeness.{BecomesWhole, StaysUntouched, StaysWhole}
use Rattle.vs_session.proofs.FileWrites.{backup_named, backup_same, file_same, narrowed_untouched, untouched_between, untouched_then}

-- a command that does not begin to write the file
pub whole_unbegun : (names : Names) (state : SessionState) (instruction : Instruction) (ended : Ended) (old new : Scene) → begins_write state instruction ended ≡ false → StaysWhole names state instruction ended old new
whole_unbegun names state instruction ended old new none begins = absurd (true≢false (sym begins ∙ none))

-- the clock before it
pub whole_clock : (names : Names) (state : SessionState) (instruction : Instruction) (ended : Ended) (old : Scene) (answers : List ℕ) (new : Scene) → StaysWhole names state instruction ended (record old { answers = answers }) new
    → StaysWhole names state instruction ended old new
whole_clock names state instruction ended old answers new stays begins was backup there made = elim (stays begins was backup there made) [
  | inl becomes ↦ inl (record {
    begun = becomes.begun;
    moment = becomes.moment;
    synced = becomes.synced;
    untouched = stays_clock becomes.begun becomes.untouched;
    at_once = becomes.at_once;
    later = becomes.later;
    now = becomes.now;
  })
  | inr refused ↦ inr (refused.0, stays_clock new refused.1)
]
  where
    stays_clock : (to : Scene) → StaysUntouched names.file backup (record old { answers = answers }) to → StaysUntouched names.file backup old to
    stays_clock to untouched = record { moments = untouched.moments; now = untouched.now; next = untouched.next }

-- calls after it that leave both whole
pub whole_then : (name backup : Name) (was bytes : List ℕ) (old mid new : Scene) → BecomesWhole name backup was bytes old mid → GoesOn (λ m. IsWhole name backup was bytes m.folder) mid.trace new.trace → IsWhole name backup was bytes new.folder
    → BecomesWhole name backup was bytes old new
whole_then name backup was bytes old mid new becomes later now = record {
  begun = becomes.begun;
  moment = becomes.moment;
  synced = becomes.synced;
  untouched = becomes.untouched;
  at_once = becomes.at_once;
  later = goes_then (λ m. IsWhole name backup was bytes m.folder) becomes.begun.trace mid.trace new.trace becomes.later later;
  now = now;
}

-- ---- a write, after the sync of its command
module _ (names : Names) (are : AreNames names) (options : WriteOptions) (bytes : List ℕ) (old mid new : Scene) (same : SameAt (is_apart names) old.folder mid.folder)
    (unmoved : Unmoved (is_apart names) old.folder mid.folder) (synced : GoesOn (λ m. Unmoved (is_apart names) old.folder m.folder) old.trace mid.trace) (was : List ℕ) (backup : Name) (there : content_in old.folder names.file ≡ Some was) (made : backup_of options names.file old.folder ≡ Some backup) where
  abbrev Untouched : Disk → Disk → Type 0
  Untouched = IsUntouched names.file backup

  abbrev Whole : Snapshot → Type 0
  Whole m = IsWhole names.file backup was bytes m.folder

  named : IsBackupName names.file backup
  named = backup_named names are options old.folder backup made

  through_sync : Follows Untouched old.folder synced.added mid.folder
  through_sync = follows_among Untouched (Unmoved (is_apart names) old.folder) (λ a b one other. untouched_between names are old.folder a b one other backup named) old.folder synced.added mid.folder
      (record { names = λ lost name is. refl; files = λ lost name number is leads. refl }) synced.each unmoved

  -- up to a moment of the write
  stays_to : (to : Scene) → Steps Narrowed mid to → StaysUntouched names.file backup old to
  stays_to to steps =
      let passes = untouched_then names.file backup in
      let since = follows_as Narrowed Untouched (narrowed_untouched names.file backup) mid.folder steps.added to.folder steps.next in
      let next : Follows Untouched old.folder (steps.added ++ synced.added) to.folder = follows_then Untouched passes old.folder steps.added synced.added mid.folder to.folder through_sync since in
      let all = follows_from Untouched passes old.folder (steps.added ++ synced.added) to.folder next in
      record {
        moments = record {
          added = steps.added ++ synced.added;
          is = steps.is ∙ ap (λ (ms : List Snapshot). steps.added ++ ms) synced.is ∙ sym (append_assoc steps.added synced.added old.trace);
          each = all.0;
        };
        now = all.1;
        next = next;
      }

  module _ (result : Result ℕ WriteErr) where
    abbrev Becomes : Type 0
    Becomes = BecomesWhole names.file backup was bytes old new ⊎ (IsErr result × StaysUntouched names.file backup old new)

    begins : BeginsWhole (copies options.copy) options.backup names.file (temporary backup) backup was bytes mid new result → BecomesWhole names.file backup was bytes old new
    begins write = record {
      begun = write.begun;
      moment = write.moment;
      synced = write.order;
      untouched = stays_to write.begun write.looked;
      at_once = whole_kept names.file backup was bytes write.begun.folder (kept_by_name names.file backup was write.begun.folder (settled_holds names.file was write.begun.folder write.settled));
      later = goes_weaker (Inside write.begun (IsWhole names.file backup was bytes)) Whole (λ m inside. inside.folder) write.begun.trace new.trace write.whole.moments;
      now = write.whole.now;
    }

    refused : IsErr result → Steps Narrowed mid new → Becomes
    refused failed steps = inr (failed, stays_to new steps)

    written : IsUnseen mid new result ⊎ WritesWith options names.file backup was bytes mid new result → Becomes
    written (inl unseen) = refused (subst (λ (r : Result ℕ WriteErr). IsErr r) (sym unseen.failed) refl) (looks_narrowed mid new unseen.looks)
    written (inr writes) = elim writes.moments [ inl write ↦ inl (begins write) | inr none ↦ refused none.1 none.0 ]

    pub becomes : WritesFile options names bytes mid new result → Becomes
    becomes file = written (file.backed was (file_same names are old.folder mid.folder same ∙ there) backup (backup_same names are old.folder mid.folder same options ∙ made))
