-- A host in memory that logged one call more, or was given one file more before the first call.
use Rattle.std.proofs.Common.{◌≡◌, ℕ, ◌<◌, List, [], ◌∷◌, ◌++◌, map, length, true, false, sym, ap, ◌∙◌, subst, arith}
use Rattle.std.specs.Prelude.{reverse, string_bytes}
use Rattle.std.proofs.lemmas.Bool.{cond-true, cond-false}
use Rattle.std.proofs.lemmas.List.{reverse-append}
use Rattle.vs_host.specs.Disk.{Disk}
use Rattle.vs_memory.specs.declared.log.Call.{Call}
use Rattle.vs_memory.specs.declared.log.Entry.{Entry}
use Rattle.vs_memory.specs.declared.folder.MemFolder.{MemFolder}
use Rattle.vs_memory.specs.Present.{disk_in}
use Rattle.vs_memory.specs.Replay.{played, said, CanPlay, base_disk, with_put, disk_after, output_after}
use Rattle.vs_memory.specs.declared.host.PutFile.{PutFile}
use Rattle.vs_memory.specs.Bases.{puts}
use Rattle.vs_memory.specs.Hosts.{AreSynced, IsHost}
use Rattle.vs_memory.proofs.Synced.{played_synced, put_synced}

pub logged_host : (before after : MemFolder) (was now : List ℕ) (base : List (List ℕ × List ℕ)) (log : List Entry) (call : Call) (entry : Entry) (calls faults at len : ℕ)
    → IsHost before was base log calls faults at len → entry.call ≡ call → entry.done ≡ true → entry.folder_faults ≡ faults → CanPlay call (disk_after base log) → disk_in after ≡ played call (disk_in before) → now ≡ said call was
    → length log < calls → IsHost after now base (entry ∷ log) calls faults at len
logged_host before after was now base log call entry calls faults at len host is done count can folder output room =
    let disk : disk_after base (entry ∷ log) ≡ played call (disk_after base log) =
    cond-true entry.done (played entry.call (disk_after base log)) (disk_after base log) done ∙ ap (λ (c : Call). played c (disk_after base log)) is in
    record {
      folder = folder ∙ ap (λ (d : Disk). played call d) host.folder ∙ sym disk;
      synced = subst AreSynced (sym disk) (played_synced call (disk_after base log) can host.synced);
      said = output ∙ ap (λ (o : List ℕ). said call o) host.said
          ∙ sym (cond-true entry.done (said entry.call (output_after log)) (output_after log) done ∙ ap (λ (c : Call). said c (output_after log)) is);
      counted = omega (arith, room);
      faulted = omega (arith, count, host.faulted);
      within = host.within;
    }

pub pushed_host : (after : MemFolder) (now : List ℕ) (base : List (List ℕ × List ℕ)) (items pushed : List Entry) (entry : Entry) (calls faults at len : ℕ) → pushed ≡ items ++ entry ∷ []
    → IsHost after now base (entry ∷ reverse items) calls faults at len → IsHost after now base (reverse pushed) calls faults at len
pushed_host after now base items pushed entry calls faults at len is host =
    subst (λ (log : List Entry). IsHost after now base log calls faults at len) (sym (ap (λ (l : List Entry). reverse l) is ∙ reverse-append items (entry ∷ []))) host

-- a call that failed
pub failed_host : (present : MemFolder) (now : List ℕ) (base : List (List ℕ × List ℕ)) (log : List Entry) (entry : Entry) (calls faults at len : ℕ)
    → IsHost present now base log calls faults at len → entry.done ≡ false → entry.folder_faults ≡ faults → length log < calls → IsHost present now base (entry ∷ log) calls faults at len
failed_host present now base log entry calls faults at len host failed count room =
    let disk : disk_after base (entry ∷ log) ≡ disk_after base log = cond-false entry.done (played entry.call (disk_after base log)) (disk_after base log) failed in
    record {
      folder = host.folder ∙ sym disk;
      synced = subst AreSynced (sym disk) host.synced;
      said = host.said ∙ sym (cond-false entry.done (said entry.call (output_after log)) (output_after log) failed);
      counted = omega (arith, room);
      faulted = omega (arith, count, host.faulted);
      within = host.within;
    }

-- a file that was put before the first call
pub put_host : (before after : MemFolder) (now : List ℕ) (base : List (List ℕ × List ℕ)) (log : List Entry) (name bytes : List ℕ) (calls faults at len : ℕ)
    → IsHost before now base log calls faults at len → calls ≡ 0 → disk_in after ≡ with_put name bytes (disk_in before) → IsHost after now ((name, bytes) ∷ base) log calls faults at len
put_host before after now base [] name bytes calls faults at len host unused put = record {
  folder = put ∙ ap (λ (d : Disk). with_put name bytes d) host.folder;
  synced = put_synced name bytes (base_disk base) host.synced;
  said = host.said;
  counted = host.counted;
  faulted = host.faulted;
  within = host.within;
}
put_host before after now base (entry ∷ log) name bytes calls faults at len host unused put = absurd (omega (arith, unused, host.counted))

pub puts_pushed : (base pushed : List PutFile) (file : PutFile) (name bytes : List ℕ) → pushed ≡ base ++ file ∷ [] → string_bytes file.name ≡ name → file.bytes.items ≡ bytes → puts pushed ≡ (name, bytes) ∷ puts base
puts_pushed base pushed file name bytes is named holds =
    ap (λ (files : List PutFile). map (λ (f : PutFile). (string_bytes f.name, f.bytes.items)) files) (ap (λ (files : List PutFile). reverse files) is ∙ reverse-append base (file ∷ []))
    ∙ (λ i. (named i, holds i) ∷ puts base)
