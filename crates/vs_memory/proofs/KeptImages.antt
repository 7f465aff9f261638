-- What is kept of a file is an image of it, whichever is chosen; so what a choice makes of a folder is an image of the folder.
use Rattle.std.proofs.Common.{◌≡◌, ℕ, ◌-◌, List, length, get_or, Option, Some, None, refl, sym, ap, ◌∙◌, subst, arith}
use Rattle.std.proofs.lemmas.Bool.{cond-false}
use Rattle.vs_host.specs.File.{File, IsFileImage, covers}
use Rattle.vs_host.specs.Disk.{Disk, Name, names_at, IsImage, IsImageOf}
use Rattle.vs_disk.proofs.Images.{read_image}
use Rattle.vs_memory.specs.declared.choice.Choice.{Choice}
use Rattle.vs_memory.specs.declared.choice.Keep.{Keep}
use Rattle.vs_memory.specs.Hosts.{AreSynced}
use Rattle.std.specs.Prelude.{Ok, Err, IfOk}
use Rattle.std.specs.declared.result.Result.{Result}
use Rattle.vs_host.specs.Disk.{content_in}
use Rattle.vs_memory.specs.Memory.{Memory, fresh_memory, folder_of}
use Rattle.vs_memory.specs.Images.{filled, kept_bytes, kept_under, chosen, put_under}
use Rattle.vs_memory.proofs.Fills.{size, at_place}

filled_image : (file : File) (byte : ℕ) → IsFileImage file (filled file.changed byte file.bytes)
filled_image file byte = record {
  no_shorter = omega (arith, size file.changed byte file.bytes);
  no_longer = omega (arith, size file.changed byte file.bytes);
  same = λ k lt none.
      at_place file.changed byte file.bytes k (omega (arith, lt, size file.changed byte file.bytes)) ∙ cond-false (covers file.changed k) byte (get_or file.bytes k 0) none;
}

kept_image : (keep : Keep) (file : File) → IsFileImage file file.synced → IsFileImage file (kept_bytes keep file)
kept_image Keep.Read file synced = read_image file
kept_image Keep.Synced file synced = synced
kept_image (Keep.Byte byte) file synced = filled_image file byte

under : (keep : Keep) (disk : Disk) (at : Option ℕ) → AreSynced disk → IsImageOf disk at (kept_under keep disk.files at)
under keep disk None synced = refl
under keep disk (Some number) synced = (kept_bytes keep (disk.files number), refl, kept_image keep (disk.files number) (synced number))

-- what has under each name what the choice makes
pub chosen_image : (choice : Choice) (disk : Disk) (image : Name → Option (List ℕ)) → AreSynced disk → ((name : Name) → image name ≡ chosen choice disk name) → IsImage disk image
chosen_image choice disk image synced is = (
  length disk.pending - choice.names,
  λ name.
      subst (λ (found : Option (List ℕ)). IsImageOf disk (names_at disk (length disk.pending - choice.names) name) found) (sym (is name))
      (under choice.keep disk (names_at disk (length disk.pending - choice.names) name) synced),
)

-- the same of a host that was made
pub chosen_of_host : (choice : Choice) (present disk : Disk) (script : List ℕ) → present ≡ disk → {E : Type 0} (result : Result Memory E)
    → IfOk result (λ host. host ≡ record (fresh_memory script) { base = host.base })
    → IfOk result (λ host. (name : List ℕ) → put_under host.base name ≡ chosen choice present name)
    → IfOk result (λ host. (name : List ℕ) → content_in (folder_of host) name ≡ chosen choice disk name)
chosen_of_host choice present disk script same (Ok host) fresh is = λ name.
    ap (λ (m : Memory). content_in (folder_of m) name) fresh ∙ is name ∙ ap (λ (d : Disk). chosen choice d name) same
chosen_of_host choice present disk script same (Err e) fresh is = tt

pub image_of_host : (choice : Choice) (disk : Disk) → AreSynced disk → {E : Type 0} (result : Result Memory E)
    → IfOk result (λ host. (name : List ℕ) → content_in (folder_of host) name ≡ chosen choice disk name)
    → IfOk result (λ host. IsImage disk (λ name. content_in (folder_of host) name))
image_of_host choice disk synced (Ok host) is = chosen_image choice disk (λ name. content_in (folder_of host) name) synced is
image_of_host choice disk synced (Err e) is = tt
