-- The bytes of the last sync are an image of each file: every call keeps that, since a write and a cut keep all images.
use Rattle.std.proofs.Common.{◌≡◌, inl, inr, ℕ, ◌≤◌, List, [], Option, Some, None, true, cond, length, sym, ap, subst, arith, nat_eq}
use Rattle.std.specs.Prelude.{IfSome, string_bytes}
use Rattle.std.proofs.lemmas.Bool.{cases_Bool, cond-true, cond-false}
use Rattle.std.proofs.lemmas.Bool.Decides.{nat_tests}
use Rattle.vs_host.specs.File.{File, IsFileImage, written, cut_to, synced_file}
use Rattle.vs_host.specs.Disk.{Disk, Name, like, names_of, read_under, content_in}
use Rattle.vs_disk.proofs.Images.{read_image, image_kept, image_cut}
use Rattle.vs_memory.specs.declared.log.Call.{Call}
use Rattle.vs_memory.specs.Folders.{on_number}
use Rattle.vs_memory.specs.Replay.{played, CanPlay, base_disk, with_put}
use Rattle.vs_memory.specs.Hosts.{AreSynced}

synced_is : (bytes : List ℕ) → IsFileImage (synced_file bytes) bytes
synced_is bytes = read_image (synced_file bytes)

equal : (a b : ℕ) → nat_eq a b ≡ true → a ≡ b
equal a b is = grind (arith, nat_tests)

-- one file more
more : (files : ℕ → File) (made : ℕ) (bytes : List ℕ) → ((n : ℕ) → IsFileImage (files n) (files n).synced) → (n : ℕ)
    → IsFileImage (cond (nat_eq n made) (synced_file bytes) (files n)) (cond (nat_eq n made) (synced_file bytes) (files n)).synced
more files made bytes all n = elim (cases_Bool (nat_eq n made)) [
  | inl new ↦ subst (λ (f : File). IsFileImage f f.synced) (sym (cond-true (nat_eq n made) (synced_file bytes) (files n) new)) (synced_is bytes)
  | inr old ↦ subst (λ (f : File). IsFileImage f f.synced) (sym (cond-false (nat_eq n made) (synced_file bytes) (files n) old)) (all n)
]

-- one file changed
on_at : (at : Option ℕ) (change : File → File) (disk : Disk) → ((n : ℕ) → at ≡ Some n → IsFileImage (change (disk.files n)) (change (disk.files n)).synced) → AreSynced disk → AreSynced (on_number at change disk)
on_at None change disk makes all n = all n
on_at (Some k) change disk makes all n = elim (cases_Bool (nat_eq n k)) [
  | inl same ↦
      subst (λ (f : File). IsFileImage f f.synced) (sym (cond-true (nat_eq n k) (change (disk.files n)) (disk.files n) same))
      (makes n (ap (λ (m : ℕ). Some m) (sym (equal n k same))))
  | inr other ↦ subst (λ (f : File). IsFileImage f f.synced) (sym (cond-false (nat_eq n k) (change (disk.files n)) (disk.files n) other)) (all n)
]

within : (disk : Disk) (name : Name) (at n : ℕ) → IfSome (content_in disk name) (λ bytes. at ≤ length bytes) → names_of disk name ≡ Some n → at ≤ length (disk.files n).bytes
within disk name at n fits leads = subst (λ (o : Option ℕ). IfSome (read_under disk o) (λ bytes. at ≤ length bytes)) leads fits

pub played_synced : (call : Call) (disk : Disk) → CanPlay call disk → AreSynced disk → AreSynced (played call disk)
played_synced Call.Read disk can all = all
played_synced (Call.Write piece) disk can all = all
played_synced (Call.Has name) disk can all = all
played_synced (Call.Create name mode) disk can all = more disk.files disk.made [] all
played_synced (Call.Len name) disk can all = all
played_synced (Call.ReadAt name) disk can all = all
played_synced (Call.WriteAt name at piece) disk can all =
    on_at (names_of disk (string_bytes name)) (written at piece.items) disk
    (λ n leads. image_kept (disk.files n) at (length piece.items) piece.items (disk.files n).synced (within disk (string_bytes name) at n can leads) (omega arith) (all n)) all
played_synced (Call.Cut name len) disk can all =
    on_at (names_of disk (string_bytes name)) (cut_to len) disk
    (λ n leads. image_cut (disk.files n) len (disk.files n).synced (within disk (string_bytes name) len n can leads) (all n)) all
played_synced (Call.Sync name) disk can all =
    on_at (names_of disk (string_bytes name)) (λ file. synced_file file.bytes) disk (λ n leads. synced_is (disk.files n).bytes) all
played_synced (Call.SyncLike model name) disk can all =
    on_at (names_of disk (string_bytes name)) (λ file. synced_file file.bytes) (like (string_bytes model) (string_bytes name) disk)
    (λ n leads. synced_is (disk.files n).bytes) all
played_synced (Call.Rename from to) disk can all = all
played_synced (Call.Remove name) disk can all = all
played_synced Call.SyncNames disk can all = all

pub put_synced : (name : Name) (bytes : List ℕ) (disk : Disk) → AreSynced disk → AreSynced (with_put name bytes disk)
put_synced name bytes disk all = more disk.files disk.made bytes all

pub none_synced : AreSynced (base_disk [])
none_synced n = synced_is []
