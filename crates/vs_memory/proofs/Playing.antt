-- What a call that was played has made of the folder, in the words of the traits: by cases of where its name leads.
use Rattle.std.proofs.Common.{◌≡◌, ◌≢◌, inl, inr, ℕ, ◌≤◌, List, Option, Some, None, length, true, false, refl, sym, ap, ◌∙◌, subst, arith, nat_eq, eq-eqb}
use Rattle.std.specs.Prelude.{Ok, Err, IfOk, OnOk, OnErr, IsSomeAnd, String, Vec, string_bytes}
use Rattle.std.specs.declared.alloc.Global.{Global}
use Rattle.std.specs.declared.result.Result.{Result}
use Rattle.std.specs.declared.alloc.AllocError.{AllocError}
use Rattle.std.proofs.lemmas.Bool.{cond-true, cond-false}
use Rattle.std.proofs.lemmas.Bool.Decides.{nat_tests}
use Rattle.vs_host.specs.File.{File, Writes, WritesSome, Cuts, Syncs, written, cut_to, synced_file}
use Rattle.vs_host.specs.Disk.{Disk, Name, names_of, read_under, content_in, ChangesFile, like}
use Rattle.vs_memory.specs.declared.log.Call.{Call}
use Rattle.vs_memory.specs.declared.log.Call.TheVariants.{Sync, SyncLike, Cut, WriteAt}
use Rattle.vs_memory.specs.Memory.{Memory, recorded, counted, folder_of}
use Rattle.vs_memory.specs.Folders.{on_number, on_file}
use Rattle.vs_memory.specs.Replay.{played}
use Rattle.vs_memory.proofs.Results.{if_ok}

some_same : (a b : ℕ) → Some a ≡ Some b → a ≡ b
some_same a b e = cc

eqb_not : (a b : ℕ) → a ≢ b → nat_eq a b ≡ false
eqb_not a b not = grind (arith, nat_tests)

on_at : (name : Name) (change : File → File) (step : File → File → Type 0) (disk : Disk) → ((a : File) → step a (change a)) → (at : Option ℕ) → names_of disk name ≡ at
    → ChangesFile name step disk (on_number at change disk)
on_at name change step disk makes None leads = record {
  synced = refl;
  pending = refl;
  modes = refl;
  others = λ number not. refl;
  this = λ number is. let clash : None ≡ Some number = sym leads ∙ is in absurd (cc clash);
}
on_at name change step disk makes (Some k) leads = record {
  synced = refl;
  pending = refl;
  modes = refl;
  others = λ number not. cond-false (nat_eq number k) (change (disk.files number)) (disk.files number) (eqb_not number k (λ same. not (leads ∙ ap (λ (n : ℕ). Some n) (sym same))));
  this = λ number is.
      let same : number ≡ k = sym (some_same k number (sym leads ∙ is)) in
      subst (λ (f : File). step (disk.files number) f) (sym (cond-true (nat_eq number k) (change (disk.files number)) (disk.files number) (eq-eqb number k same))) (makes (disk.files number));
}

-- a call on a file
pub file_called : (name : Name) (change : File → File) (step : File → File → Type 0) (disk : Disk) → ((a : File) → step a (change a)) → ChangesFile name step disk (on_file name change disk)
file_called name change step disk makes = on_at name change step disk makes (names_of disk name) refl

-- what a call that was played has done
pub played_as : (old new : Memory) (call : Result Call AllocError) (Q : Call → Type 0) (R : Disk → Disk → Type 0) → IfOk call Q
    → ((c : Call) → Q c → R (folder_of old) (played c (folder_of old)))
    → ((c : Call) × (call ≡ Ok c) × (new ≡ recorded c true (counted old))) → R (folder_of old) (folder_of new)
played_as old new call Q R made does is =
    subst (λ (m : Memory). R (folder_of old) (folder_of m)) (sym is.2) (does is.0 (if_ok Q call is.0 made is.1))

written_at : (disk : Disk) (at : ℕ) (k : ℕ) → IsSomeAnd (read_under disk (Some k)) (λ bytes. at ≤ length bytes) → at ≤ length (disk.files k).bytes
written_at disk at k is = is

-- a write, as one of those that may fail
pub writes_some : (name : Name) (at : ℕ) (piece : List ℕ) (old new : Disk) → IsSomeAnd (content_in old name) (λ bytes. at ≤ length bytes)
    → ChangesFile name (Writes at piece) old new → ChangesFile name (WritesSome at (length piece)) old new
writes_some name at piece old new within changes = record {
  synced = changes.synced;
  pending = changes.pending;
  modes = changes.modes;
  others = changes.others;
  this = λ number is.
      inr (piece, written_at old at number (subst (λ (o : Option ℕ). IsSomeAnd (read_under old o) (λ bytes. at ≤ length bytes)) is within), omega arith, changes.this number is);
}

pub writes_none : (name : Name) (at n : ℕ) (old new : Disk) → new ≡ old → ChangesFile name (WritesSome at n) old new
writes_none name at n old new same = subst (λ (d : Disk). ChangesFile name (WritesSome at n) old d) (sym same) (record {
  synced = refl;
  pending = refl;
  modes = refl;
  others = λ number not. refl;
  this = λ number is. inl refl;
})

-- a call that names a file, with its name as given
named : (name : Name) (n : String Global) (call made : Call) (change : File → File) (step : File → File → Type 0) (disk : Disk) → ((a : File) → step a (change a)) → string_bytes n ≡ name → call ≡ made
    → played made disk ≡ on_file (string_bytes n) change disk → ChangesFile name step disk (played call disk)
named name n call made change step disk makes is same does =
    subst (λ (b : Name). ChangesFile b step disk (played call disk)) is
    (subst (λ (d : Disk). ChangesFile (string_bytes n) step disk d) (sym (ap (λ (x : Call). played x disk) same ∙ does)) (file_called (string_bytes n) change step disk makes))

pub sync_called : (old new : Memory) (name : Name) (call : Result Call AllocError) → IfOk call (λ x. (n : String Global) × (string_bytes n ≡ name) × (x ≡ Sync n))
    → ((c : Call) × (call ≡ Ok c) × (new ≡ recorded c true (counted old))) → ChangesFile name Syncs (folder_of old) (folder_of new)
sync_called old new name call made is =
    played_as old new call (λ x. (n : String Global) × (string_bytes n ≡ name) × (x ≡ Sync n)) (ChangesFile name Syncs) made
    (λ x m. named name m.0 x (Sync m.0) (λ file. synced_file file.bytes) Syncs (folder_of old) (λ a. refl) m.1 m.2 refl) is

-- the same with the mode of another file
liked : (model name : Name) (m n : String Global) (call : Call) (disk : Disk) → string_bytes m ≡ model → string_bytes n ≡ name → call ≡ SyncLike m n
    → ChangesFile name Syncs (like model name disk) (played call disk)
liked model name m n call disk model_is name_is same =
    subst (λ (c : Call). ChangesFile name Syncs (like model name disk) (played c disk)) (sym same)
    (subst (λ (a : Name). ChangesFile name Syncs (like a name disk) (played (SyncLike m n) disk)) model_is
    (subst (λ (b : Name). ChangesFile b Syncs (like (string_bytes m) b disk) (played (SyncLike m n) disk)) name_is
    (file_called (string_bytes n) (λ file. synced_file file.bytes) Syncs (like (string_bytes m) (string_bytes n) disk) (λ a. refl))))

pub sync_like_called : (old new : Memory) (model name : Name) (call : Result Call AllocError)
    → IfOk call (λ x. (m : String Global) × (n : String Global) × (string_bytes m ≡ model) × (string_bytes n ≡ name) × (x ≡ SyncLike m n))
    → ((c : Call) × (call ≡ Ok c) × (new ≡ recorded c true (counted old))) → ChangesFile name Syncs (like model name (folder_of old)) (folder_of new)
sync_like_called old new model name call made is =
    played_as old new call (λ x. (m : String Global) × (n : String Global) × (string_bytes m ≡ model) × (string_bytes n ≡ name) × (x ≡ SyncLike m n))
    (λ before after. ChangesFile name Syncs (like model name before) after) made
    (λ x m. liked model name m.0 m.1 x (folder_of old) m.2 m.3 m.4) is

pub cut_called : (old new : Memory) (name : Name) (len : ℕ) (call : Result Call AllocError) → IfOk call (λ x. (n : String Global) × (string_bytes n ≡ name) × (x ≡ Cut n len))
    → ((c : Call) × (call ≡ Ok c) × (new ≡ recorded c true (counted old))) → ChangesFile name (Cuts len) (folder_of old) (folder_of new)
cut_called old new name len call made is =
    played_as old new call (λ x. (n : String Global) × (string_bytes n ≡ name) × (x ≡ Cut n len)) (ChangesFile name (Cuts len)) made
    (λ x m. named name m.0 x (Cut m.0 len) (cut_to len) (Cuts len) (folder_of old) (λ a. refl) m.1 m.2 refl) is

pub write_called : (old new : Memory) (name : Name) (at : ℕ) (piece : List ℕ) (call : Result Call AllocError)
    → IfOk call (λ x. (n : String Global) × (p : Vec ℕ Global) × (string_bytes n ≡ name) × (p.items ≡ piece) × (x ≡ WriteAt n at p))
    → ((c : Call) × (call ≡ Ok c) × (new ≡ recorded c true (counted old))) → ChangesFile name (Writes at piece) (folder_of old) (folder_of new)
write_called old new name at piece call made is =
    played_as old new call (λ x. (n : String Global) × (p : Vec ℕ Global) × (string_bytes n ≡ name) × (p.items ≡ piece) × (x ≡ WriteAt n at p)) (ChangesFile name (Writes at piece)) made
    (λ x m. named name m.0 x (WriteAt m.0 at m.1) (written at m.1.items) (Writes at piece) (folder_of old) (λ a. ap (λ (b : List ℕ). written at b a) m.3) m.2 m.4 refl) is

pub write_either : (old new : Memory) (name : Name) (at : ℕ) (piece : List ℕ) {T E : Type 0} (result : Result T E) → IsSomeAnd (content_in (folder_of old) name) (λ bytes. at ≤ length bytes)
    → OnOk result (ChangesFile name (Writes at piece) (folder_of old) (folder_of new)) → OnErr result (folder_of new ≡ folder_of old)
    → ChangesFile name (WritesSome at (length piece)) (folder_of old) (folder_of new)
write_either old new name at piece (Ok v) within done failed = writes_some name at piece (folder_of old) (folder_of new) within done
write_either old new name at piece (Err e) within done failed = writes_none name at (length piece) (folder_of old) (folder_of new) failed
