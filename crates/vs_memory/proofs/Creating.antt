-- A file that is made in a folder that is played, and its mode.
use Rattle.std.proofs.Common.{◌≡◌, ◌≢◌, ℕ, List, [], Option, Some, refl, sym, ap, ◌∙◌, false, nat_eq, arith, subst}
use Rattle.std.specs.Prelude.{option_map}
use Rattle.std.specs.Str.{bytes_eq}
use Rattle.std.proofs.lemmas.Slice.Eq.{bytes_eq-Decides}
use Rattle.std.proofs.lemmas.Bool.{cond-true, cond-false}
use Rattle.std.proofs.lemmas.Bool.Decides.{nat_tests}
use Rattle.std.proofs.Common.{eq-eqb}
use Rattle.vs_host.specs.File.{synced_file}
use Rattle.vs_host.specs.Disk.{Disk, Name, Mode, CreatesFile, mode_in, names_of}
use Rattle.vs_memory.specs.declared.log.Entry.{Entry}
use Rattle.vs_memory.specs.declared.log.Call.{Call}
use Rattle.vs_memory.specs.declared.log.Call.TheVariants.{Create}
use Rattle.std.specs.Prelude.{Ok, IfOk, true, String, string_bytes}
use Rattle.std.specs.declared.alloc.Global.{Global}
use Rattle.std.specs.declared.alloc.AllocError.{AllocError}
use Rattle.std.specs.declared.result.Result.{Result}
use Rattle.vs_memory.specs.Memory.{Memory, recorded, counted, folder_of}
use Rattle.vs_memory.proofs.Results.{if_ok}
use Rattle.vs_memory.specs.Folders.{with_file}
use Rattle.vs_memory.specs.Replay.{disk_after}
use Rattle.vs_memory.specs.Validity.{is_fresh}

eqb_not : (a b : ℕ) → a ≢ b → nat_eq a b ≡ false
eqb_not a b not = grind (arith, nat_tests)

pub creates : (base : List (List ℕ × List ℕ)) (log : List Entry) (name : Name) (mode : Mode) → CreatesFile name (disk_after base log) (with_file name mode (disk_after base log))
creates base log name mode =
    let disk : Disk = disk_after base log in
    record {
      number = disk.made;
      fresh = λ lost other. is_fresh base log lost other;
      synced = refl;
      pending = refl;
      empty = cond-true (nat_eq disk.made disk.made) (synced_file []) (disk.files disk.made) (eq-eqb disk.made disk.made refl);
      others = λ other not. cond-false (nat_eq other disk.made) (synced_file []) (disk.files other) (eqb_not other disk.made not);
      modes = λ other not. cond-false (nat_eq other disk.made) mode (disk.modes other) (eqb_not other disk.made not);
    }

-- the call that was played made the file with this mode
created_as : (old new : Memory) (name : Name) (mode : Mode) (call : Result Call AllocError) → IfOk call (λ c. (n : String Global) × (string_bytes n ≡ name) × (c ≡ Create n mode))
    → ((c : Call) × (call ≡ Ok c) × (new ≡ recorded c true (counted old))) → folder_of new ≡ with_file name mode (folder_of old)
created_as old new name mode call made is =
    let c = if_ok (λ c. (n : String Global) × (string_bytes n ≡ name) × (c ≡ Create n mode)) call is.0 made is.1 in
    ap (λ (m : Memory). folder_of m) (is.2 ∙ ap (λ (x : Call). recorded x true (counted old)) c.2)
    ∙ ap (λ (b : Name). with_file b mode (folder_of old)) c.1

pub created : (old new : Memory) (name : Name) (mode : Mode) (call : Result Call AllocError) → IfOk call (λ c. (n : String Global) × (string_bytes n ≡ name) × (c ≡ Create n mode))
    → ((c : Call) × (call ≡ Ok c) × (new ≡ recorded c true (counted old))) → CreatesFile name (folder_of old) (folder_of new)
created old new name mode call made is =
    subst (λ (d : Disk). CreatesFile name (folder_of old) d) (sym (created_as old new name mode call made is)) (creates old.base old.log name mode)

-- the mode of a file that was made
mode_of_file : (name : Name) (mode : Mode) (disk : Disk) → mode_in (with_file name mode disk) name ≡ Some mode
mode_of_file name mode disk =
    ap (λ (at : Option ℕ). option_map (with_file name mode disk).modes at)
    (cond-true (bytes_eq name name) (Some disk.made) (names_of disk name) ((bytes_eq-Decides name name).1 refl))
    ∙ ap (λ (m : Mode). Some m) (cond-true (nat_eq disk.made disk.made) mode (disk.modes disk.made) (eq-eqb disk.made disk.made refl))

pub created_mode : (old new : Memory) (name : Name) (mode : Mode) (call : Result Call AllocError) → IfOk call (λ c. (n : String Global) × (string_bytes n ≡ name) × (c ≡ Create n mode))
    → ((c : Call) × (call ≡ Ok c) × (new ≡ recorded c true (counted old))) → mode_in (folder_of new) name ≡ Some mode
created_mode old new name mode call made is =
    ap (λ (d : Disk). mode_in d name) (created_as old new name mode call made is) ∙ mode_of_file name mode (folder_of old)
