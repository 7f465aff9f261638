-- The names of a folder that is played lead to files as in a folder.
use Rattle.std.proofs.Common.{◌≡◌, ◌≢◌, ◌⊎◌, inl, inr, ℕ, zero, suc, ◌+◌, ◌<◌, ◌≤◌, Bool, true, false, cond, List, [], ◌∷◌, drop, Option, Some, None, refl}
use Rattle.std.proofs.Common.{sym, ◌∙◌, subst, arith}
use Rattle.std.specs.Str.{bytes_eq}
use Rattle.std.proofs.lemmas.Bool.{cases_Bool, cond-true, cond-false, false≢true}
use Rattle.std.proofs.lemmas.Slice.Eq.{bytes_eq-Decides}
use Rattle.std.proofs.Math.Nat.{le-max_right}
use Rattle.std.specs.Prelude.{string_bytes}
use Rattle.vs_host.specs.File.{File, written, cut_to, synced_file}
use Rattle.vs_host.specs.Disk.{Disk, Name, Directory, Mode, like, Change, Creates, Renames, Removes, changed_names, after_changes, names_of, names_at, IsFolder}
use Rattle.vs_memory.specs.declared.log.Call.{Call}
use Rattle.vs_memory.specs.declared.log.Entry.{Entry}
use Rattle.vs_memory.specs.Folders.{no_names, on_number, with_file, with_change, with_names}
use Rattle.vs_host.specs.Trace.{Snapshot, most_faults}
use Rattle.vs_host.specs.World.{HasNewest}
use Rattle.vs_memory.specs.Memory.{Memory, scene_of}
use Rattle.vs_memory.specs.Replay.{played, disk_after, output_after, trace_after, began, logged, base_disk}

-- Names lead to different files, each of which was made.
pub record AreValid (names : Directory) (made : ℕ) : Type 0 where
  pub apart : (one other : Name) (number : ℕ) → names one ≡ Some number → names other ≡ Some number → one ≡ other
  pub below : (name : Name) (number : ℕ) → names name ≡ Some number → number < made

-- Whatever a stop loses of the names, each leads to a file that was made.
abbrev pub IsValid : Disk → Type 0
IsValid disk = (lost : ℕ) → AreValid (names_at disk lost) disk.made

split : (b : Bool) (x y : Option ℕ) (number : ℕ) → cond b x y ≡ Some number → ((b ≡ true) × (x ≡ Some number)) ⊎ ((b ≡ false) × (y ≡ Some number))
split b x y number is = elim (cases_Bool b) [
  | inl holds ↦ inl (holds, sym (cond-true b x y holds) ∙ is)
  | inr not ↦ inr (not, sym (cond-false b x y not) ∙ is)
]

named : (a b : Name) → bytes_eq a b ≡ true → a ≡ b
named a b is = (bytes_eq-Decides a b).0 is

unnamed : (a b : Name) → bytes_eq a b ≡ false → a ≢ b
unnamed a b not same = false≢true (sym not ∙ (bytes_eq-Decides a b).1 same)

some_same : (a b : ℕ) → Some a ≡ Some b → a ≡ b
some_same a b e = cc

none_some : (a : ℕ) (X : Type 0) → None ≡ Some a → X
none_some a X e = cc

valid_more : (names : Directory) (made more : ℕ) → made ≤ more → AreValid names made → AreValid names more
valid_more names made more le valid = record { apart = valid.apart; below = λ name number leads. let lt = valid.below name number leads in omega arith }

valid_created : (name : Name) (names : Directory) (made : ℕ) → AreValid names made → AreValid (changed_names (Creates name made) names) (made + 1)
valid_created name names made valid = record {
  apart = λ one other number leads also. elim (split (bytes_eq name one) (Some made) (names one) number leads) [
    | inl new ↦ elim (split (bytes_eq name other) (Some made) (names other) number also) [
      | inl too ↦ sym (named name one new.0) ∙ named name other too.0
      | inr old ↦
          let same : made ≡ number = some_same made number new.1 in
          let lt = valid.below other number old.1 in
          absurd (omega arith)
    ]
    | inr old ↦ elim (split (bytes_eq name other) (Some made) (names other) number also) [
      | inl too ↦
          let same : made ≡ number = some_same made number too.1 in
          let lt = valid.below one number old.1 in
          absurd (omega arith)
      | inr both ↦ valid.apart one other number old.1 both.1
    ]
  ];
  below = λ one number leads. elim (split (bytes_eq name one) (Some made) (names one) number leads) [
    | inl new ↦ let same : made ≡ number = some_same made number new.1 in omega arith
    | inr old ↦ let lt = valid.below one number old.1 in omega arith
  ];
}

-- where a name leads after a rename
moved : (from to one : Name) (names : Directory) (number : ℕ) → changed_names (Renames from to) names one ≡ Some number
    → ((to ≡ one) × (names from ≡ Some number)) ⊎ ((from ≢ one) × (names one ≡ Some number))
moved from to one names number leads = elim (split (bytes_eq to one) (names from) (cond (bytes_eq from one) None (names one)) number leads) [
  | inl new ↦ inl (named to one new.0, new.1)
  | inr old ↦ elim (split (bytes_eq from one) None (names one) number old.1) [
    | inl gone ↦ none_some number _ gone.1
    | inr still ↦ inr (unnamed from one still.0, still.1)
  ]
]

valid_renamed : (from to : Name) (names : Directory) (made : ℕ) → AreValid names made → AreValid (changed_names (Renames from to) names) made
valid_renamed from to names made valid = record {
  apart = λ one other number leads also. elim (moved from to one names number leads) [
    | inl new ↦ elim (moved from to other names number also) [
      | inl too ↦ sym new.0 ∙ too.0
      | inr old ↦ absurd (old.0 (valid.apart from other number new.1 old.1))
    ]
    | inr old ↦ elim (moved from to other names number also) [
      | inl too ↦ absurd (old.0 (sym (valid.apart one from number old.1 too.1)))
      | inr both ↦ valid.apart one other number old.1 both.1
    ]
  ];
  below = λ one number leads. elim (moved from to one names number leads) [
    | inl new ↦ valid.below from number new.1
    | inr old ↦ valid.below one number old.1
  ];
}

valid_removed : (name : Name) (names : Directory) (made : ℕ) → AreValid names made → AreValid (changed_names (Removes name) names) made
valid_removed name names made valid = record {
  apart = λ one other number leads also. valid.apart one other number (still one number leads) (still other number also);
  below = λ one number leads. valid.below one number (still one number leads);
}
  where
    still : (one : Name) (number : ℕ) → changed_names (Removes name) names one ≡ Some number → names one ≡ Some number
    still one number leads = elim (split (bytes_eq name one) None (names one) number leads) [
      | inl gone ↦ none_some number _ gone.1
      | inr old ↦ old.1
    ]

file_valid : (name : Name) (mode : Mode) (disk : Disk) → IsValid disk → IsValid (with_file name mode disk)
file_valid name mode disk valid zero = valid_created name (names_of disk) disk.made (valid 0)
file_valid name mode disk valid (suc lost) = valid_more (names_at disk lost) disk.made (disk.made + 1) (omega arith) (valid lost)

change_valid : (change : Change) (disk : Disk) → AreValid (changed_names change (names_of disk)) disk.made → IsValid disk → IsValid (with_change change disk)
change_valid change disk now valid zero = now
change_valid change disk now valid (suc lost) = valid lost

none_left : (lost : ℕ) (names : Directory) → after_changes (drop lost []) names ≡ names
none_left zero names = refl
none_left (suc lost) names = refl

names_valid : (disk : Disk) → IsValid disk → IsValid (with_names disk)
names_valid disk valid lost = subst (λ (names : Directory). AreValid names disk.made) (sym (none_left lost (names_of disk))) (valid 0)

number_valid : (at : Option ℕ) (change : File → File) (disk : Disk) → IsValid disk → IsValid (on_number at change disk)
number_valid None change disk valid = valid
number_valid (Some number) change disk valid = valid

played_valid : (call : Call) (disk : Disk) → IsValid disk → IsValid (played call disk)
played_valid Call.Read disk valid = valid
played_valid (Call.Write piece) disk valid = valid
played_valid (Call.Has name) disk valid = valid
played_valid (Call.Create name mode) disk valid = file_valid (string_bytes name) mode disk valid
played_valid (Call.Len name) disk valid = valid
played_valid (Call.ReadAt name) disk valid = valid
played_valid (Call.WriteAt name at piece) disk valid = number_valid (names_of disk (string_bytes name)) (written at piece.items) disk valid
played_valid (Call.Cut name len) disk valid = number_valid (names_of disk (string_bytes name)) (cut_to len) disk valid
played_valid (Call.Sync name) disk valid = number_valid (names_of disk (string_bytes name)) (λ file. synced_file file.bytes) disk valid
played_valid (Call.SyncLike model name) disk valid = number_valid (names_of disk (string_bytes name)) (λ file. synced_file file.bytes)
    (like (string_bytes model) (string_bytes name) disk) valid
played_valid (Call.Rename from to) disk valid = change_valid (Renames (string_bytes from) (string_bytes to)) disk
    (valid_renamed (string_bytes from) (string_bytes to) (names_of disk) disk.made (valid 0)) valid
played_valid (Call.Remove name) disk valid = change_valid (Removes (string_bytes name)) disk
    (valid_removed (string_bytes name) (names_of disk) disk.made (valid 0)) valid
played_valid Call.SyncNames disk valid = names_valid disk valid

pub base_valid : (base : List (List ℕ × List ℕ)) → IsValid (base_disk base)
base_valid [] lost = subst (λ (names : Directory). AreValid names 0) (sym (none_left lost no_names))
    (record { apart = λ one other number leads also. none_some number _ leads; below = λ name number leads. none_some number _ leads })
base_valid ((name, bytes) ∷ base) lost =
    subst (λ (names : Directory). AreValid names (base_disk ((name, bytes) ∷ base)).made) (sym (none_left lost (base_disk ((name, bytes) ∷ base)).synced))
    (valid_created name (names_of (base_disk base)) (base_disk base).made (base_valid base 0))

pub disk_valid : (base : List (List ℕ × List ℕ)) (log : List Entry) → IsValid (disk_after base log)
disk_valid base [] = base_valid base
disk_valid base (entry ∷ log) = elim (cases_Bool entry.done) [
  | inl done ↦ subst (λ (d : Disk). IsValid d) (sym (cond-true entry.done (played entry.call (disk_after base log)) (disk_after base log) done))
      (played_valid entry.call (disk_after base log) (disk_valid base log))
  | inr not ↦ subst (λ (d : Disk). IsValid d) (sym (cond-false entry.done (played entry.call (disk_after base log)) (disk_after base log) not))
      (disk_valid base log)
]

pub is_folder : (base : List (List ℕ × List ℕ)) (log : List Entry) → IsFolder (disk_after base log)
is_folder base log = record { apart = λ lost one other number leads also. (disk_valid base log lost).apart one other number leads also }

-- the number of the next file is that of none
pub is_fresh : (base : List (List ℕ × List ℕ)) (log : List Entry) (lost : ℕ) (name : Name)
    → names_at (disk_after base log) lost name ≢ Some (disk_after base log).made
is_fresh base log lost name leads = let lt = (disk_valid base log lost).below name (disk_after base log).made leads in absurd (omega arith)

-- the trace with its newest snapshot
record Traced (base : List (List ℕ × List ℕ)) (log : List Entry) : Type 0 where
  pub newest : Snapshot
  pub older : List Snapshot
  pub is : trace_after base log ≡ newest ∷ older
  pub folder : newest.folder ≡ disk_after base log
  pub output : newest.output ≡ output_after log

traced : (base : List (List ℕ × List ℕ)) (log : List Entry) → Traced base log
traced base [] = record { newest = began base; older = []; is = refl; folder = refl; output = refl }
traced base (entry ∷ log) = record { newest = logged base entry log; older = trace_after base log; is = refl; folder = refl; output = refl }

-- the newest snapshot is that of the folder and the output as they are
pub newest : (host : Memory) → HasNewest (scene_of host)
newest host = let t = traced host.base host.log in record { newest = t.newest; older = t.older; is = t.is; folder = t.folder; output = t.output }

-- no snapshot has a count of the folder's faults above the one now
pub most_counted : (host : Memory) → most_faults (scene_of host).trace ≤ (scene_of host).folder_faults
most_counted host = le-max_right host.folder_faults (most_faults (trace_after host.base host.log))
