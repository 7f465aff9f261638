-- How a folder in memory changes.
use Rattle.std.proofs.Common.{◌≡◌, ◌≢◌, ℕ, zero, suc, ◌+◌, ◌<◌, false, List, [], ◌∷◌, ◌++◌, map, take, drop, length, get_or, Option, Some, refl, sym, ◌∙◌, ap, arith, nat_eq, add-one}
use Rattle.std.specs.Prelude.{reverse, if◌then◌else◌, string_bytes}
use Rattle.std.proofs.Common.{inl, inr, ◌⊎◌, length-append, length-set, eq-eqb}
use Rattle.std.specs.Prelude.{set, String}
use Rattle.std.specs.declared.alloc.Global.{Global}
use Rattle.std.proofs.lemmas.Bool.{cond-true, cond-false}
use Rattle.std.proofs.lemmas.Bool.Decides.{nat_tests}
use Rattle.std.specs.Prelude.{Ok, Err, OnErr}
use Rattle.std.specs.declared.result.Result.{Result}
use Rattle.std.proofs.lemmas.List.{length-map, map-set, get_or-set_other}
use Rattle.std.proofs.lemmas.Grind.{common_steps, get_or-set_at}
use Rattle.vs_host.specs.File.{File, synced_file}
use Rattle.vs_host.specs.Disk.{Name, Directory, Mode, owner_mode, modes_like, like, after_changes, changed_names, names_of}
use Rattle.vs_host.specs.Disk as Disks
use Rattle.vs_memory.specs.declared.names.NameChange.{NameChange}
use Rattle.vs_memory.specs.declared.names.NameChange.TheVariants.{Create}
use Rattle.vs_memory.specs.declared.file.MemFile.{MemFile}
use Rattle.vs_memory.specs.Replay.{with_put, usual_mode}
use Rattle.vs_memory.specs.Folders.{disk_of, file_of, file_at, mode_at, change_of, no_names, on_number, on_file, with_file, with_change, with_names}
use Rattle.vs_memory.specs.Images.{names_after}

-- the names after all changes, synced or not
pub split_names : (pending : ℕ) (all : List Disks.Change) → after_changes (take pending all) (after_changes (drop pending all) no_names) ≡ after_changes all no_names
split_names zero all = refl
split_names (suc pending) [] = refl
split_names (suc pending) (change ∷ all) = ap (λ (names : Directory). changed_names change names) (split_names pending all)

pub names_now : (changes : List NameChange) (pending : ℕ) (files : List MemFile) → names_of (disk_of changes pending files) ≡ names_after changes
names_now changes pending files = split_names pending (map change_of (reverse changes))

pub pushed : (changes : List NameChange) (change : NameChange) → map change_of (reverse (changes ++ change ∷ [])) ≡ change_of change ∷ map change_of (reverse changes)
pushed changes change = grind (arith, common_steps)

-- one name change more
pub one_change : (changes : List NameChange) (pending : ℕ) (files : List MemFile) (change : NameChange) → disk_of (changes ++ change ∷ []) (pending + 1) files ≡ with_change (change_of change) (disk_of changes pending files)
one_change changes pending files change = λ i. record {
  files = λ number. file_at files number;
  modes = λ number. mode_at files number;
  made = length files;
  synced = after_changes (drop (add-one pending i) (pushed changes change i)) no_names;
  pending = take (add-one pending i) (pushed changes change i);
}

-- Where the name leads.
pub leads : (changes : List NameChange) (pending : ℕ) (files : List MemFile) (name : Name) (at : Option ℕ) → at ≡ names_after changes name → at ≡ names_of (disk_of changes pending files) name
leads changes pending files name at is = is ∙ sym (ap (λ (f : Directory). f name) (names_now changes pending files))

same_or_not : (a b : ℕ) → (a ≡ b) ⊎ (a ≢ b)
same_or_not a b = grind arith

eqb_not : (a b : ℕ) → a ≢ b → nat_eq a b ≡ false
eqb_not a b not = grind (arith, nat_tests)

-- the mode of one file set
mode_set : (files : List MemFile) (number : ℕ) (kept : MemFile) → number < length files
    → (other : ℕ) → mode_at (set files number kept) other ≡ (if nat_eq other number then kept.mode else mode_at files other)
mode_set files number kept lt other = elim (same_or_not other number) [
  | inl same ↦
      ap (λ (ms : List Mode). get_or ms other owner_mode) (map-set (λ (f : MemFile). f.mode) files number kept)
      ∙ get_or-set_at (map (λ (f : MemFile). f.mode) files) number other kept.mode owner_mode same (omega (arith, length-map files (λ (f : MemFile). f.mode)))
      ∙ sym (cond-true (nat_eq other number) kept.mode (mode_at files other) (eq-eqb other number same))
  | inr not ↦
      ap (λ (ms : List Mode). get_or ms other owner_mode) (map-set (λ (f : MemFile). f.mode) files number kept)
      ∙ get_or-set_other (map (λ (f : MemFile). f.mode) files) number other kept.mode owner_mode not
      ∙ sym (cond-false (nat_eq other number) kept.mode (mode_at files other) (eqb_not other number not))
]

-- a file that keeps its mode
mode_kept : (files : List MemFile) (number : ℕ) (kept : MemFile) → number < length files → kept.mode ≡ mode_at files number
    → (other : ℕ) → mode_at (set files number kept) other ≡ mode_at files other
mode_kept files number kept lt is other = mode_set files number kept lt other ∙ elim (same_or_not other number) [
  | inl same ↦ cond-true (nat_eq other number) kept.mode (mode_at files other) (eq-eqb other number same) ∙ is ∙ ap (λ (n : ℕ). mode_at files n) (sym same)
  | inr not ↦ cond-false (nat_eq other number) kept.mode (mode_at files other) (eqb_not other number not)
]

-- one file changed
file_set : (files : List MemFile) (number : ℕ) (kept : MemFile) (change : File → File) → number < length files → file_of kept ≡ change (file_at files number)
    → (other : ℕ) → file_at (set files number kept) other ≡ (if nat_eq other number then change (file_at files other) else file_at files other)
file_set files number kept change lt is other = elim (same_or_not other number) [
  | inl same ↦
      ap (λ (fs : List File). get_or fs other (synced_file [])) (map-set file_of files number kept)
      ∙ get_or-set_at (map file_of files) number other (file_of kept) (synced_file []) same (omega (arith, length-map files file_of))
      ∙ is ∙ ap (λ (n : ℕ). change (file_at files n)) (sym same)
      ∙ sym (cond-true (nat_eq other number) (change (file_at files other)) (file_at files other) (eq-eqb other number same))
  | inr not ↦
      ap (λ (fs : List File). get_or fs other (synced_file [])) (map-set file_of files number kept)
      ∙ get_or-set_other (map file_of files) number other (file_of kept) (synced_file []) not
      ∙ sym (cond-false (nat_eq other number) (change (file_at files other)) (file_at files other) (eqb_not other number not))
]

pub one_file : (changes : List NameChange) (pending : ℕ) (files : List MemFile) (number : ℕ) (kept : MemFile) (change : File → File) → number < length files → file_of kept ≡ change (file_at files number) → kept.mode ≡ mode_at files number
    → disk_of changes pending (set files number kept) ≡ on_number (Some number) change (disk_of changes pending files)
one_file changes pending files number kept change lt is mode = λ i. record {
  files = λ other. file_set files number kept change lt is other i;
  modes = λ other. mode_kept files number kept lt mode other i;
  made = length-set files number kept i;
  synced = after_changes (drop pending (map change_of (reverse changes))) no_names;
  pending = take pending (map change_of (reverse changes));
}

-- what is at each place after one file more
at_end : {X : Type 0} (of : MemFile → X) (none : X) (files : List MemFile) (kept : MemFile) → get_or (map of (files ++ kept ∷ [])) (length files) none ≡ of kept
at_end of none [] kept = refl
at_end of none (file ∷ files) kept = at_end of none files kept

before_end : {X : Type 0} (of : MemFile → X) (none : X) (files : List MemFile) (kept : MemFile) (other : ℕ) → other ≢ length files
    → get_or (map of (files ++ kept ∷ [])) other none ≡ get_or (map of files) other none
before_end of none [] kept zero not = absurd (not refl)
before_end of none [] kept (suc other) not = refl
before_end of none (file ∷ files) kept zero not = refl
before_end of none (file ∷ files) kept (suc other) not = before_end of none files kept other (λ e. not (ap (λ (n : ℕ). suc n) e))

more_same : (files : List MemFile) (kept : MemFile) → file_at (files ++ kept ∷ []) (length files) ≡ file_of kept
more_same files kept = at_end file_of (synced_file []) files kept

more_other : (files : List MemFile) (kept : MemFile) (other : ℕ) → other ≢ length files → file_at (files ++ kept ∷ []) other ≡ file_at files other
more_other files kept other not = before_end file_of (synced_file []) files kept other not

mode_added : (files : List MemFile) (kept : MemFile) (mode : Mode) → kept.mode ≡ mode
    → (other : ℕ) → mode_at (files ++ kept ∷ []) other ≡ (if nat_eq other (length files) then mode else mode_at files other)
mode_added files kept mode is other = elim (same_or_not other (length files)) [
  | inl same ↦
      ap (λ (n : ℕ). mode_at (files ++ kept ∷ []) n) same ∙ at_end (λ (f : MemFile). f.mode) owner_mode files kept ∙ is
      ∙ sym (cond-true (nat_eq other (length files)) mode (mode_at files other) (eq-eqb other (length files) same))
  | inr not ↦
      before_end (λ (f : MemFile). f.mode) owner_mode files kept other not
      ∙ sym (cond-false (nat_eq other (length files)) mode (mode_at files other) (eqb_not other (length files) not))
]

file_more : (files : List MemFile) (kept : MemFile) → file_of kept ≡ synced_file [] → (other : ℕ) → file_at (files ++ kept ∷ []) other ≡ (if nat_eq other (length files) then synced_file [] else file_at files other)
file_more files kept is other = elim (same_or_not other (length files)) [
  | inl same ↦
      ap (λ (n : ℕ). file_at (files ++ kept ∷ []) n) same ∙ more_same files kept ∙ is
      ∙ sym (cond-true (nat_eq other (length files)) (synced_file []) (file_at files other) (eq-eqb other (length files) same))
  | inr not ↦ more_other files kept other not ∙ sym (cond-false (nat_eq other (length files)) (synced_file []) (file_at files other) (eqb_not other (length files) not))
]

pub more_files : (changes : List NameChange) (pending : ℕ) (files : List MemFile) (name : String Global) (kept : MemFile) (mode : Mode) → file_of kept ≡ synced_file [] → kept.mode ≡ mode
    → disk_of (changes ++ Create name (length files) ∷ []) (pending + 1) (files ++ kept ∷ []) ≡ with_file (string_bytes name) mode (disk_of changes pending files)
more_files changes pending files name kept mode is has = λ i. record {
  files = λ other. file_more files kept is other i;
  modes = λ other. mode_added files kept mode has other i;
  made = length-append files (kept ∷ []) i;
  synced = after_changes (drop (add-one pending i) (pushed changes (Create name (length files)) i)) no_names;
  pending = take (add-one pending i) (pushed changes (Create name (length files)) i);
}

-- the same file in another form
same_file : (files : List MemFile) (number : ℕ) (kept : MemFile) → number < length files → file_of kept ≡ file_at files number
    → (other : ℕ) → file_at (set files number kept) other ≡ file_at files other
same_file files number kept lt is other = elim (same_or_not other number) [
  | inl same ↦
      ap (λ (fs : List File). get_or fs other (synced_file [])) (map-set file_of files number kept)
      ∙ get_or-set_at (map file_of files) number other (file_of kept) (synced_file []) same (omega (arith, length-map files file_of))
      ∙ is ∙ ap (λ (n : ℕ). file_at files n) (sym same)
  | inr not ↦ ap (λ (fs : List File). get_or fs other (synced_file [])) (map-set file_of files number kept) ∙ get_or-set_other (map file_of files) number other (file_of kept) (synced_file []) not
]

pub file_same : (changes : List NameChange) (pending : ℕ) (files : List MemFile) (number : ℕ) (kept : MemFile) → number < length files → file_of kept ≡ file_at files number → kept.mode ≡ mode_at files number
    → disk_of changes pending (set files number kept) ≡ disk_of changes pending files
file_same changes pending files number kept lt is mode = λ i. record {
  files = λ other. same_file files number kept lt is other i;
  modes = λ other. mode_kept files number kept lt mode other i;
  made = length-set files number kept i;
  synced = after_changes (drop pending (map change_of (reverse changes))) no_names;
  pending = take pending (map change_of (reverse changes));
}

pub names_synced : (changes : List NameChange) (pending : ℕ) (files : List MemFile) → disk_of changes 0 files ≡ with_names (disk_of changes pending files)
names_synced changes pending files = λ i. record {
  files = λ other. file_at files other;
  modes = λ other. mode_at files other;
  made = length files;
  synced = sym (names_now changes pending files) i;
  pending = [];
}

get_file : (files : List MemFile) (number : ℕ) (was : MemFile) → number < length files → file_of (get_or files number was) ≡ file_at files number
get_file [] number was lt = absurd (omega arith)
get_file (file ∷ files) zero was lt = refl
get_file (file ∷ files) (suc number) was lt = get_file files number was (omega arith)

pub here : (files : List MemFile) (number : ℕ) (was : MemFile) → number < length files → was ≡ get_or files number was → file_of was ≡ file_at files number
here files number was lt is = ap (λ (k : MemFile). file_of k) is ∙ get_file files number was lt

get_mode : (files : List MemFile) (number : ℕ) (was : MemFile) → number < length files → (get_or files number was).mode ≡ mode_at files number
get_mode [] number was lt = absurd (omega arith)
get_mode (file ∷ files) zero was lt = refl
get_mode (file ∷ files) (suc number) was lt = get_mode files number was (omega arith)

pub mode_here : (files : List MemFile) (number : ℕ) (was : MemFile) → number < length files → was ≡ get_or files number was → was.mode ≡ mode_at files number
mode_here files number was lt is = ap (λ (k : MemFile). k.mode) is ∙ get_mode files number was lt

pub file_changed : (changes : List NameChange) (pending : ℕ) (files : List MemFile) (name : Name) (number : ℕ) (was kept : MemFile) (change : File → File)
    → number < length files → was ≡ get_or files number was → Some number ≡ names_of (disk_of changes pending files) name → file_of kept ≡ change (file_of was) → kept.mode ≡ was.mode
    → disk_of changes pending (set files number kept) ≡ on_file name change (disk_of changes pending files)
file_changed changes pending files name number was kept change lt is leads done mode =
    one_file changes pending files number kept change lt (done ∙ ap (λ (f : File). change f) (here files number was lt is)) (mode ∙ mode_here files number was lt is)
    ∙ ap (λ (at : Option ℕ). on_number at change (disk_of changes pending files)) leads

pub file_kept : (changes : List NameChange) (pending : ℕ) (files : List MemFile) (number : ℕ) (was kept : MemFile)
    → number < length files → was ≡ get_or files number was → file_of kept ≡ file_of was → kept.mode ≡ was.mode
    → disk_of changes pending (set files number kept) ≡ disk_of changes pending files
file_kept changes pending files number was kept lt is same mode =
    file_same changes pending files number kept lt (same ∙ here files number was lt is) (mode ∙ mode_here files number was lt is)

pub err_same : {T E : Type 0} (A : Type 0) (result : Result T E) → A → OnErr result A
err_same A (Ok v) a = tt
err_same A (Err e) a = a

file_put : (files : List MemFile) (kept : MemFile) (bytes : List ℕ) → file_of kept ≡ synced_file bytes → (other : ℕ) → file_at (files ++ kept ∷ []) other ≡ (if nat_eq other (length files) then synced_file bytes else file_at files other)
file_put files kept bytes is other = elim (same_or_not other (length files)) [
  | inl same ↦
      ap (λ (n : ℕ). file_at (files ++ kept ∷ []) n) same ∙ more_same files kept ∙ is
      ∙ sym (cond-true (nat_eq other (length files)) (synced_file bytes) (file_at files other) (eq-eqb other (length files) same))
  | inr not ↦ more_other files kept other not ∙ sym (cond-false (nat_eq other (length files)) (synced_file bytes) (file_at files other) (eqb_not other (length files) not))
]

pub put_file : (changes : List NameChange) (pending : ℕ) (files : List MemFile) (name : String Global) (kept : MemFile) (bytes : List ℕ) → file_of kept ≡ synced_file bytes → kept.mode ≡ usual_mode
    → disk_of (changes ++ Create name (length files) ∷ []) 0 (files ++ kept ∷ []) ≡ with_put (string_bytes name) bytes (disk_of changes pending files)
put_file changes pending files name kept bytes is has = λ i. record {
  files = λ other. file_put files kept bytes is other i;
  modes = λ other. mode_added files kept usual_mode has other i;
  made = length-append files (kept ∷ []) i;
  synced = synced_names i;
  pending = [];
}
  where
    synced_names : names_after (changes ++ Create name (length files) ∷ []) ≡ changed_names (Disks.Creates (string_bytes name) (length files)) (names_of (disk_of changes pending files))
    synced_names = ap (λ (cs : List Disks.Change). after_changes cs no_names) (pushed changes (Create name (length files)))
        ∙ ap (λ (names : Directory). changed_names (Disks.Creates (string_bytes name) (length files)) names) (sym (names_now changes pending files))

-- a file that took the mode of another one
pub mode_taken : (changes : List NameChange) (pending : ℕ) (files : List MemFile) (model name : Name) (from to : ℕ) (was kept : MemFile) → to < length files
    → was ≡ get_or files to was → file_of kept ≡ file_of was → kept.mode ≡ mode_at files from
    → Some from ≡ names_of (disk_of changes pending files) model → Some to ≡ names_of (disk_of changes pending files) name
    → disk_of changes pending (set files to kept) ≡ like model name (disk_of changes pending files)
mode_taken changes pending files model name from to was kept lt is same mode model_leads name_leads =
    taken ∙ (λ i. record (disk_of changes pending files) { modes = modes_like (model_leads i) (name_leads i) (mode_at files) })
  where
    as_before : (other : ℕ) → file_at (set files to kept) other ≡ file_at files other
    as_before other = same_file files to kept lt (same ∙ here files to was lt is) other

    set_at : (other : ℕ) → mode_at (set files to kept) other ≡ modes_like (Some from) (Some to) (mode_at files) other
    set_at other = mode_set files to kept lt other ∙ ap (λ (m : Mode). if nat_eq other to then m else mode_at files other) mode

    taken : disk_of changes pending (set files to kept) ≡ record (disk_of changes pending files) { modes = modes_like (Some from) (Some to) (mode_at files) }
    taken = λ i. record {
      files = λ other. as_before other i;
      modes = λ other. set_at other i;
      made = length-set files to kept i;
      synced = after_changes (drop pending (map change_of (reverse changes))) no_names;
      pending = take pending (map change_of (reverse changes));
    }
