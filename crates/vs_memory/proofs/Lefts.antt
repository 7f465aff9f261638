-- The image that is put together name by name is the one that the choice makes: each name that leads to a file was given by a change.
use Rattle.std.proofs.Common.{◌≡◌, ◌⊎◌, inl, inr, ℕ, zero, suc, ◌+◌, ◌-◌, ◌<◌, ◌≤◌, Bool, true, false, cond, List, [], ◌∷◌, ◌++◌, map, take, drop, length, get_or, Option, Some, None, IsSome, refl, sym, ◌∙◌, ap, subst, arith, nat_eq, eq-eqb}
use Rattle.std.specs.Prelude.{reverse, All, string_bytes, is_some}
use Rattle.std.specs.Str.{bytes_eq}
use Rattle.std.proofs.lemmas.Bool.{cases_Bool, cond-true, cond-false, false≢true}
use Rattle.std.proofs.lemmas.Bool.Decides.{nat_tests}
use Rattle.std.proofs.lemmas.Slice.Eq.{bytes_eq-Decides}
use Rattle.std.proofs.lemmas.List.{reverse-append, take-append-drop, length-reverse, length-take, drop-map, get_or-reverse, length-map}
use Rattle.std.proofs.lemmas.Grind.{common_steps}
use Rattle.std.proofs.Math.Seq.{drop-append_seam}
use Rattle.vs_host.specs.File.{File, synced_file}
use Rattle.vs_host.specs.Disk.{Disk, Name, Directory, after_changes, changed_names, names_of, names_at, read_under, content_in, IsImage, IsImageOf}
use Rattle.vs_host.specs.Disk as Disks
use Rattle.vs_memory.specs.declared.names.NameChange.{NameChange}
use Rattle.vs_memory.specs.declared.names.NameChange.TheVariants.{Create, Rename, Remove}
use Rattle.vs_memory.specs.declared.file.MemFile.{MemFile}
use Rattle.vs_memory.specs.Folders.{disk_of, file_at, change_of, no_names}
use Rattle.vs_memory.specs.Replay.{base_disk}
use Rattle.vs_memory.specs.Images.{kept_bytes, kept_under, names_after, put_under, IsLeft, AreLeft, IsPut}
use Rattle.vs_memory.specs.declared.choice.Keep.{Keep}
use Rattle.vs_memory.specs.Validity.{base_valid}
use Rattle.vs_memory.proofs.Stores.{split_names}

-- The names in a state that a stop may leave.
lost_names : (lost pending : ℕ) (all : List Disks.Change) → lost ≤ pending → after_changes (drop lost (take pending all)) (after_changes (drop pending all) no_names) ≡ after_changes (drop lost all) no_names
lost_names zero pending all le = split_names pending all
lost_names (suc lost) zero all le = absurd (omega arith)
lost_names (suc lost) (suc pending) [] le = refl
lost_names (suc lost) (suc pending) (change ∷ all) le = lost_names lost pending all (omega arith)

dropped : (changes : List NameChange) (lost k : ℕ) → k + lost ≡ length changes → drop lost (map change_of (reverse changes)) ≡ map change_of (reverse (take k changes))
dropped changes lost k is =
    let parts : reverse changes ≡ reverse (drop k changes) ++ reverse (take k changes) = ap (λ (cs : List NameChange). reverse cs) (sym (take-append-drop k changes)) ∙ reverse-append (take k changes) (drop k changes) in
    let long : length (reverse (drop k changes)) ≡ lost = length-reverse (drop k changes) ∙ grind (arith, common_steps) in
    drop-map change_of lost (reverse changes)
    ∙ ap (λ (cs : List NameChange). map change_of (drop lost cs)) parts
    ∙ ap (λ (n : ℕ). map change_of (drop n (reverse (drop k changes) ++ reverse (take k changes)))) (sym long)
    ∙ ap (λ (cs : List NameChange). map change_of cs) (drop-append_seam (reverse (drop k changes)) (reverse (take k changes)))

pub kept_names : (changes : List NameChange) (pending : ℕ) (files : List MemFile) (lost k : ℕ) → lost ≤ pending → k + lost ≡ length changes → names_at (disk_of changes pending files) lost ≡ names_after (take k changes)
kept_names changes pending files lost k le is = lost_names lost pending (map change_of (reverse changes)) le ∙ ap (λ (cs : List Disks.Change). after_changes cs no_names) (dropped changes lost k is)

split : (b : Bool) (x y : Option ℕ) (number : ℕ) → cond b x y ≡ Some number → ((b ≡ true) × (x ≡ Some number)) ⊎ (y ≡ Some number)
split b x y number is = elim (cases_Bool b) [
  | inl holds ↦ inl (holds, sym (cond-true b x y holds) ∙ is)
  | inr not ↦ inr (sym (cond-false b x y not) ∙ is)
]

none_some : (a : ℕ) (X : Type 0) → None ≡ Some a → X
none_some a X e = cc

-- a name that leads to a file was given by one of the changes, the newest of them first
given : (kept : List NameChange) (base : List (List ℕ × List ℕ)) (changes : List NameChange) (name : Name) (number : ℕ) → ((k : ℕ) (d : NameChange) → k < length changes → IsPut kept base (get_or changes k d))
    → IsSome (names_after kept name) → after_changes (map change_of changes) no_names name ≡ Some number → IsSome (put_under base name)
given kept base [] name number all some leads = none_some number _ leads
given kept base (Create made k ∷ changes) name number all some leads = elim (split (bytes_eq (string_bytes made) name) (Some k) (after_changes (map change_of changes) no_names name) number leads) [
  | inl here ↦ all 0 (Create made k) (omega arith) name ((bytes_eq-Decides (string_bytes made) name).0 here.0) some
  | inr rest ↦ given kept base changes name number (λ k d lt. all (suc k) d (omega arith)) some rest
]
given kept base (Rename from to ∷ changes) name number all some leads = elim (split (bytes_eq (string_bytes to) name) (after_changes (map change_of changes) no_names (string_bytes from)) (cond (bytes_eq (string_bytes from) name) None (after_changes (map change_of changes) no_names name)) number leads) [
  | inl here ↦ all 0 (Rename from to) (omega arith) name ((bytes_eq-Decides (string_bytes to) name).0 here.0) some
  | inr rest ↦ elim (split (bytes_eq (string_bytes from) name) None (after_changes (map change_of changes) no_names name) number rest) [
    | inl gone ↦ none_some number _ gone.1
    | inr still ↦ given kept base changes name number (λ k d lt. all (suc k) d (omega arith)) some still
  ]
]
given kept base (Remove gone ∷ changes) name number all some leads = elim (split (bytes_eq (string_bytes gone) name) None (after_changes (map change_of changes) no_names name) number leads) [
  | inl here ↦ none_some number _ here.1
  | inr rest ↦ given kept base changes name number (λ k d lt. all (suc k) d (omega arith)) some rest
]

-- what is put under a name is what is kept under it
kept_at : (keep : Keep) (files : ℕ → File) (at : Option ℕ) (found : Option (List ℕ)) → ((c : List ℕ) → found ≡ Some c → (n : ℕ) × (at ≡ Some n) × (c ≡ kept_bytes keep (files n)))
    → ((n : ℕ) → at ≡ Some n → IsSome found) → found ≡ kept_under keep files at
kept_at keep files None None left there = refl
kept_at keep files None (Some c) left there = let is = left c refl in none_some is.0 _ is.1
kept_at keep files (Some n) None left there = absurd (false≢true (there n refl))
kept_at keep files (Some n) (Some c) left there =
    let is = left c refl in
    ap (λ (b : List ℕ). Some b) (is.2 ∙ ap (λ (k : ℕ). kept_bytes keep (files k)) (sym (same_number n is.0 is.1)))
  where
    same_number : (a b : ℕ) → Some a ≡ Some b → a ≡ b
    same_number a b e = cc

some_of : (at : Option ℕ) (n : ℕ) → at ≡ Some n → IsSome at
some_of at n is = ap (λ (o : Option ℕ). is_some o) is

pub folder_chosen : (keep : Keep) (changes : List NameChange) (pending : ℕ) (files : List MemFile) (lost k : ℕ) (base : List (List ℕ × List ℕ)) → lost ≤ pending → k + lost ≡ length changes
    → AreLeft keep files (take k changes) base → ((j : ℕ) (d : NameChange) → j < length (reverse (take k changes)) → IsPut (take k changes) base (get_or (reverse (take k changes)) j d))
    → (name : Name) → put_under base name ≡ kept_under keep (λ number. file_at files number) (names_at (disk_of changes pending files) lost name)
folder_chosen keep changes pending files lost k base le is left put name =
    let same : names_at (disk_of changes pending files) lost name ≡ names_after (take k changes) name = ap (λ (f : Directory). f name) (kept_names changes pending files lost k le is) in
    kept_at keep (λ number. file_at files number) (names_after (take k changes) name) (put_under base name)
    (λ c found. let l = left name c found in (l.number, l.leads, l.is))
    (λ n leads. given (take k changes) base (reverse (take k changes)) name n put (some_of (names_after (take k changes) name) n leads) leads)
    ∙ ap (λ (at : Option ℕ). kept_under keep (λ number. file_at files number) at) (sym same)

-- how many name changes are pending
pub pending_long : (changes : List NameChange) (pending : ℕ) (files : List MemFile) → pending ≤ length changes → length (disk_of changes pending files).pending ≡ pending
pending_long changes pending files le =
    omega (arith, le, length-take pending (map change_of (reverse changes)), length-map (reverse changes) change_of, length-reverse changes)

-- one file put
pub put_new : (base : List (List ℕ × List ℕ)) (name : Name) (bytes : List ℕ) → put_under ((name, bytes) ∷ base) name ≡ Some bytes
put_new base name bytes =
    let disk : Disk = base_disk ((name, bytes) ∷ base) in
    let leads : names_of disk name ≡ Some (base_disk base).made = cond-true (bytes_eq name name) (Some (base_disk base).made) (names_of (base_disk base) name) ((bytes_eq-Decides name name).1 refl) in
    let file : disk.files (base_disk base).made ≡ synced_file bytes = cond-true (nat_eq (base_disk base).made (base_disk base).made) (synced_file bytes) ((base_disk base).files (base_disk base).made) (eq-eqb (base_disk base).made (base_disk base).made refl) in
    ap (λ (at : Option ℕ). read_under disk at) leads ∙ ap (λ (f : File). Some f.bytes) file

read_same : (base : List (List ℕ × List ℕ)) (name : Name) (bytes : List ℕ) (at : Option ℕ) → ((n : ℕ) → at ≡ Some n → n < (base_disk base).made) → read_under (base_disk ((name, bytes) ∷ base)) at ≡ read_under (base_disk base) at
read_same base name bytes None below = refl
read_same base name bytes (Some n) below =
    let lt = below n refl in
    ap (λ (f : File). Some f.bytes) (cond-false (nat_eq n (base_disk base).made) (synced_file bytes) ((base_disk base).files n) (grind (arith, nat_tests)))

pub put_other : (base : List (List ℕ × List ℕ)) (name other : Name) (bytes : List ℕ) → bytes_eq name other ≡ false → put_under ((name, bytes) ∷ base) other ≡ put_under base other
put_other base name other bytes not =
    ap (λ (at : Option ℕ). read_under (base_disk ((name, bytes) ∷ base)) at) (cond-false (bytes_eq name other) (Some (base_disk base).made) (names_of (base_disk base) other) not)
    ∙ read_same base name bytes (names_of (base_disk base) other) (λ n leads. (base_valid base 0).below other n leads)

pub put_grows : (base : List (List ℕ × List ℕ)) (name : Name) (bytes : List ℕ) (x : Name) → IsSome (put_under base x) → IsSome (put_under ((name, bytes) ∷ base) x)
put_grows base name bytes x some = elim (cases_Bool (bytes_eq name x)) [
  | inl same ↦ subst (λ (n : Name). IsSome (put_under ((name, bytes) ∷ base) n)) ((bytes_eq-Decides name x).0 same) (ap (λ (o : Option (List ℕ)). is_some o) (put_new base name bytes))
  | inr not ↦ ap (λ (o : Option (List ℕ)). is_some o) (put_other base name x bytes not) ∙ some
]

pub put_left : (keep : Keep) (files : List MemFile) (kept : List NameChange) (base : List (List ℕ × List ℕ)) (name : Name) (bytes : List ℕ) → IsLeft keep files kept name bytes → AreLeft keep files kept base → AreLeft keep files kept ((name, bytes) ∷ base)
put_left keep files kept base name bytes here left x c is = elim (cases_Bool (bytes_eq name x)) [
  | inl same ↦
      let equal : name ≡ x = (bytes_eq-Decides name x).0 same in
      let one : bytes ≡ c = some_bytes bytes c (sym (subst (λ (n : Name). put_under ((name, bytes) ∷ base) n ≡ Some bytes) equal (put_new base name bytes)) ∙ is) in
      subst (λ (b : List ℕ). IsLeft keep files kept x b) one (subst (λ (n : Name). IsLeft keep files kept n bytes) equal here)
  | inr not ↦ left x c (sym (put_other base name x bytes not) ∙ is)
]
  where
    some_bytes : (a b : List ℕ) → Some a ≡ Some b → a ≡ b
    some_bytes a b e = cc

pub all_reversed : {X : Type 0} (P : X → Type 0) (xs : List X) → All P xs → (j : ℕ) (d : X) → j < length (reverse xs) → P (get_or (reverse xs) j d)
all_reversed P xs all j d lt =
    let long : length (reverse xs) ≡ length xs = length-reverse xs in
    let within : j < length xs = omega arith in
    subst P (sym (get_or-reverse xs j d within)) (all (length xs - 1 - j) d (omega arith))
