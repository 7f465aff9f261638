-- What is read under a name after a call, what each image has under it, and what a file takes that gets a new name.
use Rattle.std.proofs.Common.{◌≡◌, ◌⊎◌, inl, inr, ℕ, zero, suc, cond, List, [], ◌++◌, length, Option, Some, None, IsSome, IfSome, refl, sym, ◌∙◌, ap, subst, arith}
use Rattle.std.proofs.lemmas.Bool.{false≢true, cond-true}
use Rattle.std.proofs.lemmas.Grind.{common_steps}
use Rattle.std.specs.Prelude.{IsSomeAnd}
use Rattle.std.specs.Str.{bytes_eq}
use Rattle.vs_host.specs.File.{File, IsFileImage, Leaves, Writes, Syncs, put, synced_file}
use Rattle.vs_host.specs.Disk.{Disk, Name, Change, Renames, changed_names, names_of, names_at, read_under, content_in, IsImage, IsImageOf, ChangesFile, ChangesNames}
use Rattle.vs_disk.specs.Images.{FileHas, FileAlways, Holds, HoldsBytes, IsImageNow, IsSynced, MayLeave, Takes}
use Rattle.vs_disk.proofs.Images.{synced_image}
use Rattle.vs_disk.proofs.Steps.{at_name, same_at, itself, newest_names, older_names, one_state}
use Rattle.vs_disk.proofs.Others.{image_same}

found_at : (disk : Disk) (at : Option ℕ) (bytes : List ℕ) → read_under disk at ≡ Some bytes → (number : ℕ) × (at ≡ Some number) × ((disk.files number).bytes ≡ bytes)
found_at disk None bytes is = cc
found_at disk (Some number) bytes is = (number, refl, cc)

-- the file that has these bytes
pub file_of_content : (disk : Disk) (name : Name) (bytes : List ℕ) → content_in disk name ≡ Some bytes → FileHas disk name (λ file. file.bytes ≡ bytes)
file_of_content disk name bytes is = let has = found_at disk (names_of disk name) bytes is in record { number = has.0; leads = has.1; has = has.2 }

pub content_of_file : (disk : Disk) (name : Name) (bytes : List ℕ) → FileHas disk name (λ file. file.bytes ≡ bytes) → content_in disk name ≡ Some bytes
content_of_file disk name bytes has = ap (λ (at : Option ℕ). read_under disk at) has.leads ∙ ap (λ (b : List ℕ). Some b) has.has

pub written_content : (name : Name) (at : ℕ) (piece bytes : List ℕ) (old new : Disk) → ChangesFile name (Writes at piece) old new → content_in old name ≡ Some bytes → content_in new name ≡ Some (put bytes at piece)
written_content name at piece bytes old new changes is =
    let has = file_of_content old name bytes is in
    content_of_file new name (put bytes at piece) (record {
      number = has.number;
      leads = same_at name (Writes at piece) old new changes 0 name ∙ has.leads;
      has = ap (λ (f : File). f.bytes) (changes.this has.number has.leads) ∙ ap (λ (b : List ℕ). put b at piece) has.has;
    })

pub synced_content : (name : Name) (bytes : List ℕ) (old new : Disk) → ChangesFile name Syncs old new → content_in old name ≡ Some bytes → IsSynced name bytes new
synced_content name bytes old new changes is =
    let has = file_of_content old name bytes is in
    record {
      number = has.number;
      leads = same_at name Syncs old new changes 0 name ∙ has.leads;
      has = changes.this has.number has.leads ∙ ap (λ (b : List ℕ). synced_file b) has.has;
    }

-- a piece at the end of the bytes
pub put_end : (bytes piece : List ℕ) → put bytes (length bytes) piece ≡ bytes ++ piece
put_end bytes piece = grind (arith, common_steps)

-- where no file is there
pub not_there : (disk : Disk) (name : Name) → names_of disk name ≡ None → content_in disk name ≡ None
not_there disk name is = ap (λ (at : Option ℕ). read_under disk at) is

no_number : (disk : Disk) (at : Option ℕ) → read_under disk at ≡ None → at ≡ None
no_number disk None is = refl
no_number disk (Some number) is = cc

pub leads_nowhere : (disk : Disk) (name : Name) → content_in disk name ≡ None → names_of disk name ≡ None
leads_nowhere disk name is = no_number disk (names_of disk name) is

some_there : (at : Option (List ℕ)) → IsSome at → (bytes : List ℕ) × (at ≡ Some bytes)
some_there None is = absurd (false≢true is)
some_there (Some bytes) is = (bytes, refl)

-- the bytes of a file that is there
pub some_content : (disk : Disk) (name : Name) → IsSome (content_in disk name) → (bytes : List ℕ) × (content_in disk name ≡ Some bytes)
some_content disk name is = some_there (content_in disk name) is

pub some_bytes : (a b : List ℕ) → Some a ≡ Some b → a ≡ b
some_bytes a b e = cc

-- what a call says of the bytes that are there
pub of_bytes : (disk : Disk) (name : Name) (bytes : List ℕ) (P : List ℕ → Type 0) → content_in disk name ≡ Some bytes → IfSome (content_in disk name) P → P bytes
of_bytes disk name bytes P is holds = at_some (content_in disk name) is holds
  where
    at_some : (at : Option (List ℕ)) → at ≡ Some bytes → IfSome at P → P bytes
    at_some None is holds = cc
    at_some (Some other) is holds = subst P (some_bytes other bytes is) holds

-- ---- what a name holds in every image
image_number : (disk : Disk) (at : Option ℕ) (number : ℕ) (P : List ℕ → Type 0) (found : Option (List ℕ)) → at ≡ Some number → Leaves (disk.files number) P → IsImageOf disk at found
    → (c : List ℕ) × (found ≡ Some c) × P c
image_number disk at number P found leads leaves image =
    let here = subst (λ (o : Option ℕ). IsImageOf disk o found) leads image in
    (here.0, here.1, leaves here.0 here.2)

pub image_holds : (disk : Disk) (name : Name) (P : List ℕ → Type 0) → Holds name P disk → (image : Name → Option (List ℕ)) → IsImage disk image → IsSomeAnd (image name) P
image_holds disk name P holds image whole =
    let here = holds whole.0 in
    let c = image_number disk (names_at disk whole.0 name) here.number P (image name) here.leads here.leaves (whole.1 name) in
    subst (λ (o : Option (List ℕ)). IsSomeAnd o P) (sym c.1) c.2

pub always_holds : (name : Name) (number : ℕ) (P : List ℕ → Type 0) (disk : Disk) → FileAlways disk name number (λ file. Leaves file P) → Holds name P disk
always_holds name number P disk always lost = record { number = number; leads = always.leads lost; leaves = always.has }

-- a synced file under synced names
pub holds_synced : (name : Name) (bytes : List ℕ) (disk : Disk) → disk.pending ≡ [] → IsSynced name bytes disk → HoldsBytes name bytes disk
holds_synced name bytes disk none synced lost = record {
  number = synced.number;
  leads = one_state disk none lost name ∙ synced.leads;
  leaves = λ c image. synced_image bytes c (subst (λ (f : File). IsFileImage f c) synced.has image);
}

-- ---- what a file takes that gets a new name
pub takes_then : (name : Name) (bytes : List ℕ) (a b c : Disk) → Takes name bytes a b → Takes name bytes b c → Takes name bytes a c
takes_then name bytes a b c first second found leaves = elim (second found leaves) [
  | inl new ↦ inl new
  | inr old ↦ first found old
]

pub leads_to : (from to : Name) (number : ℕ) (old new : Disk) → names_of old from ≡ Some number → ChangesNames (Renames from to) old new → names_of new to ≡ Some number
leads_to from to number old new leads renames =
    at_name (names_of new) (changed_names (Renames from to) (names_of old)) to (newest_names (Renames from to) old new renames.synced renames.pending)
    ∙ cond-true (bytes_eq to to) (names_of old from) (cond (bytes_eq from to) None (names_of old to)) (itself to) ∙ leads

takes_at : (from to : Name) (bytes : List ℕ) (old new : Disk) (synced : IsSynced from bytes old) (renames : ChangesNames (Renames from to) old new) (found : Option (List ℕ)) (lost : ℕ)
    → IsImageOf new (names_at new lost to) found → (found ≡ Some bytes) ⊎ MayLeave old to found
takes_at from to bytes old new synced renames found zero image =
    let is : new.files synced.number ≡ synced_file bytes = ap (λ (f : ℕ → File). f synced.number) renames.files ∙ synced.has in
    let c = image_number new (names_of new to) synced.number (λ c. c ≡ bytes) found (leads_to from to synced.number old new synced.leads renames)
    (λ c here. synced_image bytes c (subst (λ (f : File). IsFileImage f c) is here)) image in
    inl (c.1 ∙ ap (λ (b : List ℕ). Some b) c.2)
takes_at from to bytes old new synced renames found (suc lost) image =
    inr (
      lost,
      image_same old new (names_at old lost to) (names_at new (suc lost) to) found
          (at_name (names_at new (suc lost)) (names_at old lost) to (older_names (Renames from to) old new renames.synced renames.pending lost))
          (λ number is. ap (λ (f : ℕ → File). f number) renames.files) image,
    )

-- a synced file that takes a name: a stop leaves its bytes there, or what it left before
pub takes_renamed : (from to : Name) (bytes : List ℕ) (old new : Disk) → IsSynced from bytes old → ChangesNames (Renames from to) old new → Takes to bytes old new
takes_renamed from to bytes old new synced renames found leaves = takes_at from to bytes old new synced renames found leaves.0 leaves.1

-- ---- an image after a name change, and one of synced files
image_under : (old new : Disk) (at : Option ℕ) (found : Option (List ℕ)) → new.files ≡ old.files → IsImageOf new at found → IsImageOf old at found
image_under old new at found files image = image_same old new at at found refl (λ number is. ap (λ (f : ℕ → File). f number) files) image

image_from : (change : Change) (old new : Disk) (image : Name → Option (List ℕ)) (lost : ℕ) → ChangesNames change old new → ((name : Name) → IsImageOf new (names_at new lost name) (image name))
    → IsImage old image ⊎ IsImageNow new image
image_from change old new image zero changes is = inr is
image_from change old new image (suc lost) changes is = inl (
  lost,
  λ name.
      subst (λ (at : Option ℕ). IsImageOf old at (image name)) (at_name (names_at new (suc lost)) (names_at old lost) name (older_names change old new changes.synced changes.pending lost))
      (image_under old new (names_at new (suc lost) name) (image name) changes.files (is name)),
)

pub image_after : (change : Change) (old new : Disk) (image : Name → Option (List ℕ)) → ChangesNames change old new → IsImage new image → IsImage old image ⊎ IsImageNow new image
image_after change old new image changes is = image_from change old new image is.0 changes is.1

pub lasts : (name : Name) (bytes : List ℕ) (disk : Disk) (image : Name → Option (List ℕ)) → disk.pending ≡ [] → IsSynced name bytes disk → IsImage disk image → image name ≡ Some bytes
lasts name bytes disk image none synced whole =
    let here = holds_synced name bytes disk none synced whole.0 in
    let c = image_number disk (names_at disk whole.0 name) here.number (λ c. c ≡ bytes) (image name) here.leads here.leaves (whole.1 name) in
    c.1 ∙ ap (λ (b : List ℕ). Some b) c.2
