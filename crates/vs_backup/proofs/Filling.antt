-- How a file grows piece by piece: what was written and what is still held are the bytes so far.
use Rattle.std.proofs.Common.{◌≡◌, ℕ, ◌+◌, ◌*◌, ◌≤◌, List, [], ◌∷◌, ◌++◌, length, take, drop, Option, Some, None, inl, inr, refl, sym, ◌∙◌, ap, subst, arith}
use Rattle.std.specs.Prelude.{IsSomeAnd}
use Rattle.std.specs.List.{AllByRecursion}
use Rattle.std.proofs.lemmas.List.Elements.{recursion_from_All}
use Rattle.std.proofs.Math.Seq.{take-add}
use Rattle.vs_text.specs.Text.{bytes_of}
use Rattle.vs_text.specs.Limits.{IsShort}
use Rattle.vs_text.specs.declared.TheConstants.{MAX_LINE_BYTES}
use Rattle.vs_text.proofs.FileForm.{length-file_of}
use Rattle.vs_edit.specs.Splices.{HoldsLines}
use Rattle.vs_host.specs.File.{File, Cuts, Writes, WritesSome, Syncs, put}
use Rattle.vs_host.specs.Disk.{Disk, Mode, Name, ChangesFile, MayBeLike, content_in, like, names_at, names_of, read_under}
use Rattle.vs_host.specs.World.{Scene, ChangesFolder}
use Rattle.vs_disk.specs.Images.{IsSynced, KeepsImages, MayLeave}
use Rattle.vs_disk.specs.Runs.{Runs, Looks}
use Rattle.vs_disk.proofs.Steps.{same_file, file_then, file_as}
use Rattle.vs_disk.proofs.Others.{image_same, mode_others}
use Rattle.vs_disk.proofs.Images.{cut_keeps_images, write_keeps_images}
use Rattle.vs_disk.proofs.Runs.{runs_as, runs_then, runs_on}
use Rattle.vs_disk.proofs.Contents.{synced_content, written_content, put_end}
use Rattle.vs_backup.specs.Works.{Fills, ChangesOne, Widens}
use Rattle.vs_backup.proofs.Frames.{same_one}

-- ---- the step of writes and cuts, and that of all calls on one file
pub fills_none : (name : Name) (disk : Disk) → Fills name disk disk
fills_none name disk = same_file name KeepsImages (λ file c image. image) disk

pub fills_then : (name : Name) (a b c : Disk) → Fills name a b → Fills name b c → Fills name a c
fills_then name a b c first second = file_then name KeepsImages KeepsImages KeepsImages (λ x y z one two d image. two d (one d image)) a b c first second

pub fills_same : (name : Name) (old new : Disk) → new ≡ old → Fills name old new
fills_same name old new is = subst (λ (d : Disk). Fills name old d) (sym is) (fills_none name old)

pub fills_write : (name : Name) (at n : ℕ) (old new : Disk) → ChangesFile name (WritesSome at n) old new → Fills name old new
fills_write name at n old new changes = file_as name (WritesSome at n) KeepsImages (write_keeps_images at n) old new changes

pub fills_cut : (name : Name) (old new : Disk) → ChangesFile name (Cuts 0) old new → Fills name old new
fills_cut name old new changes = file_as name (Cuts 0) KeepsImages (λ a b cuts. cut_keeps_images 0 a b (omega arith) cuts) old new changes

pub changes_none : (name : Name) (disk : Disk) → ChangesOne name disk disk
changes_none name disk = record { synced = refl; pending = refl; others = λ number other. refl; modes = λ number other. refl }

pub changes_then : (name : Name) (a b c : Disk) → ChangesOne name a b → ChangesOne name b c → ChangesOne name a c
changes_then name a b c first second =
    let now : names_of b name ≡ names_of a name = same_one name a b first 0 name in
    record {
      synced = second.synced ∙ first.synced;
      pending = second.pending ∙ first.pending;
      others = λ number other. second.others number (λ is. other (sym now ∙ is)) ∙ first.others number other;
      modes = λ number other. second.modes number (λ is. other (sym now ∙ is)) ∙ first.modes number other;
    }

pub changes_same : (name : Name) (old new : Disk) → new ≡ old → ChangesOne name old new
changes_same name old new is = subst (λ (d : Disk). ChangesOne name old d) (sym is) (changes_none name old)

pub changes_by : (name : Name) (step : File → File → Type 0) (old new : Disk) → ChangesFile name step old new → ChangesOne name old new
changes_by name step old new changes = record {
  synced = changes.synced;
  pending = changes.pending;
  others = changes.others;
  modes = λ number other. ap (λ (f : ℕ → Mode). f number) changes.modes;
}

pub fills_changes : (name : Name) (s0 s1 : Scene) → Runs (Fills name) s0 s1 → Runs (ChangesOne name) s0 s1
fills_changes name s0 s1 runs = runs_as (Fills name) (ChangesOne name) s0 s1 (λ d fills. changes_by name KeepsImages s0.folder d fills) runs

-- ---- a run that goes on
pub fills_on : (name : Name) (s0 s1 s2 : Scene) → ChangesFolder s0 s1 → Runs (Fills name) s0 s1 → Runs (Fills name) s1 s2 → Runs (Fills name) s0 s2
fills_on name s0 s1 s2 frame first second = runs_on (Fills name) (fills_then name) s0 s1 s2 frame first second

pub changes_on : (name : Name) (s0 s1 s2 : Scene) → ChangesFolder s0 s1 → Runs (ChangesOne name) s0 s1 → Runs (ChangesOne name) s1 s2 → Runs (ChangesOne name) s0 s2
changes_on name s0 s1 s2 frame first second = runs_on (ChangesOne name) (changes_then name) s0 s1 s2 frame first second

-- after a look at the folder
pub then_looks : (step : Disk → Disk → Type 0) (s0 s1 s2 : Scene) → ChangesFolder s0 s1 → Runs step s0 s1 → Looks s1 s2 → Runs step s0 s2
then_looks step s0 s1 s2 frame first second =
    runs_then step (λ a b. b ≡ a) step s0 s1 s2 (λ d s. s) (λ d same. subst (λ (x : Disk). step s0.folder x) (sym same) first.now) frame first second

pub looks_fills : (name : Name) (s0 s1 : Scene) → Looks s0 s1 → Runs (Fills name) s0 s1
looks_fills name s0 s1 looks = runs_as (λ a b. b ≡ a) (Fills name) s0 s1 (λ d same. fills_same name s0.folder d same) looks

pub looks_changes : (name : Name) (s0 s1 : Scene) → Looks s0 s1 → Runs (ChangesOne name) s0 s1
looks_changes name s0 s1 looks = runs_as (λ a b. b ≡ a) (ChangesOne name) s0 s1 (λ d same. changes_same name s0.folder d same) looks

-- ---- a sync of the file, which may take the mode of another one
pub changes_like : (model name : Name) (disk : Disk) → ChangesOne name disk (like model name disk)
changes_like model name disk = record {
  synced = refl;
  pending = refl;
  others = λ number other. refl;
  modes = λ number other. mode_others (names_of disk model) (names_of disk name) disk.modes number other;
}

pub changes_liked : (model name : Name) (old new : Disk) → ChangesFile name Syncs (like model name old) new → ChangesOne name old new
changes_liked model name old new changes =
    changes_then name old (like model name old) new (changes_like model name old) (changes_by name Syncs (like model name old) new changes)

pub changes_maybe : (model name : Name) (old new : Disk) → MayBeLike model name old new → ChangesOne name old new
changes_maybe model name old new (inl same) = changes_same name old new same
changes_maybe model name old new (inr liked) = subst (λ (d : Disk). ChangesOne name old d) (sym liked) (changes_like model name old)

read_like : (model name : Name) (disk : Disk) (at : Option ℕ) → read_under (like model name disk) at ≡ read_under disk at
read_like model name disk None = refl
read_like model name disk (Some number) = refl

pub synced_liked : (model name : Name) (bytes : List ℕ) (old new : Disk) → ChangesFile name Syncs (like model name old) new → content_in old name ≡ Some bytes → IsSynced name bytes new
synced_liked model name bytes old new changes is = synced_content name bytes (like model name old) new changes (read_like model name old (names_of old name) ∙ is)

-- what a stop may still leave
pub widens_then : (name : Name) (a b c : Disk) → Widens name a b → Widens name b c → Widens name a c
widens_then name a b c first second found leaves = second found (first found leaves)

pub widens_maybe : (model name other : Name) (old new : Disk) → MayBeLike model name old new → Widens other old new
widens_maybe model name other old new (inl same) found leaves = subst (λ (d : Disk). MayLeave d other found) (sym same) leaves
widens_maybe model name other old new (inr liked) found leaves = subst (λ (d : Disk). MayLeave d other found) (sym liked)
    (leaves.0, image_same (like model name old) old (names_at old leaves.0 other) (names_at old leaves.0 other) found refl (λ number leads. refl) leaves.1)

-- ---- bytes
pub size_is : (disk : Disk) (name : Name) (size : ℕ) (bytes : List ℕ) → content_in disk name ≡ Some bytes → size ≡ length bytes → IsSomeAnd (content_in disk name) (λ b. size ≡ length b)
size_is disk name size bytes is long = subst (λ (o : Option (List ℕ)). IsSomeAnd o (λ b. size ≡ length b)) (sym is) long

pub size_at : (disk : Disk) (name : Name) (size : ℕ) (bytes : List ℕ) → content_in disk name ≡ Some bytes → IsSomeAnd (content_in disk name) (λ b. size ≡ length b) → size ≡ length bytes
size_at disk name size bytes is known = subst (λ (o : Option (List ℕ)). IsSomeAnd o (λ b. size ≡ length b)) is known

some_bytes_at : (at : Option (List ℕ)) (size : ℕ) → IsSomeAnd at (λ b. size ≡ length b) → (bytes : List ℕ) × (at ≡ Some bytes) × (size ≡ length bytes)
some_bytes_at None size known = absurd known
some_bytes_at (Some bytes) size known = (bytes, refl, known)

pub bytes_at : (disk : Disk) (name : Name) (size : ℕ) → IsSomeAnd (content_in disk name) (λ b. size ≡ length b) → (bytes : List ℕ) × (content_in disk name ≡ Some bytes) × (size ≡ length bytes)
bytes_at disk name size known = some_bytes_at (content_in disk name) size known

-- a piece written at the end
pub written_end : (name : Name) (at : ℕ) (piece bytes : List ℕ) (old new : Disk) → ChangesFile name (Writes at piece) old new → content_in old name ≡ Some bytes → at ≡ length bytes
    → content_in new name ≡ Some (bytes ++ piece)
written_end name at piece bytes old new changes is end =
    written_content name at piece bytes old new changes is ∙ ap (λ (b : List ℕ). Some b) (ap (λ (n : ℕ). put bytes n piece) end ∙ put_end bytes piece)

-- lines within the limit of a line have few bytes
few_bytes : (lines : List (List ℕ)) → AllByRecursion IsShort lines → bytes_of lines ≤ length lines * (MAX_LINE_BYTES + 1)
few_bytes [] short = omega arith
few_bytes (line ∷ lines) short =
    let this : length line ≤ MAX_LINE_BYTES = short.0 in
    omega (arith, this, few_bytes lines short.1)

pub few_held : (count : ℕ) (bytes : List ℕ) → HoldsLines count bytes → length bytes ≤ count * (MAX_LINE_BYTES + 1)
few_held count bytes holds =
    let few : bytes_of holds.lines ≤ length holds.lines * (MAX_LINE_BYTES + 1) = few_bytes holds.lines (recursion_from_All IsShort holds.lines holds.short_lines) in
    let form : length bytes ≡ bytes_of holds.lines = ap length holds.form ∙ length-file_of holds.lines in
    subst (λ (n : ℕ). length bytes ≤ n * (MAX_LINE_BYTES + 1)) holds.counted (subst (λ (n : ℕ). n ≤ length holds.lines * (MAX_LINE_BYTES + 1)) (sym form) few)

-- a piece of the bytes at their end makes more of them
pub piece_more : (bytes piece : List ℕ) (at n : ℕ) → piece ≡ take n (drop at bytes) → take at bytes ++ piece ≡ take (at + n) bytes
piece_more bytes piece at n is = ap (λ (p : List ℕ). take at bytes ++ p) is ∙ sym (take-add at n bytes)
