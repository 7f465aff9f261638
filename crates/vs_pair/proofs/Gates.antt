-- The gate of a file: what stays while it is closed, while pages are written, and when it is opened.
use Rattle.std.proofs.Common.{◌≡◌, ◌≢◌, ◌⊎◌, inl, inr, ℕ, ◌+◌, ◌-◌, ◌*◌, ◌≤◌, List, length, false, take, drop, Some, refl, sym, ◌∙◌, ap, subst, arith, IsTrue, length-take, length-drop}
use Rattle.std.proofs.lemmas.Option.{same_Some}
use Rattle.std.proofs.lemmas.List.{drop-drop}
use Rattle.vs_host.specs.File.{File, IsFileImage, Leaves, synced_file}
use Rattle.vs_host.specs.Disk.{Disk, Name, ChangesFile, names_of}
use Rattle.vs_host.specs.World.{Tells, Scene}
use Rattle.vs_disk.specs.Images.{FileHas, KeepsImages}
use Rattle.vs_disk.proofs.Images.{read_image, synced_image}
use Rattle.vs_disk.proofs.Steps.{same_at, file_as, file_then, file_after}
use Rattle.vs_pair.specs.declared.gate.Gate.{Gate}
use Rattle.vs_pair.specs.declared.gate.Gate.TheVariants.{Open, Closed, Unknown}
use Rattle.vs_swap.specs.Files.{page_in}
use Rattle.vs_pair.specs.declared.written.Written.{Written}
use Rattle.vs_disk.specs.Runs.{NoneFails}
use Rattle.vs_pair.specs.Acts.{Acts}
use Rattle.vs_pair.specs.Held.{Held}
use Rattle.vs_pair.specs.Swap.{Body, HasBody, Holds, IsOpen, HasMark, ChangesMark, KeepsMark, KeepsLength, Lengthens, WritesBody, Fits, CloseStep, Closes, SyncStep, FailedSync, open_mark, closed_mark, zeros_page}
use Rattle.vs_pair.specs.Swap.FailedSync.{InClosing, InWriting, InOpening}
use Rattle.vs_pair.specs.Stale.{HasFresh, Keeps, is_stale}
use Rattle.vs_pair.specs.Writes.{page_or_zeros}
use Rattle.vs_pair.proofs.Acts.{acts_as, acts_then}
use Rattle.vs_pair.proofs.Calls.{both_files}
use Rattle.vs_pair.proofs.PageWrites.{page_is, page_found}
use Rattle.vs_pair.proofs.Marks.{mark_same}
use Rattle.vs_pair.proofs.FreshPages.{fresh_in, none_fresh}

pub not_closed : (gate : Gate) → (gate ≡ Open) ⊎ (gate ≡ Unknown) → gate ≢ Closed
not_closed gate (inl opened) is = let clash : Open ≡ Closed = sym opened ∙ is in cc clash
not_closed gate (inr unknown) is = let clash : Unknown ≡ Closed = sym unknown ∙ is in cc clash

-- a gate that is closed is left alone
pub close_same : (gate : Gate) (a : File) → CloseStep gate a a
close_same gate a = (λ is. refl, mark_same a)

pub closes_same : (gate : Gate) → gate ≡ Closed → (a : File) → Closes gate a a
closes_same gate is a before = before is

pub length_same : (a : File) → KeepsLength a a
length_same a = record { no_shorter = omega arith; no_longer = omega arith }

-- another is closed by a write of the identifier
pub close_mark : (gate : Gate) → gate ≢ Closed → (a b : File) → ChangesMark a b → CloseStep gate a b
close_mark gate not a b changes = (λ is. absurd (not is), changes)

pub close_acts : (tells : Tells) (name : Name) (gate : Gate) → gate ≢ Closed → (old new : Scene) → Acts tells (ChangesFile name ChangesMark) old new → Acts tells (ChangesFile name (CloseStep gate)) old new
close_acts tells name gate not old new acts =
    acts_as tells (ChangesFile name ChangesMark) (ChangesFile name (CloseStep gate)) old new (λ told d changes. file_as name ChangesMark (CloseStep gate) (close_mark gate not) old.folder d changes) acts

-- what the file of this name has, wherever the name leads
pub has_at : (name : Name) (P : File → Type 0) (disk : Disk) → FileHas disk name P → (number : ℕ) → names_of disk name ≡ Some number → P (disk.files number)
has_at name P disk has number leads = subst (λ (n : ℕ). P (disk.files n)) (same_Some has.number number (sym has.leads ∙ leads)) has.has

pub mark_closes : (name : Name) (gate : Gate) (old new : Disk) → ChangesFile name ChangesMark old new → FileHas new name (λ file. Leaves file (HasMark closed_mark)) → ChangesFile name (Closes gate) old new
mark_closes name gate old new changes has = record {
  synced = changes.synced;
  pending = changes.pending;
  modes = changes.modes;
  others = changes.others;
  this = λ number leads before. has_at name (λ file. Leaves file (HasMark closed_mark)) new has number (same_at name ChangesMark old new changes 0 name ∙ leads);
}

-- ---- the body stays while the identifier changes

pub same_page : (c d : List ℕ) → drop 2 c ≡ drop 2 d → (k : ℕ) (page : List ℕ) → 1 ≤ k → page_in d k ≡ Some page → page_in c k ≡ Some page
same_page c d same k page least is =
    let found = page_found d k page is in
    let from : 4096 * k ≡ 2 + (4096 * k - 2) = omega (arith, least) in
    let sizes : length c - 2 ≡ length d - 2 = sym (length-drop 2 c) ∙ ap length same ∙ length-drop 2 d in
    page_is c k (omega (arith, found.0, sizes, least))
    ∙ ap (λ (p : List ℕ). Some p)
    (ap (λ (n : ℕ). take 4096 (drop n c)) from ∙ ap (λ (l : List ℕ). take 4096 l) (sym (drop-drop (4096 * k - 2) 2 c) ∙ ap (λ (l : List ℕ). drop (4096 * k - 2) l) same ∙ drop-drop (4096 * k - 2) 2 d)
    ∙ ap (λ (n : ℕ). take 4096 (drop n d)) (sym from) ∙ found.1)

pub body_same : (body : Body) (c d : List ℕ) → drop 2 c ≡ drop 2 d → HasBody body d → HasBody body c
body_same body c d same has = record {
  rest = ap (λ (l : List ℕ). take 4094 l) same ∙ has.rest;
  pages = λ k page least there. same_page c d same k page least (has.pages k page least there);
  gaps = λ k above least below none some. same_page c d same k zeros_page least (has.gaps k above least below none some);
}

pub body_stays : (body : Body) (a b : File) → ChangesMark a b → Leaves a (HasBody body) → Leaves b (HasBody body)
body_stays body a b changes all c image = let was = changes c image in body_same body c was.0 was.2 (all was.0 was.1)

body_read : (body : Body) (a b : File) → ChangesMark a b → Leaves a (HasBody body) → HasBody body b.bytes
body_read body a b changes all = body_stays body a b changes all b.bytes (read_image b)

pub mark_stays : (mark : List ℕ) (a b : File) → KeepsMark a b → Leaves a (HasMark mark) → Leaves b (HasMark mark)
mark_stays mark a b keeps all c image = let was = keeps c image in was.2 ∙ all was.0 was.1

pub zeros_not_open : (c : List ℕ) → HasMark closed_mark c → IsOpen c → ⊥
zeros_not_open c zeros opened = let clash : closed_mark ≡ open_mark = sym zeros ∙ opened in cc clash

-- ---- the stages of a sync, from the file at its start

-- a gate that is not closed has a body after it
pub fits_body : (gate : Gate) (body : Body) (a : File) → gate ≢ Closed → Fits gate body a → Leaves a (HasBody body)
fits_body Open body a not fits = λ c image. (fits c image).whole
fits_body Closed body a not fits = absurd (not refl)
fits_body Unknown body a not fits = fits

fits_mark : (gate : Gate) (body : Body) (a : File) → Fits gate body a → gate ≡ Closed → Leaves a (HasMark closed_mark)
fits_mark gate body a fits is = subst (λ (g : Gate). Fits g body a) is fits

-- closed in each image
abbrev pub Shuts : Gate → File → File → Type 0
Shuts gate old new = (any : Body) → Fits gate any old → Leaves new (HasMark closed_mark)

-- closed in each image, with this body
abbrev pub ShutsWith : Gate → Body → File → File → Type 0
ShutsWith gate body old new = (any : Body) → Fits gate any old → Leaves new (HasMark closed_mark) × Leaves new (HasBody body)

shut_now : (gate : Gate) (a b : File) → Closes gate a b → Shuts gate a b
shut_now gate a b closes any fits = closes (fits_mark gate any a fits)

close_step : (gate : Gate) (body : Body) (a b : File) → CloseStep gate a b → SyncStep gate body a b
close_step Closed body a b step before fits c image opened = absurd (zeros_not_open c (fits c (subst (λ (f : File). IsFileImage f c) (step.0 refl) image)) opened)
close_step Open body a b step before fits c image opened = inl (body_stays before a b step.1 (fits_body Open before a (λ is. let clash : Open ≡ Closed = is in cc clash) fits) c image)
close_step Unknown body a b step before fits c image opened = inl (body_stays before a b step.1 fits c image)

shut_step : (gate : Gate) (body : Body) (a b : File) → Shuts gate a b → SyncStep gate body a b
shut_step gate body a b shuts before fits c image opened = absurd (zeros_not_open c (shuts before fits c image) opened)

shuts_on : (gate : Gate) (a b c : File) → Shuts gate a b → KeepsMark b c → Shuts gate a c
shuts_on gate a b c shuts keeps any fits = mark_stays closed_mark b c keeps (shuts any fits)

-- what a synced file was read as is all that it leaves
leaves_read : (P : List ℕ → Type 0) (file : File) → file ≡ synced_file file.bytes → P file.bytes → Leaves file P
leaves_read P file synced holds c image = subst P (sym (synced_image file.bytes c (subst (λ (f : File). IsFileImage f c) synced image))) holds

written_shut : (gate : Gate) (body : Body) (a b c : File) → Shuts gate a b → WritesBody body b c → ShutsWith gate body a c
written_shut gate body a b c shuts writes any fits = (
  leaves_read (HasMark closed_mark) c writes.synced (writes.mark ∙ shuts any fits b.bytes (read_image b)),
  leaves_read (HasBody body) c writes.synced writes.has,
)

open_step : (gate : Gate) (body : Body) (a b c : File) → ShutsWith gate body a b → ChangesMark b c → SyncStep gate body a c
open_step gate body a b c shuts changes before fits e image opened = inr (body_stays body b c changes (shuts before fits).1 e image)

fresh_stands : (gate : Gate) (pages : Held) (has : Written) (before : Body) → Keeps gate pages has before.pages → (a b : File) → Fits gate before a → Shuts gate a b → ChangesMark a b → HasFresh pages has b.bytes
fresh_stands gate pages has before keeps a b fits shuts changes = record { long = omega (arith, ap length (shuts before fits b.bytes (read_image b)), length-take 2 b.bytes); fresh = fresh gate keeps fits }
  where
    fresh : (h : Gate) → Keeps h pages has before.pages → Fits h before a → (k : ℕ) → 1 ≤ k → is_stale pages.commits has k ≡ false → page_in b.bytes k ≡ Some (page_or_zeros (pages.committed k))
    fresh Closed keeps fits k least is = absurd (none_fresh pages.commits k (subst (λ (w : Written). is_stale pages.commits w k ≡ false) (keeps.torn refl) is))
    fresh Open keeps fits k least is =
        fresh_in pages has before Open keeps b.bytes (body_read before a b changes (fits_body Open before a (λ e. let clash : Open ≡ Closed = e in cc clash) fits)) k least is
    fresh Unknown keeps fits k least is = fresh_in pages has before Unknown keeps b.bytes (body_read before a b changes fits) k least is

-- ---- in the folder

module _ (name : Name) (gate : Gate) (body : Body) where
  -- after the gate was closed
  pub closed_file : (old mid : Disk) → ChangesFile name (Closes gate) old mid → ChangesFile name (Shuts gate) old mid
  closed_file old mid closes = file_as name (Closes gate) (Shuts gate) (shut_now gate) old mid closes

  pub closing_acts : (tells : Tells) (old : Scene) → (new : Scene) → Acts tells (ChangesFile name (CloseStep gate)) old new → Acts tells (ChangesFile name (SyncStep gate body)) old new
  closing_acts tells old new acts = acts_as tells (ChangesFile name (CloseStep gate)) (ChangesFile name (SyncStep gate body)) old new (λ told d s. file_as name (CloseStep gate) (SyncStep gate body) (close_step gate body) old.folder d s) acts

  -- while the pages are written
  pub writing_acts : (tells : Tells) (old : Scene) → (mid new : Scene) → NoneFails tells old mid → Acts tells (ChangesFile name (CloseStep gate)) old mid → (IsTrue tells.folder → ChangesFile name (Closes gate) old.folder mid.folder)
      → Acts tells (ChangesFile name KeepsMark) mid new → Acts tells (ChangesFile name (SyncStep gate body)) old new
  writing_acts tells old mid new none first closes second =
      acts_then tells (ChangesFile name (CloseStep gate)) (ChangesFile name KeepsMark) (ChangesFile name (SyncStep gate body)) old mid new
      (λ told d s. file_as name (CloseStep gate) (SyncStep gate body) (close_step gate body) old.folder d s)
      (λ told here d t. file_then name (Shuts gate) KeepsMark (SyncStep gate body) (λ a b c shuts keeps. shut_step gate body a c (shuts_on gate a b c shuts keeps)) old.folder mid.folder d (closed_file old.folder mid.folder (closes told)) t)
      none first second

  pub writing_failed : (old mid new : Disk) → ChangesFile name (Closes gate) old mid → ChangesFile name KeepsMark mid new → ChangesFile name (FailedSync gate Closed body) old new
  writing_failed old mid new closes keeps =
      file_then name (Shuts gate) KeepsMark (FailedSync gate Closed body) (λ a b c shuts keeps. InWriting refl (shuts_on gate a b c shuts keeps)) old mid new (closed_file old mid closes) keeps

  -- after all pages were written
  pub written_file : (old mid new : Disk) → ChangesFile name (Closes gate) old mid → ChangesFile name (WritesBody body) mid new → ChangesFile name (ShutsWith gate body) old new
  written_file old mid new closes writes = file_then name (Shuts gate) (WritesBody body) (ShutsWith gate body) (written_shut gate body) old mid new (closed_file old mid closes) writes

  -- while the gate is opened
  pub opening_acts : (tells : Tells) (old : Scene) → (mid new : Scene) → NoneFails tells old mid → Acts tells (ChangesFile name (SyncStep gate body)) old mid → (IsTrue tells.folder → ChangesFile name (ShutsWith gate body) old.folder mid.folder)
      → Acts tells (ChangesFile name ChangesMark) mid new → Acts tells (ChangesFile name (SyncStep gate body)) old new
  opening_acts tells old mid new none first whole second =
      acts_then tells (ChangesFile name (SyncStep gate body)) (ChangesFile name ChangesMark) (ChangesFile name (SyncStep gate body)) old mid new (λ told d s. s)
      (λ told here d t. file_then name (ShutsWith gate body) ChangesMark (SyncStep gate body) (open_step gate body) old.folder mid.folder d (whole told) t) none first second

  pub opening_failed : (old mid new : Disk) → ChangesFile name (ShutsWith gate body) old mid → ChangesFile name ChangesMark mid new → ChangesFile name KeepsImages mid new
      → ChangesFile name (FailedSync gate Unknown body) old new
  opening_failed old mid new whole changes keeps =
      file_then name (ShutsWith gate body) (λ a b. ChangesMark a b × KeepsImages a b) (FailedSync gate Unknown body)
      (λ a b c shuts both. InOpening refl (λ any fits. (
        body_stays body b c both.0 (shuts any fits).1,
        record { image = b.bytes; is = both.1 b.bytes (read_image b); not_open = zeros_not_open b.bytes ((shuts any fits).0 b.bytes (read_image b)) },
      )))
      old mid new whole (both_files name ChangesMark KeepsImages mid new changes keeps)

  pub opened_file : (before : Body) (old mid new : Disk) → FileHas old name (Fits gate before) → ChangesFile name (ShutsWith gate body) old mid → ChangesFile name ChangesMark mid new
      → FileHas new name (λ file. Leaves file (HasMark open_mark)) → FileHas new name (λ file. Leaves file (Holds body))
  opened_file before old mid new there whole changes marked =
      let body_there : FileHas new name (λ file. Leaves file (HasBody body)) =
      file_after name ChangesMark (λ file. Leaves file (HasBody body)) (λ file. Leaves file (HasBody body)) (λ a b all step. body_stays body a b step all) mid new
      (file_after name (ShutsWith gate body) (Fits gate before) (λ file. Leaves file (HasBody body)) (λ a b fits shuts. (shuts before fits).1) old mid there whole) changes in
      record {
        number = marked.number;
        leads = marked.leads;
        has = λ c image. record { opened = marked.has c image; whole = has_at name (λ file. Leaves file (HasBody body)) new body_there marked.number marked.leads c image };
      }

  pub grown_file : (old one two new : Disk) → ChangesFile name KeepsLength old one → ChangesFile name (WritesBody body) one two → ChangesFile name KeepsLength two new → ChangesFile name (Lengthens body.pages) old new
  grown_file old one two new closes writes opens =
      file_then name (Lengthens body.pages) KeepsLength (Lengthens body.pages)
      (λ a b c grown keeps. record { end = grown.end; some = grown.some; past = grown.past; last = grown.last; is = omega (arith, grown.is, grown.some, keeps.no_shorter, keeps.no_longer) }) old two new
      (file_then name KeepsLength (WritesBody body) (Lengthens body.pages)
      (λ a b c keeps writes. let grown = writes.size in record { end = grown.end; some = grown.some; past = grown.past; last = grown.last; is = omega (arith, grown.is, grown.some, keeps.no_shorter, keeps.no_longer) })
      old one two closes writes) opens

  pub closing_failed : gate ≢ Closed → (old new : Disk) → ChangesFile name (CloseStep gate) old new → ChangesFile name KeepsImages old new → ChangesFile name (FailedSync gate Unknown body) old new
  closing_failed not old new changes keeps =
      file_as name (λ a b. CloseStep gate a b × KeepsImages a b) (FailedSync gate Unknown body) (λ a b both. InClosing not refl both.0.1 both.1) old new (both_files name (CloseStep gate) KeepsImages old new changes keeps)

  -- what is not stale stands after the identifier, whatever that is
  pub fresh_behind : (pages : Held) (has : Written) (before : Body) → Keeps gate pages has before.pages → (old mid : Disk) → FileHas old name (Fits gate before) → ChangesFile name (Closes gate) old mid
      → ChangesFile name (CloseStep gate) old mid → FileHas mid name (λ file. HasFresh pages has file.bytes)
  fresh_behind pages has before keeps old mid there closes changes =
      file_after name (λ a b. Shuts gate a b × CloseStep gate a b) (Fits gate before) (λ file. HasFresh pages has file.bytes)
      (λ a b fits both. fresh_stands gate pages has before keeps a b fits both.0 both.1.1) old mid there (both_files name (Shuts gate) (CloseStep gate) old mid (closed_file old mid closes) changes)

  pub still_there : (P : File → Type 0) (step : File → File → Type 0) (old new : Disk) → FileHas old name P → ChangesFile name step old new → FileHas new name (λ file. Unit {0})
  still_there P step old new there changes = file_after name step P (λ file. Unit {0}) (λ a b has s. tt) old new there changes
