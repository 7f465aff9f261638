-- A text in the pages of a pair is what a store over them has, so each clause of the store says what the text is.
use Rattle.std.proofs.Common.{◌≡◌, ◌+◌, ◌*◌, inr, ℕ, Bool, true, false, IsTrue, List, Result, Ok, Err, IfOk, sym, ap, ◌∙◌, subst, arith}
use Rattle.std.proofs.lemmas.Bool.{false≢true}
use Rattle.vs_faults.specs.OneCause.{HasOneCause}
use Rattle.vs_disk.specs.Faults.{earlier_faults}
use Rattle.vs_pages.specs.State.{PageState}
use Rattle.vs_edit.specs.State.{SameText}
use Rattle.vs_tree.specs.declared.tree.LineTree.{LineTree}
use Rattle.vs_tree.specs.Texts.{Fits, HasText, Tells, shown_work, text_of, worked_by}
use Rattle.vs_tree.proofs.Kept.{shown_kept}
use Rattle.vs_tree.specs.Sames.{one_text}
use Rattle.vs_host.specs.Disk.{Disk}
use Rattle.vs_host.specs.World as world
use Rattle.vs_host.specs.World.{Scene}
use Rattle.vs_pair.specs.declared.pair.SwapPair.{SwapPair}
use Rattle.vs_pair.specs.Held.{KeepsHeld}
use Rattle.vs_pair.specs.Lent.{IsReady, IsStored, KeepsFiles}
use Rattle.vs_pair.specs.Pair.{held_in, shown_in}
use Rattle.vs_undo.specs.History.{History, IsHistory, FitsText}
use Rattle.vs_undo.specs.declared.parts.Parts.{Parts}
use Rattle.vs_machine.specs.Machine.{State}
use Rattle.vs_safety.specs.Texts.{Text, Sync}
use Rattle.vs_paged.specs.Fits as folder
use Rattle.vs_paged.specs.declared.paged.PagedText.{PagedText}
use Rattle.vs_paged.proofs.SyncLemmas.{fits_changed}
use Rattle.vs_session.specs.Standing.{Stands, FitsState}
use Rattle.vs_paged.specs.Pages.{IsBounded, IsFilledIn, IsPaged}

-- ---- answers

-- ---- what the store asks

pub present_fits : (tells : Bool) (shown : PageState) (tree : LineTree) → IsBounded tree → (IsTrue tells → (text : Text) × IsPaged shown tree text) → Fits tells shown.present tree.present
present_fits tells shown tree bounded paged = record {
  few = bounded.few_lines;
  few_bytes = bounded.few_bytes;
  one = λ told. let is = paged told in (is.0, is.1.present);
}

pub committed_fits : (tells : Bool) (shown : PageState) (tree : LineTree) → IsBounded tree → (IsTrue tells → (text : Text) × IsPaged shown tree text) → Fits tells shown.committed tree.committed
committed_fits tells shown tree bounded paged = record {
  few = omega (arith, bounded.few_lines, bounded.same_lines);
  few_bytes = omega (arith, bounded.few_bytes, bounded.same_bytes);
  one = λ told. let is = paged told in (is.0, is.1.committed);
}

pub present_filled : (tells : Bool) (shown : PageState) (tree : LineTree) → (IsTrue tells → (text : Text) × IsPaged shown tree text) → IsTrue tells → IsFilledIn shown.present tree.present
present_filled tells shown tree paged told = (paged told).1.filled.present

pub committed_filled : (tells : Bool) (shown : PageState) (tree : LineTree) → (IsTrue tells → (text : Text) × IsPaged shown tree text) → IsTrue tells → IsFilledIn shown.committed tree.committed
committed_filled tells shown tree paged told = (paged told).1.filled.committed

pub same_text : (tells : Bool) (shown : PageState) (tree : LineTree) → IsBounded tree → (IsTrue tells → (text : Text) × IsPaged shown tree text)
    → SameText (text_of tells (worked_by shown) shown.present tree.present) (text_of tells shown.commits.last shown.committed tree.committed)
same_text tells shown tree bounded paged = record {
  text = λ text is.
      let here = paged is.told in
      let same : here.0 ≡ text = one_text shown.present tree.present here.0 text here.1.present is.has in
      record { told = is.told; has = let H : Text → Type 0 = λ t. HasText shown.committed tree.committed t in subst H same here.1.committed };
  lines = bounded.same_lines;
  bytes = bounded.same_bytes;
  worked_by = shown_kept tells (worked_by shown) shown.commits.last (λ told. let is = paged told in sym is.1.idle);
  most = ap (λ h. 5 * h + 12) bounded.same_height;
}

-- ---- what the store leaves

-- what is shown of the work is the work, where it is told
pub shown_told : (tells : Bool) (a b : ℕ → ℕ) → IsTrue tells → shown_work tells b ≡ shown_work tells a → b ≡ a
shown_told true a b told same = same
shown_told false a b told same = absurd (false≢true told)

pub told_text : (tells : Bool) (shown : PageState) (tree : LineTree) (text : Text) → IsTrue tells → IsPaged shown tree text → Tells tells shown.present tree.present text
told_text tells shown tree text told is = record { told = told; has = is.present }

pub paged_text : (tells : Bool) (shown : PageState) (tree : LineTree) (text : Text) → SameText (text_of tells (worked_by shown) shown.present tree.present) (text_of tells shown.commits.last shown.committed tree.committed)
    → (IsTrue tells → IsFilledIn shown.present tree.present) → (IsTrue tells → IsFilledIn shown.committed tree.committed) → Tells tells shown.present tree.present text → IsPaged shown tree text
paged_text tells shown tree text same present committed is = record {
  present = is.has;
  committed = (same.text text is).has;
  filled = record { present = present is.told; committed = committed is.told };
  idle = shown_told tells shown.commits.last (worked_by shown) is.told (sym same.worked_by);
}

pub bounded_tree : (tells : Bool) (shown : PageState) (tree : LineTree) → Fits tells shown.present tree.present
    → SameText (text_of tells (worked_by shown) shown.present tree.present) (text_of tells shown.commits.last shown.committed tree.committed) → IsBounded tree
bounded_tree tells shown tree fits same =
    record { few_lines = fits.few; few_bytes = fits.few_bytes; same_lines = same.lines; same_bytes = same.bytes; same_height = omega (arith, same.most) }

-- ---- the state of the machine

-- a tree that is the history of a text fits it
pub fits_undo : (undo : Parts) (text : Text) (history : History) → IsHistory undo text history → FitsText undo text
fits_undo undo text history is = record { texts = history.texts; are_states = is.are_states; current = sym is.current }

module _ (tells : Bool) (pair : SwapPair) (disk : Disk) (tree : LineTree) (undo : Parts) (stands : IsTrue tells → (state : State) × Stands pair disk tree undo state) where
  pub stands_paged : IsTrue tells → (text : Text) × IsPaged (shown_in pair disk) tree text
  stands_paged told = let is = stands told in (is.0.text, is.1.text)

  pub stands_undo : (text : Text) → Tells tells (shown_in pair disk).present tree.present text → FitsText undo text
  stands_undo text is =
      let here = stands is.told in
      let same : here.0.text ≡ text = one_text (shown_in pair disk).present tree.present here.0.text text here.1.text.present is.has in
      subst (λ (t : Text). FitsText undo t) same (fits_undo undo here.0.text here.0.history here.1.history)

-- what was lent is as the store left it
pub stands_back : (now held : SwapPair) (disk was : Disk) (tree left : LineTree) (undo : Parts) (state : State) → now ≡ held → disk ≡ was → tree ≡ left → Stands held was left undo state → Stands now disk tree undo state
stands_back now held disk was tree left undo state pair_is disk_is tree_is is =
    let P : SwapPair → Type 0 = λ p. Stands p disk tree undo state in
    let D : Disk → Type 0 = λ d. Stands held d tree undo state in
    let Q : LineTree → Type 0 = λ t. Stands held was t undo state in
    subst P (sym pair_is) (subst D (sym disk_is) (subst Q (sym tree_is) is))

pub keeps_back : (tells : world.Tells) (was now held : SwapPair) (old new left : Scene) → now ≡ held → new ≡ left → KeepsFiles tells was held old left → KeepsFiles tells was now old new
keeps_back tells was now held old new left pair_is host_is is =
    let P : SwapPair → Type 0 = λ p. KeepsFiles tells was p old new in
    let Q : Scene → Type 0 = λ s. KeepsFiles tells was held old s in
    subst P (sym pair_is) (subst Q (sym host_is) is)

pub ready_back : (told : Type 0) (now held : SwapPair) (disk was : Disk) → now ≡ held → disk ≡ was → (told → IsReady held was) → told → IsReady now disk
ready_back told now held disk was pair_is disk_is is given =
    let P : SwapPair → Type 0 = λ p. IsReady p disk in
    let D : Disk → Type 0 = λ d. IsReady held d in
    subst P (sym pair_is) (subst D (sym disk_is) (is given))

pub cause_back : {F : Type 0} (tells : world.Tells) (from : ℕ) (new left : Scene) → new ≡ left → HasOneCause from left.folder_faults (earlier_faults tells left) F
    → HasOneCause from new.folder_faults (earlier_faults tells new) F
cause_back {F} tells from new left is cause = let P : Scene → Type 0 = λ s. HasOneCause from s.folder_faults (earlier_faults tells s) F in subst P (sym is) cause

-- ---- the text in the folder

pub fits_ready : (paged : PagedText) (disk : Disk) (text : Text) (syncs : List Sync) → folder.Fits paged disk text syncs → IsReady paged.pair disk
fits_ready paged disk text syncs fits = record { stored = fits.stored; begun = inr (fits.newest, fits.later, fits.past, fits.fit) }

-- the same swap files in the same folder
pub fits_left : (tells : world.Tells) (old new : PagedText) (was now : Scene) (text after : Text) (syncs : List Sync) → IsTrue tells.folder → KeepsFiles tells old.pair new.pair was now
    → IsReady new.pair now.folder → folder.Fits old was.folder text syncs → IsPaged (shown_in new.pair now.folder) new.tree after → folder.Fits new now.folder after syncs
fits_left tells old new was now text after syncs told keeps ready fits pages =
    let same : now.folder ≡ was.folder = ap (λ (s : Scene). s.folder) keeps.frame in
    let held : KeepsHeld (held_in old.pair was.folder) (held_in new.pair was.folder) = subst (λ (d : Disk). KeepsHeld (held_in old.pair was.folder) (held_in new.pair d)) same (keeps.held told) in
    let paged : IsPaged (shown_in new.pair was.folder) new.tree after = subst (λ (d : Disk). IsPaged (shown_in new.pair d) new.tree after) same pages in
    let stored : IsStored new.pair was.folder = subst (λ (d : Disk). IsStored new.pair d) same ready.stored in
    subst (λ (d : Disk). folder.Fits new d after syncs) (sym same) (fits_changed old new was.folder text after syncs keeps.files held paged stored fits)

pub state_left : (tells : world.Tells) (old new : PagedText) (undo left : Parts) (was now : Scene) (state after : State) (syncs : List Sync) → IsTrue tells.folder → KeepsFiles tells old.pair new.pair was now
    → IsReady new.pair now.folder → FitsState old undo was.folder state syncs → Stands new.pair now.folder new.tree left after → FitsState new left now.folder after syncs
state_left tells old new undo left was now state after syncs told keeps ready fits stands =
    record { text = fits_left tells old new was now state.text after.text syncs told keeps ready fits.text stands.text; history = stands.history }

-- what was committed is the present text still, where a store kept both
pub kept_same : (tells : Bool) (shown left : PageState) (tree after : LineTree) → IsBounded tree → (IsTrue tells → (text : Text) × IsPaged shown tree text)
    → SameText (text_of tells (worked_by shown) shown.present tree.present) (text_of tells (worked_by left) left.present after.present)
    → SameText (text_of tells shown.commits.last shown.committed tree.committed) (text_of tells left.commits.last left.committed after.committed)
    → SameText (text_of tells (worked_by left) left.present after.present) (text_of tells left.commits.last left.committed after.committed)
kept_same tells shown left tree after bounded paged present committed = record {
  text = λ text is.
      let here = paged is.told in
      let now = present.text here.0 (told_text tells shown tree here.0 is.told here.1) in
      let same : here.0 ≡ text = one_text left.present after.present here.0 text now.has is.has in
      let H : Text → Type 0 = λ t. Tells tells left.committed after.committed t in
      subst H same (committed.text here.0 (record { told = is.told; has = here.1.committed }));
  lines = committed.lines ∙ bounded.same_lines ∙ sym present.lines;
  bytes = committed.bytes ∙ bounded.same_bytes ∙ sym present.bytes;
  worked_by = committed.worked_by ∙ (same_text tells shown tree bounded paged).worked_by ∙ sym present.worked_by;
  most = committed.most ∙ ap (λ h. 5 * h + 12) bounded.same_height ∙ sym present.most;
}
