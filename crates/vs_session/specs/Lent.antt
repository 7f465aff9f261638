-- A text in the pages of a pair, alone or with its undo tree: what a function asks that is lent it with the folder, and what it leaves.
use Rattle.std.specs.Prelude.{◌≡◌, List, IsTrue, max}
use Rattle.vs_faults.specs.OneCause.{HasOneCause}
use Rattle.vs_host.specs.Disk.{Disk}
use Rattle.vs_host.specs.World.{Tells, Scene}
use Rattle.vs_disk.specs.Faults.{earlier_faults}
use Rattle.vs_tree.specs.declared.tree.LineTree.{LineTree}
use Rattle.vs_pair.specs.Lent.{IsReady, KeepsFiles}
use Rattle.vs_pair.specs.Pair.{shown_in}
use Rattle.vs_pair.specs.declared.pair.SwapPair.{SwapPair}
use Rattle.vs_undo.specs.History.{FitsCount}
use Rattle.vs_undo.specs.declared.parts.Parts.{Parts}
use Rattle.vs_machine.specs.Machine.{State}
use Rattle.vs_safety.specs.Texts.{Sync, Text}
use Rattle.vs_paged.specs.Fits.{Fits}
use Rattle.vs_paged.specs.Pages.{IsBounded, IsPaged}
use Rattle.vs_paged.specs.declared.paged.PagedText.{PagedText}
use Rattle.vs_session.specs.Standing.{FitsState, Stands}

-- ---- the pages, the pair and the folder apart

-- The numbers of the tree are within their bounds, and where the folder is told, the pair is ready in it, and the pages have a text.
pub record IsLent (tells : Tells) (pair : SwapPair) (tree : LineTree) (disk : Disk) : Type 0 where
  pub bounded : IsBounded tree
  pub ready : IsTrue tells.folder → IsReady pair disk
  pub paged : IsTrue tells.folder → (text : Text) × IsPaged (shown_in pair disk) tree text

-- The pages have the text that they had, the pair is ready, and the folder was only looked at. Its faults have risen where a call failed,
-- the last one.
pub record KeepsLent (tells : Tells) (Failed : Type 0) (pair_old pair_new : SwapPair) (tree_old tree_new : LineTree) (old new : Scene) : Type 0 where
  pub paged : IsTrue tells.folder → (text : Text) → IsPaged (shown_in pair_old old.folder) tree_old text
      → IsPaged (shown_in pair_new new.folder) tree_new text
  pub bounded : IsBounded tree_new
  pub lines : tree_new.present.lines ≡ tree_old.present.lines
  pub ready : IsTrue tells.folder → IsReady pair_new new.folder
  pub keeps : KeepsFiles tells pair_old pair_new old new
  pub cause : HasOneCause old.folder_faults new.folder_faults (earlier_faults tells new) Failed

-- `IsLent` with an undo tree that fits the number of lines, and that is with the text in a state of the machine.
pub record IsLentWithUndo (tells : Tells) (pair : SwapPair) (tree : LineTree) (undo : Parts) (disk : Disk) : Type 0 where
  pub bounded : IsBounded tree
  pub counts : FitsCount undo (max 1 tree.present.lines)
  pub ready : IsTrue tells.folder → IsReady pair disk
  pub stands : IsTrue tells.folder → (state : State) × Stands pair disk tree undo state

-- The numbers of the tree are within their bounds, the undo tree fits the number of lines, the pair is ready, and the folder was only looked
-- at. Its faults have risen where a call failed, the last one.
pub record KeepsLentWithUndo (tells : Tells) (Failed : Type 0) (pair_old pair_new : SwapPair) (tree : LineTree) (undo : Parts) (old new : Scene) : Type 0 where
  pub bounded : IsBounded tree
  pub counts : FitsCount undo (max 1 tree.present.lines)
  pub ready : IsTrue tells.folder → IsReady pair_new new.folder
  pub keeps : KeepsFiles tells pair_old pair_new old new
  pub cause : HasOneCause old.folder_faults new.folder_faults (earlier_faults tells new) Failed

-- ---- the text as a whole

-- The text fits the folder as it did, with as many lines, and the folder was only looked at. Its faults have risen where a call
-- failed, the last one.
pub record KeepsText (tells : Tells) (Failed : Type 0) (before after : PagedText) (old new : Scene) : Type 0 where
  pub fits : IsTrue tells.folder → (text : Text) (syncs : List Sync) → Fits before old.folder text syncs → Fits after new.folder text syncs
  pub lines : after.tree.present.lines ≡ before.tree.present.lines
  pub keeps : KeepsFiles tells before.pair after.pair old new
  pub cause : HasOneCause old.folder_faults new.folder_faults (earlier_faults tells new) Failed

-- The undo tree fits the number of lines, and where the folder is told, the text fits it, and is with the undo tree in a state of the
-- machine.
pub record FitsWithUndo (tells : Tells) (text : PagedText) (undo : Parts) (disk : Disk) : Type 0 where
  pub counts : FitsCount undo (max 1 text.tree.present.lines)
  pub fits : IsTrue tells.folder → (state : State) × (syncs : List Sync) × FitsState text undo disk state syncs

-- The undo tree fits the number of lines, and the folder was only looked at. Its faults have risen where a call failed, the last
-- one.
pub record KeepsWithUndo (tells : Tells) (Failed : Type 0) (before after : PagedText) (undo : Parts) (old new : Scene) : Type 0 where
  pub counts : FitsCount undo (max 1 after.tree.present.lines)
  pub keeps : KeepsFiles tells before.pair after.pair old new
  pub cause : HasOneCause old.folder_faults new.folder_faults (earlier_faults tells new) Failed
