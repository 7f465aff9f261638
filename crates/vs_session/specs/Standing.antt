-- A text in pages with its undo tree, in a state of the machine.
use Rattle.std.specs.Prelude.{List}
use Rattle.vs_host.specs.Disk.{Disk}
use Rattle.vs_pair.specs.Pair.{shown_in}
use Rattle.vs_pair.specs.declared.pair.SwapPair.{SwapPair}
use Rattle.vs_tree.specs.declared.tree.LineTree.{LineTree}
use Rattle.vs_undo.specs.History.{IsHistory}
use Rattle.vs_undo.specs.declared.parts.Parts.{Parts}
use Rattle.vs_machine.specs.Machine.{State}
use Rattle.vs_safety.specs.Texts.{Sync}
use Rattle.vs_paged.specs.Fits.{Fits}
use Rattle.vs_paged.specs.Pages.{IsPaged}
use Rattle.vs_paged.specs.declared.paged.PagedText.{PagedText}

-- The pages that the pair shows over the folder have the text of the state, and with it the undo tree is the history of the state.
pub record Stands (pair : SwapPair) (disk : Disk) (tree : LineTree) (undo : Parts) (state : State) : Type 0 where
  pub text : IsPaged (shown_in pair disk) tree state.text
  pub history : IsHistory undo state.text state.history

-- The text fits the folder with these syncs, and with its undo tree it is that of the state.
pub record FitsState (paged : PagedText) (undo : Parts) (disk : Disk) (state : State) (syncs : List Sync) : Type 0 where
  pub text : Fits paged disk state.text syncs
  pub history : IsHistory undo state.text state.history
