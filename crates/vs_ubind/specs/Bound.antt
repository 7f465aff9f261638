-- Which history the data of an undo file stands for at a text.
use Rattle.std.specs.Prelude.{ℕ, ◌≡◌, Bool, true, false, List, length}
use Rattle.vs_text.specs.Text.{stored}
use Rattle.vs_undo.specs.declared.parts.Parts.{Parts}
use Rattle.vs_undo.specs.History.{history_marked, History, IsHistory}
use Rattle.vs_undo.specs.Sound.{IsSound}
use Rattle.vs_ufile.specs.Values as file
use Rattle.vs_ubind.specs.Digest.{digest_of}
use Rattle.vs_ubind.specs.Meaning.{Means}
use Rattle.vs_ubind.specs.Unbound.{filed}

-- The data was made for this text, and stands for a tree whose entries lead from this text to those of the history.
pub record IsBound (contents : file.History) (text : List (List ℕ)) (history : History) : Type 0 where
  pub digest : contents.digest ≡ digest_of text
  pub lines : contents.lines ≡ length (stored text)
  pub tree : Parts
  pub sound : IsSound tree
  pub means : Means contents tree
  pub is : IsHistory tree text history

-- The data is that of a sound tree whose entries lead from this text to those of the history, with each field that a reader passes over.
pub record IsFiled (contents : file.History) (text : List (List ℕ)) (history : History) : Type 0 where
  pub tree : Parts
  pub sound : IsSound tree
  pub is : IsHistory tree text history
  pub fields : contents ≡ filed (digest_of text) (length (stored text)) tree

-- The data of a tree with this history at this text: what a reader takes from it, and what a writer gives each field.
pub record IsDataOf (contents : file.History) (text : List (List ℕ)) (history : History) : Type 0 where
  pub bound : IsBound contents text history
  pub filed : IsFiled contents text history

-- the history, or the history after the next write
abbrev pub history_next : Bool → History → History
history_next false history = history
history_next true history = history_marked history
