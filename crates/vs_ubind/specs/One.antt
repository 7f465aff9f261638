-- At a text the data of an undo file has one history.
use Rattle.std.specs.Prelude.{ℕ, List}
use Rattle.vs_undo.specs.declared.parts.Parts.{Parts}
use Rattle.vs_undo.specs.History.{History}
use Rattle.vs_undo.specs.One.{AreSame}
use Rattle.vs_ufile.specs.Values as file
use Rattle.vs_ufile.specs.Decode.{IsUndoFile, KeepsRules}
use Rattle.vs_ubind.specs.Bound.{IsBound}
use Rattle.vs_ubind.specs.Meaning.{Means}

-- The histories that the data stands for at a text have the same text at each number that is kept.
abbrev pub OneBound : Type 0
OneBound = (contents : file.History) (text : List (List ℕ)) (one other : History) → KeepsRules contents → IsBound contents text one →
    IsBound contents text other → AreSame one other

-- Bytes that are the undo file of a history at a text give that history back at this text, and no other: every number that is kept
-- gives the text that stood there.
abbrev pub GivesBack : Type 0
GivesBack =
    (bytes : List ℕ) (stored found : file.History) (text : List (List ℕ)) (was taken : History) → IsUndoFile stored bytes → IsBound stored text was
    → IsUndoFile found bytes → IsBound found text taken → AreSame was taken

-- Data that keeps the rules stands for some tree.
abbrev pub SomeMeaning : Type 0
SomeMeaning = (contents : file.History) → KeepsRules contents → (tree : Parts) × Means contents tree
