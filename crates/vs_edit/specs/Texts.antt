-- What a store of one text keeps in memory.
use Rattle.std.specs.Prelude.{◌≡◌, ◌+◌, ℕ, List, length}
use Rattle.vs_text.specs.Text.{IsText, bytes_of}
use Rattle.vs_text.specs.Limits.{IsWithinLimits}
use Rattle.vs_edit.specs.State.{TextState, StoreState}

-- the text as it is now, and as it was committed
pub record Texts : Type 0 where
  pub present : List (List ℕ)
  pub committed : List (List ℕ)

-- A text of lines without byte 10, within the limits.
pub record IsSound (text : List (List ℕ)) : Type 0 where
  pub is_text : IsText text
  pub within : IsWithinLimits text

-- Both texts are sound.
pub record AreSound (texts : Texts) : Type 0 where
  pub present : IsSound texts.present
  pub committed : IsSound texts.committed

-- what a store shows that counts these faults over another and does not tell its texts
abbrev pub untold : ℕ → StoreState → StoreState
untold faults below = record
    { present = record below.present { Is = λ text. ⊥ }; committed = record below.committed { Is = λ text. ⊥ }; faults = faults + below.faults }

-- a text that is told, and stands in no pages
abbrev pub told : List (List ℕ) → TextState
told lines = record { Is = λ text. lines ≡ text; lines = length lines; bytes = bytes_of lines; worked_by = λ page. 0; most = 0 }
