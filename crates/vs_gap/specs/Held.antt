-- Lines that stand in the place of others of a text.
use Rattle.std.specs.Prelude.{refl, ℕ, ◌≡◌, ◌+◌, ◌-◌, ◌≤◌, List, All, length, Option, Some, None}
use Rattle.vs_text.specs.Text.{IsText, bytes_of}
use Rattle.vs_text.specs.Limits.{IsShort}
use Rattle.vs_text.specs.declared.TheConstants.{MAX_LINES, MAX_TEXT_BYTES}
use Rattle.vs_edit.specs.Splices.{cut_out, splice}
use Rattle.vs_edit.specs.State.{StoreState, TextState}
use Rattle.vs_edit.specs.Texts.{IsSound}
use Rattle.vs_gap.specs.declared.held.Held.{Held}

-- a text once the held lines stand in the place of others
abbrev pub with_held : List (List ℕ) → Held → List (List ℕ)
with_held text held = splice text held.top held.replaced held.lines

-- the number of lines that there are, once the held lines stand in a text with so many
abbrev pub lines_with : ℕ → Held → ℕ
lines_with count held = count + length held.lines - held.replaced

-- The held lines stand for lines of this text, and the text that comes of it is sound, with these numbers of lines and bytes.
pub record FitsText (text : List (List ℕ)) (held : Held) (count size : ℕ) : Type 0 where
  pub within : held.top + held.replaced ≤ length text
  pub sound : IsSound (with_held text held)
  pub lines : length (with_held text held) ≡ count
  pub bytes : bytes_of (with_held text held) ≡ size

-- The held lines stand for lines of what a store shows.
pub record IsHeld (below : TextState) (held : Held) : Type 0 where
  pub within : held.top + held.replaced ≤ below.lines
  pub few_lines : lines_with below.lines held ≤ MAX_LINES
  pub few_bytes : held.bytes ≤ MAX_TEXT_BYTES
  pub short_lines : All IsShort held.lines
  pub fits : (text : List (List ℕ)) → below.Is text → FitsText text held (lines_with below.lines held) held.bytes

-- A text comes of what a store shows, once the held lines stand in it.
pub record IsShown (below : TextState) (held : Held) (text : List (List ℕ)) : Type 0 where
  pub under : List (List ℕ)
  pub has : below.Is under
  pub fits : FitsText under held (lines_with below.lines held) held.bytes
  pub is : text ≡ with_held under held

-- a text that is shown, where one is told
pub told_with : (below : TextState) (held : Held) → IsHeld below held → ((text : List (List ℕ)) × below.Is text)
    → (text : List (List ℕ)) × IsShown below held text
told_with below held is found = (with_held found.0 held, record { under = found.0; has = found.1; fits = is.fits found.0 found.1; is = refl })

-- what a store shows, once the held lines stand in it: no page is worked for them
abbrev pub shown : TextState → Held → TextState
shown below held = record below { Is = IsShown below held; lines = lines_with below.lines held; bytes = held.bytes }

-- the lines that were held at the commit, which are those that are held now where no others were kept
abbrev pub committed_of : Held → Option Held → Held
committed_of present None = present
committed_of present (Some held) = held

-- what a store shows that holds lines over another
abbrev pub shown_over : StoreState → Held → Option Held → StoreState
shown_over below present committed =
    record { present = shown below.present present; committed = shown below.present (committed_of present committed); faults = below.faults }

-- More lines of what a store shows are held, each in its own place.
pub record HoldsMore (below : TextState) (old new : Held) : Type 0 where
  pub within : new.top + new.replaced ≤ below.lines
  pub lines : length new.lines + old.replaced ≡ length old.lines + new.replaced
  pub bytes : new.bytes ≡ old.bytes
  pub short_lines : All IsShort old.lines → All IsShort new.lines
  pub text : (text : List (List ℕ)) → below.Is text → with_held text new ≡ with_held text old

-- the bytes of `count` held lines from line `top` of the text on
abbrev pub bytes_from : Held → ℕ → ℕ → ℕ
bytes_from held top count = bytes_of (cut_out held.lines (top - held.top) count)

-- New lines stand in the place of `count` held ones, from line `top` of the text on.
pub record IsExchanged (old : Held) (top count : ℕ) (inserted : List (List ℕ)) (new : Held) : Type 0 where
  pub top_is : new.top ≡ old.top
  pub replaced : new.replaced ≡ old.replaced
  pub lines : new.lines ≡ splice old.lines (top - old.top) count inserted
  pub few_bytes : new.bytes ≤ MAX_TEXT_BYTES
  pub bytes : bytes_from old top count ≤ old.bytes → old.bytes + bytes_of inserted ≤ MAX_TEXT_BYTES + bytes_from old top count
      → new.bytes + bytes_from old top count ≡ old.bytes + bytes_of inserted
  pub is_text : IsText inserted
