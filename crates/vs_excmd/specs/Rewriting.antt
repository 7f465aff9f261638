-- Lines that are rewritten one after another.
use Rattle.std.specs.Prelude.{◌≡◌, ◌<◌, ◌≤◌, ◌⊎◌, ◌&&◌, ⊤, ℕ, Bool, true, false, not, List, length, take, drop, map}
use Rattle.std.specs.List.{list_any, prefix_len}
use Rattle.vs_text.specs.Limits.{IsShort}
use Rattle.vs_text.specs.declared.TheConstants.{MAX_LINE_BYTES}
use Rattle.vs_exparse.specs.Bytes.{is_empty}
use Rattle.vs_excmd.specs.declared.replacing.Rewritten.{Rewritten}
use Rattle.vs_excmd.specs.declared.replacing.Rewritten.TheVariants as rewritten
use Rattle.vs_excmd.specs.Change.{is_short}
use Rattle.vs_excmd.specs.Substitute.{up_to_last}

-- Bytes stand in for others: they are these, or neither has room in a line.
abbrev pub StandsIn : List ℕ → List ℕ → Type 0
StandsIn bytes whole = (bytes ≡ whole) ⊎ ((MAX_LINE_BYTES < length bytes) × (MAX_LINE_BYTES < length whole))

-- what came of a line: that it does not match, the new line, or that this is too long
abbrev pub Finds : (List ℕ → Bool) → (List ℕ → List ℕ) → List ℕ → Rewritten → Type 0
Finds hits f line rewritten.Unmatched = (hits line ≡ false) × (f line ≡ line)
Finds hits f line (rewritten.New text) = (hits line ≡ true) × (text.items ≡ f line) × IsShort text.items
Finds hits f line rewritten.TooLong = (hits line ≡ true) × (MAX_LINE_BYTES < length (f line))

-- This holds of the new line.
abbrev pub AreKept : (List ℕ → Type 0) → Rewritten → Type 0
AreKept P rewritten.Unmatched = ⊤
AreKept P (rewritten.New text) = P text.items
AreKept P rewritten.TooLong = ⊤

-- whether a rewritten line is longer than a line may be
abbrev pub is_too_long : Rewritten → Bool
is_too_long rewritten.Unmatched = false
is_too_long (rewritten.New text) = false
is_too_long rewritten.TooLong = true

-- whether a line matches and the new line is too long
abbrev pub is_long : (List ℕ → Bool) → (List ℕ → List ℕ) → List ℕ → Bool
is_long hits f line = hits line && not (is_short (f line))

-- Lines so far: so many stand before the first that matches, the rest is new, and so many of it end with the last that matches.
pub record IsRewriting (hits : List ℕ → Bool) (f : List ℕ → List ℕ) (lines : List (List ℕ)) (before : ℕ) (new : List (List ℕ)) (kept : ℕ) : Type 0 where
  pub before_is : before ≡ prefix_len (λ line. not (hits line)) lines
  pub new_is : new ≡ map f (drop before lines)
  pub kept_is : take kept new ≡ map f (up_to_last hits (drop before lines))
  pub within : kept ≤ length new
  pub any : list_any hits lines ≡ not (is_empty new)
