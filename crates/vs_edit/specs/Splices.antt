-- Splices of lists of lines.
use Rattle.std.specs.Prelude.{ℕ, ◌≡◌, ◌+◌, ◌≤◌, List, ◌++◌, All, length, take, drop}
use Rattle.vs_text.specs.Text.{IsText, bytes_of, file_of}
use Rattle.vs_text.specs.Limits.{IsShort}
use Rattle.vs_text.specs.declared.TheConstants.{MAX_LINES, MAX_TEXT_BYTES}

-- the first `top` elements, then the new ones, then the elements after `top + old`
abbrev pub splice : {X : Type 0} → List X → ℕ → ℕ → List X → List X
splice xs top old new = take top xs ++ new ++ drop (top + old) xs

-- the elements that a splice takes out
abbrev pub cut_out : {X : Type 0} → List X → ℕ → ℕ → List X
cut_out xs top old = take old (drop top xs)

-- At most one line is put in place of at most one, and a page has room for each of them.
pub record IsSmallSplice (text : List (List ℕ)) (top old : ℕ) (new : List (List ℕ)) : Type 0 where
  pub few_out : old ≤ 1
  pub few_in : length new ≤ 1
  pub brief_out : All (λ line. length line ≤ 4067) (cut_out text top old)
  pub brief_in : All (λ line. length line ≤ 4067) new

-- A text with these numbers of lines and bytes has the lines to take out and room for the new ones, also where what goes has no bytes.
pub record HasRoom (lines bytes top old : ℕ) (new : List (List ℕ)) : Type 0 where
  pub within : top + old ≤ lines
  pub few_lines : lines + length new ≤ MAX_LINES + old
  pub short_lines : All IsShort new
  pub few_bytes : bytes + bytes_of new ≤ MAX_TEXT_BYTES

-- These bytes are the file form of `count` lines within the limit of a line.
pub record HoldsLines (count : ℕ) (bytes : List ℕ) : Type 0 where
  pub lines : List (List ℕ)
  pub counted : length lines ≡ count
  pub is_text : IsText lines
  pub short_lines : All IsShort lines
  pub form : bytes ≡ file_of lines
