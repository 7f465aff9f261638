-- Lines in which a literal text is replaced.
use Rattle.std.specs.Prelude.{ℕ, Bool, ◌+◌, ◌-◌, ◌||◌, not, if◌then◌else◌, List, [], ◌∷◌, ◌++◌, length, take, drop, map, Some, Result, Ok}
use Rattle.std.specs.List.{list_any, prefix_len}
use Rattle.memchr.specs.Find.{matches}
use Rattle.vs_exparse.specs.Bytes.{is_empty}
use Rattle.vs_exparse.specs.Pieces.{literal_of, replaced_by}
use Rattle.vs_exparse.specs.declared.command.ExErr.{ExErr}
use Rattle.vs_exparse.specs.declared.command.ExErr.TheVariants.{E486}
use Rattle.vs_excmd.specs.declared.place.Span.{Span}
use Rattle.vs_excmd.specs.Errors.{check}
use Rattle.vs_excmd.specs.Change.{Change, Effect, before, lines_in}

-- a line from some byte on, with new bytes in the place of `width` bytes at each of these places
abbrev pub rebuilt : List ℕ → ℕ → List ℕ → ℕ → List ℕ → List ℕ
rebuilt line width new from [] = drop from line
rebuilt line width new from (place ∷ places) = (take (place - from) (drop from line) ++ new) ++ rebuilt line width new (place + width) places

-- where a text stands in a line and is replaced: its first match, or all matches from left to right that do not overlap
abbrev pub places_in : Bool → List ℕ → List ℕ → List ℕ
places_in all literal line = if all then matches line literal 0 else take 1 (matches line literal 0)

-- a line with its first match replaced, or all of them
abbrev pub replaced : Bool → List ℕ → List ℕ → List ℕ → List ℕ
replaced all literal new line = rebuilt line (length literal) new 0 (places_in all literal line)

-- whether a literal text stands in a line
abbrev pub has_match : List ℕ → List ℕ → Bool
has_match literal line = not (is_empty (matches line literal 0))

-- lines up to the last one that matches
abbrev pub up_to_last : (List ℕ → Bool) → List (List ℕ) → List (List ℕ)
up_to_last hits [] = []
up_to_last hits (line ∷ lines) = if hits line || list_any hits lines then line ∷ up_to_last hits lines else []

-- Of these lines, which stand after `top` lines, those from the first that matches to the last become new.
abbrev pub rewritten : (List ℕ → Bool) → (List ℕ → List ℕ) → ℕ → List (List ℕ) → Change
rewritten hits f top lines =
    let before = prefix_len (λ line. not (hits line)) lines in
    let new = map f (up_to_last hits (drop before lines)) in
    record { top = top + before; old = length new; new = new; cursor = top + before + length new }

-- what becomes of these lines, which stand after `top` lines; E486 where none matches
abbrev pub substituted_lines : (List ℕ → Bool) → (List ℕ → List ℕ) → ℕ → List (List ℕ) → Result Effect ExErr
substituted_lines hits f top lines = check (list_any hits lines) E486 (Ok (Some (rewritten hits f top lines)))

-- what `:s` does to the lines of a span
abbrev pub substituted : List ℕ → List ℕ → Bool → List (List ℕ) → Span → Result Effect ExErr
substituted pattern replacement all text span =
    let literal = literal_of pattern in
    substituted_lines (has_match literal) (replaced all literal (replaced_by literal replacement)) (before span) (lines_in text span)
