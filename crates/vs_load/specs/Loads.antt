-- What a load leaves.
use Rattle.std.specs.Prelude.{ℕ, ◌+◌, ◌*◌, List, replicate}
use Rattle.vs_load.specs.declared.load.Counts.{Counts}
use Rattle.vs_load.specs.declared.words.Load.{Load}
use Rattle.vs_load.specs.declared.words.Load.TheVariants.{Fill, Once, Lines, Append, Replace}

-- each line of a load: 39 bytes, all of them the letter x
unfoldable pub sample : List ℕ
sample = replicate 39 120

-- the text with this number of lines
abbrev pub samples : ℕ → List (List ℕ)
samples n = replicate n sample

-- the number of lines that there are at the end
abbrev pub lines_after : Load → ℕ
lines_after (Fill lines) = lines
lines_after (Once lines) = lines
lines_after (Lines lines) = 0
lines_after (Append lines runs size) = lines + runs * size
lines_after (Replace lines count) = lines

-- what is counted of so many lines in so many pages: each line has 40 bytes with its end, whose sum is 39 * 120 + 10
abbrev pub counts_of : ℕ → ℕ → Counts
counts_of n pages = record { lines = n; bytes = 40 * n; sum = 4690 * n; pages = pages }
