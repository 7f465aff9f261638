-- What is held of the lines of a block while it is read.
use Rattle.std.specs.Prelude.{ℕ, ◌≡◌, List, [], All, ⊤}
use Rattle.vs_text.specs.Text.{bytes_of}
use Rattle.vs_text.specs.Limits.{IsShort, IsWithinLimits}
use Rattle.vs_excmd.specs.Request.{PassLimits}
use Rattle.vs_excmd.specs.declared.request.Block.{Block}
use Rattle.vs_excmd.specs.declared.request.Block.TheVariants as block
use Rattle.vs_script.specs.declared.block.BlockLines.{BlockLines}
use Rattle.vs_script.specs.declared.block.BlockLines.TheVariants as held

-- It stands for these lines: they are held, or why they are not.
abbrev pub Holds : BlockLines → List (List ℕ) → Type 0
Holds (held.Kept kept bytes) lines = kept.items ≡ lines
Holds held.TooLong lines = ¬ All IsShort lines
Holds held.TooMany lines = All IsShort lines × PassLimits lines
Holds held.NoMemory lines = ⊤

-- Lines that are held are within the limits of a text, and their bytes are counted.
abbrev pub IsCounted : BlockLines → Type 0
IsCounted (held.Kept kept bytes) = (bytes ≡ bytes_of kept.items) × IsWithinLimits kept.items
IsCounted held.TooLong = ⊤
IsCounted held.TooMany = ⊤
IsCounted held.NoMemory = ⊤

-- the lines that a block holds
abbrev pub lines_in : Block → List (List ℕ)
lines_in block.Absent = []
lines_in (block.Lines kept) = kept.items
lines_in block.TooLong = []
lines_in block.TooMany = []
lines_in block.NoMemory = []
