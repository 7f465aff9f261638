-- The lines of a command that looks at all lines where no range was written.
use Rattle.std.specs.Prelude.{ℕ, Result}
use Rattle.vs_exparse.specs.declared.command.Range.{Range}
use Rattle.vs_exparse.specs.declared.command.Range.TheVariants as range
use Rattle.vs_exparse.specs.declared.command.ExErr.{ExErr}
use Rattle.vs_excmd.specs.declared.place.LineZero.TheVariants as zero
use Rattle.vs_excmd.specs.declared.place.Span.{Span}
use Rattle.vs_excmd.specs.Place.{located}

-- all lines where no range was written
abbrev pub or_all : Range → Range
or_all range.Absent = range.All
or_all range.All = range.All
or_all (range.One address) = range.One address
or_all (range.Two first last) = range.Two first last

-- the lines in which a global command looks for its text
abbrev pub searched : Range → ℕ → ℕ → Result Span ExErr
searched range lines cursor = located zero.IsFirst (or_all range) lines cursor
