use Rattle.std.proofs.Common.{take}
use Rattle.vs_ufile.specs.Changes.{IsIndex}
use Rattle.vs_ufile.specs.Descent.{unplaced}
use Rattle.vs_ufile.specs.Reading.{numbers_of}
use Rattle.vs_ufile.proofs.descent.index_of.Given as goal

abbrev pub invariant-changes : goal.invariant-changes
invariant-changes l = IsIndex l.index (numbers_of (unplaced (take l.i l.changes)))
