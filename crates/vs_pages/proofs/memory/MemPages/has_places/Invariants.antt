use Rattle.vs_pages.specs.Cells.{AreThere}
use Rattle.vs_pages.specs.Memory.{kept_of}
use Rattle.vs_pages.proofs.memory.MemPages.has_places.Given as goal

abbrev pub invariant-loop-i : goal.invariant-loop-i
invariant-loop-i l = AreThere (kept_of l.self) l.at l.i
