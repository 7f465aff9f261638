use Rattle.std.proofs.Common.{◌≡◌, ◌+◌, ◌-◌, Some}
use Rattle.vs_pages.specs.Maps.{joined, pages_at}
use Rattle.vs_pages.specs.Memory.{present_of}
use Rattle.vs_pages.proofs.memory.MemPages.copy_pages.Given as goal

abbrev pub invariant-loop-i : goal.invariant-loop-i
invariant-loop-i l = joined (Some l.into.items) (pages_at (present_of l.self) (l.at + l.i) (l.pages - l.i)) ≡ pages_at (present_of l.self) l.at l.pages
