use Rattle.std.proofs.Common.{◌≡◌, take}
use Rattle.vs_memory.specs.Folders.{ranges_of}
use Rattle.vs_memory.specs.Images.{filled}
use Rattle.vs_memory.proofs.image.fill_all.Given as goal

abbrev pub invariant-loop-range : goal.invariant-loop-range
invariant-loop-range l = l.bytes ≡ filled (ranges_of (take l.range-index l.ranges)) l.byte l.fn.bytes
