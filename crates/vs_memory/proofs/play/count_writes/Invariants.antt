use Rattle.std.proofs.Common.{◌≡◌, ◌≤◌, take}
use Rattle.std.specs.Prelude.{reverse}
use Rattle.vs_memory.proofs.Writes.{writes_on}
use Rattle.vs_memory.proofs.play.count_writes.Given as goal

abbrev pub invariant-loop-entry : goal.invariant-loop-entry
invariant-loop-entry l = record { count : l.count ≡ writes_on l.name (reverse (take l.entry-index l.log)); within : l.count ≤ l.entry-index }
