use Rattle.std.proofs.Common.{map, take}
use Rattle.vs_ufile.specs.Format.{Each}
use Rattle.vs_ufile.specs.Values.{change_of}
use Rattle.vs_ufile.specs.Writing.{Puts, change_written}
use Rattle.vs_ufile.proofs.encoding.put_changes.Given as goal

abbrev pub invariant-changes : goal.invariant-changes
invariant-changes l = Puts (Each change_written (map change_of (take l.change-index l.changes))) l.fn.out.items l.out.items
