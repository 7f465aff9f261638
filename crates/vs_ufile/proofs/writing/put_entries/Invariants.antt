use Rattle.std.proofs.Common.{map, take}
use Rattle.vs_ufile.specs.Format.{Each}
use Rattle.vs_ufile.specs.Writing.{entry_written}
use Rattle.vs_ufile.specs.Values.{entry_of}
use Rattle.vs_ufile.specs.Writing.{Puts}
use Rattle.vs_ufile.proofs.writing.put_entries.Given as goal

abbrev pub invariant-entries : goal.invariant-entries
invariant-entries l = Puts (Each entry_written (map entry_of (take l.entry-index l.entries))) l.fn.out.items l.out.items
