use Rattle.std.proofs.Common.{◌≡◌, map, take}
use Rattle.vs_ufile.specs.Values.{entry_of}
use Rattle.vs_ubind.specs.Unbound.{filed_entry}
use Rattle.vs_ubind.proofs.filing.file_entries.Given as goal

abbrev pub invariant-entries : goal.invariant-entries
invariant-entries l = map entry_of l.filed.items ≡ map filed_entry (take l.entry-index l.entries)
