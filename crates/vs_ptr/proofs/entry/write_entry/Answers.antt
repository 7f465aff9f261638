-- The entry is read back since each of its fields fits its type.
use Rattle.std.proofs.Common.{rules}
use Rattle.vs_ptr.proofs.Entries.{entry_of-bytes_of_entry}
use Rattle.vs_ptr.proofs.entry.write_entry.Goals as goal

pub returns-clause-reads_back : goal.returns-clause-reads_back
returns-clause-reads_back c =
    entry_of-bytes_of_entry c.args.entry.now (record { block = search rules; lines = search rules; old = search rules; pages = search rules })
