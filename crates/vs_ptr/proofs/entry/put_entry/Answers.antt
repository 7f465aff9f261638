-- The entry is written past the header.
use Rattle.std.proofs.Common.{◌+◌, ◌-◌, arith}
use Rattle.std.proofs.lemmas.Slice.{take-put_mid_below}
use Rattle.vs_ptr.proofs.entry.put_entry.Goals as goal

pub returns-clause-header : goal.returns-clause-header
returns-clause-header c =
    let start = c.entry_place-start.result in
    take-put_mid_below start (start + 32 - start) c.args.block.now c.write_entry.new.slot 8 (omega arith) (omega arith)
