-- The copy closes the slot, and stands past the header.
use Rattle.std.proofs.Common.{suc, ◌-◌, ◌+◌, arith}
use Rattle.vs_ptr.proofs.Slots.{slots_closed, take-copy_within}
use Rattle.vs_ptr.proofs.entry.remove_entry.Goals as goal

pub returns-clause-header : goal.returns-clause-header
returns-clause-header c =
    let start = c.entry_place-start.result in
    rw c.copy_within.ensures.after (take-copy_within c.args.block.now (start + 32) c.entry_place.result start 8 (omega arith) (omega arith) (omega arith) (omega arith))

pub returns-clause-slots : goal.returns-clause-slots
returns-clause-slots c =
    rw (c.copy_within.ensures.after, c.entry_place-start.ensures, c.entry_place.ensures)
    (slots_closed 8 32 c.args.count c.args.at (c.args.count - suc c.args.at) c.args.block.now (omega arith) c.requires.room)
