-- The copy opens a slot, and the entry is written into it; both stand past the header.
use Rattle.std.proofs.Common.{◌+◌, ◌-◌, take, ap, ◌∙◌, arith}
use Rattle.vs_ptr.specs.Blocks.{bytes_of_entry}
use Rattle.vs_ptr.proofs.Slots.{slots_opened, take-copy_within}
use Rattle.vs_ptr.proofs.entry.insert_entry.Goals as goal

pub returns-clause-header : goal.returns-clause-header
returns-clause-header c =
    let start = c.entry_place-start.result in
    c.put_entry.ensures.header ∙ ap (take 8) c.copy_within.ensures.after
    ∙ take-copy_within c.args.block.now start c.entry_place.result (start + 32) 8 (omega arith) (omega arith) (omega arith) (omega arith)

pub returns-clause-slots : goal.returns-clause-slots
returns-clause-slots c =
    rw (c.put_entry.ensures.bytes, c.copy_within.ensures.after, c.entry_place-start.ensures, c.entry_place.ensures)
    (slots_opened 8 32 c.args.count c.args.at (c.args.count - c.args.at) c.args.block.now (bytes_of_entry c.args.entry.now) (omega arith) c.put_entry.ensures.len c.requires.room)
