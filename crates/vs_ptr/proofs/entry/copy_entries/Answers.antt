-- The bytes that are copied are whole slots.
use Rattle.std.proofs.Common.{◌≡◌, ◌+◌, ◌-◌, ◌*◌, arith, refl, ◌∙◌}
use Rattle.vs_ptr.proofs.Slots.{slots_copied}
use Rattle.vs_ptr.proofs.entry.copy_entries.Goals as goal

pub returns-clause-slots : goal.returns-clause-slots
returns-clause-slots c =
    let start = c.entry_place-start.result in
    let len = c.entry_place.result - start in
    let count = c.args.to - c.args.from in
    let written : 8 + len - 8 ≡ 32 * count = omega arith in
    let read : start + len - start ≡ 32 * count = omega arith in
    rw written (slots_copied 8 32 c.args.to c.args.from count c.args.block.now c.args.other.now c.copy_from_slice.new.self (omega arith) c.requires.within (omega arith)
    (c.copy_from_slice.ensures.after ∙ rw (read, c.entry_place-start.ensures) refl))
