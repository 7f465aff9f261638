use Rattle.std.proofs.Common.{◌≡◌, arith}
use Rattle.vs_text.specs.Text.{stored_byte, stored_line}
use Rattle.vs_text.proofs.StoredForm.{mapped_more, mapped_all, stored_line_no_zero, plain_line-stored_line}
use Rattle.vs_text.proofs.stored.to_stored.Goals as goal

pub loop-byte-preserved : goal.loop-byte-preserved
loop-byte-preserved c =
    mapped_more stored_byte c.args.line.now c.loop-byte.line c.loop-byte.byte-index c.stored_byte.result c.loop-byte-test.true (omega arith) c.stored_byte.ensures c.loop-byte.invariant

stored_at_end : (c : goal.After-loop-byte) → c.loop-byte.line ≡ stored_line c.args.line.now
stored_at_end c = mapped_all stored_byte c.args.line.now c.loop-byte.line c.loop-byte.byte-index c.loop-byte-test.false c.loop-byte.invariant

pub returns-clause-no_zero : goal.returns-clause-no_zero
returns-clause-no_zero c = rw (stored_at_end c) (stored_line_no_zero c.args.line.now)

pub returns-clause-way_back : goal.returns-clause-way_back
returns-clause-way_back c = rw (stored_at_end c) (plain_line-stored_line c.args.line.now)
