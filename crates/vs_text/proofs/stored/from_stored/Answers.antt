use Rattle.std.proofs.Common.{◌≡◌, arith}
use Rattle.vs_text.specs.Text.{plain_byte, plain_line}
use Rattle.vs_text.proofs.StoredForm.{mapped_more, mapped_all, IsLine-plain_line}
use Rattle.vs_text.proofs.stored.from_stored.Goals as goal

pub loop-byte-preserved : goal.loop-byte-preserved
loop-byte-preserved c =
    mapped_more plain_byte c.args.line.now c.loop-byte.line c.loop-byte.byte-index c.plain_byte.result c.loop-byte-test.true (omega arith) c.plain_byte.ensures c.loop-byte.invariant

plain_at_end : (c : goal.After-loop-byte) → c.loop-byte.line ≡ plain_line c.args.line.now
plain_at_end c = mapped_all plain_byte c.args.line.now c.loop-byte.line c.loop-byte.byte-index c.loop-byte-test.false c.loop-byte.invariant

pub returns-clause-is_line : goal.returns-clause-is_line
returns-clause-is_line c = rw (plain_at_end c) (IsLine-plain_line c.args.line.now)
