use Rattle.std.proofs.Common.{arith}
use Rattle.vs_text.proofs.StoredForm.{mapped_more, mapped_all}
use Rattle.vs_tree.specs.Reads.{exchanged_byte}
use Rattle.vs_tree.proofs.copy.exchange_ends.Goals as goal

pub loop-byte-preserved : goal.loop-byte-preserved
loop-byte-preserved c =
    mapped_more exchanged_byte c.args.lines.now c.loop-byte.lines c.loop-byte.byte-index c.exchanged_byte.result c.loop-byte-test.true (omega arith) c.exchanged_byte.ensures c.loop-byte.invariant

pub returns : goal.returns
returns c = mapped_all exchanged_byte c.args.lines.now c.loop-byte.lines c.loop-byte.byte-index c.loop-byte-test.false c.loop-byte.invariant
