use Rattle.std.proofs.Common.{arith}
use Rattle.vs_text.proofs.StoredForm.{mapped_more, mapped_all}
use Rattle.vs_recover.specs.Stored.{exchanged}
use Rattle.vs_recover.proofs.file_text.exchange.Goals as goal

pub loop-byte-preserved : goal.loop-byte-preserved
loop-byte-preserved c =
    mapped_more exchanged c.args.bytes.now c.loop-byte.bytes c.loop-byte.byte-index c.exchanged.result c.loop-byte-test.true (omega arith) c.exchanged.ensures c.loop-byte.invariant

pub returns : goal.returns
returns c = mapped_all exchanged c.args.bytes.now c.loop-byte.bytes c.loop-byte.byte-index c.loop-byte-test.false c.loop-byte.invariant
