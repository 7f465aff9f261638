use Rattle.std.proofs.Common.{arith}
use Rattle.vs_recover.proofs.OriginalLaws.{keeps_ok}
use Rattle.vs_recover.proofs.original.keep.Goals as goal

pub returns : goal.returns
returns c = keeps_ok c.extend_from_slice.result c.args.into.now.items c.extend_from_slice.new.self.items c.args.bytes.now c.min-size.result c.extend_from_slice.ensures.items (omega (arith, c.requires)) (omega (arith, c.min-size.ensures, c.len-room.ensures))
