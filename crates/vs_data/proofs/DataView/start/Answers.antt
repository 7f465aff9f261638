-- The index lies within the block.
use Rattle.std.proofs.Common.{arith}
use Rattle.vs_data.proofs.Reading.{has_view}
use Rattle.vs_data.proofs.DataView.start.Goals as goal

pub le_u32-requires : goal.le_u32-requires
le_u32-requires c = let h = has_view c.args.block.now c.args.self.now c.requires.view in omega arith
