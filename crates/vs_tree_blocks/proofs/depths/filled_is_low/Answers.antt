use Rattle.vs_tree_shape.proofs.Fills.{low_filled}
use Rattle.vs_tree_blocks.specs.Blocks.{tree_format}
use Rattle.vs_tree_blocks.proofs.depths.filled_is_low.Goals as goal

pub returns : goal.returns
returns c = low_filled tree_format
