use Rattle.std.proofs.Common.{List, ◌++◌, map}
use Rattle.std.specs.List.{range_with_len}
use Rattle.vs_text.specs.declared.format.Format.{Format}
use Rattle.vs_damaged.specs.Finds.{item_at}
use Rattle.vs_damaged.specs.Items.{Item, Shows}
use Rattle.vs_damaged.proofs.finds.show_lines.Given as goal

abbrev pub invariant-loop-at : goal.invariant-loop-at
invariant-loop-at l = (format : Format) (items : List Item) → Shows format l.fn.shown items → Shows format l.shown (items ++ map (λ line. item_at l.block l.view line) (range_with_len 0 l.at))
