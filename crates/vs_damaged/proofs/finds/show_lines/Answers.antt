use Rattle.std.proofs.Common.{ℕ, ◌+◌, ◌++◌, map, arith}
use Rattle.std.specs.List.{range_with_len}
use Rattle.std.proofs.lemmas.List.FromFn.{map-range_with_len_more}
use Rattle.vs_damaged.specs.Finds.{item_at}
use Rattle.vs_damaged.specs.Items.{Item}
use Rattle.vs_damaged.proofs.ShownLaws.{shown_next}
use Rattle.vs_damaged.proofs.finds.show_lines.Goals as goal

pub loop-at-preserved : goal.loop-at-preserved
loop-at-preserved c = λ format items shows.
    let f : ℕ → Item = λ line. item_at c.args.block.now c.args.view.now line in
    let at : ℕ = c.loop-at.at in
    shown_next format c.show_line.new.shown items (map f (range_with_len 0 at)) (map f (range_with_len 0 (at + 1))) (f at) (map-range_with_len_more f 0 at at (omega arith))
    (c.in_ok-show_line.ensures format (items ++ map f (range_with_len 0 at)) (c.loop-at.invariant format items shows))
