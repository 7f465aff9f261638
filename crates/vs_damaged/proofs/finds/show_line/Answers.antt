use Rattle.std.proofs.Common.{◌≤◌, length, arith, rules}
use Rattle.vs_data.proofs.Reading.{has_view}
use Rattle.vs_damaged.proofs.finds.show_line.Goals as goal

pub slice_bounds-rest-end : goal.slice_bounds-rest-end
slice_bounds-rest-end c =
    let v = has_view c.args.block.now c.args.view.now c.requires.view in
    let within : c.args.view.now.text_end ≤ length c.args.block.now = omega (arith, v.end, v.bounds.within) in
    search rules
