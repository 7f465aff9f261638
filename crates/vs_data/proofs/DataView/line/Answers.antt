-- The line lies within the text, and is what the list of lines has there.
use Rattle.std.proofs.Common.{arith, rules}
use Rattle.vs_data.proofs.Lines.{line_of_lines, no_zero_in_line}
use Rattle.vs_data.proofs.Reading.{line_within, view_bounds}
use Rattle.vs_data.proofs.DataView.line.Goals as goal

pub start-start-requires-clause-view : goal.start-start-requires-clause-view
start-start-requires-clause-view c = view_bounds c.args.block.now c.args.self.now c.requires.view

pub end-end-requires-clause-view : goal.end-end-requires-clause-view
end-end-requires-clause-view c = view_bounds c.args.block.now c.args.self.now c.requires.view

pub overflow_sub-result : goal.overflow_sub-result
overflow_sub-result c =
    let at = line_within c.args.block.now c.args.self.now c.args.at c.requires.view c.requires.at in
    omega arith

pub slice_bounds-result-count : goal.slice_bounds-result-count
slice_bounds-result-count c =
    let at = line_within c.args.block.now c.args.self.now c.args.at c.requires.view c.requires.at in
    omega arith

pub slice_bounds-result-start : goal.slice_bounds-result-start
slice_bounds-result-start c =
    let at = line_within c.args.block.now c.args.self.now c.args.at c.requires.view c.requires.at in
    search rules

pub slice_bounds-result-end : goal.slice_bounds-result-end
slice_bounds-result-end c =
    let at = line_within c.args.block.now c.args.self.now c.args.at c.requires.view c.requires.at in
    search rules

pub returns-clause-line : goal.returns-clause-line
returns-clause-line c =
    rw (c.start-start.ensures, c.end-end.ensures) (line_of_lines c.args.block.now c.args.self.now c.args.at c.requires.view c.requires.at)

pub returns-clause-no_zero : goal.returns-clause-no_zero
returns-clause-no_zero c =
    let none = no_zero_in_line c.args.block.now c.args.self.now c.args.at c.requires.view c.requires.at in
    rw (← c.start-start.ensures, ← c.end-end.ensures) at none
