-- The first line stands before the first byte 10.
use Rattle.std.proofs.Common.{◌+◌, arith, length-drop, length-take}
use Rattle.vs_entries.proofs.LineLemmas.{in-lines, is-line, still-ended, tail-is, within}
use Rattle.vs_entries.proofs.lines.first_line.Goals as goal

pub slice_bounds-result-end : goal.slice_bounds-result-end
slice_bounds-result-end c =
    omega (arith, within c.args.lines.now c.line_len-len.result c.requires.some c.requires.ended c.line_len-len.ensures, length-take c.line_len-len.result c.args.lines.now)

pub overflow_add-result : goal.overflow_add-result
overflow_add-result c = omega (arith, within c.args.lines.now c.line_len-len.result c.requires.some c.requires.ended c.line_len-len.ensures)

pub slice_bounds-result-count : goal.slice_bounds-result-count
slice_bounds-result-count c = within c.args.lines.now c.line_len-len.result c.requires.some c.requires.ended c.line_len-len.ensures

pub slice_bounds-result-start : goal.slice_bounds-result-start
slice_bounds-result-start c = within c.args.lines.now c.line_len-len.result c.requires.some c.requires.ended c.line_len-len.ensures

pub returns-clause-line : goal.returns-clause-line
returns-clause-line c = is-line c.args.lines.now c.line_len-len.result c.requires.some c.requires.ended c.line_len-len.ensures

pub returns-clause-lines : goal.returns-clause-lines
returns-clause-lines c =
    let bytes = c.args.lines.now in
    let len = c.line_len-len.result in
    rw (tail-is bytes (len + 1)) (in-lines bytes len c.requires.some c.requires.ended c.line_len-len.ensures)

pub returns-clause-ended : goal.returns-clause-ended
returns-clause-ended c =
    let bytes = c.args.lines.now in
    let len = c.line_len-len.result in
    rw (tail-is bytes (len + 1)) (still-ended bytes len c.requires.some c.requires.ended c.line_len-len.ensures)

pub returns-clause-size : goal.returns-clause-size
returns-clause-size c =
    let bytes = c.args.lines.now in
    let len = c.line_len-len.result in
    rw (tail-is bytes (len + 1)) (omega (arith, within bytes len c.requires.some c.requires.ended c.line_len-len.ensures, length-take len bytes, length-drop (len + 1) bytes))
