use Rattle.std.proofs.Common.{◌≡◌, [], arith}
use Rattle.std.proofs.lemmas.Grind.{common_steps}
use Rattle.vs_text.proofs.Formats.{IsLine-loses, lines_in_last, lines_in-ended, lines_in-nil}
use Rattle.vs_text.proofs.LineEnds.{lines_of-line}
use Rattle.vs_text.proofs.read.first_line.Goals as goal

pub returns-in_default-clause-lines : goal.returns-in_default-clause-lines
returns-in_default-clause-lines c =
    let bytes = c.args.bytes.now in
    let whole : c.split_at.result.0.now ≡ bytes = grind (arith, common_steps, c.split_at.ensures.front) in
    let none : c.split_at.result.1.now ≡ [] = grind (arith, common_steps, c.split_at.ensures.back) in
    rw (whole, none, lines_in-nil c.args.format) (lines_in_last c.args.format bytes c.requires c.in_default.ensures)

pub returns-in-Unix-clause-lines : goal.returns-in-Unix-clause-lines
returns-in-Unix-clause-lines c = rw (c.in-Unix.is, c.in-Some.ensures.1) (lines_of-line c.in-Some.ended.now c.in-Some.rest.now c.in-Some.ensures.0)

pub returns-in-Dos-clause-lines : goal.returns-in-Dos-clause-lines
returns-in-Dos-clause-lines c = rw (c.in-Dos.is, c.in-Some.ensures.1) (lines_in-ended c.in-Some.ended.now c.without_return.result.now c.in-Some.rest.now c.in-Some.ensures.0 c.without_return.ensures)

pub returns-in-Dos-clause-line : goal.returns-in-Dos-clause-line
returns-in-Dos-clause-line c = IsLine-loses c.in-Some.ended.now c.without_return.result.now c.in-Some.ensures.0 c.without_return.ensures
