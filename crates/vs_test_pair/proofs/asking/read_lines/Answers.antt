use Rattle.std.proofs.Common.{[], sym, subst}
use Rattle.vs_text.specs.Limits.{IsWithinLimits}
use Rattle.vs_test_pair.proofs.asking.read_lines.Goals as goal

pub returns-in-Ok : goal.returns-in-Ok
returns-in-Ok c =
    let read = c.feed.ensures.reads [] [] c.new-reader.ensures in
    let answer = c.in-Ok.ensures.answer [] _ read in
    subst IsWithinLimits (sym answer.text) answer.fits
