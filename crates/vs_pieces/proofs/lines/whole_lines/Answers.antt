-- Each of the lines has one end.
use Rattle.std.proofs.Common.{◌∙◌, sym}
use Rattle.vs_pieces.proofs.Ended.{count_lines}
use Rattle.vs_pieces.proofs.lines.whole_lines.Goals as goal

pub returns : goal.returns
returns c =
    let cut = c.split_ended.ensures in
    record {
      cut = cut.cut;
      whole = cut.whole;
      count = count_lines c.split_ended.result.0.now cut.whole ∙ sym c.count_ends-count.ensures;
      line = cut.line;
    }
