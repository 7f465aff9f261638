use Rattle.std.proofs.Common.{[]}
use Rattle.vs_text.proofs.read.format_of.Goals as goal

pub returns : goal.returns
returns c = c.format.ensures c.args.bytes.now (c.feed.ensures [] c.new-scan.ensures)
