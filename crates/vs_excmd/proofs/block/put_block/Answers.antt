-- A block that alone passes a limit makes the text pass it too.
use Rattle.vs_excmd.proofs.LimitLemmas.{too-long, too-many}
use Rattle.vs_excmd.proofs.block.put_block.Goals as goal

pub returns-in-TooLong-clause-leads : goal.returns-in-TooLong-clause-leads
returns-in-TooLong-clause-leads c = λ text kept same stands.
    too-long text kept c.args.lines c.args.top c.args.old (rw c.in-TooLong.is at stands)

pub returns-in-TooMany-clause-leads : goal.returns-in-TooMany-clause-leads
returns-in-TooMany-clause-leads c = λ text kept same stands.
    let parts = rw c.in-TooMany.is at stands in
    too-many text kept c.args.lines c.args.top c.args.old same c.requires.within parts
