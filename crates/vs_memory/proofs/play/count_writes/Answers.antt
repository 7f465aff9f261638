use Rattle.std.proofs.Common.{◌≡◌, ◌∙◌, ap, List, take, arith}
use Rattle.std.specs.Prelude.{reverse}
use Rattle.std.proofs.lemmas.List.{take_all}
use Rattle.vs_memory.specs.declared.log.Entry.{Entry}
use Rattle.vs_memory.proofs.Writes.{writes_on, writes_same}
use Rattle.vs_memory.proofs.play.count_writes.Goals as goal

pub returns : goal.returns
returns c = λ base.
    let whole : take c.loop-entry.entry-index c.args.log.now ≡ c.args.log.now = take_all c.loop-entry.entry-index c.args.log.now (omega arith) in
    c.loop-entry.invariant.count
    ∙ ap (λ (log : List Entry). writes_on c.args.name.now (reverse log)) whole
    ∙ writes_same c.args.name.now base (reverse c.args.log.now)
