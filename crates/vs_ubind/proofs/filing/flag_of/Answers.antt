use Rattle.std.proofs.Common.{◌∙◌, sym, ap, arith}
use Rattle.std.proofs.lemmas.List.{take_all}
use Rattle.vs_entries.specs.declared.entry.Entry.{Entry}
use Rattle.vs_ubind.specs.Unbound.{flag_of}
use Rattle.vs_ubind.proofs.Flags.{flag_more}
use Rattle.vs_ubind.proofs.filing.flag_of.Goals as goal

pub entries-preserved : goal.entries-preserved
entries-preserved c =
    let entry = c.entry-item.result in
    ap (λ (e : Entry). e.empty) c.entry-item.is ∙ sym (flag_more c.args.entries.now c.entries.entry-index entry c.entries-test.true)

pub returns : goal.returns
returns c = c.entries.invariant ∙ ap flag_of (take_all c.entries.entry-index c.args.entries.now (omega (arith, c.entries-test.false)))
