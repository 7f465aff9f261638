use Rattle.std.proofs.Common.{◌+◌, ◌==◌, ◌&&◌, ◌∙◌, ap, length}
use Rattle.vs_ufile.specs.declared.history.FileEntry.{FileEntry}
use Rattle.vs_ufile.specs.Values.{entry_of}
use Rattle.vs_ubind.specs.Meaning.{taken}
use Rattle.vs_ubind.proofs.Takes.{flagged_all, flagged_more}
use Rattle.vs_ubind.proofs.taking.take_flagged.Goals as goal

pub entries-preserved : goal.entries-preserved
entries-preserved c =
    let own : FileEntry = c.index-entries-i.result in
    flagged_more c.args.flag c.args.entries.now c.entries.i c.index-entries-i.result c.entries.own.items c.push.new.self.items c.in_ok-take_entry.field-0 c.entries-test.true c.index-entries-i.is c.entries.invariant
    (c.in_ok-take_entry.ensures ∙ (ap (λ f. taken f (entry_of own)) c.flag_at-own_flag.ensures ∙ ap (λ e. taken (c.args.flag && (c.entries.i + 1 == length c.args.entries.now)) (entry_of e)) c.index-entries-i.is)) c.in_ok-push.ensures.items

pub returns : goal.returns
returns c = c.entries.invariant ∙ flagged_all c.args.flag c.args.entries.now c.entries.i c.entries-test.false
