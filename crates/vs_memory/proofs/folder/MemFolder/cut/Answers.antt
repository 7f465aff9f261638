use Rattle.std.proofs.Common.{sym, ◌∙◌}
use Rattle.vs_host.specs.File.{cut_to}
use Rattle.vs_memory.proofs.Stores.{file_changed, file_kept, err_same}
use Rattle.vs_memory.proofs.folder.MemFolder.cut.Goals as goal

pub returns-in_ok-cut-clause-ok : goal.returns-in_ok-cut-clause-ok
returns-in_ok-cut-clause-ok c =
    file_changed c.args.self.now.changes.items c.args.self.now.pending c.args.self.now.files.items c.args.name.now c.in-Some.number c.index_mut.result.now c.cut.new.self (cut_to c.args.len)
    c.in-Some.ensures.below c.index_mut.ensures.value (sym c.in-Some.is ∙ c.number.ensures.value) c.in_ok-cut.ensures.ok c.cut.ensures.mode

pub returns-in_err-cut-clause-err : goal.returns-in_err-cut-clause-err
returns-in_err-cut-clause-err c =
    err_same _ c.from_residual.result
    (file_kept c.args.self.now.changes.items c.args.self.now.pending c.args.self.now.files.items c.in-Some.number c.index_mut.result.now c.cut.new.self c.in-Some.ensures.below c.index_mut.ensures.value c.in_err-cut.ensures.err c.cut.ensures.mode)
