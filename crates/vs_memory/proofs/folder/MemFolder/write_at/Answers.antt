use Rattle.std.proofs.Common.{sym, ◌∙◌}
use Rattle.vs_host.specs.File.{written}
use Rattle.vs_memory.proofs.Stores.{file_changed, file_kept, err_same}
use Rattle.vs_memory.proofs.folder.MemFolder.write_at.Goals as goal

pub returns-in_ok-write_at-clause-ok : goal.returns-in_ok-write_at-clause-ok
returns-in_ok-write_at-clause-ok c =
    file_changed c.args.self.now.changes.items c.args.self.now.pending c.args.self.now.files.items c.args.name.now c.in-Some.number c.index_mut.result.now c.write_at.new.self (written c.args.at c.args.piece.now)
    c.in-Some.ensures.below c.index_mut.ensures.value (sym c.in-Some.is ∙ c.number.ensures.value) c.in_ok-write_at.ensures.ok c.write_at.ensures.mode

pub returns-in_err-write_at-clause-err : goal.returns-in_err-write_at-clause-err
returns-in_err-write_at-clause-err c =
    err_same _ c.from_residual.result
    (file_kept c.args.self.now.changes.items c.args.self.now.pending c.args.self.now.files.items c.in-Some.number c.index_mut.result.now c.write_at.new.self c.in-Some.ensures.below c.index_mut.ensures.value c.in_err-write_at.ensures.err c.write_at.ensures.mode)
