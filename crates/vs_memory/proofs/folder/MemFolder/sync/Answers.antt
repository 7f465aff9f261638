use Rattle.std.proofs.Common.{sym, ◌∙◌}
use Rattle.vs_host.specs.File.{synced_file}
use Rattle.vs_memory.proofs.Stores.{file_changed}
use Rattle.vs_memory.proofs.folder.MemFolder.sync.Goals as goal

pub returns-in-Some : goal.returns-in-Some
returns-in-Some c =
    file_changed c.args.self.now.changes.items c.args.self.now.pending c.args.self.now.files.items c.args.name.now c.in-Some.number c.index_mut.result.now c.sync.new.self (λ file. synced_file file.bytes)
    c.in-Some.ensures.below c.index_mut.ensures.value (sym c.in-Some.is ∙ c.number.ensures.value) c.sync.ensures.file c.sync.ensures.mode
