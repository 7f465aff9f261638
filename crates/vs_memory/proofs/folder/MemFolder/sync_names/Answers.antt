use Rattle.vs_memory.proofs.Stores.{names_synced}
use Rattle.vs_memory.proofs.folder.MemFolder.sync_names.Goals as goal

pub returns : goal.returns
returns c = names_synced c.args.self.now.changes.items c.args.self.now.pending c.args.self.now.files.items
