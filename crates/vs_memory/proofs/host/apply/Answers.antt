use Rattle.std.proofs.Common.{rules, ◌≡◌, ◌∙◌, sym, ap}
use Rattle.std.specs.Prelude.{string_bytes}
use Rattle.vs_host.specs.File.{synced_file}
use Rattle.vs_host.specs.Disk.{like}
use Rattle.vs_memory.specs.declared.log.Call.{Call}
use Rattle.vs_memory.specs.Folders.{on_file}
use Rattle.vs_memory.specs.Present.{disk_in}
use Rattle.vs_memory.specs.Replay.{played}
use Rattle.vs_memory.proofs.host.apply.Goals as goal

pub returns-in-SyncLike-clause-folder : goal.returns-in-SyncLike-clause-folder
returns-in-SyncLike-clause-folder c =
    let folder = disk_in c.args.folder.now in
    let model : c.deref-in-SyncLike.result.now ≡ string_bytes c.in-SyncLike.model = search rules in
    let name : c.deref-in-SyncLike-2.result.now ≡ string_bytes c.in-SyncLike.name = search rules in
    c.sync_like.ensures
    ∙ (λ i. on_file (name i) (λ file. synced_file file.bytes) (like (model i) (name i) folder))
    ∙ ap (λ (call : Call). played call folder) (sym c.in-SyncLike.is)
