use Rattle.std.proofs.Common.{[], ◌∷◌, IsTrue}
use Rattle.vs_host.specs.File.{Syncs}
use Rattle.vs_host.specs.Disk.{ChangesFile}
use Rattle.vs_host.specs.Trace.{Synced}
use Rattle.vs_host.specs.World.{Scene}
use Rattle.vs_disk.proofs.Contents.{synced_content}
use Rattle.vs_backup.specs.Works.{SyncsBytes}
use Rattle.vs_backup.proofs.Frames.{ok_leads}
use Rattle.vs_backup.proofs.Settling.{settles_file}
use Rattle.vs_backup.proofs.files.sync_file.Goals as goal

pub returns-clause-settles : goal.returns-clause-settles
returns-clause-settles g c =
    let s0 : Scene = g.D.World.scene c.args.desk.now in
    let s1 : Scene = g.D.World.scene c.sync.new.self in
    settles_file g.D.World.tells.folder c.args.name.now Synced (c.args.name.now ∷ []) c.sync.result s0 s1 c.sync.ensures.kept.frame c.sync.ensures.told c.sync.ensures.ok c.sync.ensures.err

pub returns-clause-ok : goal.returns-clause-ok
returns-clause-ok g c =
    let name = c.args.name.now in
    let s0 : Scene = g.D.World.scene c.args.desk.now in
    let s1 : Scene = g.D.World.scene c.sync.new.self in
    ok_leads (IsTrue g.D.World.tells.folder → ChangesFile name Syncs s0.folder s1.folder) (SyncsBytes g.D.World.tells.folder name s0 s1) c.sync.result
    (λ ok. record { synced = λ told bytes is. synced_content name bytes s0.folder s1.folder (ok told) is }) c.sync.ensures.ok
