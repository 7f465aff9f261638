use Rattle.std.proofs.Common.{◌≡◌, [], IsTrue}
use Rattle.vs_host.specs.Disk.{SyncsNames}
use Rattle.vs_host.specs.Trace.{SyncedNames}
use Rattle.vs_host.specs.World.{Scene}
use Rattle.vs_disk.proofs.Runs.{one_call}
use Rattle.vs_backup.specs.Works.{SyncsAll, Unchanged}
use Rattle.vs_backup.specs.Writing.{SettlesSynced}
use Rattle.vs_backup.proofs.Frames.{ok_leads, err_leads, settled_now}
use Rattle.vs_backup.proofs.Settling.{settles_names}
use Rattle.vs_backup.proofs.files.sync_directory.Goals as goal

pub returns-clause-settles : goal.returns-clause-settles
returns-clause-settles g c =
    let s0 : Scene = g.D.World.scene c.args.desk.now in
    let s1 : Scene = g.D.World.scene c.sync_names.new.self in
    record {
      each = λ name. settles_names g.D.World.tells.folder name SyncedNames [] c.sync_names.result s0 s1 c.sync_names.ensures.kept.frame c.sync_names.ensures.told
          c.sync_names.ensures.ok c.sync_names.ensures.err;
    }

pub returns-clause-ok : goal.returns-clause-ok
returns-clause-ok g c =
    let s0 : Scene = g.D.World.scene c.args.desk.now in
    let s1 : Scene = g.D.World.scene c.sync_names.new.self in
    ok_leads (IsTrue g.D.World.tells.folder → SyncsNames s0.folder s1.folder) (SettlesSynced g.D.World.tells.folder s0 s1) c.sync_names.result
    (λ ok. record { settled = λ told name bytes is. settled_now name bytes s0.folder s1.folder is (ok told) }) c.sync_names.ensures.ok

pub returns-clause-all : goal.returns-clause-all
returns-clause-all g c =
    let s0 : Scene = g.D.World.scene c.args.desk.now in
    let s1 : Scene = g.D.World.scene c.sync_names.new.self in
    ok_leads (IsTrue g.D.World.tells.folder → SyncsNames s0.folder s1.folder) (SyncsAll g.D.World.tells.folder s0 s1) c.sync_names.result
    (λ ok. record { runs = λ told. one_call SyncsNames SyncedNames [] c.sync_names.result s0 s1 c.sync_names.ensures.kept.frame (c.sync_names.ensures.told told) (ok told) }) c.sync_names.ensures.ok

pub returns-clause-err : goal.returns-clause-err
returns-clause-err g c =
    let s0 : Scene = g.D.World.scene c.args.desk.now in
    let s1 : Scene = g.D.World.scene c.sync_names.new.self in
    err_leads (s1.folder ≡ s0.folder) (Unchanged g.D.World.tells.folder s0 s1) c.sync_names.result
    (λ same. record { looks = λ told. one_call (λ a b. b ≡ a) SyncedNames [] c.sync_names.result s0 s1 c.sync_names.ensures.kept.frame (c.sync_names.ensures.told told) same }) c.sync_names.ensures.err
