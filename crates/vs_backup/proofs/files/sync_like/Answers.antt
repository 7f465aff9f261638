use Rattle.std.proofs.Common.{◌≡◌, IsTrue}
use Rattle.vs_host.specs.File.{Syncs}
use Rattle.vs_host.specs.Disk.{ChangesFile, MayBeLike, like}
use Rattle.vs_host.specs.World.{Scene}
use Rattle.vs_backup.proofs.Frames.{err_leads, ok_leads}
use Rattle.vs_backup.proofs.Modes.{DoneLike, FailedLike, match_none, match_some}
use Rattle.vs_backup.proofs.files.sync_like.Goals as goal

pub returns-in-Some-clause-ok : goal.returns-in-Some-clause-ok
returns-in-Some-clause-ok g c =
    let name = c.args.name.now in
    let s0 : Scene = g.D.World.scene c.args.desk.now in
    let s1 : Scene = g.D.World.scene c.sync_like.new.self in
    ok_leads (IsTrue g.D.World.tells.folder → ChangesFile name Syncs (like c.in-Some.model.now name s0.folder) s1.folder) (IsTrue g.D.World.tells.folder → DoneLike c.args.model name s0.folder s1.folder)
    c.sync_like.result (λ changes told. match_some c.args.model c.in-Some.model _ _ c.in-Some.is (changes told)) c.sync_like.ensures.ok

pub returns-in-Some-clause-err : goal.returns-in-Some-clause-err
returns-in-Some-clause-err g c =
    let name = c.args.name.now in
    let s0 : Scene = g.D.World.scene c.args.desk.now in
    let s1 : Scene = g.D.World.scene c.sync_like.new.self in
    err_leads (MayBeLike c.in-Some.model.now name s0.folder s1.folder) (FailedLike c.args.model name s0.folder s1.folder) c.sync_like.result
    (λ maybe. match_some c.args.model c.in-Some.model _ _ c.in-Some.is maybe) c.sync_like.ensures.err

pub returns-in-None-clause-ok : goal.returns-in-None-clause-ok
returns-in-None-clause-ok g c =
    let name = c.args.name.now in
    let s0 : Scene = g.D.World.scene c.args.desk.now in
    let s1 : Scene = g.D.World.scene c.sync.new.self in
    ok_leads (IsTrue g.D.World.tells.folder → ChangesFile name Syncs s0.folder s1.folder) (IsTrue g.D.World.tells.folder → DoneLike c.args.model name s0.folder s1.folder)
    c.sync.result (λ changes told. match_none c.args.model _ _ c.in-None.is (changes told)) c.sync.ensures.ok

pub returns-in-None-clause-err : goal.returns-in-None-clause-err
returns-in-None-clause-err g c =
    let name = c.args.name.now in
    let s0 : Scene = g.D.World.scene c.args.desk.now in
    let s1 : Scene = g.D.World.scene c.sync.new.self in
    err_leads (s1.folder ≡ s0.folder) (FailedLike c.args.model name s0.folder s1.folder) c.sync.result (λ same. match_none c.args.model _ _ c.in-None.is same) c.sync.ensures.err
