use Rattle.std.proofs.Common.{◌≡◌, ◌∙◌, [], ◌∷◌, IsTrue, Ok, sym}
use Rattle.std.proofs.lemmas.Bool.{true≢false}
use Rattle.std.proofs.lemmas.Result.{on_ok_weaker}
use Rattle.vs_host.specs.Disk.{ChangesNames, Renames, SyncsNames}
use Rattle.vs_host.specs.Trace.{Renamed, SyncedNames}
use Rattle.vs_host.specs.World.{Scene}
use Rattle.vs_host.specs.declared.traits.Failed.{Failed}
use Rattle.vs_disk.specs.Images.{Takes}
use Rattle.vs_disk.specs.Modes.{KeepsModes}
use Rattle.vs_disk.proofs.Runs.{one_call, call_on}
use Rattle.vs_disk.proofs.Contents.{takes_renamed, takes_then}
use Rattle.vs_disk.proofs.Modes.{modes_renamed, modes_synced}
use Rattle.vs_disk.proofs.Quiet.{none_call, none_then}
use Rattle.vs_backup.specs.Works.{two_names}
use Rattle.vs_backup.proofs.Frames.{either, spares_renamed, spares_synced, takes_spared, takes_same, settled_now, synced_renamed}
use Rattle.vs_backup.proofs.Kept.{settled_holds}
use Rattle.vs_backup.proofs.Modes.{mode_renamed, mode_synced}
use Rattle.vs_backup.proofs.Replacing.{gone_renamed}
use Rattle.vs_ubind.proofs.Calls.{spares_call, spares_works}
use Rattle.vs_ubind.proofs.Modes.{either_modes, keeps_same, modes_on}
use Rattle.vs_ubind.proofs.Told.{stores_renamed, stores_synced}
use Rattle.vs_ubind.proofs.storing.take_name.Goals as goal

pub returns-in_err-rename-clause-acts : goal.returns-in_err-rename-clause-acts
returns-in_err-rename-clause-acts g c =
    let on = two_names c.args.from.now c.args.to.now in
    let s0 : Scene = g.F.World.scene c.args.host.now in
    let s1 : Scene = g.F.World.scene c.rename.new.self in
    spares_call g.F.World.tells on (ChangesNames (Renames c.args.from.now c.args.to.now)) (spares_renamed c.args.from.now c.args.to.now) Renamed (c.args.from.now ∷ c.args.to.now ∷ []) c.rename.result s0 s1
    c.rename.ensures.ok c.rename.ensures.err c.rename.ensures.cause c.rename.ensures.told c.rename.ensures.frame

pub returns-in_err-rename-clause-takes : goal.returns-in_err-rename-clause-takes
returns-in_err-rename-clause-takes g c told bytes synced =
    let s0 : Scene = g.F.World.scene c.args.host.now in
    let s1 : Scene = g.F.World.scene c.rename.new.self in
    one_call (Takes c.args.to.now bytes) Renamed (c.args.from.now ∷ c.args.to.now ∷ []) c.rename.result s0 s1 c.rename.ensures.frame (c.rename.ensures.told told)
    (takes_same c.args.to.now bytes s0.folder s1.folder c.in_err-rename.ensures.err)

pub returns-clause-acts : goal.returns-clause-acts
returns-clause-acts g c =
    let on = two_names c.args.from.now c.args.to.now in
    let s0 : Scene = g.F.World.scene c.args.host.now in
    let s1 : Scene = g.F.World.scene c.rename.new.self in
    let s2 : Scene = g.F.World.scene c.sync_names.new.self in
    spares_works g.F.World.tells on s0 s1 s2
    (none_call g.F.World.tells Renamed (c.args.from.now ∷ c.args.to.now ∷ []) c.rename.result s0 s1 c.rename.ensures.frame c.rename.ensures.told c.in_ok-rename.ensures.quiet)
    (spares_call g.F.World.tells on (ChangesNames (Renames c.args.from.now c.args.to.now)) (spares_renamed c.args.from.now c.args.to.now) Renamed (c.args.from.now ∷ c.args.to.now ∷ []) c.rename.result s0 s1
    c.rename.ensures.ok c.rename.ensures.err c.rename.ensures.cause c.rename.ensures.told c.rename.ensures.frame)
    (spares_call g.F.World.tells on SyncsNames (spares_synced on) SyncedNames [] c.sync_names.result s1 s2
    c.sync_names.ensures.ok c.sync_names.ensures.err c.sync_names.ensures.cause c.sync_names.ensures.told c.sync_names.ensures.frame)

pub returns-clause-takes : goal.returns-clause-takes
returns-clause-takes g c told bytes synced =
    let to = c.args.to.now in
    let s0 : Scene = g.F.World.scene c.args.host.now in
    let s1 : Scene = g.F.World.scene c.rename.new.self in
    let s2 : Scene = g.F.World.scene c.sync_names.new.self in
    let first = one_call (Takes to bytes) Renamed (c.args.from.now ∷ to ∷ []) c.rename.result s0 s1 c.rename.ensures.frame (c.rename.ensures.told told) (takes_renamed c.args.from.now to bytes s0.folder s1.folder synced (c.in_ok-rename.ensures.ok told)) in
    let here : Takes to bytes s1.folder s2.folder =
    either (IsTrue g.F.World.tells.folder → SyncsNames s1.folder s2.folder) (s2.folder ≡ s1.folder) (Takes to bytes s1.folder s2.folder) c.sync_names.result
    c.sync_names.ensures.ok c.sync_names.ensures.err (λ syncs. takes_spared (λ n. ⊥) to bytes s1.folder s2.folder (λ x. x) (spares_synced (λ n. ⊥) s1.folder s2.folder (syncs told)))
    (λ same. takes_same to bytes s1.folder s2.folder same) in
    call_on (Takes to bytes) (takes_then to bytes) SyncedNames [] c.sync_names.result s0 s1 s2 c.rename.ensures.frame first c.sync_names.ensures.frame here (c.sync_names.ensures.told told)

pub returns-clause-holds : goal.returns-clause-holds
returns-clause-holds g c =
    let from = c.args.from.now in
    let to = c.args.to.now in
    let s0 : Scene = g.F.World.scene c.args.host.now in
    let s1 : Scene = g.F.World.scene c.rename.new.self in
    let s2 : Scene = g.F.World.scene c.sync_names.new.self in
    on_ok_weaker c.sync_names.result
    (λ syncs told bytes synced. settled_holds to bytes s2.folder (settled_now to bytes s1.folder s2.folder (synced_renamed from to bytes s0.folder s1.folder synced (c.in_ok-rename.ensures.ok told)) (syncs told)))
    c.sync_names.ensures.ok

pub returns-clause-none : goal.returns-clause-none
returns-clause-none g c =
    let s0 : Scene = g.F.World.scene c.args.host.now in
    let s1 : Scene = g.F.World.scene c.rename.new.self in
    let s2 : Scene = g.F.World.scene c.sync_names.new.self in
    on_ok_weaker c.sync_names.result
    (λ quiet. none_then g.F.World.tells s0 s1 s2
    (none_call g.F.World.tells Renamed (c.args.from.now ∷ c.args.to.now ∷ []) c.rename.result s0 s1 c.rename.ensures.frame c.rename.ensures.told c.in_ok-rename.ensures.quiet)
    (none_call g.F.World.tells SyncedNames [] c.sync_names.result s1 s2 c.sync_names.ensures.frame c.sync_names.ensures.told quiet))
    c.sync_names.ensures.quiet

pub returns-in_err-rename-clause-calls : goal.returns-in_err-rename-clause-calls
returns-in_err-rename-clause-calls g c told =
    stores_renamed c.args.from.now c.args.to.now c.rename.result (g.F.World.scene c.args.host.now) (g.F.World.scene c.rename.new.self) (c.rename.ensures.told told)

pub returns-clause-calls : goal.returns-clause-calls
returns-clause-calls g c told =
    let s0 : Scene = g.F.World.scene c.args.host.now in
    let s1 : Scene = g.F.World.scene c.rename.new.self in
    let s2 : Scene = g.F.World.scene c.sync_names.new.self in
    stores_synced c.args.from.now c.args.to.now {T = Unit {0}} {E = Failed} (Ok tt) c.sync_names.result s0 s1 s2 (λ err. true≢false (sym err)) (c.in_ok-rename.ensures.told told) (c.sync_names.ensures.told told)

pub returns-clause-gone : goal.returns-clause-gone
returns-clause-gone g c =
    on_ok_weaker c.sync_names.result
    (λ syncs told. gone_renamed c.args.from.now c.args.to.now (g.F.World.scene c.args.host.now).folder (g.F.World.scene c.rename.new.self).folder (g.F.World.scene c.sync_names.new.self).folder
    c.requires.differ (c.in_ok-rename.ensures.ok told) (syncs told))
    c.sync_names.ensures.ok

pub returns-in_err-rename-clause-modes : goal.returns-in_err-rename-clause-modes
returns-in_err-rename-clause-modes g c told allowed has =
    let s0 : Scene = g.F.World.scene c.args.host.now in
    let s1 : Scene = g.F.World.scene c.rename.new.self in
    one_call (KeepsModes allowed) Renamed (c.args.from.now ∷ c.args.to.now ∷ []) c.rename.result s0 s1 c.rename.ensures.frame (c.rename.ensures.told told)
    (keeps_same allowed s0.folder s1.folder c.in_err-rename.ensures.err)

pub returns-clause-modes : goal.returns-clause-modes
returns-clause-modes g c told allowed has =
    let from = c.args.from.now in
    let to = c.args.to.now in
    let s0 : Scene = g.F.World.scene c.args.host.now in
    let s1 : Scene = g.F.World.scene c.rename.new.self in
    let s2 : Scene = g.F.World.scene c.sync_names.new.self in
    modes_on allowed s0 s1 s2 c.rename.ensures.frame
    (one_call (KeepsModes allowed) Renamed (from ∷ to ∷ []) c.rename.result s0 s1 c.rename.ensures.frame (c.rename.ensures.told told) (modes_renamed allowed from to s0.folder s1.folder has (c.in_ok-rename.ensures.ok told)))
    (either_modes allowed g.F.World.tells told SyncsNames (modes_synced allowed) SyncedNames [] c.sync_names.result s1 s2
    c.sync_names.ensures.ok c.sync_names.ensures.err (c.sync_names.ensures.told told) c.sync_names.ensures.frame)

pub returns-clause-mode : goal.returns-clause-mode
returns-clause-mode g c =
    let s0 : Scene = g.F.World.scene c.args.host.now in
    let s1 : Scene = g.F.World.scene c.rename.new.self in
    let s2 : Scene = g.F.World.scene c.sync_names.new.self in
    on_ok_weaker c.sync_names.result
    (λ syncs told. mode_synced c.args.to.now s1.folder s2.folder (syncs told) ∙ mode_renamed c.args.from.now c.args.to.now s0.folder s1.folder (c.in_ok-rename.ensures.ok told))
    c.sync_names.ensures.ok
