use Rattle.std.proofs.Common.{◌≡◌, [], ◌∷◌, None, IsTrue}
use Rattle.vs_host.specs.Disk.{SyncsNames}
use Rattle.vs_host.specs.Trace.{Removed, SyncedNames}
use Rattle.vs_host.specs.World.{Scene}
use Rattle.vs_disk.proofs.Runs.{one_call, call_on}
use Rattle.vs_disk.proofs.Steps.{gone_for_good}
use Rattle.vs_backup.specs.Works.{Drops, IsGone, LeadsNowhereElse, Spares, one_name}
use Rattle.vs_backup.proofs.Frames.{either, spares_same, spares_then, spares_removed, spares_synced, ok_leads}
use Rattle.vs_backup.proofs.Modes.{makes_removed, makes_synced, makes_then}
use Rattle.vs_backup.proofs.Renewing.{nowhere_removed, nowhere_same, nowhere_synced, nowhere_then}
use Rattle.vs_backup.proofs.Replacing.{drops_removed, drops_same, drops_synced, drops_then}
use Rattle.vs_backup.proofs.Going as going
use Rattle.vs_backup.proofs.files.drop_name.Goals as goal

pub returns-in_err-remove-clause-spares : goal.returns-in_err-remove-clause-spares
returns-in_err-remove-clause-spares g c told =
    let on = one_name c.args.name.now in
    let s0 : Scene = g.D.World.scene c.args.desk.now in
    let s1 : Scene = g.D.World.scene c.remove.new.self in
    one_call (Spares on) Removed (c.args.name.now ∷ []) c.remove.result s0 s1 c.remove.ensures.kept.frame (c.remove.ensures.told told) (spares_same on s0.folder s1.folder c.in_err-remove.ensures.err)

pub returns-clause-spares : goal.returns-clause-spares
returns-clause-spares g c told =
    let on = one_name c.args.name.now in
    let s0 : Scene = g.D.World.scene c.args.desk.now in
    let s1 : Scene = g.D.World.scene c.remove.new.self in
    let s2 : Scene = g.D.World.scene c.sync_names.new.self in
    let first = one_call (Spares on) Removed (c.args.name.now ∷ []) c.remove.result s0 s1 c.remove.ensures.kept.frame (c.remove.ensures.told told) (spares_removed c.args.name.now s0.folder s1.folder (c.in_ok-remove.ensures.ok told)) in
    let here : Spares on s1.folder s2.folder =
    either (IsTrue g.D.World.tells.folder → SyncsNames s1.folder s2.folder) (s2.folder ≡ s1.folder) (Spares on s1.folder s2.folder) c.sync_names.result
    c.sync_names.ensures.ok c.sync_names.ensures.err (λ syncs. spares_synced on s1.folder s2.folder (syncs told)) (λ same. spares_same on s1.folder s2.folder same) in
    call_on (Spares on) (spares_then on) SyncedNames [] c.sync_names.result s0 s1 s2 c.remove.ensures.kept.frame first c.sync_names.ensures.kept.frame here (c.sync_names.ensures.told told)

pub returns-in_err-remove-clause-drops : goal.returns-in_err-remove-clause-drops
returns-in_err-remove-clause-drops g c told =
    let s0 : Scene = g.D.World.scene c.args.desk.now in
    let s1 : Scene = g.D.World.scene c.remove.new.self in
    one_call (Drops c.args.name.now) Removed (c.args.name.now ∷ []) c.remove.result s0 s1 c.remove.ensures.kept.frame (c.remove.ensures.told told) (drops_same c.args.name.now s0.folder s1.folder c.in_err-remove.ensures.err)

pub returns-clause-drops : goal.returns-clause-drops
returns-clause-drops g c told =
    let name = c.args.name.now in
    let s0 : Scene = g.D.World.scene c.args.desk.now in
    let s1 : Scene = g.D.World.scene c.remove.new.self in
    let s2 : Scene = g.D.World.scene c.sync_names.new.self in
    let first = one_call (Drops name) Removed (name ∷ []) c.remove.result s0 s1 c.remove.ensures.kept.frame (c.remove.ensures.told told) (drops_removed name s0.folder s1.folder (c.in_ok-remove.ensures.ok told)) in
    let here : Drops name s1.folder s2.folder =
    either (IsTrue g.D.World.tells.folder → SyncsNames s1.folder s2.folder) (s2.folder ≡ s1.folder) (Drops name s1.folder s2.folder) c.sync_names.result
    c.sync_names.ensures.ok c.sync_names.ensures.err (λ syncs. drops_synced name s1.folder s2.folder (syncs told)) (λ same. drops_same name s1.folder s2.folder same) in
    call_on (Drops name) (drops_then name) SyncedNames [] c.sync_names.result s0 s1 s2 c.remove.ensures.kept.frame first c.sync_names.ensures.kept.frame here (c.sync_names.ensures.told told)

pub returns-in_err-remove-clause-leads : goal.returns-in_err-remove-clause-leads
returns-in_err-remove-clause-leads g c told =
    let s0 : Scene = g.D.World.scene c.args.desk.now in
    let s1 : Scene = g.D.World.scene c.remove.new.self in
    one_call (LeadsNowhereElse c.args.name.now) Removed (c.args.name.now ∷ []) c.remove.result s0 s1 c.remove.ensures.kept.frame (c.remove.ensures.told told) (nowhere_same c.args.name.now s0.folder s1.folder c.in_err-remove.ensures.err)

pub returns-clause-leads : goal.returns-clause-leads
returns-clause-leads g c told =
    let name = c.args.name.now in
    let s0 : Scene = g.D.World.scene c.args.desk.now in
    let s1 : Scene = g.D.World.scene c.remove.new.self in
    let s2 : Scene = g.D.World.scene c.sync_names.new.self in
    let first = one_call (LeadsNowhereElse name) Removed (name ∷ []) c.remove.result s0 s1 c.remove.ensures.kept.frame (c.remove.ensures.told told) (nowhere_removed name s0.folder s1.folder (c.in_ok-remove.ensures.ok told)) in
    let here : LeadsNowhereElse name s1.folder s2.folder =
    either (IsTrue g.D.World.tells.folder → SyncsNames s1.folder s2.folder) (s2.folder ≡ s1.folder) (LeadsNowhereElse name s1.folder s2.folder) c.sync_names.result
    c.sync_names.ensures.ok c.sync_names.ensures.err (λ syncs. nowhere_synced name s1.folder s2.folder (syncs told)) (λ same. nowhere_same name s1.folder s2.folder same) in
    call_on (LeadsNowhereElse name) (nowhere_then name) SyncedNames [] c.sync_names.result s0 s1 s2 c.remove.ensures.kept.frame first c.sync_names.ensures.kept.frame here (c.sync_names.ensures.told told)

pub returns-clause-gone : goal.returns-clause-gone
returns-clause-gone g c =
    let s0 : Scene = g.D.World.scene c.args.desk.now in
    let s1 : Scene = g.D.World.scene c.remove.new.self in
    let s2 : Scene = g.D.World.scene c.sync_names.new.self in
    ok_leads (IsTrue g.D.World.tells.folder → SyncsNames s1.folder s2.folder) (IsTrue g.D.World.tells.folder → IsGone c.args.name.now s2.folder) c.sync_names.result
    (λ syncs told. gone_for_good c.args.name.now s0.folder s1.folder s2.folder (c.in_ok-remove.ensures.ok told) (syncs told)) c.sync_names.ensures.ok

pub returns-clause-kept : goal.returns-clause-kept
returns-clause-kept g c = going.GoesOn-then g.met.D.Desk.stays_on (λ is. absurd (cc)) c.in_ok-remove.ensures.kept c.sync_names.ensures.kept

pub returns-in_err-remove-clause-modes : goal.returns-in_err-remove-clause-modes
returns-in_err-remove-clause-modes g c =
    let s0 : Scene = g.D.World.scene c.args.desk.now in
    let s1 : Scene = g.D.World.scene c.remove.new.self in
    makes_removed g.D.World.tells.folder None Removed (c.args.name.now ∷ []) c.remove.result s0 s1 c.remove.ensures.kept.frame c.remove.ensures.told c.args.name.now c.remove.ensures.ok c.remove.ensures.err

pub returns-clause-modes : goal.returns-clause-modes
returns-clause-modes g c =
    let s0 : Scene = g.D.World.scene c.args.desk.now in
    let s1 : Scene = g.D.World.scene c.remove.new.self in
    let s2 : Scene = g.D.World.scene c.sync_names.new.self in
    makes_then c.remove.ensures.kept.frame
    (makes_removed g.D.World.tells.folder None Removed (c.args.name.now ∷ []) c.remove.result s0 s1 c.remove.ensures.kept.frame c.remove.ensures.told c.args.name.now c.remove.ensures.ok c.remove.ensures.err)
    (makes_synced g.D.World.tells.folder None SyncedNames [] c.sync_names.result s1 s2 c.sync_names.ensures.kept.frame c.sync_names.ensures.told c.sync_names.ensures.ok c.sync_names.ensures.err)
