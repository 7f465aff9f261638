use Rattle.std.proofs.Common.{◌≡◌, ◌∙◌, [], ◌∷◌, ℕ, List, IsTrue, sym, subst}
use Rattle.vs_host.specs.Disk.{Disk, SyncsNames, mode_in}
use Rattle.vs_host.specs.Trace.{Renamed, SyncedNames}
use Rattle.vs_host.specs.World.{Scene}
use Rattle.vs_disk.specs.Images.{IsSynced, Takes}
use Rattle.vs_disk.proofs.Runs.{one_call, call_on, runs_as}
use Rattle.vs_disk.proofs.Contents.{leads_to, takes_renamed, takes_then}
use Rattle.vs_backup.specs.Writing.{IsSettled}
use Rattle.vs_backup.specs.Modes.{TakesMode}
use Rattle.vs_backup.specs.Works.{HandsOver, IsGone, IsHeld, LeadsNowhereElse, Spares, Widens, two_names}
use Rattle.vs_backup.proofs.Frames.{either, spares_same, spares_then, spares_renamed, spares_synced, takes_spared, takes_same, ok_leads, err_leads, err_is, settled_now, synced_renamed}
use Rattle.vs_backup.proofs.Copying.{kept_on}
use Rattle.vs_backup.proofs.Returning.{hands_renamed, hands_same, hands_synced, held_renamed, held_same, held_synced, widens_renamed, widens_same}
use Rattle.vs_backup.proofs.Replacing.{gone_renamed}
use Rattle.vs_backup.proofs.Modes.{makes_renamed, makes_synced, makes_then, mode_renamed, mode_synced}
use Rattle.vs_backup.proofs.Renewing.{nowhere_renamed, nowhere_same, nowhere_synced, nowhere_then}
use Rattle.vs_backup.proofs.Going as going
use Rattle.vs_backup.proofs.files.take_name.Goals as goal

pub returns-in_err-rename-clause-spares : goal.returns-in_err-rename-clause-spares
returns-in_err-rename-clause-spares g c told =
    let on = two_names c.args.from.now c.args.to.now in
    let s0 : Scene = g.D.World.scene c.args.desk.now in
    let s1 : Scene = g.D.World.scene c.rename.new.self in
    one_call (Spares on) Renamed (c.args.from.now ∷ c.args.to.now ∷ []) c.rename.result s0 s1 c.rename.ensures.kept.frame (c.rename.ensures.told told) (spares_same on s0.folder s1.folder c.in_err-rename.ensures.err)

pub returns-in_err-rename-clause-takes : goal.returns-in_err-rename-clause-takes
returns-in_err-rename-clause-takes g c told bytes synced =
    let s0 : Scene = g.D.World.scene c.args.desk.now in
    let s1 : Scene = g.D.World.scene c.rename.new.self in
    one_call (Takes c.args.to.now bytes) Renamed (c.args.from.now ∷ c.args.to.now ∷ []) c.rename.result s0 s1 c.rename.ensures.kept.frame (c.rename.ensures.told told)
    (takes_same c.args.to.now bytes s0.folder s1.folder c.in_err-rename.ensures.err)

pub returns-clause-spares : goal.returns-clause-spares
returns-clause-spares g c told =
    let on = two_names c.args.from.now c.args.to.now in
    let s0 : Scene = g.D.World.scene c.args.desk.now in
    let s1 : Scene = g.D.World.scene c.rename.new.self in
    let s2 : Scene = g.D.World.scene c.sync_names.new.self in
    let first = one_call (Spares on) Renamed (c.args.from.now ∷ c.args.to.now ∷ []) c.rename.result s0 s1 c.rename.ensures.kept.frame (c.rename.ensures.told told) (spares_renamed c.args.from.now c.args.to.now s0.folder s1.folder (c.in_ok-rename.ensures.ok told)) in
    let here : Spares on s1.folder s2.folder =
    either (IsTrue g.D.World.tells.folder → SyncsNames s1.folder s2.folder) (s2.folder ≡ s1.folder) (Spares on s1.folder s2.folder) c.sync_names.result
    c.sync_names.ensures.ok c.sync_names.ensures.err (λ syncs. spares_synced on s1.folder s2.folder (syncs told)) (λ same. spares_same on s1.folder s2.folder same) in
    call_on (Spares on) (spares_then on) SyncedNames [] c.sync_names.result s0 s1 s2 c.rename.ensures.kept.frame first c.sync_names.ensures.kept.frame here (c.sync_names.ensures.told told)

pub returns-clause-takes : goal.returns-clause-takes
returns-clause-takes g c told bytes synced =
    let to = c.args.to.now in
    let s0 : Scene = g.D.World.scene c.args.desk.now in
    let s1 : Scene = g.D.World.scene c.rename.new.self in
    let s2 : Scene = g.D.World.scene c.sync_names.new.self in
    let first = one_call (Takes to bytes) Renamed (c.args.from.now ∷ to ∷ []) c.rename.result s0 s1 c.rename.ensures.kept.frame (c.rename.ensures.told told) (takes_renamed c.args.from.now to bytes s0.folder s1.folder synced (c.in_ok-rename.ensures.ok told)) in
    let here : Takes to bytes s1.folder s2.folder =
    either (IsTrue g.D.World.tells.folder → SyncsNames s1.folder s2.folder) (s2.folder ≡ s1.folder) (Takes to bytes s1.folder s2.folder) c.sync_names.result
    c.sync_names.ensures.ok c.sync_names.ensures.err (λ syncs. takes_spared (λ n. ⊥) to bytes s1.folder s2.folder (λ x. x) (spares_synced (λ n. ⊥) s1.folder s2.folder (syncs told)))
    (λ same. takes_same to bytes s1.folder s2.folder same) in
    call_on (Takes to bytes) (takes_then to bytes) SyncedNames [] c.sync_names.result s0 s1 s2 c.rename.ensures.kept.frame first c.sync_names.ensures.kept.frame here (c.sync_names.ensures.told told)

pub returns-in_err-rename-clause-held : goal.returns-in_err-rename-clause-held
returns-in_err-rename-clause-held g c told number bytes held leads =
    let from = c.args.from.now in
    let to = c.args.to.now in
    let s0 : Scene = g.D.World.scene c.args.desk.now in
    let s1 : Scene = g.D.World.scene c.rename.new.self in
    one_call (λ a b. IsHeld to from number bytes b) Renamed (from ∷ to ∷ []) c.rename.result s0 s1 c.rename.ensures.kept.frame (c.rename.ensures.told told)
    (held_same from to number bytes s0.folder s1.folder c.in_err-rename.ensures.err held)

pub returns-clause-held : goal.returns-clause-held
returns-clause-held g c told number bytes held leads =
    let from = c.args.from.now in
    let to = c.args.to.now in
    let s0 : Scene = g.D.World.scene c.args.desk.now in
    let s1 : Scene = g.D.World.scene c.rename.new.self in
    let s2 : Scene = g.D.World.scene c.sync_names.new.self in
    let renames = c.in_ok-rename.ensures.ok told in
    let Held : Disk → Type 0 = IsHeld to from number bytes in
    let renamed : Held s1.folder = held_renamed from to number bytes s0.folder s1.folder renames leads held in
    let here : Held s2.folder =
    either (IsTrue g.D.World.tells.folder → SyncsNames s1.folder s2.folder) (s2.folder ≡ s1.folder) (Held s2.folder) c.sync_names.result c.sync_names.ensures.ok c.sync_names.ensures.err
    (λ syncs. held_synced from to number bytes s1.folder s2.folder (syncs told) (leads_to from to number s0.folder s1.folder leads renames) renamed) (λ same. held_same from to number bytes s1.folder s2.folder same renamed) in
    kept_on Held s0 s1 s2 c.rename.ensures.kept.frame
    (one_call (λ a b. Held b) Renamed (from ∷ to ∷ []) c.rename.result s0 s1 c.rename.ensures.kept.frame (c.rename.ensures.told told) renamed)
    (one_call (λ a b. Held b) SyncedNames [] c.sync_names.result s1 s2 c.sync_names.ensures.kept.frame (c.sync_names.ensures.told told) here)

pub returns-in_err-rename-clause-hands : goal.returns-in_err-rename-clause-hands
returns-in_err-rename-clause-hands g c told =
    let from = c.args.from.now in
    let to = c.args.to.now in
    let s0 : Scene = g.D.World.scene c.args.desk.now in
    let s1 : Scene = g.D.World.scene c.rename.new.self in
    one_call (HandsOver from to) Renamed (from ∷ to ∷ []) c.rename.result s0 s1 c.rename.ensures.kept.frame (c.rename.ensures.told told) (hands_same from to s0.folder s1.folder c.in_err-rename.ensures.err)

pub returns-clause-hands : goal.returns-clause-hands
returns-clause-hands g c told =
    let from = c.args.from.now in
    let to = c.args.to.now in
    let s0 : Scene = g.D.World.scene c.args.desk.now in
    let s1 : Scene = g.D.World.scene c.rename.new.self in
    let s2 : Scene = g.D.World.scene c.sync_names.new.self in
    let Hands : Disk → Type 0 = HandsOver from to s0.folder in
    let renamed : Hands s1.folder = hands_renamed from to s0.folder s1.folder c.requires.differ (c.in_ok-rename.ensures.ok told) in
    let here : Hands s2.folder =
    either (IsTrue g.D.World.tells.folder → SyncsNames s1.folder s2.folder) (s2.folder ≡ s1.folder) (Hands s2.folder) c.sync_names.result c.sync_names.ensures.ok c.sync_names.ensures.err
    (λ syncs. hands_synced from to s0.folder s1.folder s2.folder renamed (syncs told)) (λ same. subst Hands (sym same) renamed) in
    runs_as (λ a b. Hands b) (HandsOver from to) s0 s2 (λ d over. over) (kept_on Hands s0 s1 s2 c.rename.ensures.kept.frame
    (one_call (λ a b. Hands b) Renamed (from ∷ to ∷ []) c.rename.result s0 s1 c.rename.ensures.kept.frame (c.rename.ensures.told told) renamed)
    (one_call (λ a b. Hands b) SyncedNames [] c.sync_names.result s1 s2 c.sync_names.ensures.kept.frame (c.sync_names.ensures.told told) here))

pub returns-in_err-rename-clause-err : goal.returns-in_err-rename-clause-err
returns-in_err-rename-clause-err g c =
    let s0 : Scene = g.D.World.scene c.args.desk.now in
    let s1 : Scene = g.D.World.scene c.rename.new.self in
    err_is (IsTrue g.D.World.tells.folder → Widens c.args.to.now s0.folder s1.folder) c.from_residual.result
    (λ told. widens_same c.args.to.now s0.folder s1.folder c.in_err-rename.ensures.err)

pub returns-clause-err : goal.returns-clause-err
returns-clause-err g c =
    let s0 : Scene = g.D.World.scene c.args.desk.now in
    let s1 : Scene = g.D.World.scene c.rename.new.self in
    let s2 : Scene = g.D.World.scene c.sync_names.new.self in
    err_leads (s2.folder ≡ s1.folder) (IsTrue g.D.World.tells.folder → Widens c.args.to.now s0.folder s2.folder) c.sync_names.result
    (λ same told. subst (λ (d : Disk). Widens c.args.to.now s0.folder d) (sym same) (widens_renamed c.args.from.now c.args.to.now c.args.to.now s0.folder s1.folder (c.in_ok-rename.ensures.ok told))) c.sync_names.ensures.err

pub returns-clause-ok : goal.returns-clause-ok
returns-clause-ok g c =
    let from = c.args.from.now in
    let to = c.args.to.now in
    let s0 : Scene = g.D.World.scene c.args.desk.now in
    let s1 : Scene = g.D.World.scene c.rename.new.self in
    let s2 : Scene = g.D.World.scene c.sync_names.new.self in
    ok_leads (IsTrue g.D.World.tells.folder → SyncsNames s1.folder s2.folder)
    (IsTrue g.D.World.tells.folder → (bytes : List ℕ) → IsSynced from bytes s0.folder → IsSettled to bytes s2.folder) c.sync_names.result
    (λ syncs told bytes synced. settled_now to bytes s1.folder s2.folder (synced_renamed from to bytes s0.folder s1.folder synced (c.in_ok-rename.ensures.ok told)) (syncs told)) c.sync_names.ensures.ok

pub returns-clause-gone : goal.returns-clause-gone
returns-clause-gone g c =
    let s0 : Scene = g.D.World.scene c.args.desk.now in
    let s1 : Scene = g.D.World.scene c.rename.new.self in
    let s2 : Scene = g.D.World.scene c.sync_names.new.self in
    ok_leads (IsTrue g.D.World.tells.folder → SyncsNames s1.folder s2.folder) (IsTrue g.D.World.tells.folder → IsGone c.args.from.now s2.folder) c.sync_names.result
    (λ syncs told. gone_renamed c.args.from.now c.args.to.now s0.folder s1.folder s2.folder c.requires.differ (c.in_ok-rename.ensures.ok told) (syncs told)) c.sync_names.ensures.ok

pub returns-clause-kept : goal.returns-clause-kept
returns-clause-kept g c = going.GoesOn-then g.met.D.Desk.stays_on (λ is. absurd (cc)) c.in_ok-rename.ensures.kept c.sync_names.ensures.kept

pub returns-in_err-rename-clause-leads : goal.returns-in_err-rename-clause-leads
returns-in_err-rename-clause-leads g c told =
    let s0 : Scene = g.D.World.scene c.args.desk.now in
    let s1 : Scene = g.D.World.scene c.rename.new.self in
    one_call (LeadsNowhereElse c.args.from.now) Renamed (c.args.from.now ∷ c.args.to.now ∷ []) c.rename.result s0 s1 c.rename.ensures.kept.frame (c.rename.ensures.told told) (nowhere_same c.args.from.now s0.folder s1.folder c.in_err-rename.ensures.err)

pub returns-clause-leads : goal.returns-clause-leads
returns-clause-leads g c told =
    let from = c.args.from.now in
    let s0 : Scene = g.D.World.scene c.args.desk.now in
    let s1 : Scene = g.D.World.scene c.rename.new.self in
    let s2 : Scene = g.D.World.scene c.sync_names.new.self in
    let first = one_call (LeadsNowhereElse from) Renamed (from ∷ c.args.to.now ∷ []) c.rename.result s0 s1 c.rename.ensures.kept.frame (c.rename.ensures.told told)
    (nowhere_renamed from c.args.to.now s0.folder s1.folder c.requires.differ (c.in_ok-rename.ensures.ok told)) in
    let here : LeadsNowhereElse from s1.folder s2.folder =
    either (IsTrue g.D.World.tells.folder → SyncsNames s1.folder s2.folder) (s2.folder ≡ s1.folder) (LeadsNowhereElse from s1.folder s2.folder) c.sync_names.result
    c.sync_names.ensures.ok c.sync_names.ensures.err (λ syncs. nowhere_synced from s1.folder s2.folder (syncs told)) (λ same. nowhere_same from s1.folder s2.folder same) in
    call_on (LeadsNowhereElse from) (nowhere_then from) SyncedNames [] c.sync_names.result s0 s1 s2 c.rename.ensures.kept.frame first c.sync_names.ensures.kept.frame here (c.sync_names.ensures.told told)

pub returns-in_err-rename-clause-modes : goal.returns-in_err-rename-clause-modes
returns-in_err-rename-clause-modes g c =
    let s0 : Scene = g.D.World.scene c.args.desk.now in
    let s1 : Scene = g.D.World.scene c.rename.new.self in
    makes_renamed g.D.World.tells.folder Renamed (c.args.from.now ∷ c.args.to.now ∷ []) c.rename.result s0 s1 c.rename.ensures.kept.frame c.rename.ensures.told c.args.from.now c.args.to.now c.rename.ensures.ok c.rename.ensures.err

pub returns-clause-modes : goal.returns-clause-modes
returns-clause-modes g c =
    let s0 : Scene = g.D.World.scene c.args.desk.now in
    let s1 : Scene = g.D.World.scene c.rename.new.self in
    let s2 : Scene = g.D.World.scene c.sync_names.new.self in
    makes_then c.rename.ensures.kept.frame
    (makes_renamed g.D.World.tells.folder Renamed (c.args.from.now ∷ c.args.to.now ∷ []) c.rename.result s0 s1 c.rename.ensures.kept.frame c.rename.ensures.told c.args.from.now c.args.to.now c.rename.ensures.ok c.rename.ensures.err)
    (makes_synced g.D.World.tells.folder (mode_in s0.folder c.args.from.now) SyncedNames [] c.sync_names.result s1 s2 c.sync_names.ensures.kept.frame c.sync_names.ensures.told c.sync_names.ensures.ok c.sync_names.ensures.err)

pub returns-clause-mode : goal.returns-clause-mode
returns-clause-mode g c =
    let told = g.D.World.tells.folder in
    let s0 : Scene = g.D.World.scene c.args.desk.now in
    let s1 : Scene = g.D.World.scene c.rename.new.self in
    let s2 : Scene = g.D.World.scene c.sync_names.new.self in
    ok_leads (IsTrue told → SyncsNames s1.folder s2.folder) (TakesMode told c.args.from.now c.args.to.now s0 s2) c.sync_names.result
    (λ syncs. record {
      same = λ is there. mode_synced c.args.to.now s1.folder s2.folder (syncs is) ∙ mode_renamed c.args.from.now c.args.to.now s0.folder s1.folder (c.in_ok-rename.ensures.ok is);
    })
    c.sync_names.ensures.ok
