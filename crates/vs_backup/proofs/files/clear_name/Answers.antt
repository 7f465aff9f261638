use Rattle.std.proofs.Common.{◌≡◌, [], ◌∷◌, None, IsTrue, ap, subst}
use Rattle.vs_host.specs.Disk.{Disk, Removes, ChangesNames}
use Rattle.vs_host.specs.Trace.{Looked, Removed}
use Rattle.vs_host.specs.World.{Scene}
use Rattle.vs_disk.proofs.Runs.{call_on, one_call, one_look, reads_change, runs_as, runs_then}
use Rattle.vs_backup.specs.Works.{KeepsStates, Renews, Spares, one_name}
use Rattle.vs_backup.proofs.Calls.{looked_at}
use Rattle.vs_backup.proofs.Frames.{either, spares_same, spares_then, spares_removed}
use Rattle.vs_backup.proofs.Modes.{makes_looks, makes_removed, makes_then}
use Rattle.vs_backup.proofs.Renewing.{renews_removed, renews_same, states_changed, states_same}
use Rattle.vs_backup.proofs.Going as going
use Rattle.vs_backup.proofs.files.clear_name.Goals as goal

pub returns-in_err-has-clause-spares : goal.returns-in_err-has-clause-spares
returns-in_err-has-clause-spares g c told =
    let s0 : Scene = g.D.World.scene c.args.desk.now in
    let s1 : Scene = g.D.World.scene c.has.new.self in
    looked_at (one_name c.args.name.now) c.args.name.now c.has.result s0 s1 c.has.ensures.kept.frame (c.has.ensures.told told)

pub returns-then-branch-clause-spares : goal.returns-then-branch-clause-spares
returns-then-branch-clause-spares g c told =
    let on = one_name c.args.name.now in
    let s0 : Scene = g.D.World.scene c.args.desk.now in
    let s1 : Scene = g.D.World.scene c.has.new.self in
    let s2 : Scene = g.D.World.scene c.remove.new.self in
    let here : Spares on s1.folder s2.folder =
    either (IsTrue g.D.World.tells.folder → ChangesNames (Removes c.args.name.now) s1.folder s2.folder) (s2.folder ≡ s1.folder) (Spares on s1.folder s2.folder) c.remove.result
    c.remove.ensures.ok c.remove.ensures.err (λ changes. spares_removed c.args.name.now s1.folder s2.folder (changes told)) (λ same. spares_same on s1.folder s2.folder same) in
    call_on (Spares on) (spares_then on) Removed (c.args.name.now ∷ []) c.remove.result s0 s1 s2 (reads_change s0 s1 c.has.ensures.kept.frame)
    (looked_at on c.args.name.now c.has.result s0 s1 c.has.ensures.kept.frame (c.has.ensures.told told)) c.remove.ensures.kept.frame here (c.remove.ensures.told told)

pub returns-clause-spares : goal.returns-clause-spares
returns-clause-spares g c told =
    let s0 : Scene = g.D.World.scene c.args.desk.now in
    let s1 : Scene = g.D.World.scene c.has.new.self in
    looked_at (one_name c.args.name.now) c.args.name.now c.has.result s0 s1 c.has.ensures.kept.frame (c.has.ensures.told told)

pub returns-then-branch-clause-kept : goal.returns-then-branch-clause-kept
returns-then-branch-clause-kept g c = going.GoesOn-then g.met.D.Desk.stays_on (λ is. absurd (cc)) (going.GoesOn-reads c.in_ok-has.ensures.kept) c.remove.ensures.kept

pub returns-in_err-has-clause-renews : goal.returns-in_err-has-clause-renews
returns-in_err-has-clause-renews g c told =
    let s0 : Scene = g.D.World.scene c.args.desk.now in
    let s1 : Scene = g.D.World.scene c.has.new.self in
    runs_as (λ a b. b ≡ a) (Renews c.args.name.now) s0 s1 (λ d same. renews_same c.args.name.now s0.folder d same)
    (one_look Looked (c.args.name.now ∷ []) c.has.result s0 s1 c.has.ensures.kept.frame (c.has.ensures.told told))

pub returns-then-branch-clause-renews : goal.returns-then-branch-clause-renews
returns-then-branch-clause-renews g c told =
    let name = c.args.name.now in
    let s0 : Scene = g.D.World.scene c.args.desk.now in
    let s1 : Scene = g.D.World.scene c.has.new.self in
    let s2 : Scene = g.D.World.scene c.remove.new.self in
    let same : s1.folder ≡ s0.folder = ap (λ (s : Scene). s.folder) c.has.ensures.kept.frame in
    let here : Renews name s1.folder s2.folder =
    either (IsTrue g.D.World.tells.folder → ChangesNames (Removes name) s1.folder s2.folder) (s2.folder ≡ s1.folder) (Renews name s1.folder s2.folder) c.remove.result
    c.remove.ensures.ok c.remove.ensures.err (λ changes. renews_removed name s1.folder s2.folder (changes told)) (λ is. renews_same name s1.folder s2.folder is) in
    let looks = one_look Looked (name ∷ []) c.has.result s0 s1 c.has.ensures.kept.frame (c.has.ensures.told told) in
    runs_then (λ a b. b ≡ a) (Renews name) (Renews name) s0 s1 s2 (λ d is. renews_same name s0.folder d is) (λ d is. subst (λ (e : Disk). Renews name e d) same is) (reads_change s0 s1 c.has.ensures.kept.frame)
    looks (one_call (Renews name) Removed (name ∷ []) c.remove.result s1 s2 c.remove.ensures.kept.frame (c.remove.ensures.told told) here)

pub returns-clause-renews : goal.returns-clause-renews
returns-clause-renews g c told =
    let s0 : Scene = g.D.World.scene c.args.desk.now in
    let s1 : Scene = g.D.World.scene c.has.new.self in
    runs_as (λ a b. b ≡ a) (Renews c.args.name.now) s0 s1 (λ d same. renews_same c.args.name.now s0.folder d same)
    (one_look Looked (c.args.name.now ∷ []) c.has.result s0 s1 c.has.ensures.kept.frame (c.has.ensures.told told))

pub returns-in_err-has-clause-states : goal.returns-in_err-has-clause-states
returns-in_err-has-clause-states g c told =
    let s0 : Scene = g.D.World.scene c.args.desk.now in
    let s1 : Scene = g.D.World.scene c.has.new.self in
    states_same s0.folder s1.folder (ap (λ (s : Scene). s.folder) c.has.ensures.kept.frame)

pub returns-then-branch-clause-states : goal.returns-then-branch-clause-states
returns-then-branch-clause-states g c told =
    let name = c.args.name.now in
    let s0 : Scene = g.D.World.scene c.args.desk.now in
    let s1 : Scene = g.D.World.scene c.has.new.self in
    let s2 : Scene = g.D.World.scene c.remove.new.self in
    let same : s1.folder ≡ s0.folder = ap (λ (s : Scene). s.folder) c.has.ensures.kept.frame in
    subst (λ (d : Disk). KeepsStates d s2.folder) same
    (either (IsTrue g.D.World.tells.folder → ChangesNames (Removes name) s1.folder s2.folder) (s2.folder ≡ s1.folder) (KeepsStates s1.folder s2.folder) c.remove.result
    c.remove.ensures.ok c.remove.ensures.err (λ changes. states_changed (Removes name) s1.folder s2.folder (changes told)) (λ is. states_same s1.folder s2.folder is))

pub returns-clause-states : goal.returns-clause-states
returns-clause-states g c told =
    let s0 : Scene = g.D.World.scene c.args.desk.now in
    let s1 : Scene = g.D.World.scene c.has.new.self in
    states_same s0.folder s1.folder (ap (λ (s : Scene). s.folder) c.has.ensures.kept.frame)

pub returns-in_err-has-clause-modes : goal.returns-in_err-has-clause-modes
returns-in_err-has-clause-modes g c =
    let s0 : Scene = g.D.World.scene c.args.desk.now in
    let s1 : Scene = g.D.World.scene c.has.new.self in
    makes_looks g.D.World.tells.folder None s0 s1 (λ told. one_look Looked (c.args.name.now ∷ []) c.has.result s0 s1 c.has.ensures.kept.frame (c.has.ensures.told told))

pub returns-then-branch-clause-modes : goal.returns-then-branch-clause-modes
returns-then-branch-clause-modes g c =
    let s0 : Scene = g.D.World.scene c.args.desk.now in
    let s1 : Scene = g.D.World.scene c.has.new.self in
    let s2 : Scene = g.D.World.scene c.remove.new.self in
    makes_then (reads_change s0 s1 c.has.ensures.kept.frame)
    (makes_looks g.D.World.tells.folder None s0 s1 (λ told. one_look Looked (c.args.name.now ∷ []) c.has.result s0 s1 c.has.ensures.kept.frame (c.has.ensures.told told)))
    (makes_removed g.D.World.tells.folder None Removed (c.args.name.now ∷ []) c.remove.result s1 s2 c.remove.ensures.kept.frame c.remove.ensures.told c.args.name.now c.remove.ensures.ok c.remove.ensures.err)

pub returns-clause-modes : goal.returns-clause-modes
returns-clause-modes g c =
    let s0 : Scene = g.D.World.scene c.args.desk.now in
    let s1 : Scene = g.D.World.scene c.has.new.self in
    makes_looks g.D.World.tells.folder None s0 s1 (λ told. one_look Looked (c.args.name.now ∷ []) c.has.result s0 s1 c.has.ensures.kept.frame (c.has.ensures.told told))
