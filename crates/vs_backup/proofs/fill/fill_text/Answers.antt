use Rattle.std.proofs.Common.{ℕ, List, Option, None, IsTrue, refl, ap}
use Rattle.std.specs.Prelude.{is_some}
use Rattle.vs_text.specs.Documents.{file_in}
use Rattle.vs_host.specs.Disk.{mode_in}
use Rattle.vs_host.specs.World.{Scene}
use Rattle.vs_backup.specs.Works.{Widens}
use Rattle.vs_backup.proofs.Frames.{err_is}
use Rattle.vs_backup.proofs.Filling.{changes_on, fills_changes, widens_then}
use Rattle.vs_backup.proofs.Kept.{fills_widens}
use Rattle.vs_backup.proofs.Modes.{changes_answered, makes_answered, makes_filled, makes_fills, makes_then, match_as, match_is, synced_done, takes_done, takes_filled, there_filled, widens_failed}
use Rattle.vs_backup.proofs.Going as going
use Rattle.vs_backup.proofs.fill.fill_text.Goals as goal

pub returns-in_err-sync_like-clause-runs : goal.returns-in_err-sync_like-clause-runs
returns-in_err-sync_like-clause-runs g c told =
    let s0 : Scene = g.D.World.scene c.args.desk.now in
    let s1 : Scene = g.D.World.scene c.write_text.new.desk in
    let s2 : Scene = g.D.World.scene c.sync_like.new.desk in
    changes_on c.args.name.now s0 s1 s2 c.write_text.ensures.kept.frame (fills_changes c.args.name.now s0 s1 (c.write_text.ensures.runs told)) (changes_answered g.D.World.tells.folder c.args.name.now c.sync_like.result s1 s2 c.sync_like.ensures.kept.frame c.sync_like.ensures.told c.args.model c.sync_like.ensures.ok c.sync_like.ensures.err told)

pub returns-clause-runs : goal.returns-clause-runs
returns-clause-runs g c told =
    let s0 : Scene = g.D.World.scene c.args.desk.now in
    let s1 : Scene = g.D.World.scene c.write_text.new.desk in
    let s2 : Scene = g.D.World.scene c.sync_like.new.desk in
    changes_on c.args.name.now s0 s1 s2 c.write_text.ensures.kept.frame (fills_changes c.args.name.now s0 s1 (c.write_text.ensures.runs told)) (changes_answered g.D.World.tells.folder c.args.name.now c.sync_like.result s1 s2 c.sync_like.ensures.kept.frame c.sync_like.ensures.told c.args.model c.sync_like.ensures.ok c.sync_like.ensures.err told)

pub returns-in_err-size-clause-runs : goal.returns-in_err-size-clause-runs
returns-in_err-size-clause-runs g c told = fills_changes c.args.name.now (g.D.World.scene c.args.desk.now) (g.D.World.scene c.write_text.new.desk) (c.write_text.ensures.runs told)

pub returns-in_err-size-clause-err : goal.returns-in_err-size-clause-err
returns-in_err-size-clause-err g c =
    let s0 : Scene = g.D.World.scene c.args.desk.now in
    let s1 : Scene = g.D.World.scene c.write_text.new.desk in
    err_is (IsTrue g.D.World.tells.folder → Widens c.args.name.now s0.folder s1.folder) c.from_residual.result (λ told. fills_widens c.args.name.now s0.folder s1.folder (c.write_text.ensures.runs told).now)

pub returns-in_err-sync_like-clause-err : goal.returns-in_err-sync_like-clause-err
returns-in_err-sync_like-clause-err g c =
    let s0 : Scene = g.D.World.scene c.args.desk.now in
    let s1 : Scene = g.D.World.scene c.write_text.new.desk in
    let s2 : Scene = g.D.World.scene c.sync_like.new.desk in
    err_is (IsTrue g.D.World.tells.folder → Widens c.args.name.now s0.folder s2.folder) c.from_residual-in_err-sync_like.result
    (λ told. widens_then c.args.name.now s0.folder s1.folder s2.folder (fills_widens c.args.name.now s0.folder s1.folder (c.write_text.ensures.runs told).now) (widens_failed c.args.model c.args.name.now c.args.name.now s1.folder s2.folder c.in_err-sync_like.ensures.err))

pub returns-clause-ok : goal.returns-clause-ok
returns-clause-ok g c told text has =
    let done = c.in_ok-size.ensures.ok told text has in
    (done.0, (synced_done g.D.World.tells.folder c.args.model c.args.name.now (g.D.World.scene c.write_text.new.desk) (g.D.World.scene c.sync_like.new.desk) c.in_ok-sync_like.ensures.ok).synced told (file_in c.args.format text) done.1)

pub returns-in_err-size-clause-modes : goal.returns-in_err-size-clause-modes
returns-in_err-size-clause-modes g c =
    let s0 : Scene = g.D.World.scene c.args.desk.now in
    let s1 : Scene = g.D.World.scene c.write_text.new.desk in
    match_is c.args.model _ _ (makes_fills g.D.World.tells.folder c.args.name.now None s0 s1 c.write_text.ensures.runs)
    (λ model. makes_fills g.D.World.tells.folder c.args.name.now (mode_in s0.folder model.now) s0 s1 c.write_text.ensures.runs)

pub returns-in_err-sync_like-clause-modes : goal.returns-in_err-sync_like-clause-modes
returns-in_err-sync_like-clause-modes g c =
    let s0 : Scene = g.D.World.scene c.args.desk.now in
    let s1 : Scene = g.D.World.scene c.write_text.new.desk in
    let s2 : Scene = g.D.World.scene c.sync_like.new.desk in
    match_as c.args.model _ _ _ _ (λ second. makes_then c.write_text.ensures.kept.frame (makes_fills g.D.World.tells.folder c.args.name.now None s0 s1 c.write_text.ensures.runs) second)
    (λ model second. makes_filled g.D.World.tells.folder c.args.name.now model.now s0 s1 s2 c.write_text.ensures.kept.frame c.write_text.ensures.runs second) (makes_answered g.D.World.tells.folder c.args.name.now c.sync_like.result s1 s2 c.sync_like.ensures.kept.frame c.sync_like.ensures.told c.args.model c.sync_like.ensures.ok c.sync_like.ensures.err)

pub returns-clause-modes : goal.returns-clause-modes
returns-clause-modes g c =
    let s0 : Scene = g.D.World.scene c.args.desk.now in
    let s1 : Scene = g.D.World.scene c.write_text.new.desk in
    let s2 : Scene = g.D.World.scene c.sync_like.new.desk in
    match_as c.args.model _ _ _ _ (λ second. makes_then c.write_text.ensures.kept.frame (makes_fills g.D.World.tells.folder c.args.name.now None s0 s1 c.write_text.ensures.runs) second)
    (λ model second. makes_filled g.D.World.tells.folder c.args.name.now model.now s0 s1 s2 c.write_text.ensures.kept.frame c.write_text.ensures.runs second) (makes_answered g.D.World.tells.folder c.args.name.now c.sync_like.result s1 s2 c.sync_like.ensures.kept.frame c.sync_like.ensures.told c.args.model c.sync_like.ensures.ok c.sync_like.ensures.err)

pub returns-clause-mode : goal.returns-clause-mode
returns-clause-mode g c =
    let s0 : Scene = g.D.World.scene c.args.desk.now in
    let s1 : Scene = g.D.World.scene c.write_text.new.desk in
    let s2 : Scene = g.D.World.scene c.sync_like.new.desk in
    match_as c.args.model _ _ _ _ (λ takes. takes_filled g.D.World.tells.folder c.args.name.now c.args.name.now c.args.name.now s0 s1 s2 c.write_text.ensures.runs takes)
    (λ model takes. takes_filled g.D.World.tells.folder c.args.name.now model.now c.args.name.now s0 s1 s2 c.write_text.ensures.runs takes) (takes_done g.D.World.tells.folder c.args.model c.args.name.now s1 s2 (λ is. there_filled c.args.name.now c.args.name.now s0.folder s1.folder (c.write_text.ensures.runs is).now (ap (λ (o : Option (List ℕ)). is_some o) (c.requires.empty is))) c.in_ok-sync_like.ensures.ok)

pub returns-in_err-sync_like-clause-kept : goal.returns-in_err-sync_like-clause-kept
returns-in_err-sync_like-clause-kept g c = going.GoesOn-failed c.from_residual-in_err-sync_like.result _ c.from_residual-in_err-sync_like.ensures.1 refl (going.GoesOn-then g.met.D.Desk.stays_on (λ is. absurd (cc)) c.in_ok-size.ensures.kept c.in_err-sync_like.ensures.kept)

pub returns-clause-kept : goal.returns-clause-kept
returns-clause-kept g c = going.GoesOn-as (λ is. absurd (cc)) (λ _ is. absurd (cc)) (going.GoesOn-then g.met.D.Desk.stays_on (λ is. absurd (cc)) c.in_ok-size.ensures.kept c.in_ok-sync_like.ensures.kept)
