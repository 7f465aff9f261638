use Rattle.std.proofs.Common.{◌≡◌, ◌∙◌, ◌+◌, ◌≤◌, [], ◌∷◌, ℕ, List, Option, Some, IsTrue, length, take, sym, ap, subst, arith, refl}
use Rattle.std.specs.Prelude.{is_some}
use Rattle.std.proofs.lemmas.Grind.{common_steps}
use Rattle.vs_host.specs.Disk.{Disk, content_in, mode_in}
use Rattle.vs_host.specs.Trace.{Measured}
use Rattle.vs_host.specs.World.{Scene, content_of}
use Rattle.std.proofs.lemmas.List.{take_all}
use Rattle.vs_disk.specs.Images.{IsSynced, KeepsImages}
use Rattle.vs_disk.proofs.Runs.{one_look}
use Rattle.vs_disk.proofs.Contents.{of_bytes, some_bytes, some_content}
use Rattle.vs_backup.specs.Modes.{TakesMode}
use Rattle.vs_backup.specs.Works.{IsAlone, Widens, one_name}
use Rattle.vs_backup.proofs.Frames.{err_is, err_leads, ok_leads, spares_file, alone_file, content_spared}
use Rattle.vs_backup.proofs.Filling.{changes_on, fills_changes, fills_on, fills_then, looks_changes, looks_fills, widens_then}
use Rattle.vs_backup.proofs.Kept.{fills_widens}
use Rattle.vs_backup.proofs.Modes.{DoneLike, FailedLike, changes_answered, makes_answered, makes_filled, makes_fills, makes_looks, synced_done, takes_done, takes_filled, widens_failed}
use Rattle.vs_backup.proofs.Returning.{widens_same}
use Rattle.vs_backup.proofs.Going.{GoesOn-none, GoesOn-reads, GoesOn-then}
use Rattle.vs_backup.proofs.Going as going
use Rattle.vs_backup.proofs.fill.fill_copy.Goals as goal

pub returns-in_err-size-clause-runs : goal.returns-in_err-size-clause-runs
returns-in_err-size-clause-runs g c told =
    let s0 : Scene = g.D.World.scene c.args.desk.now in
    let s1 : Scene = g.D.World.scene c.len.new.self in
    looks_changes c.args.to.now s0 s1 (one_look Measured (c.args.from.now ∷ []) c.len.result s0 s1 c.len.ensures.kept.frame (c.len.ensures.told told))

pub pieces-init : goal.pieces-init
pieces-init g c =
    let s0 : Scene = g.D.World.scene c.args.desk.now in
    let s1 : Scene = g.D.World.scene c.len.new.self in
    let same : s1.folder ≡ s0.folder = ap (λ (s : Scene). s.folder) c.len.ensures.kept.frame in
    record {
      kept = GoesOn-none (λ is. absurd (cc)) (GoesOn-reads c.in_ok-size.ensures.kept);
      within = omega arith;
      runs = λ told. looks_fills c.args.to.now s0 s1 (one_look Measured (c.args.from.now ∷ []) c.len.result s0 s1 c.len.ensures.kept.frame (c.len.ensures.told told));
      alone = λ told. subst (λ (d : Disk). IsAlone c.args.to.now d) (sym same) (c.requires.alone told);
      from = λ told. ap (λ (d : Disk). content_in d c.args.from.now) same;
      copied = λ told.
          let has = some_content s0.folder c.args.from.now (c.requires.there told) in (
            has.0,
            has.1,
            of_bytes s0.folder c.args.from.now has.0 (λ b. c.in_ok-size.size ≡ length b) has.1 (c.in_ok-size.ensures.value told),
            ap (λ (d : Disk). content_in d c.args.to.now) same ∙ c.requires.empty told,
          );
    }

pub returns-in_err-copy_piece-clause-runs : goal.returns-in_err-copy_piece-clause-runs
returns-in_err-copy_piece-clause-runs g c told =
    let s0 : Scene = g.D.World.scene c.args.desk.now in
    let s1 : Scene = g.D.World.scene c.pieces.desk in
    let s2 : Scene = g.D.World.scene c.copy_piece.new.desk in
    fills_changes c.args.to.now s0 s2 (fills_on c.args.to.now s0 s1 s2 c.pieces.invariant.kept.frame (c.pieces.invariant.runs told) (c.copy_piece.ensures.runs told))

pub pieces-preserved : goal.pieces-preserved
pieces-preserved g c =
    let s0 : Scene = g.D.World.scene c.args.desk.now in
    let s1 : Scene = g.D.World.scene c.pieces.desk in
    let s2 : Scene = g.D.World.scene c.copy_piece.new.desk in
    record {
      kept = GoesOn-none (λ is. absurd (cc)) (GoesOn-then g.met.D.Desk.stays_on (λ is. is) c.pieces.invariant.kept c.in_ok-copy_piece.ensures.kept);
      within = omega (arith, c.min-count.ensures);
      runs = λ told. fills_on c.args.to.now s0 s1 s2 c.pieces.invariant.kept.frame (c.pieces.invariant.runs told) (c.copy_piece.ensures.runs told);
      alone = λ told. alone_file c.args.to.now KeepsImages s1.folder s2.folder (c.copy_piece.ensures.runs told).now (c.pieces.invariant.alone told);
      from = λ told. content_spared (one_name c.args.to.now) c.args.from.now s1.folder s2.folder c.requires.differ
          (spares_file c.args.to.now KeepsImages s1.folder s2.folder (c.pieces.invariant.alone told) (c.copy_piece.ensures.runs told).now)
          ∙ c.pieces.invariant.from told;
      copied = λ told.
          let had = c.pieces.invariant.copied told in
          let more = c.in_ok-copy_piece.ensures.ok told had.0 (c.pieces.invariant.from told ∙ had.1) in
          let long : length (take c.min-count.result c.pieces.buffer) ≡ c.min-count.result = grind (arith, common_steps) in
          (had.0, had.1, had.2, more ∙ ap (λ (k : ℕ). Some (take (c.pieces.at + k) had.0)) long);
    }

pub returns-clause-runs : goal.returns-clause-runs
returns-clause-runs g c told =
    let s0 : Scene = g.D.World.scene c.args.desk.now in
    let s1 : Scene = g.D.World.scene c.pieces.desk in
    let s2 : Scene = g.D.World.scene c.sync_like.new.desk in
    changes_on c.args.to.now s0 s1 s2 c.pieces.invariant.kept.frame (fills_changes c.args.to.now s0 s1 (c.pieces.invariant.runs told)) (changes_answered g.D.World.tells.folder c.args.to.now c.sync_like.result s1 s2 c.sync_like.ensures.kept.frame c.sync_like.ensures.told (Some c.args.from) c.sync_like.ensures.ok c.sync_like.ensures.err told)

pub returns-clause-ok : goal.returns-clause-ok
returns-clause-ok g c =
    let s0 : Scene = g.D.World.scene c.args.desk.now in
    let s1 : Scene = g.D.World.scene c.pieces.desk in
    let s2 : Scene = g.D.World.scene c.sync_like.new.desk in
    ok_leads (IsTrue g.D.World.tells.folder → DoneLike (Some c.args.from) c.args.to.now s1.folder s2.folder)
    (IsTrue g.D.World.tells.folder → (bytes : List ℕ) → content_of s0 c.args.from.now ≡ Some bytes → IsSynced c.args.to.now bytes s2.folder) c.sync_like.result
    (λ done told bytes is.
    let had = c.pieces.invariant.copied told in
    let one : had.0 ≡ bytes = some_bytes had.0 bytes (sym had.1 ∙ is) in
    let all : take c.pieces.at had.0 ≡ had.0 = let past : length had.0 ≤ c.pieces.at = omega (arith, had.2) in take_all c.pieces.at had.0 past in
    (synced_done g.D.World.tells.folder (Some c.args.from) c.args.to.now s1 s2 done).synced told bytes (had.3 ∙ ap (λ (b : List ℕ). Some b) (all ∙ one)))
    c.sync_like.ensures.ok

pub returns-in_err-copy_piece-clause-kept : goal.returns-in_err-copy_piece-clause-kept
returns-in_err-copy_piece-clause-kept g c = going.GoesOn-any c.from_residual-in_err-copy_piece.result _ c.from_residual-in_err-copy_piece.ensures.1 refl (going.GoesOn-then g.met.D.Desk.stays_on (λ is. is) c.pieces.invariant.kept c.in_err-copy_piece.ensures.kept)

pub returns-clause-kept : goal.returns-clause-kept
returns-clause-kept g c = going.GoesOn-then g.met.D.Desk.stays_on (λ is. is) c.pieces.invariant.kept c.sync_like.ensures.kept

pub returns-in_err-size-clause-err : goal.returns-in_err-size-clause-err
returns-in_err-size-clause-err g c =
    let s0 : Scene = g.D.World.scene c.args.desk.now in
    let s1 : Scene = g.D.World.scene c.len.new.self in
    err_is (IsTrue g.D.World.tells.folder → Widens c.args.to.now s0.folder s1.folder) c.from_residual.result
    (λ told. widens_same c.args.to.now s0.folder s1.folder (ap (λ (s : Scene). s.folder) c.len.ensures.kept.frame))

pub returns-in_err-copy_piece-clause-err : goal.returns-in_err-copy_piece-clause-err
returns-in_err-copy_piece-clause-err g c =
    let s0 : Scene = g.D.World.scene c.args.desk.now in
    let s1 : Scene = g.D.World.scene c.pieces.desk in
    let s2 : Scene = g.D.World.scene c.copy_piece.new.desk in
    err_is (IsTrue g.D.World.tells.folder → Widens c.args.to.now s0.folder s2.folder) c.from_residual-in_err-copy_piece.result
    (λ told. fills_widens c.args.to.now s0.folder s2.folder (fills_then c.args.to.now s0.folder s1.folder s2.folder (c.pieces.invariant.runs told).now (c.copy_piece.ensures.runs told).now))

pub returns-clause-err : goal.returns-clause-err
returns-clause-err g c =
    let s0 : Scene = g.D.World.scene c.args.desk.now in
    let s1 : Scene = g.D.World.scene c.pieces.desk in
    let s2 : Scene = g.D.World.scene c.sync_like.new.desk in
    err_leads (FailedLike (Some c.args.from) c.args.to.now s1.folder s2.folder) (IsTrue g.D.World.tells.folder → Widens c.args.to.now s0.folder s2.folder) c.sync_like.result
    (λ failed told. widens_then c.args.to.now s0.folder s1.folder s2.folder (fills_widens c.args.to.now s0.folder s1.folder (c.pieces.invariant.runs told).now)
    (widens_failed (Some c.args.from) c.args.to.now c.args.to.now s1.folder s2.folder failed)) c.sync_like.ensures.err

pub returns-in_err-size-clause-modes : goal.returns-in_err-size-clause-modes
returns-in_err-size-clause-modes g c =
    let s0 : Scene = g.D.World.scene c.args.desk.now in
    let s1 : Scene = g.D.World.scene c.len.new.self in
    makes_looks g.D.World.tells.folder (mode_in s0.folder c.args.from.now) s0 s1 (λ told. one_look Measured (c.args.from.now ∷ []) c.len.result s0 s1 c.len.ensures.kept.frame (c.len.ensures.told told))

pub returns-in_err-copy_piece-clause-modes : goal.returns-in_err-copy_piece-clause-modes
returns-in_err-copy_piece-clause-modes g c =
    let s0 : Scene = g.D.World.scene c.args.desk.now in
    let s1 : Scene = g.D.World.scene c.pieces.desk in
    let s2 : Scene = g.D.World.scene c.copy_piece.new.desk in
    makes_fills g.D.World.tells.folder c.args.to.now (mode_in s0.folder c.args.from.now) s0 s2
    (λ told. fills_on c.args.to.now s0 s1 s2 c.pieces.invariant.kept.frame (c.pieces.invariant.runs told) (c.copy_piece.ensures.runs told))

pub returns-clause-modes : goal.returns-clause-modes
returns-clause-modes g c =
    let s0 : Scene = g.D.World.scene c.args.desk.now in
    let s1 : Scene = g.D.World.scene c.pieces.desk in
    let s2 : Scene = g.D.World.scene c.sync_like.new.desk in
    makes_filled g.D.World.tells.folder c.args.to.now c.args.from.now s0 s1 s2 c.pieces.invariant.kept.frame c.pieces.invariant.runs
    (makes_answered g.D.World.tells.folder c.args.to.now c.sync_like.result s1 s2 c.sync_like.ensures.kept.frame c.sync_like.ensures.told (Some c.args.from) c.sync_like.ensures.ok c.sync_like.ensures.err)

pub returns-clause-mode : goal.returns-clause-mode
returns-clause-mode g c =
    let told = g.D.World.tells.folder in
    let s0 : Scene = g.D.World.scene c.args.desk.now in
    let s1 : Scene = g.D.World.scene c.pieces.desk in
    let s2 : Scene = g.D.World.scene c.sync_like.new.desk in
    ok_leads (IsTrue told → DoneLike (Some c.args.from) c.args.to.now s1.folder s2.folder) (TakesMode told c.args.from.now c.args.to.now s0 s2) c.sync_like.result
    (λ done. takes_filled told c.args.to.now c.args.from.now c.args.to.now s0 s1 s2 c.pieces.invariant.runs
    (takes_done told (Some c.args.from) c.args.to.now s1 s2 (λ is. ap (λ (o : Option (List ℕ)). is_some o) (c.pieces.invariant.copied is).3) done)) c.sync_like.ensures.ok
