use Rattle.std.proofs.Common.{◌≡◌, ◌∙◌, ℕ, List, Option, Some, IsTrue, ap}
use Rattle.std.specs.Prelude.{is_some}
use Rattle.vs_host.specs.File.{Cuts}
use Rattle.vs_host.specs.Disk.{mode_in}
use Rattle.vs_host.specs.World.{Scene, content_of}
use Rattle.vs_disk.specs.Images.{IsSynced}
use Rattle.vs_disk.proofs.Runs.{runs_as}
use Rattle.vs_backup.specs.Works.{ChangesOne, Widens, one_name}
use Rattle.vs_backup.proofs.Copying.{alone_content, cut_content}
use Rattle.vs_backup.proofs.Filling.{changes_on, changes_same, fills_changes, fills_cut, widens_then}
use Rattle.vs_backup.proofs.Kept.{fills_widens}
use Rattle.vs_backup.proofs.Modes.{makes_filled, makes_looks}
use Rattle.vs_backup.proofs.Returning.{widens_same}
use Rattle.vs_backup.proofs.Frames.{alone_file, content_spared, err_is, err_leads, ok_leads, spares_file}
use Rattle.vs_backup.proofs.Going as going
use Rattle.vs_backup.proofs.backup.copy_back.Goals as goal

pub empty_file-requires-clause-there : goal.empty_file-requires-clause-there
empty_file-requires-clause-there g c told =
    ap (λ (o : Option (List ℕ)). is_some o) (alone_content c.args.to.now (g.D.World.scene c.args.desk.now).folder (c.requires.alone told))

pub fill_copy-requires-clause-there : goal.fill_copy-requires-clause-there
fill_copy-requires-clause-there g c told =
    let s0 : Scene = g.D.World.scene c.args.desk.now in
    let s1 : Scene = g.D.World.scene c.empty_file.new.desk in
    let cuts = c.in_ok-empty_file.ensures.ok.cuts told in
    ap (λ (o : Option (List ℕ)). is_some o) (content_spared (one_name c.args.to.now) c.args.from.now s0.folder s1.folder c.requires.differ
    (spares_file c.args.to.now (Cuts 0) s0.folder s1.folder (c.requires.alone told) cuts)) ∙ c.requires.there told

pub fill_copy-requires-clause-empty : goal.fill_copy-requires-clause-empty
fill_copy-requires-clause-empty g c told =
    let s0 : Scene = g.D.World.scene c.args.desk.now in
    let s1 : Scene = g.D.World.scene c.empty_file.new.desk in
    let alone = c.requires.alone told in
    cut_content c.args.to.now (s0.folder.files alone.number).bytes s0.folder s1.folder (c.in_ok-empty_file.ensures.ok.cuts told) (alone_content c.args.to.now s0.folder alone)

pub fill_copy-requires-clause-alone : goal.fill_copy-requires-clause-alone
fill_copy-requires-clause-alone g c told =
    alone_file c.args.to.now (Cuts 0) (g.D.World.scene c.args.desk.now).folder (g.D.World.scene c.empty_file.new.desk).folder (c.in_ok-empty_file.ensures.ok.cuts told) (c.requires.alone told)

pub returns-in_err-empty_file-clause-runs : goal.returns-in_err-empty_file-clause-runs
returns-in_err-empty_file-clause-runs g c told =
    let s0 : Scene = g.D.World.scene c.args.desk.now in
    let s1 : Scene = g.D.World.scene c.empty_file.new.desk in
    runs_as (λ a b. b ≡ a) (ChangesOne c.args.to.now) s0 s1 (λ d same. changes_same c.args.to.now s0.folder d same) (c.in_err-empty_file.ensures.err.looks told)

pub returns-clause-runs : goal.returns-clause-runs
returns-clause-runs g c told =
    let s0 : Scene = g.D.World.scene c.args.desk.now in
    let s1 : Scene = g.D.World.scene c.empty_file.new.desk in
    let s2 : Scene = g.D.World.scene c.fill_copy.new.desk in
    changes_on c.args.to.now s0 s1 s2 c.empty_file.ensures.kept.frame (fills_changes c.args.to.now s0 s1 (c.in_ok-empty_file.ensures.ok.runs told)) (c.fill_copy.ensures.runs told)

pub returns-clause-ok : goal.returns-clause-ok
returns-clause-ok g c =
    let s0 : Scene = g.D.World.scene c.args.desk.now in
    let s1 : Scene = g.D.World.scene c.empty_file.new.desk in
    let s2 : Scene = g.D.World.scene c.fill_copy.new.desk in
    ok_leads (IsTrue g.D.World.tells.folder → (bytes : List ℕ) → content_of s1 c.args.from.now ≡ Some bytes → IsSynced c.args.to.now bytes s2.folder)
    (IsTrue g.D.World.tells.folder → (bytes : List ℕ) → content_of s0 c.args.from.now ≡ Some bytes → IsSynced c.args.to.now bytes s2.folder) c.fill_copy.result
    (λ copied told bytes is.
    copied told bytes (content_spared (one_name c.args.to.now) c.args.from.now s0.folder s1.folder c.requires.differ
    (spares_file c.args.to.now (Cuts 0) s0.folder s1.folder (c.requires.alone told) (c.in_ok-empty_file.ensures.ok.cuts told)) ∙ is))
    c.fill_copy.ensures.ok

pub returns-in_err-empty_file-clause-err : goal.returns-in_err-empty_file-clause-err
returns-in_err-empty_file-clause-err g c =
    let s0 : Scene = g.D.World.scene c.args.desk.now in
    let s1 : Scene = g.D.World.scene c.empty_file.new.desk in
    err_is (IsTrue g.D.World.tells.folder → Widens c.args.to.now s0.folder s1.folder) c.from_residual.result
    (λ told. widens_same c.args.to.now s0.folder s1.folder (c.in_err-empty_file.ensures.err.looks told).now)

pub returns-clause-err : goal.returns-clause-err
returns-clause-err g c =
    let s0 : Scene = g.D.World.scene c.args.desk.now in
    let s1 : Scene = g.D.World.scene c.empty_file.new.desk in
    let s2 : Scene = g.D.World.scene c.fill_copy.new.desk in
    err_leads (IsTrue g.D.World.tells.folder → Widens c.args.to.now s1.folder s2.folder) (IsTrue g.D.World.tells.folder → Widens c.args.to.now s0.folder s2.folder) c.fill_copy.result
    (λ widens told. widens_then c.args.to.now s0.folder s1.folder s2.folder (fills_widens c.args.to.now s0.folder s1.folder (fills_cut c.args.to.now s0.folder s1.folder (c.in_ok-empty_file.ensures.ok.cuts told))) (widens told))
    c.fill_copy.ensures.err

pub returns-in_err-empty_file-clause-modes : goal.returns-in_err-empty_file-clause-modes
returns-in_err-empty_file-clause-modes g c =
    let s0 : Scene = g.D.World.scene c.args.desk.now in
    makes_looks g.D.World.tells.folder (mode_in s0.folder c.args.from.now) s0 (g.D.World.scene c.empty_file.new.desk) c.in_err-empty_file.ensures.err.looks

pub returns-clause-modes : goal.returns-clause-modes
returns-clause-modes g c =
    let s0 : Scene = g.D.World.scene c.args.desk.now in
    let s1 : Scene = g.D.World.scene c.empty_file.new.desk in
    let s2 : Scene = g.D.World.scene c.fill_copy.new.desk in
    makes_filled g.D.World.tells.folder c.args.to.now c.args.from.now s0 s1 s2 c.empty_file.ensures.kept.frame c.in_ok-empty_file.ensures.ok.runs c.fill_copy.ensures.modes

pub returns-clause-kept : goal.returns-clause-kept
returns-clause-kept g c = going.GoesOn-then g.met.D.Desk.stays_on (λ is. absurd (cc)) c.in_ok-empty_file.ensures.kept c.fill_copy.ensures.kept
