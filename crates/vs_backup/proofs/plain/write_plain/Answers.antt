use Rattle.std.proofs.Common.{◌≡◌, ◌≤◌, [], ◌∷◌, ℕ, List, Option, None, IsTrue, length, refl, sym, ap, subst, arith}
use Rattle.std.specs.Prelude.{IsSomeAnd, is_some}
use Rattle.std.proofs.lemmas.Result.{err_from_is_err_and}
use Rattle.vs_text.specs.Documents.{file_in}
use Rattle.vs_host.specs.File.{Cuts}
use Rattle.vs_host.specs.Disk.{mode_in}
use Rattle.vs_host.specs.Trace.{Cut}
use Rattle.vs_host.specs.World.{Scene}
use Rattle.vs_disk.specs.Images.{IsSynced}
use Rattle.vs_disk.proofs.Contents.{some_content}
use Rattle.vs_backup.specs.Modes.{TakesMode}
use Rattle.vs_backup.specs.Works.{Widens, one_name}
use Rattle.vs_backup.proofs.Calls.{synced_bytes}
use Rattle.vs_backup.proofs.Copying.{cut_content}
use Rattle.vs_backup.proofs.Frames.{ok_leads, ok_with, err_with}
use Rattle.vs_backup.proofs.Modes.{makes_file, makes_narrowed, makes_none, makes_then}
use Rattle.vs_backup.proofs.Others.{others_settled}
use Rattle.vs_backup.proofs.Unbacked.{plain_not_begun, plain_not_cut, plain_filled}
use Rattle.vs_backup.proofs.Going as going
use Rattle.vs_backup.proofs.plain.write_plain.Goals as goal

pub returns-in_err-settle-clause-plain : goal.returns-in_err-settle-clause-plain
returns-in_err-settle-clause-plain g c told old content text has =
    let s0 : Scene = g.D.World.scene c.args.desk.now in
    let s1 : Scene = g.D.World.scene c.settle.new.desk in
    let p = err_from_is_err_and c.from_residual.result c.from_residual.ensures.1 in
    plain_not_begun c.args.name.now old (file_in c.args.format text) s0 s1 content (c.settle.ensures.settles.narrowed told) (others_settled (one_name c.args.name.now) c.args.name.now s0 s1 refl (c.settle.ensures.settles.same told)) c.from_residual.result (rw p.1 tt)

pub returns-in_err-cut-clause-plain : goal.returns-in_err-cut-clause-plain
returns-in_err-cut-clause-plain g c told old content text has =
    let s0 : Scene = g.D.World.scene c.args.desk.now in
    let s1 : Scene = g.D.World.scene c.settle.new.desk in
    let s2 : Scene = g.D.World.scene c.cut.new.self in
    let p = err_from_is_err_and c.from_residual-in_err-cut.result c.from_residual-in_err-cut.ensures.1 in
    plain_not_cut c.args.name.now old (file_in c.args.format text) s0 s1 content (c.settle.ensures.settles.narrowed told) (others_settled (one_name c.args.name.now) c.args.name.now s0 s1 refl (c.settle.ensures.settles.same told))
    c.settle.ensures.kept.frame (c.in_ok-settle.ensures.order.order told) (c.in_ok-settle.ensures.ok.settled told old content) (g.D.World.is_folder c.settle.new.desk told)
    s2 c.cut.ensures.kept.frame c.cut.result (c.cut.ensures.told told) c.from_residual-in_err-cut.result (rw p.1 tt) c.in_err-cut.ensures.err

pub returns-clause-plain : goal.returns-clause-plain
returns-clause-plain g c told old content text has =
    let s0 : Scene = g.D.World.scene c.args.desk.now in
    let s1 : Scene = g.D.World.scene c.settle.new.desk in
    let s2 : Scene = g.D.World.scene c.cut.new.self in
    let s3 : Scene = g.D.World.scene c.fill_text.new.desk in
    let stays = g.met.D.Desk.stays_on c.args.desk.now c.settle.new.desk c.cut.new.self c.settle.ensures.kept.stays c.cut.ensures.kept.stays in
    let kept = g.met.D.Desk.stays_text c.args.desk.now c.cut.new.self text stays has in
    plain_filled c.args.name.now old (file_in c.args.format text) s0 s1 content (c.settle.ensures.settles.narrowed told) (others_settled (one_name c.args.name.now) c.args.name.now s0 s1 refl (c.settle.ensures.settles.same told))
    c.settle.ensures.kept.frame (c.in_ok-settle.ensures.order.order told) (c.in_ok-settle.ensures.ok.settled told old content) (g.D.World.is_folder c.settle.new.desk told)
    s2 c.cut.ensures.kept.frame c.cut.result (c.cut.ensures.told told) (c.in_ok-cut.ensures.ok told) s3 (c.fill_text.ensures.runs told) c.fill_text.result
    (ok_with c.fill_text.result (λ size. IsTrue g.D.World.tells.folder → (t : List (List ℕ)) → g.D.Desk.has_text c.cut.new.self t → (size ≡ length (file_in c.args.format t)) × IsSynced c.args.name.now (file_in c.args.format t) s3.folder)
    (λ size. (size ≡ length (file_in c.args.format text)) × IsSynced c.args.name.now (file_in c.args.format text) s3.folder) (λ size f. f told text kept) c.fill_text.ensures.ok)
    (err_with c.fill_text.result (IsTrue g.D.World.tells.folder → Widens c.args.name.now s2.folder s3.folder) (Widens c.args.name.now s2.folder s3.folder) (λ f. f told) c.fill_text.ensures.err)
    (ok_leads (TakesMode g.D.World.tells.folder c.args.name.now c.args.name.now s2 s3) (mode_in s3.folder c.args.name.now ≡ mode_in s2.folder c.args.name.now) c.fill_text.result
    (λ takes. takes.same told (ap (λ (o : Option (List ℕ)). is_some o) (cut_content c.args.name.now old s1.folder s2.folder (c.in_ok-cut.ensures.ok told) (synced_bytes c.args.name.now old s1.folder (c.in_ok-settle.ensures.ok.settled told old content).synced))))
    c.fill_text.ensures.mode)

pub cut-requires-clause-there : goal.cut-requires-clause-there
cut-requires-clause-there g c told =
    let s0 : Scene = g.D.World.scene c.args.desk.now in
    let s1 : Scene = g.D.World.scene c.settle.new.desk in
    let had = some_content s0.folder c.args.name.now (c.requires.there told) in
    let content = synced_bytes c.args.name.now had.0 s1.folder (c.in_ok-settle.ensures.ok.settled told had.0 had.1).synced in
    subst (λ (o : Option (List ℕ)). IsSomeAnd o (λ bytes. 0 ≤ length bytes)) (sym content) (omega arith)

pub fill_text-requires-clause-empty : goal.fill_text-requires-clause-empty
fill_text-requires-clause-empty g c told =
    let s0 : Scene = g.D.World.scene c.args.desk.now in
    let s1 : Scene = g.D.World.scene c.settle.new.desk in
    let s2 : Scene = g.D.World.scene c.cut.new.self in
    let had = some_content s0.folder c.args.name.now (c.requires.there told) in
    let content = synced_bytes c.args.name.now had.0 s1.folder (c.in_ok-settle.ensures.ok.settled told had.0 had.1).synced in
    cut_content c.args.name.now had.0 s1.folder s2.folder (c.in_ok-cut.ensures.ok told) content

pub returns-in_err-cut-clause-kept : goal.returns-in_err-cut-clause-kept
returns-in_err-cut-clause-kept g c = going.GoesOn-failed c.from_residual-in_err-cut.result _ c.from_residual-in_err-cut.ensures.1 refl (going.GoesOn-then g.met.D.Desk.stays_on (λ is. absurd (cc)) c.in_ok-settle.ensures.kept c.in_err-cut.ensures.kept)

pub returns-clause-kept : goal.returns-clause-kept
returns-clause-kept g c = going.GoesOn-then g.met.D.Desk.stays_on (λ is. absurd (cc)) (going.GoesOn-then g.met.D.Desk.stays_on (λ is. absurd (cc)) c.in_ok-settle.ensures.kept c.in_ok-cut.ensures.kept) c.fill_text.ensures.kept

pub returns-in_err-settle-clause-modes : goal.returns-in_err-settle-clause-modes
returns-in_err-settle-clause-modes g c = makes_narrowed g.D.World.tells.folder None (g.D.World.scene c.args.desk.now) (g.D.World.scene c.settle.new.desk) c.settle.ensures.settles.narrowed

pub returns-in_err-cut-clause-modes : goal.returns-in_err-cut-clause-modes
returns-in_err-cut-clause-modes g c =
    let s0 : Scene = g.D.World.scene c.args.desk.now in
    let s1 : Scene = g.D.World.scene c.settle.new.desk in
    let s2 : Scene = g.D.World.scene c.cut.new.self in
    makes_then c.settle.ensures.kept.frame (makes_narrowed g.D.World.tells.folder None s0 s1 c.settle.ensures.settles.narrowed)
    (makes_none g.D.World.tells.folder None Cut (c.args.name.now ∷ []) c.cut.result s1 s2 c.cut.ensures.kept.frame c.cut.ensures.told c.in_err-cut.ensures.err)

pub returns-clause-modes : goal.returns-clause-modes
returns-clause-modes g c =
    let s0 : Scene = g.D.World.scene c.args.desk.now in
    let s1 : Scene = g.D.World.scene c.settle.new.desk in
    let s2 : Scene = g.D.World.scene c.cut.new.self in
    makes_then c.settle.ensures.kept.frame (makes_narrowed g.D.World.tells.folder None s0 s1 c.settle.ensures.settles.narrowed)
    (makes_then c.cut.ensures.kept.frame
    (makes_file g.D.World.tells.folder None Cut (c.args.name.now ∷ []) c.cut.result s1 s2 c.cut.ensures.kept.frame c.cut.ensures.told c.args.name.now (Cuts 0) c.cut.ensures.ok c.cut.ensures.err)
    c.fill_text.ensures.modes)
