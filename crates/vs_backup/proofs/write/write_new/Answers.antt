use Rattle.std.proofs.Common.{None, refl}
use Rattle.std.proofs.lemmas.Result.{err_from_is_err_and}
use Rattle.vs_text.specs.Documents.{file_in}
use Rattle.vs_host.specs.World.{Scene}
use Rattle.vs_disk.proofs.Runs.{starts}
use Rattle.vs_backup.specs.Works.{Renews, Spares, one_name}
use Rattle.vs_backup.proofs.Frames.{spares_none}
use Rattle.vs_backup.proofs.Renewing.{renews_same}
use Rattle.vs_backup.proofs.Unbacked.{fresh_not_taken}
use Rattle.vs_backup.proofs.Modes.{makes_starts, usual_any}
use Rattle.vs_backup.proofs.Going as going
use Rattle.vs_backup.proofs.write.write_new.Goals as goal

pub returns-in_err-piece-clause-fresh : goal.returns-in_err-piece-clause-fresh
returns-in_err-piece-clause-fresh g c told free text has =
    let s0 : Scene = g.D.World.scene c.args.desk.now in
    let on = one_name c.args.temporary.now in
    let p = err_from_is_err_and c.from_residual.result c.from_residual.ensures.1 in
    fresh_not_taken c.args.name.now c.args.temporary.now (file_in c.args.format text) s0 s0 c.requires.differ free (starts (Spares on) s0 (spares_none on s0.folder))
    (starts (Renews c.args.temporary.now) s0 (renews_same c.args.temporary.now s0.folder s0.folder refl)) c.from_residual.result (rw p.1 tt) (λ memory was. was)

pub returns-in_err-piece-clause-kept : goal.returns-in_err-piece-clause-kept
returns-in_err-piece-clause-kept g c = going.GoesOn-nothing c.requires.valid (g.met.D.Desk.stays_itself c.args.desk.now) (going.err_other c.from_residual.result _ _ c.from_residual.ensures.1 (λ is. absurd (cc)))

pub returns-in_err-piece-clause-modes : goal.returns-in_err-piece-clause-modes
returns-in_err-piece-clause-modes g c = usual_any (makes_starts g.D.World.tells.folder None (g.D.World.scene c.args.desk.now))
