use Rattle.std.proofs.lemmas.Result.{err_from_is_err_and}
use Rattle.vs_text.specs.Documents.{file_in}
use Rattle.vs_host.specs.World.{Scene}
use Rattle.vs_backup.proofs.Following.{narrowed_starts}
use Rattle.vs_backup.specs.Works.{one_name}
use Rattle.vs_backup.proofs.Others.{others_starts}
use Rattle.vs_backup.proofs.Unbacked.{plain_not_begun}
use Rattle.vs_backup.proofs.Modes.{makes_starts}
use Rattle.vs_backup.proofs.Going as going
use Rattle.vs_backup.proofs.write.write_unbacked.Goals as goal

pub returns-in_err-piece-clause-plain : goal.returns-in_err-piece-clause-plain
returns-in_err-piece-clause-plain g c told old content text has =
    let s0 : Scene = g.D.World.scene c.args.desk.now in
    let p = err_from_is_err_and c.from_residual.result c.from_residual.ensures.1 in
    plain_not_begun c.args.name.now old (file_in c.args.format text) s0 s0 content (narrowed_starts s0) (others_starts (one_name c.args.name.now) s0) c.from_residual.result (rw p.1 tt)

pub returns-in_err-piece-clause-kept : goal.returns-in_err-piece-clause-kept
returns-in_err-piece-clause-kept g c = going.GoesOn-nothing c.requires.valid (g.met.D.Desk.stays_itself c.args.desk.now) (going.err_other c.from_residual.result _ _ c.from_residual.ensures.1 (λ is. absurd (cc)))

pub returns-in_err-piece-clause-modes : goal.returns-in_err-piece-clause-modes
returns-in_err-piece-clause-modes g c = makes_starts g.D.World.tells.folder _ (g.D.World.scene c.args.desk.now)
