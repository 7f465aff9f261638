use Rattle.vs_backup.proofs.Going as going
use Rattle.vs_backup.proofs.write.choose.Goals as goal

pub returns-in_err-backup_name-clause-kept : goal.returns-in_err-backup_name-clause-kept
returns-in_err-backup_name-clause-kept g c = going.OnlyReads-nothing c.requires.valid (g.met.D.Desk.stays_itself c.args.desk.now) (going.err_other c.from_residual.result _ _ c.from_residual.ensures.1 (λ is. absurd (cc)))

pub returns-then-options-clause-kept : goal.returns-then-options-clause-kept
returns-then-options-clause-kept g c = going.OnlyReads-nothing c.requires.valid (g.met.D.Desk.stays_itself c.args.desk.now) (λ is. absurd (cc))
