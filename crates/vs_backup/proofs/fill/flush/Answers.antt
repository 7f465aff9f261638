use Rattle.vs_backup.proofs.Going as going
use Rattle.vs_backup.proofs.fill.flush.Goals as goal

pub returns-then-is_empty-clause-kept : goal.returns-then-is_empty-clause-kept
returns-then-is_empty-clause-kept g c = going.GoesOn-nothing c.requires.valid (g.met.D.Desk.stays_itself c.args.desk.now) (λ is. absurd (cc))
