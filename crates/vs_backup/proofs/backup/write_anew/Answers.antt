use Rattle.std.proofs.Common.{refl}
use Rattle.vs_backup.proofs.Going as going
use Rattle.vs_backup.proofs.backup.write_anew.Goals as goal

pub returns-in_err-sync_directory-clause-kept : goal.returns-in_err-sync_directory-clause-kept
returns-in_err-sync_directory-clause-kept g c = going.GoesOn-failed c.from_residual-in_err-sync_directory.result _ c.from_residual-in_err-sync_directory.ensures.1 refl (going.GoesOn-then g.met.D.Desk.stays_on (λ is. absurd (cc)) c.in_ok-size.ensures.kept c.in_err-sync_directory.ensures.kept)

pub returns-clause-kept : goal.returns-clause-kept
returns-clause-kept g c = going.GoesOn-as (λ is. absurd (cc)) (λ _ is. absurd (cc)) (going.GoesOn-then g.met.D.Desk.stays_on (λ is. absurd (cc)) c.in_ok-size.ensures.kept c.in_ok-sync_directory.ensures.kept)
