use Rattle.std.proofs.Common.{Err, ap, subst, sym}
use Rattle.vs_ufile.specs.Signature.{IsUnreadable}
use Rattle.vs_ufile.proofs.Signed.{signed_decides}
use Rattle.vs_ufile.proofs.signature.check_signature.Goals as goal

pub returns-in-Err-clause-decides : goal.returns-in-Err-clause-decides
returns-in-Err-clause-decides c bytes same =
    subst (λ e. IsUnreadable e bytes) (sym c.error_of.ensures) (signed_decides c.in-Err.stop c.args.first.now c.in-Err.ensures.gives (λ memory. c.in-Err.ensures.placed (ap (λ stop. Err stop) memory)) bytes same)
