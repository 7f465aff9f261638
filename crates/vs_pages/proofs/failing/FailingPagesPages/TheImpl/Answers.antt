-- No page is lent, so nothing is said of one.
use Rattle.std.proofs.Common.{◌≡◌, Option, None, Some}
use Rattle.std.specs.Prelude.{IfSome}
use Rattle.vs_pages.proofs.failing.FailingPagesPages.TheImpl.Goals as goal

if_none : {X : Type 0} (o : Option X) (P : X → Type 0) → o ≡ None → IfSome o P
if_none None P is = tt
if_none (Some x) P is = absurd (cc)

pub page-tells : goal.page-tells
page-tells g c = record { size = if_none c.result _ c.ensures; lent = if_none c.result _ c.ensures }
