-- The trait asks that the store does not tell, and this one does.
use Rattle.std.proofs.Common.{refl}
use Rattle.vs_pages.specs.Memory.{present_of}
use Rattle.vs_pages.proofs.Lending.{lent_page}
use Rattle.vs_pages.proofs.lent.LentPagesPages.TheImpl.Goals as goal

pub damaged-tells : goal.damaged-tells
damaged-tells g c = absurd (c.requires.silent refl)

pub page-tells : goal.page-tells
page-tells g c = record { size = c.ensures.size; lent = lent_page c.result (present_of c.args.self.now.pages.now c.args.at) _ c.ensures.lent }
