use Rattle.std.proofs.Common.{length, ap, arith}
use Rattle.vs_paged.specs.Pages.{Opening}
use Rattle.vs_paged.proofs.PageLemmas.{text_had}
use Rattle.vs_paged.proofs.opening.OpeningText.len.Goals as goal

pub returns : goal.returns
returns c = omega (arith, c.len.ensures, (text_had _ _ c.self.invariant.0.present_fits).lines, ap (λ (o : Opening). length o.text) c.self.view_is)
