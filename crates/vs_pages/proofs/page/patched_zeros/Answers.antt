use Rattle.std.proofs.Common.{List, ℕ, Some, ap, ◌∙◌}
use Rattle.vs_bytes.specs.Fields.{with_field}
use Rattle.vs_pages.specs.Cells.{Kept}
use Rattle.vs_pages.specs.Maps.{zeros}
use Rattle.vs_pages.proofs.page.patched_zeros.Goals as goal

pub returns : goal.returns
unfolding zeros
returns c = ap (λ (b : List ℕ). Some (Kept b)) (c.patch.ensures ∙ ap (λ (b : List ℕ). with_field b c.args.from c.args.bytes.now) c.in_ok-buffer.ensures)
