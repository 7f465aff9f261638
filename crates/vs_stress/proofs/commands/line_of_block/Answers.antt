use Rattle.std.proofs.Common.{List, ℕ, sym, subst}
use Rattle.vs_text.specs.Text.{IsLine}
use Rattle.vs_stress.proofs.Lines.{numbered_line}
use Rattle.vs_stress.proofs.commands.line_of_block.Goals as goal

pub from_vec-requires : goal.from_vec-requires
from_vec-requires c = subst (λ (l : List ℕ). IsLine l) (sym c.in_ok-numbered.ensures) (numbered_line c.args.number c.args.digit c.ranges.number.fits c.requires)
