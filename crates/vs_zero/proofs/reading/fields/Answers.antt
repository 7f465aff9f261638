-- Each field by its own equation.
use Rattle.std.proofs.Common.{slice_index, refl}
use Rattle.std.proofs.lemmas.Nat.{and_mask}
use Rattle.vs_zero.specs.Zero.{fields_of}
use Rattle.vs_zero.proofs.reading.fields.Goals as goal

pub returns : goal.returns
unfolding fields_of
returns c = rw (c.le_u32.ensures, and_mask (slice_index c.args.page.now 1006) 2, c.pair.ensures) refl
