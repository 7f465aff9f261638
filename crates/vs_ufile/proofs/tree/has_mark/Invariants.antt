use Rattle.std.proofs.Common.{◌≡◌, ℕ, ◌<◌, false, get_or}
use Rattle.vs_ufile.proofs.tree.has_mark.Given as goal

abbrev pub invariant-places : goal.invariant-places
invariant-places l = (i : ℕ) → 0 < i → i < l.place → get_or l.marks i false ≡ false
