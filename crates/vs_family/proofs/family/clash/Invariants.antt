use Rattle.std.proofs.Common.{◌≡◌, ◌<◌, ℕ, false, get_or, []}
use Rattle.vs_family.specs.Family.{is_of_family, lasting_names, with_temporary}
use Rattle.vs_family.proofs.family.clash.Given as goal

abbrev pub invariant-loop-number : goal.invariant-loop-number
invariant-loop-number l = record {
  none : (k : ℕ) → k < l.number → with_temporary (is_of_family l.two) (get_or (lasting_names l.one) k []) ≡ false;
}
