use Rattle.std.proofs.Common.{◌≡◌, ◌<◌, ℕ, false, get_or, []}
use Rattle.std.specs.Str.{bytes_eq}
use Rattle.vs_family.specs.Family.{lasting_names, with_temporary}
use Rattle.vs_family.specs.Pieces.{spelled}
use Rattle.vs_family.proofs.family.is_in_family.Given as goal

abbrev pub invariant-loop-number : goal.invariant-loop-number
invariant-loop-number l = record {
  none : (k : ℕ) → k < l.number → with_temporary (bytes_eq (spelled l.name)) (get_or (lasting_names l.file) k []) ≡ false;
}
