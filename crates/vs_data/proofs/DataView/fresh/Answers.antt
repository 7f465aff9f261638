-- Zeros under the header of a block without lines.
use Rattle.std.proofs.Common.{◌≡◌, ℕ, ◌-◌, List, drop, replicate, ap, ◌∙◌}
use Rattle.std.proofs.lemmas.List.{drop-replicate}

zeros_after : (zeros : List ℕ) (n : ℕ) → zeros ≡ replicate n 0 → drop 24 zeros ≡ replicate (n - 24) 0
zeros_after zeros n is = ap (λ (xs : List ℕ). drop 24 xs) is ∙ drop-replicate 24 n 0
