use Rattle.std.proofs.Common.{◌≡◌, ◌⊎◌, ◌<◌, ◌≤◌, ◌+◌, ℕ, length, get_or}
use Rattle.vs_memory.proofs.image.fill.Given as goal

abbrev pub invariant-loop-k : goal.invariant-loop-k
invariant-loop-k l = record {
  size : length l.bytes ≡ length l.fn.bytes;
  inside : (j : ℕ) → l.at ≤ j → j < l.k → get_or l.bytes j 0 ≡ l.byte;
  outside : (j : ℕ) → (j < l.at) ⊎ (l.at + l.len ≤ j) → get_or l.bytes j 0 ≡ get_or l.fn.bytes j 0;
}
