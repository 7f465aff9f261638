use Rattle.std.proofs.Common.{◌≡◌, ◌≢◌, ◌<◌, ◌≤◌, ◌-◌, ℕ, get_or, length}
use Rattle.vs_undo.specs.declared.parts.Node.{Node}
use Rattle.vs_outward.proofs.way.counts_on.Given as goal

abbrev pub invariant-loop-k : goal.invariant-loop-k
invariant-loop-k l = record {
  count : length l.counts.items ≡ length l.nodes;
  each : (i : ℕ) (node : Node) → i < length l.nodes → get_or l.counts.items i 0 ≢ 0
      → (get_or l.counts.items i 0 ≤ length l.changes) × (get_or l.changes (get_or l.counts.items i 0 - 1) 0 ≡ (get_or l.nodes i node).number);
  all : (i k : ℕ) (node : Node) → i < length l.nodes → k < l.k → get_or l.changes k 0 ≡ (get_or l.nodes i node).number → get_or l.counts.items i 0 ≢ 0;
}
