use Rattle.std.proofs.Common.{◌≡◌, ◌+◌, if◌then◌else◌, List, false}
use Rattle.std.specs.List.Sorted.{IsStrictlyIncreasing}
use Rattle.vs_undo.specs.declared.parts.Node.{Node}
use Rattle.vs_undo.specs.Beside.{deeper, IsFlat, IsFlatter}
use Rattle.vs_undo.specs.Numbers.{numbers}
use Rattle.vs_undo.proofs.beside.flatten_all.Given as goal

abbrev pub invariant-flatten : goal.invariant-flatten
invariant-flatten l = record {
  flatter : (first : List Node) → IsFlatter l.child first l.initial.nodes → IsFlatter l.child first l.nodes;
  rising : IsStrictlyIncreasing (numbers l.nodes);
  flat : l.again ≡ false → IsFlat l.child l.nodes;
}

abbrev pub decreases-flatten : goal.decreases-flatten
decreases-flatten l = deeper l.nodes + (if l.again then 1 else 0)
