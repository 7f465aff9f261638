use Rattle.std.proofs.Common.{◌≡◌, IsTrue, length}
use Rattle.vs_undo.specs.Forgetting.{forgotten, forgotten_within, IsFresh}
use Rattle.vs_undo.specs.Forks.{IsStraightBelow}
use Rattle.vs_undo.specs.Meetings.{IsSettled}
use Rattle.vs_undo.proofs.forget.forget.Given as goal

abbrev pub invariant-forget : goal.invariant-forget
invariant-forget l = record {
  fresh : IsFresh l.parts;
  settled : IsTrue l.settled → IsSettled l.parts;
  straight : IsStraightBelow l.fork l.parts.nodes;
  left : forgotten_within (length l.parts.nodes) l.levels (record { tree = l.parts; root = l.root }) ≡ forgotten l.levels l.initial.parts;
}

abbrev pub decreases-forget : goal.decreases-forget
decreases-forget l = length l.parts.nodes
