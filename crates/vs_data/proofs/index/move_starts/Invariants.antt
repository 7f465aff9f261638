use Rattle.vs_data.proofs.Entries.{EntriesMoved}
use Rattle.vs_data.proofs.index.move_starts.Given as goal

-- the entries before this one are moved
abbrev pub invariant-loop-line : goal.invariant-loop-line
invariant-loop-line l = EntriesMoved l.fn.block l.block l.first l.line l.start l.to
