-- What the changes of a tree end as, where one of them is lent to be written.
use Rattle.std.specs.Prelude.{ℕ, List, slice_set}
use Rattle.std.specs.Borrow.{Lends, MutBor, Fml}
use Rattle.vs_undo.specs.declared.parts.Node.{Node}
use Rattle.vs_undo.specs.contracts.parts.Nodes.{the_row}
use Rattle.vs_undo.specs.contracts.parts.Node as node

-- the changes, of which the one at a place is as it was left
abbrev pub LendsNode : MutBor (List Node) → ℕ → MutBor Node → Fml
LendsNode nodes place lent = Lends the_row node.the_row nodes lent (λ left. slice_set nodes.now place left)
