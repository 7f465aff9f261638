use Rattle.vs_undo.proofs.ReadyLemmas.{not_moved}
use Rattle.vs_undo.proofs.tree.UndoTree.forward.Goals as goal

pub returns-in_err-go_to-clause-moves : goal.returns-in_err-go_to-clause-moves
returns-in_err-go_to-clause-moves g c = not_moved c.self.view_is c.from_residual.result c.from_residual.ensures.1 c.in_err-go_to.ensures.atomic

pub invariant_of-self-2 : goal.invariant_of-self-2
invariant_of-self-2 g c = record { sound = c.go_to.ensures.sound; settled = c.go_to.ensures.settled; straight = c.go_to.ensures.straight c.self.inside.fork c.self.invariant.straight }
