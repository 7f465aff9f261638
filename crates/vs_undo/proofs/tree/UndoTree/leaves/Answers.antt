use Rattle.std.proofs.Common.{◌≡◌, ◌==◌, List, subst, IfOk}
use Rattle.std.specs.List.{AllZip, filter}
use Rattle.std.proofs.lemmas.Result.{IfOk-weaker}
use Rattle.vs_undo.specs.declared.parts.Node.{Node}
use Rattle.vs_undo.specs.declared.parts.Parts.{Parts}
use Rattle.vs_undo.specs.Leaves.{AreLeaves, IsLeaf, leaves_of}
use Rattle.vs_undo.proofs.LeafLemmas.{are_leaves_of, leaves_are}
use Rattle.vs_undo.proofs.tree.UndoTree.leaves.Goals as goal

pub returns-clause-leaves : goal.returns-clause-leaves
returns-clause-leaves c =
    let parts = c.self.inside.parts in
    let by_test = subst (λ (ns : List Node). IfOk c.leaves_of.result (λ leaves. AllZip (IsLeaf ns) (filter (λ (n : Node). n.last_child == 0) ns) leaves.items)) c.nodes.ensures c.leaves_of.ensures in
    let here = subst (λ ns. IfOk c.leaves_of.result (λ leaves. AllZip (IsLeaf parts.nodes) ns leaves.items)) (leaves_are parts c.self.invariant.sound) by_test in
    subst (λ (p : Parts). IfOk c.leaves_of.result (λ leaves. AreLeaves p.nodes leaves.items)) c.self.view_is here

pub returns-clause-list : goal.returns-clause-list
returns-clause-list c =
    let parts = c.self.inside.parts in
    let by_test = subst (λ (ns : List Node). IfOk c.leaves_of.result (λ leaves. AllZip (IsLeaf ns) (filter (λ (n : Node). n.last_child == 0) ns) leaves.items)) c.nodes.ensures c.leaves_of.ensures in
    let here = subst (λ ns. IfOk c.leaves_of.result (λ leaves. AllZip (IsLeaf parts.nodes) ns leaves.items)) (leaves_are parts c.self.invariant.sound) by_test in
    subst (λ (p : Parts). IfOk c.leaves_of.result (λ leaves. leaves.items ≡ leaves_of p.nodes)) c.self.view_is
    (IfOk-weaker c.leaves_of.result _ _ (λ leaves are. are_leaves_of parts.nodes leaves.items c.self.invariant.sound.tree are) here)
