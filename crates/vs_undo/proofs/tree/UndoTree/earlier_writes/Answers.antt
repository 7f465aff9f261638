use Rattle.std.proofs.Common.{◌≡◌, ◌≢◌, List, sym, subst, ◌∙◌, inl, refl}
use Rattle.vs_undo.specs.declared.parts.Node.{Node}
use Rattle.vs_undo.specs.declared.parts.Parts.{Parts}
use Rattle.vs_undo.specs.Ways.{start, IsWayOf}
use Rattle.vs_undo.specs.Writes.{earlier_save, earlier_write, IsAtOldestWrite, IsEarlierWrite}
use Rattle.vs_undo.proofs.tree.UndoTree.earlier_writes.Goals as goal

pub returns-clause-goal : goal.returns-clause-goal
returns-clause-goal g c =
    let parts = c.self.inside.parts in
    let way = c.in_ok-way.way.items in
    let is_way = subst (λ ns. IsWayOf ns parts.current way) c.nodes.ensures c.in_ok-way.ensures in
    let move = subst (λ w. (c.in-Some.number ≡ earlier_write parts.nodes w c.args.by) × (earlier_save parts.nodes w c.args.by ≡ 0 → start w ≢ 0)) c.deref-2.ensures.value
    (subst (λ (ns : List Node). (c.in-Some.number ≡ earlier_write ns c.deref-2.result.now c.args.by) × (earlier_save ns c.deref-2.result.now c.args.by ≡ 0 → start c.deref-2.result.now ≢ 0)) c.nodes-3.ensures (c.in-Some.ensures.goal, c.in-Some.ensures.moves)) in
    subst (λ (p : Parts). IsEarlierWrite p c.args.by c.in-Some.number) c.self.view_is (record { way = way; is_way = is_way; is = move.0; moves = λ none at. move.1 none (is_way.starts ∙ at) })

pub returns-in_default-clause-err : goal.returns-in_default-clause-err
returns-in_default-clause-err g c =
    let parts = c.self.inside.parts in
    let way = c.in_ok-way.way.items in
    let is_way = subst (λ ns. IsWayOf ns parts.current way) c.nodes.ensures c.in_ok-way.ensures in
    let none = subst (λ w. (earlier_save parts.nodes w c.args.by ≡ 0) × (start w ≡ 0)) c.deref-2.ensures.value
    (subst (λ (ns : List Node). (earlier_save ns c.deref-2.result.now c.args.by ≡ 0) × (start c.deref-2.result.now ≡ 0)) c.nodes-3.ensures c.in_default.ensures.goal) in
    inl (refl, subst (λ (p : Parts). IsAtOldestWrite p c.args.by) c.self.view_is (record { way = way; is_way = is_way; fewer = none.0; oldest = sym is_way.starts ∙ none.1 }))

pub invariant_of-self-2 : goal.invariant_of-self-2
invariant_of-self-2 g c = record { sound = c.go_to.ensures.sound; settled = c.go_to.ensures.settled; straight = c.go_to.ensures.straight c.self.inside.fork c.self.invariant.straight }
