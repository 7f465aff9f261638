use Rattle.std.proofs.Common.{◌≡◌, List, Some, None, sym, ap, ◌∙◌, inl, refl}
use Rattle.vs_undo.specs.declared.parts.Node.{Node}
use Rattle.vs_undo.specs.declared.parts.Parts.{Parts}
use Rattle.vs_undo.specs.Ways.{parent_at}
use Rattle.vs_undo.proofs.ReadyLemmas.{moved}
use Rattle.vs_undo.proofs.SoundLemmas.{parent_kept, root_is}
use Rattle.vs_undo.proofs.tree.UndoTree.back.Goals as goal

pub returns-in_default-clause-err : goal.returns-in_default-clause-err
returns-in_default-clause-err g c =
    let parts = c.self.inside.parts in
    let none : parent_at parts.nodes parts.current ≡ None = ap (λ (ns : List Node). parent_at ns parts.current) (sym c.nodes.ensures) ∙ (sym c.parent.ensures ∙ c.in_default.is) in
    inl (refl, ap (λ (p : Parts). p.current) (sym c.self.view_is) ∙ root_is parts.nodes parts.current c.self.invariant.sound.current none)

pub go_to-requires-clause-kept : goal.go_to-requires-clause-kept
go_to-requires-clause-kept g c =
    let parts = c.self.inside.parts in
    let some : parent_at parts.nodes parts.current ≡ Some c.in-Some.number = ap (λ (ns : List Node). parent_at ns parts.current) (sym c.nodes.ensures) ∙ (sym c.parent.ensures ∙ c.in-Some.is) in
    parent_kept parts.nodes parts.current c.in-Some.number c.self.invariant.sound.tree some

pub invariant_of-self-2 : goal.invariant_of-self-2
invariant_of-self-2 g c = record { sound = c.go_to.ensures.sound; settled = c.go_to.ensures.settled; straight = c.go_to.ensures.straight c.self.inside.fork c.self.invariant.straight }

pub returns-clause-moves : goal.returns-clause-moves
returns-clause-moves g c = moved c.self.view_is c.in_ok-go_to.ensures.moved c.in_ok-go_to.ensures.atomic
