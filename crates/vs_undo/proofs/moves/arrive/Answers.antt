use Rattle.std.proofs.Common.{ℕ, List, ◌∷◌, ◌++◌, map, sym, ap, subst, ◌∙◌}
use Rattle.std.specs.List.Sorted.{IsStrictlyIncreasing}
use Rattle.vs_undo.specs.declared.parts.Node.{Node}
use Rattle.vs_undo.specs.declared.parts.Parts.{Parts}
use Rattle.vs_undo.specs.History.{installed, used}
use Rattle.vs_undo.specs.Meetings.{used_below}
use Rattle.vs_undo.proofs.MeetingLemmas.{used_meeting}
use Rattle.vs_undo.proofs.MoveLemmas.{installed_numbers}
use Rattle.vs_undo.proofs.moves.arrive.Goals as goal

pub use_below-requires : goal.use_below-requires
use_below-requires c =
    let parts = c.args.parts.now in
    let same = ap (λ (p : Parts). map (λ (n : Node). n.number) p.nodes) c.turn.ensures ∙ installed_numbers c.args.path.now c.args.turned.items parts.nodes in
    subst (λ ns. IsStrictlyIncreasing (0 ∷ ns)) (sym same) c.requires.sound.numbers.rising

pub returns : goal.returns
returns c = λ is.
    let parts = c.args.parts.now in
    let meeting = c.args.meeting.now in
    let path = c.args.path.now in
    let turned = c.args.turned.items in
    let there : Parts = record parts { nodes = installed path turned parts.nodes } in
    let way = meeting.to.items ++ is.meets.rest in
    ap (λ (p : Parts). record p { current = c.args.number })
    (c.use_below.ensures ∙ ap (used_below c.deref.result.now meeting.top) c.turn.ensures ∙ ap (λ (w : List ℕ). used_below w meeting.top there) c.deref.ensures.value
    ∙ used_meeting parts c.args.number meeting path turned c.requires.sound is)
    ∙ ap (λ n. record (used way there) { current = n }) (sym is.meets.to.starts)
