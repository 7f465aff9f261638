use Rattle.std.proofs.Common.{List, IfOk, subst, refl}
use Rattle.std.proofs.lemmas.Result.{IfOk-weaker}
use Rattle.vs_undo.specs.declared.parts.Node.{Node}
use Rattle.vs_undo.specs.Ways.{IsWayOf}
use Rattle.vs_undo.specs.Meetings.{Meets}
use Rattle.vs_undo.proofs.MeetingLemmas.{met_at_root, met_settled}
use Rattle.vs_undo.proofs.meeting.meeting_with.Goals as goal

pub returns-then-settled : goal.returns-then-settled
returns-then-settled c =
    let parts = c.args.parts.now in
    IfOk-weaker c.climb.result _ _ (λ meeting meets. met_settled parts c.args.number meeting (c.requires.settled c.if-settled.true) meets)
    (subst (λ (ns : List Node). IfOk c.climb.result (λ meeting. Meets ns parts.current c.args.number meeting)) c.nodes-nodes.ensures c.climb.ensures)

pub returns : goal.returns
returns c =
    let parts = c.args.parts.now in
    met_at_root parts c.args.number _
    (subst (λ (ns : List Node). IsWayOf ns parts.current c.in_ok-from.from.items) c.nodes-nodes.ensures c.in_ok-from.ensures)
    (subst (λ (ns : List Node). IsWayOf ns c.args.number c.in_ok-to.to.items) c.nodes-nodes.ensures c.in_ok-to.ensures) refl
