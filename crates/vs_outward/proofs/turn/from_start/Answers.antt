use Rattle.std.proofs.Common.{subst}
use Rattle.vs_undo.specs.Ways.{IsBetween, IsWayOf}
use Rattle.vs_outward.proofs.TriedLemmas.{outward_between}
use Rattle.vs_outward.proofs.turn.from_start.Goals as goal

pub returns-clause-outward : goal.returns-clause-outward
returns-clause-outward c =
    let way = c.args.way.now in
    let to = c.in_ok-to.to.items in
    outward_between c.args.parts.now c.requires.sound.tree way to c.in_ok-more.more.items c.args.number c.requires.way
    (subst (λ ns. IsWayOf ns c.args.number to) c.nodes.ensures c.in_ok-to.ensures)
    (subst (λ xs. IsBetween way xs c.in_ok-more.more.items) c.deref.ensures.value c.in_ok-more.ensures)
