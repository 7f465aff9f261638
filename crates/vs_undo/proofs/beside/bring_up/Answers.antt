use Rattle.std.proofs.Common.{get_or, set, sym, ap, ◌∙◌, refl}
use Rattle.vs_undo.specs.declared.parts.Node.{Node}
use Rattle.vs_undo.specs.Beside.{at_root}
use Rattle.vs_undo.proofs.NodeLemmas.{set_changed}
use Rattle.vs_undo.proofs.SearchLemmas.{place_is}
use Rattle.vs_undo.proofs.beside.bring_up.Goals as goal

pub returns-clause-up : goal.returns-clause-up
returns-clause-up c = λ is d.
    let nodes = c.args.nodes.now in
    let number = (get_or nodes c.args.place d).number in
    ap (λ (node : Node). set nodes c.args.place (at_root node)) c.node_mut.ensures.value
    ∙ set_changed number at_root nodes c.args.place c.node_mut.result.now (sym (place_is nodes number c.args.place d c.requires.rising c.requires.within refl))
