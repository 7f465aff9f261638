use Rattle.std.proofs.Common.{◌≡◌, ◌==◌, get_or, sym, ap, subst, ◌∙◌, option_map, unwrap_or, Some, None}
use Rattle.vs_undo.specs.declared.parts.Node.{Node}
use Rattle.vs_undo.specs.Ways.{node_at}
use Rattle.vs_undo.proofs.NodeLemmas.{no_place, found_at}
use Rattle.vs_ubind.proofs.linking.time_of.Goals as goal

pub returns-in-Some : goal.returns-in-Some
returns-in-Some c =
    let parts = c.args.parts.now in
    let nodes = c.nodes-nodes.result.now in
    let node = get_or nodes c.in-Some.i c.index-nodes-i.result in
    let here = found_at (λ (n : Node). n.number == parts.current) nodes c.in-Some.i c.index-nodes-i.result (sym c.find.ensures ∙ c.in-Some.is) in
    let there : node_at parts.nodes parts.current ≡ Some node = subst (λ ns. node_at ns parts.current ≡ Some node) c.nodes-nodes.ensures here in
    sym (ap (λ o. unwrap_or (option_map (λ (n : Node). n.time) o) 0) there)

pub returns-in-None : goal.returns-in-None
returns-in-None c =
    let parts = c.args.parts.now in
    let none = no_place (λ (n : Node). n.number == parts.current) c.nodes-nodes.result.now (sym c.find.ensures ∙ c.in-None.is) in
    let there : node_at parts.nodes parts.current ≡ None = subst (λ ns. node_at ns parts.current ≡ None) c.nodes-nodes.ensures none in
    sym (ap (λ o. unwrap_or (option_map (λ (n : Node). n.time) o) 0) there)
