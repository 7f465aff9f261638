use Rattle.std.proofs.Common.{◌==◌, [], sym, ap, ◌∙◌, option_map, unwrap_or}
use Rattle.vs_undo.specs.declared.parts.Node.{Node}
use Rattle.vs_undo.proofs.NodeLemmas.{no_place, found_at}
use Rattle.vs_outward.proofs.crossing.entries_at.Goals as goal

pub returns-in-Some : goal.returns-in-Some
returns-in-Some c =
    let here = ap (λ o. unwrap_or (option_map (λ (n : Node). n.entries) o) []) (found_at (λ (n : Node). n.number == c.args.number) c.args.nodes.now c.in-Some.i c.index-nodes-i.result (sym c.find.ensures ∙ c.in-Some.is)) in
    cc

pub returns-in-None : goal.returns-in-None
returns-in-None c =
    sym (ap (λ o. unwrap_or (option_map (λ (n : Node). n.entries) o) []) (no_place (λ (n : Node). n.number == c.args.number) c.args.nodes.now (sym c.find.ensures ∙ c.in-None.is)))
