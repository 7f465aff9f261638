use Rattle.std.proofs.Common.{◌≡◌, ◌==◌, if◌then◌else◌, false, sym, ap, ◌∙◌, arith, option_map, unwrap_or}
use Rattle.std.proofs.lemmas.Bool.Decides.{nat_tests}
use Rattle.vs_undo.specs.declared.parts.Node.{Node}
use Rattle.vs_undo.specs.Ways.{parent_at}
use Rattle.vs_undo.proofs.NodeLemmas.{no_place, found_at}
use Rattle.vs_ubind.proofs.parting.current_of.Goals as goal

pub returns-in-Some : goal.returns-in-Some
returns-in-Some c =
    let head = c.args.history.now.current_head in
    let nodes = c.args.nodes.now in
    let other : (head == 0) ≡ false = grind (arith, nat_tests) in
    let here = found_at (λ (n : Node). n.number == head) nodes c.in-Some.i c.index-nodes-i.result (sym c.place_of.ensures ∙ c.in-Some.is) in
    sym (ap (λ b. if b then c.args.history.now.newest else unwrap_or (parent_at nodes head) 0) other ∙ ap (λ o. unwrap_or (option_map (λ (n : Node). n.parent) o) 0) here)

pub returns-in-None : goal.returns-in-None
returns-in-None c =
    let head = c.args.history.now.current_head in
    let nodes = c.args.nodes.now in
    let other : (head == 0) ≡ false = grind (arith, nat_tests) in
    let gone = no_place (λ (n : Node). n.number == head) nodes (sym c.place_of.ensures ∙ c.in-None.is) in
    sym (ap (λ b. if b then c.args.history.now.newest else unwrap_or (parent_at nodes head) 0) other ∙ ap (λ o. unwrap_or (option_map (λ (n : Node). n.parent) o) 0) gone)
