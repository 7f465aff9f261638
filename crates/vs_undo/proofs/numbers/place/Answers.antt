use Rattle.std.proofs.Common.{◌≡◌, ◌==◌, ◌+◌, [], suc, get_or, sym, ap, ◌∙◌, arith}
use Rattle.std.proofs.lemmas.List.Quantifiers.{position-Some}
use Rattle.std.proofs.lemmas.Bool.Decides.{nat_tests}
use Rattle.vs_undo.specs.declared.parts.Node.{Node}
use Rattle.vs_undo.specs.Numbers.{numbers}
use Rattle.vs_undo.proofs.NodeLemmas.{no_place}
use Rattle.vs_undo.proofs.NumberLemmas.{number_at, not_kept}
use Rattle.vs_undo.proofs.numbers.place.Goals as goal

pub returns-in-Some-clause-here : goal.returns-in-Some-clause-here
returns-in-Some-clause-here c =
    let nodes = c.args.nodes.now in
    let d : Node = record { number = 0; parent = 0; last_child = 0; time = 0; save = 0; entries = [] } in
    let found = position-Some (λ (n : Node). n.number == c.args.number) nodes c.in-Some.i d (sym c.find.ensures ∙ c.in-Some.is) in
    let test = found.1 in
    let same : (get_or nodes c.in-Some.i d).number ≡ c.args.number = grind (arith, nat_tests) in
    let at : c.in-Some.i + 1 ≡ suc c.in-Some.i = omega arith in
    ap (λ k. get_or (numbers nodes) k 0) at ∙ (number_at nodes c.in-Some.i d found.0 ∙ same)

pub returns-in-None-clause-here : goal.returns-in-None-clause-here
returns-in-None-clause-here c =
    sym (not_kept c.args.nodes.now c.args.number c.requires.kept (no_place (λ (n : Node). n.number == c.args.number) c.args.nodes.now (sym c.find.ensures ∙ c.in-None.is)))
