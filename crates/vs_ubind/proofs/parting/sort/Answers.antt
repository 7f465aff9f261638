use Rattle.std.proofs.Common.{rules}
use Rattle.std.proofs.lemmas.List.Sorted.{IsNonDecreasingBy-from_sort_by_key}
use Rattle.vs_undo.specs.declared.parts.Node.{Node}
use Rattle.vs_ubind.proofs.parting.sort.Goals as goal

pub returns-clause-rising : goal.returns-clause-rising
returns-clause-rising c = IsNonDecreasingBy-from_sort_by_key (λ (p : Node). p.number) _ c.in_ok-sort_by_key.ensures.sorted (λ a r q k. search rules)
