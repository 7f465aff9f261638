use Rattle.std.proofs.lemmas.List.Sorted.{Contains-permutation}
use Rattle.vs_outward.proofs.order.visits.Goals as goal

pub returns-clause-each : goal.returns-clause-each
returns-clause-each c = λ place within.
    let sorted = c.sort_unstable_by_key.ensures.permutation in
    Contains-permutation c.in_ok-visits.visits.items c.sort_unstable_by_key.new.self.items place sorted (c.in_ok-visits.ensures.each place within)
