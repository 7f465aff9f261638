-- The lines that are moved go from one side to the other.
use Rattle.std.proofs.Common.{◌∙◌, ℕ, List, ap, arith, length, length-append}
use Rattle.vs_gap.proofs.gap.move_gap.Goals as goal

pub raise-requires : goal.raise-requires
raise-requires c =
    let same = ap (λ (xs : List (List ℕ)). length xs) c.in_ok-lower.ensures.lines in
    omega (arith, same, c.requires, length-append c.lower.new.before.items c.lower.new.after.items, length-append c.args.before.now.items c.args.after.now.items)

pub returns-in_err-raise-clause-lines : goal.returns-in_err-raise-clause-lines
returns-in_err-raise-clause-lines c = c.raise.ensures.lines ∙ c.in_ok-lower.ensures.lines

pub returns-clause-lines : goal.returns-clause-lines
returns-clause-lines c = c.raise.ensures.lines ∙ c.in_ok-lower.ensures.lines
