use Rattle.std.proofs.Common.{ℕ, ◌+◌, List, ap, arith, ◌∙◌}
use Rattle.vs_tree_blocks.specs.Cuts.{spread}
use Rattle.vs_tree_blocks.proofs.BlocksLemmas.{block_lines, cuts_as}
use Rattle.vs_tree.proofs.runs.put_runs.Goals as goal

pub returns-clause-filled : goal.returns-clause-filled
returns-clause-filled g c = λ full least one half.
    c.in_ok-after.ensures.filled least least (record { lines = full; some = one; half = half; sum = omega arith }) (omega (arith, c.in_ok-after.ensures.lines, c.in_ok-after.ensures.may_take, c.requires.some, c.requires.within))

pub returns-clause-cuts : goal.returns-clause-cuts
returns-clause-cuts g c = λ told. cuts_as _ _ _ _ _
    (λ lines rest parts into. into.3 ∙ ap (λ (ls : List (List ℕ)). spread ls (rest + 1) c.args.runs.now) (block_lines into.1 into.0 lines into.2))
    (c.in_ok-after.ensures.cuts told)
