use Rattle.std.proofs.Common.{◌≡◌, ℕ, ◌+◌, ◌-◌, List, refl, ap, subst, ◌∙◌, arith}
use Rattle.vs_tree_shape.specs.Changes.{splice}
use Rattle.vs_tree_shape.specs.Trees.{HasLines}
use Rattle.vs_tree_blocks.specs.Blocks.{tree_format}
use Rattle.vs_tree_blocks.proofs.DataLemmas.{length-put}
use Rattle.vs_tree.proofs.RunBlocks.{run_row}
use Rattle.vs_tree.proofs.runs.put_run.Goals as goal

pub returns-then-at-eq0-clause-filled : goal.returns-then-at-eq0-clause-filled
returns-then-at-eq0-clause-filled g c = λ full least one half.
    c.in_ok-before.ensures.filled least least (record { lines = full; some = one; half = half; sum = omega arith }) (omega (arith, c.in_ok-before.ensures.lines, c.in_ok-before.ensures.may_take, c.requires.some))

pub returns-clause-filled : goal.returns-clause-filled
returns-clause-filled g c = λ full least one half.
    c.in_ok-after.ensures.filled least least (record { lines = full; some = one; half = half; sum = omega arith }) (omega (arith, c.in_ok-after.ensures.lines, c.in_ok-after.ensures.may_take, c.requires.some))

pub returns-clause-put : goal.returns-clause-put
returns-clause-put g c = λ told lines has.
    let run : List (List ℕ) = c.args.run.now in
    let at : ℕ = c.args.at in
    let gone : ℕ = c.in_ok-after.after.removed.lines in
    let none : gone ≡ 0 = c.in_ok-after.ensures.may_take in
    let place : at - 1 + 1 ≡ at = omega (arith, c.if-at-eq0.false) in
    let is : splice lines (at - 1 + 1) gone run ≡ splice lines at 0 run = ap (λ (k : ℕ). splice lines k gone run) place ∙ ap (λ (k : ℕ). splice lines at k run) none in
    record {
      lines_are = subst (λ (xs : List (List ℕ)). HasLines tree_format (g.P.Pages.shows c.edit_tree-2.new.pages).present c.in_ok-after.after.root.height xs) is (c.in_ok-after.ensures.edited told lines has).0;
      count = omega (arith, length-put lines run at (omega (arith, c.requires.within, has.count)), has.count, c.in_ok-after.ensures.lines, none);
    }

pub returns-then-at-eq0-clause-holds : goal.returns-then-at-eq0-clause-holds
returns-then-at-eq0-clause-holds g c = λ some told.
    run_row (λ rest. rest) 0 _ _ 0 c.args.at c.args.run.now (λ rest. omega arith) (omega arith) some (omega (arith, c.if-at-eq0.true)) (c.in_ok-before.ensures.cuts told)

pub returns-clause-holds : goal.returns-clause-holds
returns-clause-holds g c = λ some told.
    run_row (λ rest. rest + 1) 1 _ _ (c.args.at - 1) c.args.at c.args.run.now (λ rest. refl) (omega arith) some (omega (arith, c.if-at-eq0.false)) (c.in_ok-after.ensures.cuts told)
