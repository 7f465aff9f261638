-- The lines of the runs that were gone over are those of the first runs.
use Rattle.std.proofs.Common.{◌≡◌, ◌+◌, [], get_or, ◌∙◌, arith}
use Rattle.std.proofs.lemmas.List.{get_or_default}
use Rattle.vs_tree_blocks.proofs.BehindLemmas.{count_more, count_within}
use Rattle.vs_tree_blocks.proofs.edit.count_lines.Goals as goal

pub overflow_add-lines : goal.overflow_add-lines
overflow_add-lines c =
    let item : c.run-item.result ≡ get_or c.args.runs.now c.runs.run-index [] = c.run-item.is ∙ get_or_default c.args.runs.now c.runs.run-index c.run-item.result [] (omega arith) in
    let more = count_more c.args.runs.now c.runs.run-index c.run-item.result (omega arith) item in
    omega (arith, more, c.runs.invariant, c.len-lines.ensures.len, count_within c.args.runs.now (c.runs.run-index + 1), c.requires)

pub runs-preserved : goal.runs-preserved
runs-preserved c =
    let item : c.run-item.result ≡ get_or c.args.runs.now c.runs.run-index [] = c.run-item.is ∙ get_or_default c.args.runs.now c.runs.run-index c.run-item.result [] (omega arith) in
    omega (arith, count_more c.args.runs.now c.runs.run-index c.run-item.result (omega arith) item, c.runs.invariant, c.len-lines.ensures.len)
