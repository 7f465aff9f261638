use Rattle.std.proofs.Common.{◌≡◌, ℕ, ◌+◌, ◌-◌, ◌++◌, ◌∷◌, [], length, get_or, sym, ap, subst, ◌∙◌, arith, append_assoc}
use Rattle.vs_data.specs.Blocks.{lines_in}
use Rattle.vs_tree_blocks.proofs.DataLemmas.{count_is, line_at}
use Rattle.vs_tree.specs.Reads.{AddsEnded}
use Rattle.vs_tree.proofs.Ended.{ended_none, ended_next}
use Rattle.vs_tree.proofs.copy.append_ended.Goals as goal

pub lines-init : goal.lines-init
lines-init c = ended_none c.args.block.now c.args.into.now.items c.args.from (c.args.from - c.args.from) (omega arith)

pub lines-preserved : goal.lines-preserved
lines-preserved c =
    let n : ℕ = c.lines.line - c.args.from in
    let at : c.args.from + n ≡ c.lines.line = omega arith in
    ended_next c.args.block.now c.args.into.now.items c.lines.into.items c.push.new.self.items c.args.from n (c.lines.line + 1 - c.args.from) c.line-stored.result.now (omega arith) c.lines.invariant
    c.line-stored.ensures.no_zero (omega arith) (c.in_ok-push.ensures.items ∙ ap (λ xs. xs ++ 0 ∷ []) c.in_ok-extend_from_slice.ensures.items ∙ append_assoc c.lines.into.items c.line-stored.result.now (0 ∷ []))
    (λ all reads.
    let count : length all ≡ c.args.view.count = count_is c.args.block.now c.args.view all c.requires.view reads in
    let line : c.line-stored.result.now ≡ get_or all c.lines.line [] = line_at (lines_in c.args.block.now) all c.lines.line c.line-stored.result.now reads c.line-stored.ensures.line in
    (omega (arith, at, count), line ∙ ap (λ k. get_or all k []) (sym at)))

pub returns-clause-ended : goal.returns-clause-ended
returns-clause-ended c = λ yes.
    let all : c.lines.line ≡ c.args.past = omega arith in
    subst (λ (k : ℕ). AddsEnded c.args.block.now c.args.into.now.items c.lines.into.items c.args.from (k - c.args.from)) all c.lines.invariant
