use Rattle.std.proofs.Common.{◌≡◌, ◌∙◌, ◌++◌, ◌∷◌, List, ℕ, [], ap, subst}
use Rattle.vs_text.specs.Limits.{IsShort}
use Rattle.vs_script.specs.Block.{Holds}
use Rattle.vs_script.proofs.Blocks.{kept_whole, kept_long, long_last, long_before, many_before, short_more}
use Rattle.vs_script.proofs.block.BlockLines.with.Goals as goal

pub returns-then-is_too_long-clause-holds : goal.returns-then-is_too_long-clause-holds
returns-then-is_too_long-clause-holds c = λ lines more held is.
    long_last lines more (kept_long c.args.line.now more is (c.is_too_long.ensures.long c.if-is_too_long.true))

pub returns-then-is_too_long-2-clause-holds : goal.returns-then-is_too_long-2-clause-holds
returns-then-is_too_long-2-clause-holds c = λ lines more held is.
    long_last lines more (kept_long c.args.line.now more is (c.is_too_long-in-TooMany.ensures.long c.if-is_too_long-2.true))

pub returns-else-is_too_long-clause-holds : goal.returns-else-is_too_long-clause-holds
returns-else-is_too_long-clause-holds c = λ lines more held is.
    let same : c.in-Kept.lines.items ≡ lines = rw c.in-Kept.is at held in
    let whole : c.args.line.now ≡ more = kept_whole c.args.line.now more is (c.is_too_long.ensures.short c.if-is_too_long.false) in
    subst (λ (l : List (List ℕ)). Holds c.kept_with.result l) (ap (λ (l : List (List ℕ)). l ++ c.args.line.now ∷ []) same ∙ ap (λ (m : List ℕ). lines ++ m ∷ []) whole) c.kept_with.ensures.holds

pub returns-else-is_too_long-2-clause-holds : goal.returns-else-is_too_long-2-clause-holds
returns-else-is_too_long-2-clause-holds c = λ lines more held is.
    let many = rw c.in-TooMany.is at held in
    let short = c.is_too_long-in-TooMany.ensures.short c.if-is_too_long-2.false in
    let whole : c.args.line.now ≡ more = kept_whole c.args.line.now more is short in
    (short_more lines more many.0 (subst IsShort whole short), many_before lines more many.1)

pub returns-in-TooLong-clause-holds : goal.returns-in-TooLong-clause-holds
returns-in-TooLong-clause-holds c = λ lines more held is. long_before lines more (rw c.in-TooLong.is at held)
