use Rattle.std.proofs.Common.{◌+◌, arith, sym, ◌∙◌}
use Rattle.vs_recover.proofs.MarkLaws.{all_free, clash, still_free, used_where}
use Rattle.vs_recover.proofs.marks.Marks.are_free.Goals as goal

pub loop-page-init : goal.loop-page-init
loop-page-init c = λ i lt. absurd (omega arith)

pub loop-page-preserved : goal.loop-page-preserved
loop-page-preserved c = still_free c.args.self.now c.args.block c.loop-page.page (sym c.is_marked.ensures ∙ c.if-is_marked.false) c.loop-page.invariant

pub returns-then-is_marked-clause-clash : goal.returns-then-is_marked-clause-clash
returns-then-is_marked-clause-clash c = λ _.
    clash c.args.self.now c.args.block c.args.pages (c.args.block + c.loop-page.page) (used_where c.args.self.now (c.args.block + c.loop-page.page) (sym c.is_marked.ensures ∙ c.if-is_marked.true)) (omega arith) (omega arith)

pub returns-clause-free : goal.returns-clause-free
returns-clause-free c = λ _. all_free c.args.self.now c.args.block c.args.pages (λ i lt. c.loop-page.invariant i (omega arith))
