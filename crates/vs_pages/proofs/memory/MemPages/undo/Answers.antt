use Rattle.std.proofs.Common.{[], ◌∷◌, ◌++◌, ap, ◌∙◌}
use Rattle.vs_pages.specs.Cells.{put_cell, rewritten}
use Rattle.vs_pages.specs.Memory.{kept_of}
use Rattle.vs_pages.specs.declared.change.Change.{Change}
use Rattle.vs_pages.specs.declared.change.Change.TheVariants as kinds
use Rattle.vs_pages.proofs.Ends.{end_patched, gaps_rest}
use Rattle.vs_pages.proofs.Undos.{reverse_last}
use Rattle.vs_pages.proofs.memory.MemPages.undo.Goals as goal

pub invariant_of-self-clause-ends : goal.invariant_of-self-clause-ends
invariant_of-self-clause-ends c = c.undo_run-self.ensures.used

pub invariant_of-self-in-Some-Patch-clause-ends : goal.invariant_of-self-in-Some-Patch-clause-ends
invariant_of-self-in-Some-Patch-clause-ends c =
    end_patched (kept_of c.args.self.now) _ _ c.in-Some-Patch.patch.at c.in-Some-Patch.patch.from c.deref.result.now c.patch.ensures.cells c.args.self.now.ends

pub invariant_of-self-in-Some-Patch-clause-no_gaps : goal.invariant_of-self-in-Some-Patch-clause-no_gaps
invariant_of-self-in-Some-Patch-clause-no_gaps c =
    let old = kept_of c.args.self.now in
    let patch = c.in-Some-Patch.patch in
    gaps_rest old _ (kinds.Patch patch) _ _
    (reverse_last c.args.self.now.log.items c.pop.new.self.items (kinds.Patch patch)
    (c.in-Some-Patch.ensures.items ∙ ap (λ (change : Change). c.pop.new.self.items ++ change ∷ []) c.in-Some-Patch.field-0-is))
    (c.patch.ensures.cells ∙ ap (λ b. put_cell old patch.at (rewritten (old patch.at) patch.from b)) c.deref.ensures.value) c.args.self.now.no_gaps
