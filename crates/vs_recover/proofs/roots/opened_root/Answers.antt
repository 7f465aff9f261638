use Rattle.std.proofs.Common.{Result, ap, sym, ◌∙◌}
use Rattle.vs_zero.specs.declared.Zero.{Zero}
use Rattle.vs_zero.specs.declared.ZeroErr.{ZeroErr}
use Rattle.vs_recover.specs.Choices.{root_in}
use Rattle.vs_recover.proofs.ChoiceLaws.{root_tree, root_no_tree}
use Rattle.vs_recover.proofs.ReadingLaws.{reads_none}
use Rattle.vs_recover.proofs.roots.opened_root.Goals as goal

pub returns-in-Err-clause-root : goal.returns-in-Err-clause-root
returns-in-Err-clause-root g c = λ file is.
    c.refused_root.ensures ∙ ap (λ (z : Result Zero ZeroErr). root_in file z) (sym c.in-Err.is ∙ c.requires.zero file is)

pub returns-then-branch-clause-root : goal.returns-then-branch-clause-root
returns-then-branch-clause-root g c = λ file is.
    root_tree file c.in-Ok.zero c.in_ok-reads_root.field-0 (sym (c.requires.zero file is) ∙ c.in-Ok.is) (c.in_ok-reads_root.ensures.value file is) c.if-branch.true

pub returns-clause-root : goal.returns-clause-root
returns-clause-root g c = λ file is.
    root_no_tree file c.in-Ok.zero c.in_ok-reads_root.field-0 (sym (c.requires.zero file is) ∙ c.in-Ok.is) (c.in_ok-reads_root.ensures.value file is) c.if-branch.false

pub returns-in-Err-clause-reading : goal.returns-in-Err-clause-reading
returns-in-Err-clause-reading g c = reads_none g.F.World.tells (λ is. cc)
