use Rattle.std.proofs.Common.{List, ℕ, Option, sym, subst, ◌∙◌}
use Rattle.vs_host.specs.World.{content_of}
use Rattle.vs_recover.specs.Choices.{IsFound}
use Rattle.vs_recover.proofs.ChoiceLaws.{fault_refuses, roots_are, roots_refuse}
use Rattle.vs_recover.proofs.choices.choose_of.Goals as goal

pub returns-in-Err-clause-answer : goal.returns-in-Err-clause-answer
returns-in-Err-clause-answer g c = λ told. fault_refuses _ _ c.in-Err.fault c.error_of.result c.error_of.ensures

pub returns-in-Text-clause-answer : goal.returns-in-Text-clause-answer
returns-in-Text-clause-answer g c = λ told. subst (λ found. IsFound (content_of (g.F.World.scene c.args.host.now) c.args.swp.now) (content_of (g.F.World.scene c.args.host.now) c.args.swo.now) found) c.in-Text.is (c.in-Ok.ensures.found told)

pub returns-in-Ok-choose_root-clause-answer : goal.returns-in-Ok-choose_root-clause-answer
returns-in-Ok-choose_root-clause-answer g c = λ told.
    let swp : Option (List ℕ) = content_of (g.F.World.scene c.args.host.now) c.args.swp.now in
    let swo : Option (List ℕ) = content_of (g.F.World.scene c.args.host.now) c.args.swo.now in
    let found = subst (λ found. IsFound swp swo found) c.in-Roots.is (c.in-Ok.ensures.found told) in
    (found.0, roots_are swp swo c.in-Roots.roots found ∙ sym c.in-Ok-choose_root.ensures.value)

pub returns-in-Err-choose_root-clause-answer : goal.returns-in-Err-choose_root-clause-answer
returns-in-Err-choose_root-clause-answer g c = λ told.
    let swp : Option (List ℕ) = content_of (g.F.World.scene c.args.host.now) c.args.swp.now in
    let swo : Option (List ℕ) = content_of (g.F.World.scene c.args.host.now) c.args.swo.now in
    let found = subst (λ found. IsFound swp swo found) c.in-Roots.is (c.in-Ok.ensures.found told) in
    roots_refuse swp swo c.in-Err-choose_root.why found.0 (roots_are swp swo c.in-Roots.roots found ∙ sym c.in-Err-choose_root.ensures.value)
