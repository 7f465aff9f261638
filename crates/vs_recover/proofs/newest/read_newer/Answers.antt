use Rattle.std.proofs.Common.{sym}
use Rattle.vs_recover.specs.Choices.{generation_of}
use Rattle.vs_recover.proofs.ChoiceLaws.{first_recovers, newer_of, says_generation, second_recovers}
use Rattle.vs_recover.proofs.newest.read_newer.Goals as goal

pub returns-then-is_newer-clause-text : goal.returns-then-is_newer-clause-text
returns-then-is_newer-clause-text g c = λ told.
    second_recovers _ _ (generation_of c.args.swp_opening.now) (generation_of c.args.swo_opening.now) _ (says_generation _ _ (c.requires.swp told)) (says_generation _ _ (c.requires.swo told))
    (newer_of _ _ _ _ c.generation_of.ensures c.generation_of-2.ensures (sym c.if-is_newer.ensures)) (c.in_ok-found.ensures.text told)

pub returns-clause-text : goal.returns-clause-text
returns-clause-text g c = λ told.
    first_recovers _ _ (generation_of c.args.swp_opening.now) (generation_of c.args.swo_opening.now) _ (says_generation _ _ (c.requires.swp told)) (says_generation _ _ (c.requires.swo told))
    (newer_of _ _ _ _ c.generation_of.ensures c.generation_of-2.ensures (sym c.if-is_newer.ensures)) (c.in_ok-found-2.ensures.text told)
