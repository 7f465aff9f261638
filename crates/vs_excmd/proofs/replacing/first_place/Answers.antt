use Rattle.vs_excmd.proofs.MatchLemmas.{none-from, first-from}
use Rattle.vs_excmd.proofs.replacing.first_place.Goals as goal

pub returns-in-None-clause-none : goal.returns-in-None-clause-none
returns-in-None-clause-none c =
    let found = rw c.split_at.ensures.back at c.in-None.ensures in
    none-from c.args.line.now c.args.finder.now c.args.from c.requires.within found

pub returns-in-Some-clause-first : goal.returns-in-Some-clause-first
returns-in-Some-clause-first c =
    let found = rw c.split_at.ensures.back at c.in-Some.ensures in
    first-from c.args.line.now c.args.finder.now c.args.from c.in-Some.place c.requires.within c.requires.some found
