-- The place, the effect there, and the limits of a text, one after the other.
use Rattle.vs_edit.proofs.Steps.{OnlyReads-none, OnlyReads-trans}
use Rattle.vs_excmd.proofs.meaning.plan.Goals as goal

pub returns-in_err-place-clause-kept : goal.returns-in_err-place-clause-kept
returns-in_err-place-clause-kept g c = OnlyReads-none g.met.S.LineStore.stays_itself c.requires.valid

pub returns-in_err-plan-clause-kept : goal.returns-in_err-plan-clause-kept
returns-in_err-plan-clause-kept g c = c.effect.ensures.kept

pub returns-clause-allowed : goal.returns-clause-allowed
returns-clause-allowed g c = c.bounded.ensures.allowed

pub returns-clause-kept : goal.returns-clause-kept
returns-clause-kept g c = OnlyReads-trans g.met.S.LineStore.stays_on c.in_ok-plan.ensures.kept c.bounded.ensures.kept
