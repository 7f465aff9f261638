use Rattle.std.specs.Prelude.{[], ◌∷◌, None}
use Rattle.vs_safety.specs.Texts.{RecoversOrNone}
use Rattle.vs_both.proofs.Begun.{begins_own, begins_second, begun_first, has_begun}
use Rattle.vs_both.proofs.laws.beginning.Goals as goal

pub returns-clause-own : goal.returns-clause-own
returns-clause-own c = begins_own

pub returns-clause-opens : goal.returns-clause-opens
returns-clause-opens c = has_begun

pub returns-clause-first : goal.returns-clause-first
returns-clause-first c = λ party other document other_document start mid now has other_has apart frame. begun_first party other has other_has apart document None (RecoversOrNone other.names (other_document ∷ [])) start mid now frame

pub returns-clause-second : goal.returns-clause-second
returns-clause-second c = λ party other document other_document start mid now has other_has apart frame. begins_second party other has other_has apart document None (RecoversOrNone other.names (other_document ∷ [])) start mid now frame
