use Rattle.vs_session.proofs.LookLemmas.{IsLook-then}
use Rattle.vs_session.proofs.opening.has_swap.Goals as goal

pub returns-clause-look : goal.returns-clause-look
returns-clause-look g c = IsLook-then g.F.World.tells c.has_file-2.result c.in_ok-has_file.ensures.look c.has_file-2.ensures.look (λ none. none) (λ failed. failed)
