use Rattle.vs_ubind.proofs.Unique.{same_entries, same_links}
use Rattle.vs_ubind.proofs.parting.one_meaning.Goals as goal

pub returns : goal.returns
returns c = λ h a b rules ma mb. (same_links h rules a b ma mb, same_entries h rules a b ma mb)
