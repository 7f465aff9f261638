use Rattle.std.proofs.Common.{[], refl, ◌∙◌}
use Rattle.vs_pages.specs.Maps.{no_pages}
use Rattle.vs_pages.specs.Memory.{present_of}
use Rattle.vs_tree_blocks.proofs.FirstLemmas.{fresh_first}
use Rattle.vs_tree.specs.TextIn.{text_in-HasText}
use Rattle.vs_paged.proofs.opening.empty_in.Goals as goal

pub new-requires-clause-there : goal.new-requires-clause-there
new-requires-clause-there c = λ told. fresh_first _ c.requires

pub returns-clause-text : goal.returns-clause-text
returns-clause-text c = c.commit_in.ensures.text ∙ text_in-HasText (present_of c.new.new.pages) c.in-Ok.tree.present [] (c.in-Ok.ensures.text refl)

pub commit_in-requires-clause-filled : goal.commit_in-requires-clause-filled
commit_in-requires-clause-filled c = c.in-Ok.ensures.filled refl

pub returns-in-Err-clause-here : goal.returns-in-Err-clause-here
returns-in-Err-clause-here c = c.new.ensures.stays.backed no_pages

pub returns-clause-here : goal.returns-clause-here
returns-clause-here c here = c.commit_in.ensures.here (c.new.ensures.stays.backed no_pages here)
