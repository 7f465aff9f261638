use Rattle.std.proofs.Common.{refl, ◌∙◌}
use Rattle.vs_entries.specs.Entries.{Leads, LeadsCount}
use Rattle.vs_undo.proofs.PushLemmas.{first_tells}
use Rattle.vs_undo.proofs.tree.UndoTree.new.Goals as goal

pub returns-clause-counts : goal.returns-clause-counts
returns-clause-counts c = λ lines. record { counts = λ _. lines; are_states = first_tells LeadsCount lines c.of.result (c.of.ensures ∙ c.new.ensures.items); current = refl }

pub returns-clause-texts : goal.returns-clause-texts
returns-clause-texts c = λ text. record { texts = λ _. text; are_states = first_tells Leads text c.of.result (c.of.ensures ∙ c.new.ensures.items); current = refl }
