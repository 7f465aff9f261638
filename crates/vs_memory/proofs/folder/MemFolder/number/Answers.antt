use Rattle.std.proofs.Common.{List, ap, ◌∙◌}
use Rattle.vs_memory.specs.declared.names.NameChange.{NameChange}
use Rattle.vs_memory.specs.Images.{names_after}
use Rattle.vs_memory.proofs.Stores.{leads}
use Rattle.vs_memory.proofs.folder.MemFolder.number.Goals as goal

pub returns-clause-value : goal.returns-clause-value
returns-clause-value c =
    leads c.args.self.now.changes.items c.args.self.now.pending c.args.self.now.files.items c.args.name.now c.number_of.result
    (c.number_of.ensures.value ∙ ap (λ (cs : List NameChange). names_after cs c.args.name.now) c.deref.ensures.value)
