use Rattle.std.proofs.Common.{sym, ◌∙◌, refl}
use Rattle.vs_memory.proofs.Stores.{mode_taken, mode_here}
use Rattle.vs_memory.specs.declared.file.MemFile.{MemFile}
use Rattle.vs_memory.proofs.folder.MemFolder.take_mode.Goals as goal

pub returns-in-Some-number : goal.returns-in-Some-number
returns-in-Some-number c =
    let was = c.index_mut.result.now in
    let kept : MemFile = record { mode = c.index.result.now.mode; bytes = was.bytes; changed = was.changed; least = was.least; greatest = was.greatest } in
    mode_taken c.args.self.now.changes.items c.args.self.now.pending c.args.self.now.files.items c.args.model.now c.args.name.now c.in-Some.from c.in-Some-number.to was kept
    c.in-Some-number.ensures.below c.index_mut.ensures.value refl (mode_here c.args.self.now.files.items c.in-Some.from c.index.result.now c.in-Some.ensures.below c.index.ensures)
    (sym c.in-Some.is ∙ c.number.ensures.value) (sym c.in-Some-number.is ∙ c.number-in-Some.ensures.value)
