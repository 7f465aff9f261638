-- The entry that was read is put back with its lines raised.
use Rattle.std.proofs.Common.{ap, ◌∙◌}
use Rattle.std.proofs.lemmas.Int.{to_z-of_z}
use Rattle.std.specs.Int.{w64}
use Rattle.vs_ptr.specs.Blocks.{with_lines_added}
use Rattle.vs_ptr.proofs.PtrView.add_lines.Goals as goal

pub returns-clause-bytes : goal.returns-clause-bytes
returns-clause-bytes c =
    let added = c.add_to_lines-entry.ensures ∙ ap (with_lines_added c.entry.result) (to_z-of_z w64 c.args.by c.ranges.by) in
    rw (c.entry.ensures, ← added) c.replace.ensures.bytes

pub returns-clause-entries : goal.returns-clause-entries
returns-clause-entries c =
    let added = c.add_to_lines-entry.ensures ∙ ap (with_lines_added c.entry.result) (to_z-of_z w64 c.args.by c.ranges.by) in
    rw (c.entry.ensures, ← added) c.replace.ensures.entries
