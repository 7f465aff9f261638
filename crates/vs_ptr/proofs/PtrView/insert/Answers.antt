-- The entry is put among the slots, which leaves the header, and the count is raised, which leaves the slots.
use Rattle.std.proofs.Common.{map, sym, ap, ◌∙◌, arith}
use Rattle.std.specs.Prelude.{insert}
use Rattle.vs_ptr.specs.Blocks.{entry_of, bytes_of_entry, slots_of}
use Rattle.vs_ptr.proofs.Entries.{map-insert}
use Rattle.vs_ptr.proofs.Headers.{header_from_view, view_in-same, same_in_header, slots_counted, entries_edited}
use Rattle.vs_ptr.proofs.PtrView.insert.Goals as goal

pub set_count-requires-clause-view : goal.set_count-requires-clause-view
set_count-requires-clause-view c = view_in-same _ _ c.insert_entry.ensures.header c.insert_entry.auto.block ∙ c.requires.view

pub returns-clause-bytes : goal.returns-clause-bytes
returns-clause-bytes c =
    let slot = bytes_of_entry c.args.entry.now in
    let counted = slots_counted _ _ (header_from_view _ _ c.requires.view) in
    record {
      unused_are = c.set_count.ensures.bytes.unused_are ∙ same_in_header _ _ 6 2 c.insert_entry.ensures.header (omega arith);
      slots_are = c.set_count.ensures.bytes.slots_are ∙ c.insert_entry.ensures.slots ∙ ap (λ slots. insert slots c.args.at slot) (sym counted);
    }

pub returns-clause-entries : goal.returns-clause-entries
returns-clause-entries c =
    let slots = slots_of c.args.block.now in
    let slot = bytes_of_entry c.args.entry.now in
    entries_edited _ _ _ _ (insert slots c.args.at slot) (λ entries. insert entries c.args.at c.args.entry.now) c.requires.view c.set_count.ensures.view (returns-clause-bytes c).slots_are
    (map-insert entry_of slots c.args.at slot ∙ ap (insert (map entry_of slots) c.args.at) c.insert_entry.ensures.reads_back)
