-- The entry is taken out of the slots, which leaves the header, and the count is lowered, which leaves the slots.
use Rattle.std.proofs.Common.{sym, ap, ◌∙◌, arith}
use Rattle.std.specs.Prelude.{remove}
use Rattle.vs_ptr.specs.Blocks.{entry_of, slots_of}
use Rattle.vs_ptr.proofs.Entries.{map-remove}
use Rattle.vs_ptr.proofs.Headers.{header_from_view, view_in-same, same_in_header, slots_counted, entries_edited}
use Rattle.vs_ptr.proofs.PtrView.remove.Goals as goal

pub remove_entry-requires-clause-room : goal.remove_entry-requires-clause-room
remove_entry-requires-clause-room c = (header_from_view _ _ c.requires.view).room

pub set_count-requires-clause-view : goal.set_count-requires-clause-view
set_count-requires-clause-view c = view_in-same _ _ c.remove_entry.ensures.header c.remove_entry.auto.block ∙ c.requires.view

pub set_count-requires-clause-allowed : goal.set_count-requires-clause-allowed
set_count-requires-clause-allowed c = let header = header_from_view _ _ c.requires.view in omega arith

pub set_count-requires-clause-room : goal.set_count-requires-clause-room
set_count-requires-clause-room c = let header = header_from_view _ _ c.requires.view in omega arith

pub returns-clause-bytes : goal.returns-clause-bytes
returns-clause-bytes c =
    let counted = slots_counted _ _ (header_from_view _ _ c.requires.view) in
    record {
      unused_are = c.set_count.ensures.bytes.unused_are ∙ same_in_header _ _ 6 2 c.remove_entry.ensures.header (omega arith);
      slots_are = c.set_count.ensures.bytes.slots_are ∙ c.remove_entry.ensures.slots ∙ ap (λ slots. remove slots c.args.at) (sym counted);
    }

pub returns-clause-entries : goal.returns-clause-entries
returns-clause-entries c =
    let slots = slots_of c.args.block.now in
    entries_edited _ _ _ _ (remove slots c.args.at) (λ entries. remove entries c.args.at) c.requires.view c.set_count.ensures.view (returns-clause-bytes c).slots_are
    (map-remove entry_of slots c.args.at)
