-- The entries are copied while they are counted in neither block, and each block's count is then written: it is known where its slots stand.
use Rattle.std.proofs.Common.{take, drop, sym, ap, ◌∙◌, arith}
use Rattle.std.proofs.lemmas.List.{take-map, drop-map}
use Rattle.vs_ptr.specs.Blocks.{entry_of, slots_of}
use Rattle.vs_ptr.proofs.Headers.{header_from_view, view_in-same, same_in_header, slots_counted, entries_edited}
use Rattle.vs_ptr.proofs.Slots.{slots_taken}
use Rattle.vs_ptr.proofs.PtrView.split_into.Goals as goal

pub copy_entries-requires-clause-within : goal.copy_entries-requires-clause-within
copy_entries-requires-clause-within c = (header_from_view _ _ c.requires.view).room

pub copy_entries-requires-clause-room : goal.copy_entries-requires-clause-room
copy_entries-requires-clause-room c = let header = header_from_view _ _ c.requires.view in omega arith

pub set_count-requires-clause-view : goal.set_count-requires-clause-view
set_count-requires-clause-view c = view_in-same _ _ c.copy_entries.ensures.header c.copy_entries.auto.other ∙ c.fresh-moved.ensures.view

pub set_count-requires-clause-allowed : goal.set_count-requires-clause-allowed
set_count-requires-clause-allowed c = let header = header_from_view _ _ c.requires.view in rw c.fresh-moved.ensures.header (omega arith)

pub set_count-requires-clause-room : goal.set_count-requires-clause-room
set_count-requires-clause-room c = let header = header_from_view _ _ c.requires.view in omega arith

pub set_count-requires-2-clause-allowed : goal.set_count-requires-2-clause-allowed
set_count-requires-2-clause-allowed c = let header = header_from_view _ _ c.requires.view in omega arith

pub set_count-requires-2-clause-room : goal.set_count-requires-2-clause-room
set_count-requires-2-clause-room c = let header = header_from_view _ _ c.requires.view in omega arith

pub returns-clause-bytes : goal.returns-clause-bytes
returns-clause-bytes c =
    record {
      unused_are = c.set_count-2.ensures.bytes.unused_are;
      slots_are = c.set_count-2.ensures.bytes.slots_are ∙ slots_taken _ _ c.args.from (header_from_view _ _ c.requires.view) c.requires.place;
    }

pub returns-clause-entries : goal.returns-clause-entries
returns-clause-entries c =
    let slots = slots_of c.args.block.now in
    entries_edited _ _ _ _ (take c.args.from slots) (take c.args.from) c.requires.view c.set_count-2.ensures.view (returns-clause-bytes c).slots_are (sym (take-map entry_of c.args.from slots))

pub returns-clause-other_bytes : goal.returns-clause-other_bytes
returns-clause-other_bytes c =
    let counted = slots_counted _ _ (header_from_view _ _ c.requires.view) in
    record {
      unused_are = c.set_count.ensures.bytes.unused_are ∙ same_in_header _ _ 6 2 c.copy_entries.ensures.header (omega arith) ∙ c.fresh-moved.ensures.bytes.unused_are;
      slots_are = c.set_count.ensures.bytes.slots_are ∙ c.copy_entries.ensures.slots ∙ ap (drop c.args.from) (sym counted);
    }

pub returns-clause-other_entries : goal.returns-clause-other_entries
returns-clause-other_entries c =
    let slots = slots_of c.args.block.now in
    entries_edited _ _ _ _ (drop c.args.from slots) (drop c.args.from) c.requires.view c.set_count.ensures.view (returns-clause-other_bytes c).slots_are (sym (drop-map entry_of c.args.from slots))
