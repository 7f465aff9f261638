-- The entry is put into its own slot.
use Rattle.std.proofs.Common.{arith}
use Rattle.vs_ptr.specs.Blocks.{bytes_of_entry}
use Rattle.vs_ptr.proofs.Headers.{header_from_view, same_in_header}
use Rattle.vs_ptr.proofs.Writing.{view_put, slots_put, entries_put}
use Rattle.vs_ptr.proofs.PtrView.replace.Goals as goal

pub put_entry-requires : goal.put_entry-requires
put_entry-requires c = let header = header_from_view _ _ c.requires.view in omega arith

pub returns-clause-view : goal.returns-clause-view
returns-clause-view c =
    rw c.put_entry.ensures.bytes (view_put _ _ c.args.at (bytes_of_entry c.args.entry.now) c.requires.view c.requires.place c.put_entry.ensures.len)

pub returns-clause-bytes : goal.returns-clause-bytes
returns-clause-bytes c = record {
  unused_are = same_in_header _ _ 6 2 c.put_entry.ensures.header (omega arith);
  slots_are = rw c.put_entry.ensures.bytes (slots_put _ _ c.args.at (bytes_of_entry c.args.entry.now) c.requires.view c.requires.place c.put_entry.ensures.len);
}

pub returns-clause-entries : goal.returns-clause-entries
returns-clause-entries c =
    rw c.put_entry.ensures.bytes (entries_put _ _ c.args.at c.args.entry.now c.requires.view c.requires.place c.put_entry.ensures.len c.put_entry.ensures.reads_back)
