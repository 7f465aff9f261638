-- The header is written whole, and it counts no slot.
use Rattle.std.proofs.Common.{◌-◌, ◌/◌, length, [], refl, arith}
use Rattle.vs_bytes.specs.Fields.{Little, bytes_of}
use Rattle.vs_bytes.proofs.FieldLaws.{field_at-with_field}
use Rattle.vs_ptr.proofs.Headers.{header_from_view, view_from_header, header_written, slots_counted, entries_counted}
use Rattle.vs_ptr.proofs.PtrView.fresh.Goals as goal

pub returns-clause-view : goal.returns-clause-view
returns-clause-view c =
    let most = (length c.args.block.now - 8) / 32 in
    rw (c.put_le_u16-4.ensures, c.put_le_u16-3.ensures, c.put_le_u16-2.ensures, c.put_le_u16.ensures)
    (view_from_header _ _ (header_written c.args.block.now most (omega arith) (omega arith)))

pub returns-clause-bytes : goal.returns-clause-bytes
unfolding bytes_of
returns-clause-bytes c = record {
  unused_are = rw c.put_le_u16-4.ensures (field_at-with_field c.put_le_u16-3.new.b 6 (bytes_of Little 2 0) 2 (omega arith) refl);
  slots_are = slots_counted _ _ (header_from_view _ _ (returns-clause-view c));
}

pub returns-clause-entries : goal.returns-clause-entries
returns-clause-entries c = entries_counted _ _ [] (returns-clause-view c) (returns-clause-bytes c).slots_are
