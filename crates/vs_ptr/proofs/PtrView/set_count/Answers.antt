-- The count is the one field of the header that the write changes, and the write leaves the slots.
use Rattle.std.proofs.Common.{arith, inr}
use Rattle.vs_bytes.specs.Fields.{Little, bytes_of}
use Rattle.vs_bytes.proofs.FieldLaws.{length-bytes_of, field_at-with_field_apart}
use Rattle.vs_ptr.proofs.Headers.{header_from_view, view_from_header, header_counted, slots_recounted}
use Rattle.vs_ptr.proofs.PtrView.set_count.Goals as goal

pub returns-clause-view : goal.returns-clause-view
returns-clause-view c =
    let header = header_from_view _ _ c.requires.view in
    rw c.put_le_u16.ensures (view_from_header _ _ (header_counted _ _ c.args.count header c.ranges.count.fits c.requires.allowed c.requires.room))

pub returns-clause-bytes : goal.returns-clause-bytes
returns-clause-bytes c =
    let end = length-bytes_of Little 2 c.args.count in
    rw c.put_le_u16.ensures record {
      unused_are = field_at-with_field_apart c.args.block.now 2 (bytes_of Little 2 c.args.count) 6 2 (omega arith) (inr (omega arith));
      slots_are = slots_recounted c.args.block.now c.args.count (omega arith) c.ranges.count.fits;
    }
