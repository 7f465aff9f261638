use Rattle.std.proofs.Common.{◌≡◌, if◌then◌else◌, refl}
use Rattle.vs_zero.specs.Layout.{version_field, page_size_field, file_name_field, flags_field, dirty_field}
use Rattle.vs_zero.proofs.Contents.{filled_next}
use Rattle.vs_zero.proofs.writing.put_file_fields.Goals as goal
use Rattle.vs_zero.proofs.writing.put_file_fields.Goals.{then-zero, else-zero}

pub returns : goal.returns
returns c =
    let version = filled_next version_field _ c.args.page.now refl c.put.ensures in
    let size = filled_next page_size_field _ c.put.new.page version c.put_le_u32.ensures in
    let name = filled_next file_name_field _ c.put_le_u32.new.b size (rw c.as_bytes.ensures.value at c.put-2.ensures) in
    let flags = filled_next flags_field _ c.put-2.new.page name c.put-3.ensures in
    let mark : c.if-zero.dirty ≡ (if c.args.zero.now.dirty then 0x55 else 0) =
    elim c.if-zero.branch [
      | then-zero w ↦ rw w.if-zero.true w.dirty-is
      | else-zero w ↦ rw w.if-zero.false w.dirty-is
    ] in
    filled_next dirty_field _ c.put-3.new.page flags (rw mark at c.put-4.ensures)
