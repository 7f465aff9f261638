use Rattle.std.proofs.Common.{refl}
use Rattle.vs_zero.specs.Layout.{magic_long_field, magic_int_field, magic_short_field, magic_char_field}
use Rattle.vs_zero.proofs.Contents.{filled_next}
use Rattle.vs_zero.proofs.writing.put_magic_fields.Goals as goal

pub returns : goal.returns
returns c =
    let long = filled_next magic_long_field _ c.args.page.now refl c.put_le_u64.ensures in
    let int = filled_next magic_int_field _ c.put_le_u64.new.b long c.put_le_u32.ensures in
    let short = filled_next magic_short_field _ c.put_le_u32.new.b int c.put_le_u16.ensures in
    filled_next magic_char_field _ c.put_le_u16.new.b short c.put.ensures
