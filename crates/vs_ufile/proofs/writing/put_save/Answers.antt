use Rattle.vs_ufile.specs.Format.{IsNumber}
use Rattle.vs_ufile.proofs.Writes.{puts_row, puts_last}
use Rattle.vs_ufile.proofs.writing.put_save.Goals as goal

pub returns : goal.returns
returns c =
    let a1 = c.put_u8.new.out.items in
    let a2 = c.put_u8-2.new.out.items in
    let a3 = c.put_u32.new.out.items in
    let a4 = c.put_u8-3.new.out.items in
    puts_row (IsNumber 1 4) _ c.args.out.now.items a1 a4 c.in_ok-put_u8.ensures
    (puts_row (IsNumber 1 1) _ a1 a2 a4 c.in_ok-put_u8-2.ensures
    (puts_row (IsNumber 4 c.args.save) _ a2 a3 a4 c.in_ok-put_u32.ensures
    (puts_last (IsNumber 1 0) a3 a4 c.in_ok-put_u8-3.ensures)))
