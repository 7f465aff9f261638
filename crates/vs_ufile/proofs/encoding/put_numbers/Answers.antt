use Rattle.vs_ufile.specs.Format.{IsNumber}
use Rattle.vs_ufile.proofs.Writes.{puts_row, puts_last}
use Rattle.vs_ufile.proofs.encoding.put_numbers.Goals as goal

pub returns : goal.returns
returns c =
    let h = c.args.history.now in
    let a1 = c.put_u32.new.out.items in
    let a2 = c.put_u32-2.new.out.items in
    let a3 = c.put_u32-3.new.out.items in
    let a4 = c.put_u32-4.new.out.items in
    let a5 = c.put_u32-5.new.out.items in
    let a6 = c.put_u32-6.new.out.items in
    puts_row (IsNumber 4 h.oldest) _ c.args.out.now.items a1 a6 c.in_ok-put_u32.ensures
    (puts_row (IsNumber 4 h.newest) _ a1 a2 a6 c.in_ok-put_u32-2.ensures
    (puts_row (IsNumber 4 h.current_head) _ a2 a3 a6 c.in_ok-put_u32-3.ensures
    (puts_row (IsNumber 4 h.heads) _ a3 a4 a6 c.in_ok-put_u32-4.ensures
    (puts_row (IsNumber 4 h.last) _ a4 a5 a6 c.in_ok-put_u32-5.ensures
    (puts_last (IsNumber 4 h.current) a5 a6 c.in_ok-put_u32-6.ensures)))))
