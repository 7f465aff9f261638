use Rattle.vs_ufile.specs.Format.{IsNumber}
use Rattle.vs_ufile.proofs.Writes.{puts_row, puts_last}
use Rattle.vs_ufile.proofs.writing.put_links.Goals as goal

pub returns : goal.returns
returns c =
    let h = c.args.change.now in
    let a1 = c.put_u32.new.out.items in
    let a2 = c.put_u32-2.new.out.items in
    let a3 = c.put_u32-3.new.out.items in
    let a4 = c.put_u32-4.new.out.items in
    puts_row (IsNumber 4 h.next) _ c.args.out.now.items a1 a4 c.in_ok-put_u32.ensures
    (puts_row (IsNumber 4 h.prev) _ a1 a2 a4 c.in_ok-put_u32-2.ensures
    (puts_row (IsNumber 4 h.alt_next) _ a2 a3 a4 c.in_ok-put_u32-3.ensures
    (puts_last (IsNumber 4 h.alt_prev) a3 a4 c.in_ok-put_u32-4.ensures)))
