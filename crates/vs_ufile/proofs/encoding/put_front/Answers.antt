use Rattle.std.proofs.Common.{[]}
use Rattle.vs_ufile.specs.Format.{InOrder, Is, IsNumber, sized}
use Rattle.vs_ufile.specs.Reading.{start_bytes}
use Rattle.vs_ufile.specs.Writing.{IsZeros}
use Rattle.vs_ufile.proofs.Writes.{puts_inner, puts_row, puts_last}
use Rattle.vs_ufile.proofs.encoding.put_front.Goals as goal

pub returns : goal.returns
returns c =
    let h = c.args.history.now in
    let a1 = c.put.new.out.items in
    let a2 = c.put_u16.new.out.items in
    let a3 = c.put-2.new.out.items in
    let a4 = c.put_u32.new.out.items in
    let a5 = c.put_sized.new.out.items in
    let a6 = c.put-3.new.out.items in
    let a7 = c.put-4.new.out.items in
    puts_row (Is start_bytes) _ c.args.out.now.items a1 a7 c.in_ok-put.ensures
    (puts_row (IsNumber 2 2) _ a1 a2 a7 c.in_ok-put_u16.ensures
    (puts_row (Is h.digest) _ a2 a3 a7 c.in_ok-put-2.ensures
    (puts_row (IsNumber 4 h.lines) _ a3 a4 a7 c.in_ok-put_u32.ensures
    (puts_row (InOrder (sized [])) _ a4 a5 a7 (puts_inner (sized []) a4 a5 c.in_ok-put_sized.ensures)
    (puts_row (IsZeros 4) _ a5 a6 a7 c.in_ok-put-3.ensures
    (puts_last (IsZeros 4) a6 a7 c.in_ok-put-4.ensures))))))
