use Rattle.std.specs.Prelude.{if◌then◌else◌}
use Rattle.vs_ufile.specs.Format.{IsNumber}
use Rattle.vs_ufile.specs.Writing.{IsZeros}
use Rattle.vs_ufile.proofs.Writes.{puts_row, puts_last}
use Rattle.vs_ufile.proofs.writing.put_state.Goals as goal

pub returns : goal.returns
returns c =
    let a1 = c.put.new.out.items in
    let a2 = c.put-2.new.out.items in
    let a3 = c.put_flags.new.out.items in
    let a4 = c.put-3.new.out.items in
    let a5 = c.put-4.new.out.items in
    let a6 = c.put-5.new.out.items in
    let a7 = c.put-6.new.out.items in
    puts_row (IsZeros 12) _ c.args.out.now.items a1 a7 c.in_ok-put.ensures
    (puts_row (IsZeros 4) _ a1 a2 a7 c.in_ok-put-2.ensures
    (puts_row (IsNumber 2 (if c.args.empty then 2 else 0)) _ a2 a3 a7 c.in_ok-put_flags.ensures
    (puts_row (IsZeros 312) _ a3 a4 a7 c.in_ok-put-3.ensures
    (puts_row (IsZeros 24) _ a4 a5 a7 c.in_ok-put-4.ensures
    (puts_row (IsZeros 4) _ a5 a6 a7 c.in_ok-put-5.ensures
    (puts_last (IsZeros 4) a6 a7 c.in_ok-put-6.ensures))))))
