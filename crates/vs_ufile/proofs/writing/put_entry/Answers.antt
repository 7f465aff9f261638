use Rattle.std.proofs.Common.{◌≡◌, arith, ℕ, ◌∷◌, [], List, length, subst}
use Rattle.vs_ufile.specs.Format.{Each, IsNumber, Row}
use Rattle.vs_ufile.specs.Writing.{line_written}
use Rattle.vs_ufile.specs.Writing.{Puts}
use Rattle.vs_ufile.proofs.Writes.{puts_row, puts_last}
use Rattle.vs_ufile.proofs.writing.put_entry.Goals as goal

pub returns : goal.returns
returns c =
    let e = c.args.entry.now in
    let a0 = c.args.out.now.items in
    let a1 = c.put_u16.new.out.items in
    let a2 = c.put_u32.new.out.items in
    let a3 = c.put_u32-2.new.out.items in
    let a4 = c.put_u32-3.new.out.items in
    let a5 = c.put_u32-4.new.out.items in
    let a6 = c.put_lines.new.out.items in
    let r6 : List Row = Each line_written e.lines.items ∷ [] in
    let r5 : List Row = IsNumber 4 (length e.lines.items) ∷ r6 in
    let r4 : List Row = IsNumber 4 e.count ∷ r5 in
    let r3 : List Row = IsNumber 4 e.bottom ∷ r4 in
    let r2 : List Row = IsNumber 4 e.top ∷ r3 in
    let size : c.in_ok-size.size ≡ length e.lines.items = omega (arith, c.in_ok-size.ensures, c.len.ensures, e.lines.ok.0) in
    puts_row (IsNumber 2 0xf518) r2 a0 a1 a6 c.in_ok-put_u16.ensures
    (puts_row (IsNumber 4 e.top) r3 a1 a2 a6 c.in_ok-put_u32.ensures
    (puts_row (IsNumber 4 e.bottom) r4 a2 a3 a6 c.in_ok-put_u32-2.ensures
    (puts_row (IsNumber 4 e.count) r5 a3 a4 a6 c.in_ok-put_u32-3.ensures
    (puts_row (IsNumber 4 (length e.lines.items)) r6 a4 a5 a6 (subst (λ (n : ℕ). Puts (IsNumber 4 n) a4 a5) size c.in_ok-put_u32-4.ensures)
    (puts_last (Each line_written e.lines.items) a5 a6 (subst (λ (x : List (List ℕ)). Puts (Each line_written x) a5 a6) c.deref.ensures.value c.in_ok-put_lines.ensures))))))
