use Rattle.std.proofs.Common.{map, subst}
use Rattle.vs_ufile.specs.Values.{change_of, entry_of}
use Rattle.vs_ufile.specs.Format.{Each, InOrder, IsNumber}
use Rattle.vs_ufile.specs.Writing.{Puts, entry_written, links_written, save_written, state_written}
use Rattle.vs_ufile.proofs.Writes.{puts_both, puts_inner, puts_row, puts_last}
use Rattle.vs_ufile.proofs.writing.put_change.Goals as goal

pub returns : goal.returns
returns c =
    let h = c.args.change.now in
    let a1 = c.put_u16.new.out.items in
    let a2 = c.put_links.new.out.items in
    let a3 = c.put_u32.new.out.items in
    let a4 = c.put_state.new.out.items in
    let a5 = c.put_u64.new.out.items in
    let a6 = c.put_save.new.out.items in
    let a7 = c.put_entries.new.out.items in
    let a8 = c.put_u16-2.new.out.items in
    puts_row (IsNumber 2 0x5fd0) _ c.args.out.now.items a1 a8 c.in_ok-put_u16.ensures
    (puts_both (links_written (change_of h)) _ a1 a2 a8 c.in_ok-put_links.ensures
    (puts_row (IsNumber 4 h.number) _ a2 a3 a8 c.in_ok-put_u32.ensures
    (puts_both (state_written h.empty) _ a3 a4 a8 c.in_ok-put_state.ensures
    (puts_row (IsNumber 8 h.time) _ a4 a5 a8 c.in_ok-put_u64.ensures
    (puts_row (InOrder (save_written h.save)) _ a5 a6 a8 (puts_inner (save_written h.save) a5 a6 c.in_ok-put_save.ensures)
    (puts_row (Each entry_written (map entry_of h.entries.items)) _ a6 a7 a8 (subst (λ x. Puts (Each entry_written (map entry_of x)) a6 a7) c.deref.ensures.value c.in_ok-put_entries.ensures)
    (puts_last (IsNumber 2 0x3581) a7 a8 c.in_ok-put_u16-2.ensures)))))))
