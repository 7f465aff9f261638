use Rattle.std.proofs.Common.{[], List, map, subst}
use Rattle.vs_ufile.specs.Format.{Each, InOrder, IsNumber}
use Rattle.vs_ufile.specs.Values.{change_of, history_of}
use Rattle.vs_ufile.specs.Writing.{IsWritten, Puts, PutsAll, change_written, file_written, front_written, numbers_written, save_written}
use Rattle.vs_ufile.proofs.Written.{is_undo_file, is_written}
use Rattle.vs_ufile.proofs.Writes.{puts_both, puts_inner, puts_last, puts_row}
use Rattle.vs_ufile.proofs.encoding.encode.Goals as goal

pub returns : goal.returns
returns c =
    let h = history_of c.args.history.now in
    let a1 = c.put_front.new.out.items in
    let a2 = c.put_numbers.new.out.items in
    let a3 = c.put_u64.new.out.items in
    let a4 = c.put_save.new.out.items in
    let a5 = c.put_changes.new.out.items in
    let a6 = c.put_u16.new.out.items in
    let front = subst (λ (x : List _). PutsAll (front_written h.digest h.lines) x a1) c.new-out.ensures.items c.in_ok-put_front.ensures in
    let changes = subst (λ x. Puts (Each change_written (map change_of x)) a4 a5) c.deref.ensures.value c.in_ok-put_changes.ensures in
    let all : PutsAll (file_written h) [] a6 =
    puts_both (front_written h.digest h.lines) _ [] a1 a6 front
    (puts_both (numbers_written h) _ a1 a2 a6 c.in_ok-put_numbers.ensures
    (puts_row (IsNumber 8 h.time) _ a2 a3 a6 c.in_ok-put_u64.ensures
    (puts_row (InOrder (save_written h.last_save)) _ a3 a4 a6 (puts_inner (save_written h.last_save) a3 a4 c.in_ok-put_save.ensures)
    (puts_row (Each change_written h.changes) _ a4 a5 a6 changes
    (puts_last (IsNumber 2 0xe7aa) a5 a6 c.in_ok-put_u16.ensures))))) in
    let is : IsWritten h a6 = is_written h a6 all in
    record { bytes = is; written = λ more. is_undo_file h a6 c.requires is more }
