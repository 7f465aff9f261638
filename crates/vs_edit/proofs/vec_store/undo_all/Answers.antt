-- The step that is taken back stands at the head of the reversed list.
use Rattle.std.proofs.Common.{ap, sym, ◌∙◌, reverse, arith}
use Rattle.std.specs.Vec.{vec_capacity}
use Rattle.vs_edit.specs.Undoing.{undone}
use Rattle.vs_edit.proofs.UndoingLemmas.{reverse_pushed, room_back, leads_back_in_more}
use Rattle.vs_edit.proofs.vec_store.undo_all.Goals as goal

pub put_back-requires-clause-room : goal.put_back-requires-clause-room
put_back-requires-clause-room c =
    let undo = c.in-Some.field-0 in
    let rest = c.pop.new.self.items in
    let leads = rw (reverse_pushed c.back.undos.items rest undo c.in-Some.ensures.items) at c.back.invariant.leads in
    omega (arith, room_back (vec_capacity c.back.lines) c.back.bytes c.back.lines.items undo (reverse rest) leads)

pub back-preserved : goal.back-preserved
back-preserved c =
    let undo = c.in-Some.field-0 in
    let rest = c.pop.new.self.items in
    let first = reverse_pushed c.back.undos.items rest undo c.in-Some.ensures.items in
    let leads = rw first at c.back.invariant.leads in
    record {
      lines = ap (undone (reverse rest)) c.put_back.ensures.lines ∙ (sym (ap (λ undos. undone undos c.back.lines.items) first) ∙ c.back.invariant.lines);
      leads =
          rw c.put_back.ensures.lines (leads_back_in_more (vec_capacity c.back.lines) (vec_capacity c.put_back.new.lines) undo.bytes _ (reverse rest) c.put_back.ensures.capacity leads.2);
    }
