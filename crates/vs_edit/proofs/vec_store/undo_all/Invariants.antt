use Rattle.std.proofs.Common.{◌≡◌, reverse, vec_len}
use Rattle.std.specs.Vec.{vec_capacity}
use Rattle.vs_edit.specs.Undoing.{undone, LeadsBack}
use Rattle.vs_edit.proofs.vec_store.undo_all.Given as goal

abbrev pub invariant-back : goal.invariant-back
invariant-back l = record {
  lines : undone (reverse l.undos.items) l.lines.items ≡ undone (reverse l.initial.undos.items) l.initial.lines.items;
  leads : LeadsBack (vec_capacity l.lines) l.bytes l.lines.items (reverse l.undos.items);
}

abbrev pub decreases-back : goal.decreases-back
decreases-back l = vec_len l.undos
