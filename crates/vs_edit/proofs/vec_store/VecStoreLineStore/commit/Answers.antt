use Rattle.std.proofs.Common.{reverse}
use Rattle.std.specs.Vec.{vec_capacity}
use Rattle.vs_edit.proofs.UndoingLemmas.{leads_back_held}
use Rattle.vs_edit.proofs.vec_store.VecStoreLineStore.commit.Goals as goal

pub invariant_of-self : goal.invariant_of-self
invariant_of-self c =
    let store = c.self.inside in
    rw c.clear.ensures.items (leads_back_held (vec_capacity store.lines) store.bytes store.lines.items (reverse store.undos.items) c.self.invariant)
