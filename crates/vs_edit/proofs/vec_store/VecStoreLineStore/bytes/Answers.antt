use Rattle.std.proofs.Common.{◌∙◌, ap, reverse}
use Rattle.std.specs.Vec.{vec_capacity}
use Rattle.vs_text.specs.Text.{bytes_of}
use Rattle.vs_edit.specs.Texts.{Texts}
use Rattle.vs_edit.proofs.UndoingLemmas.{leads_back_held}
use Rattle.vs_edit.proofs.vec_store.VecStoreLineStore.bytes.Goals as goal

pub returns : goal.returns
returns c =
    let store = c.self.inside in
    let held = leads_back_held (vec_capacity store.lines) store.bytes store.lines.items (reverse store.undos.items) c.self.invariant in
    held.counted ∙ ap (λ (texts : Texts). bytes_of texts.present) c.self.view_is
