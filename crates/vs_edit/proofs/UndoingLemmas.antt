-- One more splice is one more step back, and each step back leads to a text that was held before.
use Rattle.std.proofs.Common.{◌≡◌, ℕ, ◌+◌, ◌≤◌, List, [], ◌∷◌, ◌++◌, length, reverse, ap, ◌∙◌, arith}
use Rattle.std.proofs.lemmas.List.{reverse-append}
use Rattle.vs_edit.specs.declared.vec_store.Undo.{Undo}
use Rattle.vs_edit.specs.Splices.{splice, cut_out}
use Rattle.vs_edit.specs.Undoing.{before, undone, IsHeld, LeadsBack}
use Rattle.vs_edit.proofs.SpliceLemmas.{splice_back, length-splice}

held_in_more : (capacity more bytes : ℕ) (text : List (List ℕ)) → capacity ≤ more → IsHeld capacity bytes text → IsHeld more bytes text
held_in_more capacity more bytes text le held = record { room = omega (arith, held.room); counted = held.counted }

-- more room does no harm
pub leads_back_in_more : (capacity more bytes : ℕ) (text : List (List ℕ)) (undos : List Undo) → capacity ≤ more
    → LeadsBack capacity bytes text undos → LeadsBack more bytes text undos
leads_back_in_more capacity more bytes text [] le held = held_in_more capacity more bytes text le held
leads_back_in_more capacity more bytes text (undo ∷ undos) le leads =
    (held_in_more capacity more bytes text le leads.0, leads.1, leads_back_in_more capacity more undo.bytes (before undo text) undos le leads.2)

-- the text that leads back is held itself
pub leads_back_held : (capacity bytes : ℕ) (text : List (List ℕ)) (undos : List Undo) → LeadsBack capacity bytes text undos → IsHeld capacity bytes text
leads_back_held capacity bytes text [] held = held
leads_back_held capacity bytes text (undo ∷ undos) leads = leads.0

-- This step takes back a splice of the text.
pub record TakesBack (undo : Undo) (text : List (List ℕ)) (top old : ℕ) (new : List (List ℕ)) (bytes : ℕ) : Type 0 where
  pub top_is : undo.top ≡ top
  pub count_is : undo.count ≡ length new
  pub lines_are : undo.lines.items ≡ cut_out text top old
  pub bytes_are : undo.bytes ≡ bytes

module _ (undo : Undo) (text : List (List ℕ)) (top old : ℕ) (new : List (List ℕ)) (bytes : ℕ) (within : top + old ≤ length text) (back : TakesBack undo text top old new bytes) where
  pub before-splice : before undo (splice text top old new) ≡ text
  before-splice = rw (back.top_is, back.count_is, back.lines_are) (splice_back text top old within new)

  pub undone-splice : (undos : List Undo) → undone (undo ∷ undos) (splice text top old new) ≡ undone undos text
  undone-splice undos = ap (undone undos) before-splice

  pub leads_back-splice : (capacity now : ℕ) (undos : List Undo) → LeadsBack capacity bytes text undos
      → IsHeld capacity now (splice text top old new) → LeadsBack capacity now (splice text top old new) (undo ∷ undos)
  leads_back-splice capacity now undos leads held =
      let fits : undo.top + undo.count ≤ length (splice text top old new) =
      omega (arith, back.top_is, back.count_is, length-splice text top old within new) in
      (held, fits, rw (before-splice, back.bytes_are) leads)

-- the element that was pushed last is the first of the reversed list
pub reverse_pushed : {X : Type 0} (xs ys : List X) (y : X) → xs ≡ ys ++ y ∷ [] → reverse xs ≡ y ∷ reverse ys
reverse_pushed xs ys y is = ap reverse is ∙ reverse-append ys (y ∷ [])

-- there is room to put the lines of a step back
pub room_back : (capacity bytes : ℕ) (text : List (List ℕ)) (undo : Undo) (undos : List Undo) → LeadsBack capacity bytes text (undo ∷ undos)
    → length text + length undo.lines.items ≤ capacity + undo.count
room_back capacity bytes text undo undos leads =
    let there = leads_back_held capacity undo.bytes (before undo text) undos leads.2 in
    omega (arith, there.room, leads.1, length-splice text undo.top undo.count leads.1 undo.lines.items)
