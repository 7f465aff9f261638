-- For a caller that writes the bytes of an entry over those of another: the view stays, and the list has that entry in place of the other.
use Rattle.std.proofs.Common.{◌≡◌, ℕ, suc, ◌+◌, ◌-◌, ◌*◌, ◌<◌, List, length, map, set, Some, Ok, sym, ap, ◌∙◌, arith}
use Rattle.std.proofs.lemmas.List.{map-set}
use Rattle.vs_bytes.specs.Fields.{with_field}
use Rattle.vs_bytes.proofs.FieldLaws.{length-with_field, take-with_field}
use Rattle.vs_ptr.specs.declared.PtrEntry.{PtrEntry}
use Rattle.vs_ptr.specs.declared.PtrView.{PtrView}
use Rattle.vs_ptr.specs.Blocks.{entry_of, bytes_of_entry, slots_of, entries_of, view_in, entries_in}
use Rattle.vs_ptr.proofs.Headers.{header_from_view, view_in-same, slots_counted, entries_edited}
use Rattle.vs_ptr.proofs.Slots.{slots_written}

-- the view stays
pub view_put : (block : List ℕ) (view : PtrView) (at : ℕ) (slot : List ℕ) → view_in block ≡ Ok view → at < view.count → length slot ≡ 32
    → view_in (with_field block (8 + 32 * at) slot) ≡ Ok view
view_put block view at slot reads within wide =
    let header = header_from_view block view reads in
    let room = header.room in
    view_in-same _ _ (take-with_field block (8 + 32 * at) slot 8 (omega arith) (omega arith)) (length-with_field block (8 + 32 * at) slot (omega arith)) ∙ reads

-- the slot is set
pub slots_put : (block : List ℕ) (view : PtrView) (at : ℕ) (slot : List ℕ) → view_in block ≡ Ok view → at < view.count → length slot ≡ 32
    → slots_of (with_field block (8 + 32 * at) slot) ≡ set (slots_of block) at slot
slots_put block view at slot reads within wide =
    let before = header_from_view block view reads in
    slots_counted _ view (header_from_view _ view (view_put block view at slot reads within wide))
    ∙ slots_written 8 32 view.count at (view.count - suc at) block slot (omega arith) wide before.room ∙ ap (λ slots. set slots at slot) (sym (slots_counted block view before))

-- the entry is set
pub entries_put : (block : List ℕ) (view : PtrView) (at : ℕ) (e : PtrEntry) → view_in block ≡ Ok view → at < view.count
    → length (bytes_of_entry e) ≡ 32 → entry_of (bytes_of_entry e) ≡ e
    → entries_in (with_field block (8 + 32 * at) (bytes_of_entry e)) ≡ Some (set (entries_of block) at e)
entries_put block view at e reads within wide back =
    let slots = slots_of block in
    let slot = bytes_of_entry e in
    entries_edited _ _ _ _ (set slots at slot) (λ entries. set entries at e) reads (view_put block view at slot reads within wide) (slots_put block view at slot reads within wide)
    (map-set entry_of slots at slot ∙ ap (set (map entry_of slots) at) back)
