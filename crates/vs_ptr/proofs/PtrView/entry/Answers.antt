-- The slot at the place is among those that the header counts.
use Rattle.std.proofs.Common.{◌≡◌, ◌+◌, ◌-◌, ◌*◌, take, drop, Some, refl, sym, ap, ◌∙◌, arith}
use Rattle.std.proofs.lemmas.Option.{slice_get-map}
use Rattle.std.specs.Prelude.{slice_get, option_map}
use Rattle.vs_bytes.specs.Fields.{field_at}
use Rattle.vs_ptr.specs.Blocks.{entry_of, slots_of}
use Rattle.vs_ptr.proofs.Headers.{header_from_view, entries_mapped}
use Rattle.vs_ptr.proofs.Slots.{slot_counted}
use Rattle.vs_ptr.proofs.PtrView.entry.Goals as goal

pub slice_bounds-read_entry-end : goal.slice_bounds-read_entry-end
slice_bounds-read_entry-end c = let header = header_from_view _ _ c.requires.view in omega arith

pub returns : goal.returns
returns c =
    let block = c.args.block.now in
    let at = c.args.at in
    let start = c.entry_place-start.result in
    let width : start + 32 - start ≡ 32 = omega arith in
    let here : field_at block (8 + 32 * at) 32 ≡ take (start + 32 - start) (drop start block) = rw (width, c.entry_place-start.ensures) refl in
    ap (λ entries. slice_get entries at) (entries_mapped block _ c.requires.view) ∙ slice_get-map entry_of (slots_of block) at
    ∙ ap (option_map entry_of) (slot_counted block c.args.self.now at (header_from_view _ _ c.requires.view) c.requires.place)
    ∙ ap (λ slot. Some (entry_of slot)) here
    ∙ ap (λ entry. Some entry) (sym c.read_entry.ensures)
