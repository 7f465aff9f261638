-- Each step of the code is one of the steps that put a line into a block.
use Rattle.std.proofs.Common.{◌≡◌, ◌≢◌, ◌+◌, ◌-◌, ◌*◌, ◌^◌, ◌<◌, ◌≤◌, ◌++◌, ◌∷◌, [], ℕ, suc, List, Ok, length, take, drop, refl, ◌∙◌, arith, length-append}
use Rattle.std.specs.List.{All}
use Rattle.vs_bytes.specs.Fields.{Little, field_at, with_field, with_number}
use Rattle.vs_data.specs.declared.DataView.{DataView}
use Rattle.vs_data.specs.Blocks.{count_in, end_at, entry_at, free_space, header_of, start_at, text_start_in, view_in}
use Rattle.vs_data.proofs.Entries.{entry_before}
use Rattle.vs_data.proofs.Headers.{HasHeader, header_written}
use Rattle.vs_data.proofs.Inserting.{HasRoom, IndexOpened, Inserted, TextOpened, index_opens, inserted, text_opens}
use Rattle.vs_data.proofs.Reading.{HasView, ends_within, has_view, lies_within, view_bounds, view_holds}
use Rattle.vs_data.proofs.DataView.insert.Goals as goal

-- what the caller gives
record Given (old : List ℕ) (view : DataView) (at : ℕ) (line : List ℕ) : Type 0 where
  is : view_in old ≡ Ok view
  fields : HasView old view
  room : HasRoom old at line
  order : view.text_start ≤ end_at old at
  high : end_at old at ≤ view.text_end
  within : view.text_end ≤ length old
  size : 24 + 4 * view.count + length line + 5 ≤ view.text_start

given : (old : List ℕ) (view : DataView) (at : ℕ) (line : List ℕ) → view_in old ≡ Ok view → view.text_end ≤ 2 ^ 31 → at ≤ view.count
    → length line + 5 ≤ free_space view → All (λ byte. byte ≢ 0) line → Given old view at line
given old view at line e places within fits none =
    let v = has_view old view (view_bounds old view e) in
    let bounds = v.bounds in
    let block = (view_holds old view e).0 in
    let ends = ends_within old at block (omega arith) in
    record {
      is = e;
      fields = v;
      room = record { block = block; within = omega arith; size = omega arith; places = omega arith; no_zero = none };
      order = omega arith;
      high = omega arith;
      within = omega arith;
      size = omega arith;
    }

module _ (old : List ℕ) (view : DataView) (at : ℕ) (line : List ℕ) (g : Given old view at line) where
  after_text : (text : List ℕ) (end : ℕ) → end ≡ end_at old at
      → text ≡ with_field (with_field old (view.text_start - (length line + 1)) (field_at old view.text_start (end - view.text_start))) (end - (length line + 1)) (line ++ 0 ∷ [])
      → TextOpened old text (text_start_in old) (end_at old at) (length line + 1) (line ++ 0 ∷ [])
  after_text text end end_is text_is =
      let is = rw (g.fields.start, end_is) at text_is in
      rw is (text_opens old (text_start_in old) (end_at old at) (length line + 1) (line ++ 0 ∷ []) (omega (arith, length-append {A = ℕ}))
      (omega (arith, g.order, g.fields.start)) (omega (arith, g.high, g.within)) (omega (arith, g.size, g.fields.start)))

  after_index : (text index : List ℕ) (end : ℕ) → end ≡ end_at old at → view.text_end < 2 ^ 32 → length text ≡ length old
      → index ≡ with_number Little 4 (with_field text (24 + 4 * (at + 1)) (field_at text (24 + 4 * at) (4 * (view.count - at)))) (24 + 4 * at) (end - (length line + 1))
      → IndexOpened text index at (count_in old) (end_at old at - (length line + 1))
  after_index text index end end_is fits long index_is =
      let is = rw (g.fields.count, end_is) at index_is in
      rw is (index_opens text at (count_in old) (end_at old at - (length line + 1)) g.room.within (omega (arith, g.size, g.order, g.high, g.within, g.fields.count)) (omega (arith, g.high)))

  -- the starts that are to be moved
  starts_above : (text index : List ℕ) → TextOpened old text (text_start_in old) (end_at old at) (length line + 1) (line ++ 0 ∷ [])
      → IndexOpened text index at (count_in old) (end_at old at - (length line + 1))
      → (k : ℕ) → at + 1 ≤ k → k < view.count + 1 → view.text_start ≤ start_at index k
  starts_above text index opened indexed k low high =
      let j : ℕ = k - 1 in
      let within : j < count_in old = omega (arith, g.fields.count) in
      let was : entry_at index (suc j) ≡ entry_at old j =
      indexed.after j (omega arith) within ∙ entry_before old text (text_start_in old - (length line + 1)) (end_at old at) j opened.keeps (omega (arith, g.size, g.fields.start, g.fields.count)) in
      let is : k ≡ suc j = omega arith in
      let lies = lies_within old j g.room.block within in
      let above : text_start_in old ≤ start_at index (suc j) = rw was lies.start in
      rw (is, g.fields.start) above

  -- the view that the code ends with
  abbrev after_view : DataView
  after_view = record { count = view.count + 1; text_start = view.text_start - (length line + 1); text_end = view.text_end }

  all_done : (text index starts new : List ℕ) → TextOpened old text (text_start_in old) (end_at old at) (length line + 1) (line ++ 0 ∷ [])
      → IndexOpened text index at (count_in old) (end_at old at - (length line + 1))
      → ((k : ℕ) → at + 1 ≤ k → k < view.count + 1 → entry_at starts k + view.text_start ≡ entry_at index k + (view.text_start - (length line + 1)))
      → length starts ≡ length index
      → take (24 + 4 * (at + 1)) starts ≡ take (24 + 4 * (at + 1)) index
      → drop (24 + 4 * (view.count + 1)) starts ≡ drop (24 + 4 * (view.count + 1)) index
      → view.text_start < 2 ^ 32 → view.text_end < 2 ^ 32
      → new ≡ with_field starts 4 (header_of after_view)
      → Inserted old new after_view at line
  all_done text index starts new opened indexed moved long before after start_fits end_fits new_is =
      let bounds = g.fields.bounds in
      let text_long = opened.keeps.same_length in
      let index_long = indexed.keeps.same_length in
      let header : HasHeader starts new after_view = rw new_is (header_written starts after_view (omega arith) (omega (arith, g.size)) (omega arith) end_fits) in
      inserted old text index starts new view after_view at line g.room g.is
      (record {
        text_opened = opened;
        index_opened = indexed;
        moved = record {
          moved = λ k low high. (let is = moved k low (omega (arith, g.fields.count)) in rw g.fields.start at is);
          keeps = record { same_length = long; before = before; after = rw g.fields.count at after };
        };
        header = header;
        text_end = g.fields.end;
      })
      (omega (arith, g.fields.count)) (omega (arith, g.size, g.fields.start))

pub end-end-requires-clause-view : goal.end-end-requires-clause-view
end-end-requires-clause-view c = view_bounds c.args.block.now c.args.self.now c.requires.view

pub open_text-requires-clause-order : goal.open_text-requires-clause-order
open_text-requires-clause-order c =
    let g = given c.args.block.now c.args.self.now c.args.at c.args.line.now c.requires.view c.requires.places c.requires.at c.requires.fits c.requires.no_zero in
    omega (arith, g.order)

pub open_text-requires-clause-within : goal.open_text-requires-clause-within
open_text-requires-clause-within c =
    let g = given c.args.block.now c.args.self.now c.args.at c.args.line.now c.requires.view c.requires.places c.requires.at c.requires.fits c.requires.no_zero in
    omega (arith, g.high, g.within)

pub overflow_sub-end : goal.overflow_sub-end
overflow_sub-end c =
    let g = given c.args.block.now c.args.self.now c.args.at c.args.line.now c.requires.view c.requires.places c.requires.at c.requires.fits c.requires.no_zero in
    omega (arith, g.order, g.size)

pub open_index-requires-clause-room : goal.open_index-requires-clause-room
open_index-requires-clause-room c =
    let g = given c.args.block.now c.args.self.now c.args.at c.args.line.now c.requires.view c.requires.places c.requires.at c.requires.fits c.requires.no_zero in
    omega (arith, g.order, g.high, g.within, g.size)

pub move_starts-requires-clause-index : goal.move_starts-requires-clause-index
move_starts-requires-clause-index c =
    let g = given c.args.block.now c.args.self.now c.args.at c.args.line.now c.requires.view c.requires.places c.requires.at c.requires.fits c.requires.no_zero in
    omega (arith, g.order, g.high, g.within, g.size)

pub move_starts-requires-clause-above : goal.move_starts-requires-clause-above
move_starts-requires-clause-above c =
    let g = given c.args.block.now c.args.self.now c.args.at c.args.line.now c.requires.view c.requires.places c.requires.at c.requires.fits c.requires.no_zero in
    let opened = after_text c.args.block.now c.args.self.now c.args.at c.args.line.now g c.open_text.new.block c.end-end.result c.end-end.ensures c.open_text.ensures in
    let indexed = after_index c.args.block.now c.args.self.now c.args.at c.args.line.now g c.open_text.new.block c.open_index.new.block c.end-end.result c.end-end.ensures (omega arith) (omega arith) c.open_index.ensures in
    starts_above c.args.block.now c.args.self.now c.args.at c.args.line.now g c.open_text.new.block c.open_index.new.block opened indexed

pub write_header-requires : goal.write_header-requires
write_header-requires c =
    let g = given c.args.block.now c.args.self.now c.args.at c.args.line.now c.requires.view c.requires.places c.requires.at c.requires.fits c.requires.no_zero in
    let bounds = g.fields.bounds in
    omega arith

pub returns : goal.returns
returns c =
    let g = given c.args.block.now c.args.self.now c.args.at c.args.line.now c.requires.view c.requires.places c.requires.at c.requires.fits c.requires.no_zero in
    let opened = after_text c.args.block.now c.args.self.now c.args.at c.args.line.now g c.open_text.new.block c.end-end.result c.end-end.ensures c.open_text.ensures in
    let indexed = after_index c.args.block.now c.args.self.now c.args.at c.args.line.now g c.open_text.new.block c.open_index.new.block c.end-end.result c.end-end.ensures (omega arith) (omega arith) c.open_index.ensures in
    let done = all_done c.args.block.now c.args.self.now c.args.at c.args.line.now g c.open_text.new.block c.open_index.new.block c.move_starts.new.block c.write_header.new.block opened indexed
    c.move_starts.ensures.moved (omega arith) c.move_starts.ensures.before c.move_starts.ensures.after (omega arith) (omega arith) c.write_header.ensures in
    record {
      header = refl;
      view = done.is;
      lines = done.lines;
      marks = done.marks;
      frame = done.frame;
    }
