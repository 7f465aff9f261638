-- Each step of the code is one of the steps that take a line out of a block.
use Rattle.std.proofs.Common.{◌≡◌, ◌+◌, ◌-◌, ◌*◌, ◌%◌, ◌^◌, ◌<◌, ◌≤◌, ℕ, suc, List, Ok, length, take, drop, refl, ap, ◌∙◌, arith}
use Rattle.vs_bytes.specs.Fields.{field_at, with_field}
use Rattle.vs_data.specs.declared.DataView.{DataView}
use Rattle.vs_data.specs.Blocks.{count_in, end_at, entry_at, header_of, start_at, text_start_in, view_in}
use Rattle.vs_data.proofs.Entries.{entry_before}
use Rattle.vs_data.proofs.Headers.{HasHeader, header_written}
use Rattle.vs_data.proofs.Removing.{HasLine, IndexClosed, Removed, TextClosed, index_closes, removed, text_closes}
use Rattle.vs_data.proofs.Reading.{HasView, LiesWithin, ends_fall, ends_within, has_view, lies_within, view_bounds, view_holds}
use Rattle.vs_data.proofs.DataView.remove.Goals as goal

-- what the caller gives
record Given (old : List ℕ) (view : DataView) (at : ℕ) : Type 0 where
  is : view_in old ≡ Ok view
  fields : HasView old view
  has : HasLine old at (end_at old at - start_at old at)
  lies : LiesWithin old at

given : (old : List ℕ) (view : DataView) (at : ℕ) → view_in old ≡ Ok view → view.text_end ≤ 2 ^ 31 → at < view.count → Given old view at
given old view at e places within =
    let v = has_view old view (view_bounds old view e) in
    let block = (view_holds old view e).0 in
    let lies = lies_within old at block (omega arith) in
    record {
      is = e;
      fields = v;
      has = record { block = block; within = omega arith; size_is = omega (arith, lies.order); places = omega arith };
      lies = lies;
    }

module _ (old : List ℕ) (view : DataView) (at : ℕ) (g : Given old view at) where
  abbrev size : ℕ
  size = end_at old at - start_at old at

  after_text : (text : List ℕ) (start end : ℕ) → start ≡ start_at old at → end ≡ end_at old at
      → text ≡ with_field old (view.text_start + (end - start)) (field_at old view.text_start (start - view.text_start))
      → TextClosed old text (text_start_in old) (start_at old at) size
  after_text text start end start_is end_is text_is =
      let is = rw (g.fields.start, start_is, end_is) at text_is in
      let bounds = g.fields.bounds in
      rw is (text_closes old (text_start_in old) (start_at old at) size g.lies.start (omega (arith, g.lies.order, g.lies.end, g.lies.length)))

  after_index : (text index : List ℕ) → length text ≡ length old
      → index ≡ with_field text (24 + 4 * at) (field_at text (24 + 4 * (at + 1)) (4 * (view.count - 1 - at)))
      → IndexClosed text index at (count_in old)
  after_index text index long index_is =
      let is = rw g.fields.count at index_is in
      let bounds = g.fields.bounds in
      rw is (index_closes text at (count_in old) g.has.within (omega arith))

  -- the starts that are to be moved
  start_was : (text index : List ℕ) → TextClosed old text (text_start_in old) (start_at old at) size → IndexClosed text index at (count_in old)
      → (k : ℕ) → at ≤ k → k < view.count - 1 → start_at index k ≡ start_at old (suc k)
  start_was text index closed indexed k low high =
      let bounds = g.fields.bounds in
      ap (λ (e : ℕ). e % 2 ^ 31)
      (indexed.after k low (omega (arith, g.fields.count))
      ∙ entry_before old text (text_start_in old) (start_at old at + size) (suc k) closed.keeps (omega (arith, g.fields.count)))

  starts_above : (text index : List ℕ) → TextClosed old text (text_start_in old) (start_at old at) size → IndexClosed text index at (count_in old)
      → (k : ℕ) → at ≤ k → k < view.count - 1 → view.text_start ≤ start_at index k
  starts_above text index closed indexed k low high =
      let was = start_was text index closed indexed k low high in
      let lies = lies_within old (suc k) g.has.block (omega (arith, g.fields.count)) in
      omega (arith, lies.start, g.fields.start)

  starts_fit : (text index : List ℕ) → TextClosed old text (text_start_in old) (start_at old at) size → IndexClosed text index at (count_in old)
      → (k : ℕ) → at ≤ k → k < view.count - 1 → start_at index k + (view.text_start + size) < 2 ^ 31 + view.text_start
  starts_fit text index closed indexed k low high =
      let was = start_was text index closed indexed k low high in
      let under = ends_fall old (suc at) (suc k) (λ j below. g.has.block.entries j (omega (arith, g.fields.count))) (omega arith) in
      let lies = lies_within old (suc k) g.has.block (omega (arith, g.fields.count)) in
      omega (arith, lies.order, g.has.size_is, g.has.places, g.lies.end, g.fields.start)

  -- the view that the code ends with
  abbrev after_view : DataView
  after_view = record { count = view.count - 1; text_start = view.text_start + size; text_end = view.text_end }

  all_done : (text index starts new : List ℕ) → TextClosed old text (text_start_in old) (start_at old at) size → IndexClosed text index at (count_in old)
      → ((k : ℕ) → at ≤ k → k < view.count - 1 → entry_at starts k + view.text_start ≡ entry_at index k + (view.text_start + size))
      → length starts ≡ length index
      → take (24 + 4 * at) starts ≡ take (24 + 4 * at) index
      → drop (24 + 4 * (view.count - 1)) starts ≡ drop (24 + 4 * (view.count - 1)) index
      → view.text_end < 2 ^ 32
      → new ≡ with_field starts 4 (header_of after_view)
      → Removed old new after_view at
  all_done text index starts new closed indexed moved long before after end_fits new_is =
      let bounds = g.fields.bounds in
      let text_long = closed.keeps.same_length in
      let index_long = indexed.keeps.same_length in
      let bottom = ends_within old (suc at) g.has.block (omega (arith, g.has.within)) in
      let grows : view.text_start + size ≤ view.text_end = omega (arith, bottom.low, g.has.size_is, g.lies.end, g.fields.start, g.fields.end) in
      let header : HasHeader starts new after_view = rw new_is (header_written starts after_view (omega arith) (omega (arith, g.fields.count, g.fields.start)) (omega arith) end_fits) in
      removed old text index starts new view after_view at size g.has g.is
      (record {
        text_closed = closed;
        index_closed = indexed;
        moved = record {
          moved = λ k low high. (let is = moved k low (omega (arith, g.fields.count)) in rw g.fields.start at is);
          keeps = record { same_length = long; before = before; after = rw g.fields.count at after };
        };
        header = header;
        text_end = g.fields.end;
      })
      (omega (arith, g.fields.count)) (omega (arith, g.fields.start))

pub start-start-requires-clause-view : goal.start-start-requires-clause-view
start-start-requires-clause-view c = view_bounds c.args.block.now c.args.self.now c.requires.view

pub end-end-requires-clause-view : goal.end-end-requires-clause-view
end-end-requires-clause-view c = view_bounds c.args.block.now c.args.self.now c.requires.view

pub overflow_sub-text_start : goal.overflow_sub-text_start
overflow_sub-text_start c =
    let g = given c.args.block.now c.args.self.now c.args.at c.requires.view c.requires.places c.requires.at in
    omega (arith, g.lies.order)

pub overflow_add-text_start : goal.overflow_add-text_start
overflow_add-text_start c =
    let g = given c.args.block.now c.args.self.now c.args.at c.requires.view c.requires.places c.requires.at in
    omega (arith, g.lies.order, g.lies.end, g.lies.start, g.fields.start, g.fields.end)

pub move_bytes-requires-clause-order : goal.move_bytes-requires-clause-order
move_bytes-requires-clause-order c =
    let g = given c.args.block.now c.args.self.now c.args.at c.requires.view c.requires.places c.requires.at in
    omega (arith, g.lies.start, g.fields.start)

pub move_bytes-requires-clause-within : goal.move_bytes-requires-clause-within
move_bytes-requires-clause-within c =
    let g = given c.args.block.now c.args.self.now c.args.at c.requires.view c.requires.places c.requires.at in
    omega (arith, g.lies.order, g.lies.end, g.lies.length)

pub move_bytes-requires-clause-room : goal.move_bytes-requires-clause-room
move_bytes-requires-clause-room c =
    let g = given c.args.block.now c.args.self.now c.args.at c.requires.view c.requires.places c.requires.at in
    omega (arith, g.lies.order, g.lies.end, g.lies.length, g.lies.start, g.fields.start)

pub close_index-requires-clause-within : goal.close_index-requires-clause-within
close_index-requires-clause-within c =
    let g = given c.args.block.now c.args.self.now c.args.at c.requires.view c.requires.places c.requires.at in
    let bounds = g.fields.bounds in
    omega (arith, g.fields.count)

pub move_starts-requires-clause-index : goal.move_starts-requires-clause-index
move_starts-requires-clause-index c =
    let g = given c.args.block.now c.args.self.now c.args.at c.requires.view c.requires.places c.requires.at in
    let bounds = g.fields.bounds in
    omega (arith, g.fields.count)

pub move_starts-requires-clause-above : goal.move_starts-requires-clause-above
move_starts-requires-clause-above c =
    let g = given c.args.block.now c.args.self.now c.args.at c.requires.view c.requires.places c.requires.at in
    let closed = after_text c.args.block.now c.args.self.now c.args.at g c.move_bytes.new.block c.start-start.result c.end-end.result c.start-start.ensures c.end-end.ensures c.move_bytes.ensures in
    let indexed = after_index c.args.block.now c.args.self.now c.args.at g c.move_bytes.new.block c.close_index.new.block (omega arith) c.close_index.ensures in
    starts_above c.args.block.now c.args.self.now c.args.at g c.move_bytes.new.block c.close_index.new.block closed indexed

pub move_starts-requires-clause-places : goal.move_starts-requires-clause-places
move_starts-requires-clause-places c =
    let g = given c.args.block.now c.args.self.now c.args.at c.requires.view c.requires.places c.requires.at in
    let closed = after_text c.args.block.now c.args.self.now c.args.at g c.move_bytes.new.block c.start-start.result c.end-end.result c.start-start.ensures c.end-end.ensures c.move_bytes.ensures in
    let indexed = after_index c.args.block.now c.args.self.now c.args.at g c.move_bytes.new.block c.close_index.new.block (omega arith) c.close_index.ensures in
    rw (c.start-start.ensures, c.end-end.ensures) (starts_fit c.args.block.now c.args.self.now c.args.at g c.move_bytes.new.block c.close_index.new.block closed indexed)

pub write_header-requires : goal.write_header-requires
write_header-requires c =
    let g = given c.args.block.now c.args.self.now c.args.at c.requires.view c.requires.places c.requires.at in
    let bounds = g.fields.bounds in
    omega arith

pub returns : goal.returns
returns c =
    let g = given c.args.block.now c.args.self.now c.args.at c.requires.view c.requires.places c.requires.at in
    let closed = after_text c.args.block.now c.args.self.now c.args.at g c.move_bytes.new.block c.start-start.result c.end-end.result c.start-start.ensures c.end-end.ensures c.move_bytes.ensures in
    let indexed = after_index c.args.block.now c.args.self.now c.args.at g c.move_bytes.new.block c.close_index.new.block (omega arith) c.close_index.ensures in
    let moved = rw (c.start-start.ensures, c.end-end.ensures) at c.move_starts.ensures.moved in
    let written = rw (c.start-start.ensures, c.end-end.ensures) at c.write_header.ensures in
    let done = all_done c.args.block.now c.args.self.now c.args.at g c.move_bytes.new.block c.close_index.new.block c.move_starts.new.block c.write_header.new.block closed indexed
    moved (omega arith) c.move_starts.ensures.before c.move_starts.ensures.after (omega arith) written in
    rw (c.start-start.ensures, c.end-end.ensures) (record {
      header = refl;
      view = done.is;
      lines = done.lines;
      marks = done.marks;
      frame = done.frame;
    })
