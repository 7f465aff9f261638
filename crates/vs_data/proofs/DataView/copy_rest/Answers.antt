-- Each step of the code is one of the steps that copy the last lines of a block.
use Rattle.std.proofs.Common.{◌≡◌, ◌+◌, ◌-◌, ◌*◌, ◌%◌, ◌^◌, ◌<◌, ◌≤◌, ℕ, List, Ok, length, take, drop, refl, ap, ◌∙◌, arith, rules}
use Rattle.vs_bytes.specs.Fields.{field_at, with_field}
use Rattle.vs_data.specs.declared.DataView.{DataView}
use Rattle.vs_data.specs.Blocks.{HasRest, IsBlockLength, count_in, end_at, entry_at, header_of, id_bytes, start_at, text_start_in, view_in}
use Rattle.vs_data.proofs.Headers.{HasHeader, header_written}
use Rattle.vs_data.proofs.Reading.{EndsWithin, HasView, bounds_hold, ends_fall, ends_within, has_view, lies_within, view_bounds, view_holds}
use Rattle.vs_data.proofs.Splitting.{RestFits, entries_copied, rest_copied}
use Rattle.vs_data.proofs.DataView.copy_rest.Goals as goal

-- what the caller gives
record Given (old : List ℕ) (view : DataView) (from end to : ℕ) : Type 0 where
  is : view_in old ≡ Ok view
  fields : HasView old view
  has : RestFits old from to
  ends : EndsWithin old from
  end_is : end ≡ end_at old from
  to_is : to ≡ length old - (end - view.text_start)

given : (old : List ℕ) (view : DataView) (from end : ℕ) → view_in old ≡ Ok view → from ≤ view.count → end ≡ end_at old from → IsBlockLength (length old)
    → Given old view from end (length old - (end - view.text_start))
given old view from end e within end_is long =
    let v = has_view old view (view_bounds old view e) in
    let bounds = v.bounds in
    let block = (view_holds old view e).0 in
    let ends = ends_within old from block (omega arith) in
    record {
      is = e;
      fields = v;
      has = record { block = block; within = omega arith; to_is = omega (arith, ends.low, ends.high, v.start); places = omega (arith, long.limit) };
      ends = ends;
      end_is = end_is;
      to_is = refl;
    }

module _ (old : List ℕ) (view : DataView) (from end to : ℕ) (g : Given old view from end to) where
  after_text : (fresh text : List ℕ) → text ≡ with_field fresh to (take (end - view.text_start) (drop view.text_start old))
      → text ≡ with_field fresh to (field_at old (text_start_in old) (end_at old from - text_start_in old))
  after_text fresh text is = rw (g.end_is, g.fields.start) at is

  after_index : (text index : List ℕ) (first last : ℕ) → first ≡ 24 + 4 * from → last ≡ 24 + 4 * view.count
      → index ≡ with_field text 24 (take (last - first) (drop first old))
      → index ≡ with_field text 24 (field_at old (24 + 4 * from) (4 * (count_in old - from)))
  after_index text index first last first_is last_is is =
      let wide : last - first ≡ 4 * (count_in old - from) = omega (arith, g.fields.count) in
      rw (wide, first_is) at is

  -- the starts that are to be moved
  start_was : (text index : List ℕ) → length text ≡ length old → index ≡ with_field text 24 (field_at old (24 + 4 * from) (4 * (count_in old - from)))
      → (k : ℕ) → k < view.count - from → start_at index k ≡ start_at old (from + k)
  start_was text index long is k within = ap (λ (e : ℕ). e % 2 ^ 31) (entries_copied old text index from to g.has long is k (omega (arith, g.fields.count)))

  starts_above : (text index : List ℕ) → length text ≡ length old → index ≡ with_field text 24 (field_at old (24 + 4 * from) (4 * (count_in old - from)))
      → (k : ℕ) → 0 ≤ k → k < view.count - from → view.text_start ≤ start_at index k
  starts_above text index long is k low high =
      let was = start_was text index long is k high in
      let lies = lies_within old (from + k) g.has.block (omega (arith, g.fields.count)) in
      omega (arith, lies.start, g.fields.start)

  starts_fit : (text index : List ℕ) → length text ≡ length old → index ≡ with_field text 24 (field_at old (24 + 4 * from) (4 * (count_in old - from)))
      → (k : ℕ) → 0 ≤ k → k < view.count - from → start_at index k + to < 2 ^ 31 + view.text_start
  starts_fit text index long is k low high =
      let was = start_was text index long is k high in
      let lies = lies_within old (from + k) g.has.block (omega (arith, g.fields.count)) in
      let under = ends_fall old from (from + k) (λ j below. g.has.block.entries j (omega (arith, g.fields.count))) (omega arith) in
      omega (arith, lies.order, g.has.to_is, g.has.places, g.fields.start)

  -- the view that the code ends with
  abbrev after_view : DataView
  after_view = record { count = view.count - from; text_start = to; text_end = length old }

  all_done : (fresh text index starts new : List ℕ) (view' : DataView) → length fresh ≡ length old → view_in fresh ≡ Ok view' → take 4 fresh ≡ id_bytes
      → text ≡ with_field fresh to (field_at old (text_start_in old) (end_at old from - text_start_in old))
      → length text ≡ length fresh
      → index ≡ with_field text 24 (field_at old (24 + 4 * from) (4 * (count_in old - from)))
      → length index ≡ length text
      → ((k : ℕ) → 0 ≤ k → k < view.count - from → entry_at starts k + view.text_start ≡ entry_at index k + to)
      → length starts ≡ length index
      → take (24 + 4 * 0) starts ≡ take (24 + 4 * 0) index
      → drop (24 + 4 * (view.count - from)) starts ≡ drop (24 + 4 * (view.count - from)) index
      → to < 2 ^ 32 → length old < 2 ^ 32
      → new ≡ with_field starts 4 (header_of after_view)
      → HasRest old from new after_view
  all_done fresh text index starts new view' fresh_long e front text_is text_long index_is index_long moved starts_long before after to_fits long_fits new_is =
      let bounds = g.fields.bounds in
      let header : HasHeader starts new after_view = rw new_is (header_written starts after_view (omega arith) (omega (arith, g.fields.count)) to_fits long_fits) in
      rest_copied old fresh text index starts new view after_view from to g.has g.is
      (record {
        same_length = fresh_long;
        id = (bounds_hold fresh view' (view_bounds fresh view' e)).0.id;
        front = front;
        text_copied = text_is;
        index_copied = index_is;
        moved = record {
          moved = λ k low high. (let is = moved k low (omega (arith, g.fields.count)) in rw g.fields.start at is);
          keeps = record { same_length = starts_long; before = before; after = rw g.fields.count at after };
        };
        header = header;
        text_end = refl;
      })
      (omega (arith, g.fields.count)) refl

pub fresh-fresh-requires : goal.fresh-fresh-requires
fresh-fresh-requires c = rw c.requires.as_long c.requires.length

pub overflow_sub-text_start : goal.overflow_sub-text_start
overflow_sub-text_start c =
    let g = given c.args.block.now c.args.self.now c.args.from c.args.end c.requires.view c.requires.from c.requires.end c.requires.length in
    omega (arith, g.ends.low, g.fields.start, g.end_is)

pub overflow_sub-text_start-2 : goal.overflow_sub-text_start-2
overflow_sub-text_start-2 c =
    let g = given c.args.block.now c.args.self.now c.args.from c.args.end c.requires.view c.requires.from c.requires.end c.requires.length in
    let fresh_end : c.fresh-fresh.result.text_end ≡ length c.args.other.now = ap (λ (v : DataView). v.text_end) c.fresh-fresh.ensures.header in
    let bounds = g.fields.bounds in
    omega (arith, g.ends.high, g.fields.end, g.end_is, c.requires.as_long)

pub slice_bounds-text-count : goal.slice_bounds-text-count
slice_bounds-text-count c =
    let g = given c.args.block.now c.args.self.now c.args.from c.args.end c.requires.view c.requires.from c.requires.end c.requires.length in
    omega (arith, g.ends.low, g.fields.start, g.end_is)

pub slice_bounds-text-start : goal.slice_bounds-text-start
slice_bounds-text-start c =
    let g = given c.args.block.now c.args.self.now c.args.from c.args.end c.requires.view c.requires.from c.requires.end c.requires.length in
    let bounds = g.fields.bounds in
    let fields = g.fields in
    let within : c.args.self.now.text_start ≤ length c.args.block.now = omega arith in
    search rules

pub slice_bounds-text-end : goal.slice_bounds-text-end
slice_bounds-text-end c =
    let g = given c.args.block.now c.args.self.now c.args.from c.args.end c.requires.view c.requires.from c.requires.end c.requires.length in
    let bounds = g.fields.bounds in
    let within : c.args.end ≤ length c.args.block.now = omega (arith, g.ends.high, g.end_is) in
    search rules

pub slice_bounds-index-end : goal.slice_bounds-index-end
slice_bounds-index-end c =
    let g = given c.args.block.now c.args.self.now c.args.from c.args.end c.requires.view c.requires.from c.requires.end c.requires.length in
    let bounds = g.fields.bounds in
    let within : 24 + 4 * c.args.self.now.count ≤ length c.args.block.now = omega (arith, g.fields.count) in
    search rules

pub move_starts-requires-clause-above : goal.move_starts-requires-clause-above
move_starts-requires-clause-above c =
    let g = given c.args.block.now c.args.self.now c.args.from c.args.end c.requires.view c.requires.from c.requires.end c.requires.length in
    let to : ℕ = length c.args.block.now - (c.args.end - c.args.self.now.text_start) in
    let copied = after_index c.args.block.now c.args.self.now c.args.from c.args.end to g c.put_bytes.new.block c.put_bytes-2.new.block c.entry_place.result c.entry_place-2.result c.entry_place.ensures c.entry_place-2.ensures c.put_bytes-2.ensures in
    starts_above c.args.block.now c.args.self.now c.args.from c.args.end to g c.put_bytes.new.block c.put_bytes-2.new.block (omega arith) copied

pub move_starts-requires-clause-places : goal.move_starts-requires-clause-places
move_starts-requires-clause-places c =
    let g = given c.args.block.now c.args.self.now c.args.from c.args.end c.requires.view c.requires.from c.requires.end c.requires.length in
    let to : ℕ = length c.args.block.now - (c.args.end - c.args.self.now.text_start) in
    let fresh_end : c.fresh-fresh.result.text_end ≡ length c.args.block.now = ap (λ (v : DataView). v.text_end) c.fresh-fresh.ensures.header ∙ c.requires.as_long in
    let copied = after_index c.args.block.now c.args.self.now c.args.from c.args.end to g c.put_bytes.new.block c.put_bytes-2.new.block c.entry_place.result c.entry_place-2.result c.entry_place.ensures c.entry_place-2.ensures c.put_bytes-2.ensures in
    rw fresh_end (starts_fit c.args.block.now c.args.self.now c.args.from c.args.end to g c.put_bytes.new.block c.put_bytes-2.new.block (omega arith) copied)

pub returns : goal.returns
returns c =
    let g = given c.args.block.now c.args.self.now c.args.from c.args.end c.requires.view c.requires.from c.requires.end c.requires.length in
    let to : ℕ = length c.args.block.now - (c.args.end - c.args.self.now.text_start) in
    let fresh_end : c.fresh-fresh.result.text_end ≡ length c.args.block.now = ap (λ (v : DataView). v.text_end) c.fresh-fresh.ensures.header ∙ c.requires.as_long in
    let front : take 4 c.fresh-fresh.new.block ≡ id_bytes = rw c.fresh-fresh.ensures.bytes refl in
    let text = rw fresh_end at c.put_bytes.ensures in
    let copied = after_text c.args.block.now c.args.self.now c.args.from c.args.end to g c.fresh-fresh.new.block c.put_bytes.new.block text in
    let indexed = after_index c.args.block.now c.args.self.now c.args.from c.args.end to g c.put_bytes.new.block c.put_bytes-2.new.block c.entry_place.result c.entry_place-2.result c.entry_place.ensures c.entry_place-2.ensures c.put_bytes-2.ensures in
    let moved = rw fresh_end at c.move_starts.ensures.moved in
    let written = rw fresh_end at c.write_header.ensures in
    let limit = c.requires.length.limit in
    let done = all_done c.args.block.now c.args.self.now c.args.from c.args.end to g c.fresh-fresh.new.block c.put_bytes.new.block c.put_bytes-2.new.block c.move_starts.new.block c.write_header.new.block c.fresh-fresh.result
    (omega arith) c.fresh-fresh.ensures.view front copied (omega arith) indexed (omega arith) moved (omega arith) c.move_starts.ensures.before c.move_starts.ensures.after (omega arith) (omega arith) written in
    rw fresh_end done
