-- Each step of the code is one of the steps that join two blocks' lines.
use Rattle.std.proofs.Common.{◌≡◌, ◌+◌, ◌-◌, ◌*◌, ◌%◌, ◌^◌, ◌<◌, ◌≤◌, ℕ, List, Ok, length, take, drop, refl, sym, ap, subst, ◌∙◌, arith, rules}
use Rattle.vs_bytes.specs.Fields.{field_at, with_field}
use Rattle.vs_bytes.proofs.FieldLaws.{length-field_at}
use Rattle.vs_data.specs.declared.DataView.{DataView}
use Rattle.vs_data.specs.Blocks.{count_in, end_at, entry_at, free_space, header_of, start_at, text_start_in, view_in}
use Rattle.vs_data.proofs.Entries.{EntriesMoved, entry_after, entry_before}
use Rattle.vs_data.proofs.Headers.{HasHeader, header_written}
use Rattle.vs_data.proofs.Inserting.{TextOpened, text_opens}
use Rattle.vs_data.proofs.Joining.{HasSpace, IndexJoined, Joined, index_joins, joined}
use Rattle.vs_data.proofs.Reading.{HasView, ends_within, has_view, lies_within, view_bounds, view_holds}
use Rattle.vs_data.proofs.DataView.insert_lines.Goals as goal

-- what the caller gives
record Given (old other : List ℕ) (view more : DataView) (at : ℕ) : Type 0 where
  is : view_in old ≡ Ok view
  more_is : view_in other ≡ Ok more
  fields : HasView old view
  lines : HasView other more
  space : HasSpace old other at (more.text_end - more.text_start)
  order : view.text_start ≤ end_at old at
  high : end_at old at ≤ view.text_end
  within : view.text_end ≤ length old
  at_most : at ≤ view.count
  low : more.text_start ≤ more.text_end
  inside : more.text_end ≤ length other
  index : 24 + 4 * more.count ≤ more.text_start
  size : 24 + 4 * view.count + 4 * more.count + (more.text_end - more.text_start) ≤ view.text_start

given : (old other : List ℕ) (view more : DataView) (at : ℕ) → view_in old ≡ Ok view → view_in other ≡ Ok more → view.text_end ≤ 2 ^ 31 → at ≤ view.count
    → 4 * more.count + (more.text_end - more.text_start) ≤ free_space view → Given old other view more at
given old other view more at e f places within fits =
    let v = has_view old view (view_bounds old view e) in
    let w = has_view other more (view_bounds other more f) in
    let bounds = v.bounds in
    let others = w.bounds in
    let block = (view_holds old view e).0 in
    let ends = ends_within old at block (omega arith) in
    record {
      is = e;
      more_is = f;
      fields = v;
      lines = w;
      space = record { block = block; lines = (view_holds other more f).0; text = omega arith; within = omega arith; room = omega arith; places = omega arith };
      order = omega arith;
      high = omega arith;
      within = omega arith;
      at_most = within;
      low = omega arith;
      inside = omega arith;
      index = omega arith;
      size = omega arith;
    }

module _ (old other : List ℕ) (view more : DataView) (at : ℕ) (g : Given old other view more at) (size : ℕ) (size_is : size ≡ more.text_end - more.text_start) where
  after_text : (text : List ℕ) (end : ℕ) → end ≡ end_at old at
      → (let bytes = field_at other more.text_start (more.text_end - more.text_start) in
      text ≡ with_field (with_field old (view.text_start - length bytes) (field_at old view.text_start (end - view.text_start))) (end - length bytes) bytes)
      → TextOpened old text (text_start_in old) (end_at old at) size (field_at other (text_start_in other) size)
  after_text text end end_is text_is =
      let bytes : List ℕ = field_at other more.text_start (more.text_end - more.text_start) in
      let f : ℕ → ℕ → ℕ → List ℕ → List ℕ = λ n s e b. with_field (with_field old (s - n) (field_at old s (e - s))) (e - n) b in
      let wide : length bytes ≡ size = length-field_at other more.text_start (more.text_end - more.text_start) (omega (arith, g.low, g.inside)) ∙ sym size_is in
      let bytes_is : bytes ≡ field_at other (text_start_in other) size = ap (λ (n : ℕ). field_at other more.text_start n) (sym size_is) ∙ ap (λ (s : ℕ). field_at other s size) g.lines.start in
      let is = text_is ∙ ap (λ (n : ℕ). f n view.text_start end bytes) wide ∙ ap (λ (s : ℕ). f size s end bytes) g.fields.start
      ∙ ap (λ (e : ℕ). f size (text_start_in old) e bytes) end_is ∙ ap (λ (b : List ℕ). f size (text_start_in old) (end_at old at) b) bytes_is in
      subst (λ (t : List ℕ). TextOpened old t (text_start_in old) (end_at old at) size (field_at other (text_start_in other) size)) (sym is)
      (text_opens old (text_start_in old) (end_at old at) size (field_at other (text_start_in other) size) (ap length (sym bytes_is) ∙ wide)
      (omega (arith, g.order, g.fields.start)) (omega (arith, g.high, g.within)) (omega (arith, g.size, g.fields.start)))

  after_index : (text index : List ℕ) (last : ℕ) → last ≡ 24 + 4 * more.count → length text ≡ length old
      → (let entries = field_at other 24 (last - 24) in
      index ≡ with_field (with_field text (24 + 4 * at + length entries) (field_at text (24 + 4 * at) (4 * (view.count - at)))) (24 + 4 * at) entries)
      → IndexJoined text index other at (count_in old) (count_in other)
  after_index text index last last_is long index_is =
      let wide : last - 24 ≡ 4 * count_in other = omega (arith, g.lines.count) in
      let entries : List ℕ = field_at other 24 (last - 24) in
      let f : ℕ → ℕ → List ℕ → List ℕ = λ n c e. with_field (with_field text (24 + 4 * at + n) (field_at text (24 + 4 * at) (4 * (c - at)))) (24 + 4 * at) e in
      let entries_is : entries ≡ field_at other 24 (4 * count_in other) = ap (λ (n : ℕ). field_at other 24 n) wide in
      let lies : 24 + 4 * count_in other ≤ length other = omega (arith, g.index, g.low, g.inside, g.lines.count) in
      let full : length entries ≡ 4 * count_in other = ap length entries_is ∙ length-field_at other 24 (4 * count_in other) lies in
      let is = index_is ∙ ap (λ (n : ℕ). f n view.count entries) full ∙ ap (λ (c : ℕ). f (4 * count_in other) c entries) g.fields.count
      ∙ ap (λ (e : List ℕ). f (4 * count_in other) (count_in old) e) entries_is in
      subst (λ (t : List ℕ). IndexJoined text t other at (count_in old) (count_in other)) (sym is)
      (index_joins text other at (count_in old) (count_in other) g.space.within (omega (arith, g.size, g.order, g.high, g.within, g.fields.count, g.lines.count)) lies)

  -- the new lines' starts, as they stand in the index before they are moved
  own_starts : (text index : List ℕ) → IndexJoined text index other at (count_in old) (count_in other) → (k : ℕ) → at ≤ k → k < at + more.count
      → (more.text_start ≤ start_at index k) × (start_at index k < more.text_start + size)
  own_starts text index indexed k low high =
      let j : ℕ = k - at in
      let within : j < count_in other = omega (arith, g.lines.count) in
      let is : at + j ≡ k = omega arith in
      let was : start_at index (at + j) ≡ start_at other j = ap (λ (e : ℕ). e % 2 ^ 31) (indexed.here j within) in
      let was' = rw is at was in
      let lies = lies_within other j g.space.lines within in
      (omega (arith, was', lies.start, g.lines.start), omega (arith, was', lies.order, lies.end, g.lines.start, g.lines.end, g.low))

  -- the index with the new lines' starts moved
  after_own : (index lines : List ℕ) (end : ℕ) → end ≡ end_at old at
      → ((k : ℕ) → at ≤ k → k < at + more.count → entry_at lines k + more.text_start ≡ entry_at index k + (end - size)) → length lines ≡ length index
      → take (24 + 4 * at) lines ≡ take (24 + 4 * at) index → drop (24 + 4 * (at + more.count)) lines ≡ drop (24 + 4 * (at + more.count)) index
      → EntriesMoved index lines at (at + count_in other) (text_start_in other) (end_at old at - size)
  after_own index lines end end_is moved long before after =
      record {
        moved = λ k low high. omega (arith, moved k low (omega (arith, g.lines.count)), end_is, g.lines.start);
        keeps = record {
          same_length = long;
          before = before;
          after = subst (λ (n : ℕ). drop (24 + 4 * (at + n)) lines ≡ drop (24 + 4 * (at + n)) index) g.lines.count after;
        };
      }

  -- the starts that move with the text
  moved_starts : (text index lines : List ℕ) → TextOpened old text (text_start_in old) (end_at old at) size (field_at other (text_start_in other) size)
      → IndexJoined text index other at (count_in old) (count_in other) → EntriesMoved index lines at (at + count_in other) (text_start_in other) (end_at old at - size)
      → (k : ℕ) → at + more.count ≤ k → k < view.count + more.count → view.text_start ≤ start_at lines k
  moved_starts text index lines opened indexed own k low high =
      let j : ℕ = k - more.count in
      let within : j < count_in old = omega (arith, g.fields.count) in
      let is : count_in other + j ≡ k = omega (arith, g.lines.count) in
      let was : entry_at lines (count_in other + j) ≡ entry_at old j =
      entry_after index lines (24 + 4 * at) (24 + 4 * (at + count_in other)) (count_in other + j) own.keeps (omega (arith, g.lines.count)) ∙ indexed.after j (omega arith) within
      ∙ entry_before old text (text_start_in old - size) (end_at old at) j opened.keeps (omega (arith, g.size, g.fields.start, g.fields.count, size_is)) in
      let was' : entry_at lines k ≡ entry_at old j = subst (λ (i : ℕ). entry_at lines i ≡ entry_at old j) is was in
      let lies = lies_within old j g.space.block within in
      omega (arith, ap (λ (e : ℕ). e % 2 ^ 31) was', lies.start, g.fields.start)

  -- the view that the code ends with
  abbrev after_view : DataView
  after_view = record { count = view.count + more.count; text_start = view.text_start - size; text_end = view.text_end }

  all_done : (text index lines starts new : List ℕ) → TextOpened old text (text_start_in old) (end_at old at) size (field_at other (text_start_in other) size)
      → IndexJoined text index other at (count_in old) (count_in other) → EntriesMoved index lines at (at + count_in other) (text_start_in other) (end_at old at - size)
      → ((k : ℕ) → at + more.count ≤ k → k < view.count + more.count → entry_at starts k + view.text_start ≡ entry_at lines k + (view.text_start - size))
      → length starts ≡ length lines
      → take (24 + 4 * (at + more.count)) starts ≡ take (24 + 4 * (at + more.count)) lines
      → drop (24 + 4 * (view.count + more.count)) starts ≡ drop (24 + 4 * (view.count + more.count)) lines
      → view.text_start < 2 ^ 32 → view.text_end < 2 ^ 32
      → new ≡ with_field starts 4 (header_of after_view)
      → HasSpace old other at size → Joined old other new after_view at
  all_done text index lines starts new opened indexed own moved long before after start_fits end_fits new_is space =
      let text_long = opened.keeps.same_length in
      let index_long = indexed.keeps.same_length in
      let lines_long = own.keeps.same_length in
      let header : HasHeader starts new after_view =
      subst (λ (t : List ℕ). HasHeader starts t after_view) (sym new_is) (header_written starts after_view (omega (arith, g.size, g.order, g.high, g.within)) (omega (arith, g.size)) (omega arith) end_fits) in
      joined old other text index lines starts new view more after_view at size space g.is g.more_is
      (record {
        text_opened = opened;
        index_joined = indexed;
        own = own;
        moved = record {
          moved = λ k low high. omega (arith, moved k (omega (arith, g.lines.count)) (omega (arith, g.fields.count, g.lines.count)), g.fields.start);
          keeps = record {
            same_length = long;
            before = subst (λ (n : ℕ). take (24 + 4 * (at + n)) starts ≡ take (24 + 4 * (at + n)) lines) g.lines.count before;
            after = subst (λ (n : ℕ). drop (24 + 4 * (n + count_in other)) starts ≡ drop (24 + 4 * (n + count_in other)) lines) g.fields.count
                (subst (λ (n : ℕ). drop (24 + 4 * (view.count + n)) starts ≡ drop (24 + 4 * (view.count + n)) lines) g.lines.count after);
          };
        };
        header = header;
        text_end = g.fields.end;
      })
      (omega (arith, g.fields.count, g.lines.count)) (omega (arith, g.size, g.fields.start, size_is))

pub end-end-requires-clause-view : goal.end-end-requires-clause-view
end-end-requires-clause-view c = view_bounds c.args.block.now c.args.self.now c.requires.view

pub overflow_sub-size : goal.overflow_sub-size
overflow_sub-size c =
    let g = given c.args.block.now c.args.lines.now c.args.self.now c.args.more c.args.at c.requires.view c.requires.more c.requires.places c.requires.at c.requires.fits in
    g.low

pub overflow_sub-text_start : goal.overflow_sub-text_start
overflow_sub-text_start c =
    let g = given c.args.block.now c.args.lines.now c.args.self.now c.args.more c.args.at c.requires.view c.requires.more c.requires.places c.requires.at c.requires.fits in
    omega (arith, g.size)

pub slice_bounds-text-count : goal.slice_bounds-text-count
slice_bounds-text-count c =
    let g = given c.args.block.now c.args.lines.now c.args.self.now c.args.more c.args.at c.requires.view c.requires.more c.requires.places c.requires.at c.requires.fits in
    omega (arith, g.low)

pub slice_bounds-text-start : goal.slice_bounds-text-start
slice_bounds-text-start c =
    let g = given c.args.block.now c.args.lines.now c.args.self.now c.args.more c.args.at c.requires.view c.requires.more c.requires.places c.requires.at c.requires.fits in
    let within : c.args.more.text_start ≤ length c.args.lines.now = omega (arith, g.low, g.inside) in
    search rules

pub slice_bounds-text-end : goal.slice_bounds-text-end
slice_bounds-text-end c =
    let g = given c.args.block.now c.args.lines.now c.args.self.now c.args.more c.args.at c.requires.view c.requires.more c.requires.places c.requires.at c.requires.fits in
    let within : c.args.more.text_end ≤ length c.args.lines.now = g.inside in
    search rules

pub slice_bounds-index-end : goal.slice_bounds-index-end
slice_bounds-index-end c =
    let g = given c.args.block.now c.args.lines.now c.args.self.now c.args.more c.args.at c.requires.view c.requires.more c.requires.places c.requires.at c.requires.fits in
    let within : 24 + 4 * c.args.more.count ≤ length c.args.lines.now = omega (arith, g.index, g.low, g.inside) in
    search rules

pub join_text-requires-clause-order : goal.join_text-requires-clause-order
join_text-requires-clause-order c =
    let g = given c.args.block.now c.args.lines.now c.args.self.now c.args.more c.args.at c.requires.view c.requires.more c.requires.places c.requires.at c.requires.fits in
    omega (arith, g.order)

pub join_text-requires-clause-within : goal.join_text-requires-clause-within
join_text-requires-clause-within c =
    let g = given c.args.block.now c.args.lines.now c.args.self.now c.args.more c.args.at c.requires.view c.requires.more c.requires.places c.requires.at c.requires.fits in
    omega (arith, g.high, g.within)

pub join_text-requires-clause-room : goal.join_text-requires-clause-room
join_text-requires-clause-room c =
    let g = given c.args.block.now c.args.lines.now c.args.self.now c.args.more c.args.at c.requires.view c.requires.more c.requires.places c.requires.at c.requires.fits in
    omega (arith, g.size, length-field_at c.args.lines.now c.args.more.text_start (c.args.more.text_end - c.args.more.text_start) (omega (arith, g.low, g.inside)))

pub join_index-requires-clause-room : goal.join_index-requires-clause-room
join_index-requires-clause-room c =
    let g = given c.args.block.now c.args.lines.now c.args.self.now c.args.more c.args.at c.requires.view c.requires.more c.requires.places c.requires.at c.requires.fits in
    omega (arith, g.order, g.high, g.within, g.size, length-field_at c.args.lines.now 24 (4 * c.args.more.count) (omega (arith, g.index, g.low, g.inside)))

pub overflow_sub-end : goal.overflow_sub-end
overflow_sub-end c =
    let g = given c.args.block.now c.args.lines.now c.args.self.now c.args.more c.args.at c.requires.view c.requires.more c.requires.places c.requires.at c.requires.fits in
    omega (arith, g.order, g.size)

pub move_starts-requires-clause-index : goal.move_starts-requires-clause-index
move_starts-requires-clause-index c =
    let g = given c.args.block.now c.args.lines.now c.args.self.now c.args.more c.args.at c.requires.view c.requires.more c.requires.places c.requires.at c.requires.fits in
    omega (arith, g.order, g.high, g.within, g.size, g.at_most)

pub move_starts-requires-clause-above : goal.move_starts-requires-clause-above
move_starts-requires-clause-above c =
    let g = given c.args.block.now c.args.lines.now c.args.self.now c.args.more c.args.at c.requires.view c.requires.more c.requires.places c.requires.at c.requires.fits in
    let opened = after_text c.args.block.now c.args.lines.now c.args.self.now c.args.more c.args.at g (c.args.more.text_end - c.args.more.text_start) refl c.join_text.new.block c.end-end.result c.end-end.ensures c.join_text.ensures in
    let indexed = after_index c.args.block.now c.args.lines.now c.args.self.now c.args.more c.args.at g (c.args.more.text_end - c.args.more.text_start) refl c.join_text.new.block c.join_index.new.block c.entry_place.result c.entry_place.ensures opened.keeps.same_length c.join_index.ensures in
    λ k low high. (own_starts c.args.block.now c.args.lines.now c.args.self.now c.args.more c.args.at g (c.args.more.text_end - c.args.more.text_start) refl c.join_text.new.block c.join_index.new.block indexed k low high).0

pub move_starts-requires-clause-places : goal.move_starts-requires-clause-places
move_starts-requires-clause-places c =
    let g = given c.args.block.now c.args.lines.now c.args.self.now c.args.more c.args.at c.requires.view c.requires.more c.requires.places c.requires.at c.requires.fits in
    let opened = after_text c.args.block.now c.args.lines.now c.args.self.now c.args.more c.args.at g (c.args.more.text_end - c.args.more.text_start) refl c.join_text.new.block c.end-end.result c.end-end.ensures c.join_text.ensures in
    let indexed = after_index c.args.block.now c.args.lines.now c.args.self.now c.args.more c.args.at g (c.args.more.text_end - c.args.more.text_start) refl c.join_text.new.block c.join_index.new.block c.entry_place.result c.entry_place.ensures opened.keeps.same_length c.join_index.ensures in
    λ k low high. omega (arith, (own_starts c.args.block.now c.args.lines.now c.args.self.now c.args.more c.args.at g (c.args.more.text_end - c.args.more.text_start) refl c.join_text.new.block c.join_index.new.block indexed k low high).1, g.order, g.high, g.size, c.requires.places)

pub move_starts-requires-2-clause-index : goal.move_starts-requires-2-clause-index
move_starts-requires-2-clause-index c =
    let g = given c.args.block.now c.args.lines.now c.args.self.now c.args.more c.args.at c.requires.view c.requires.more c.requires.places c.requires.at c.requires.fits in
    omega (arith, g.order, g.high, g.within, g.size)

pub move_starts-requires-2-clause-above : goal.move_starts-requires-2-clause-above
move_starts-requires-2-clause-above c =
    let g = given c.args.block.now c.args.lines.now c.args.self.now c.args.more c.args.at c.requires.view c.requires.more c.requires.places c.requires.at c.requires.fits in
    let opened = after_text c.args.block.now c.args.lines.now c.args.self.now c.args.more c.args.at g (c.args.more.text_end - c.args.more.text_start) refl c.join_text.new.block c.end-end.result c.end-end.ensures c.join_text.ensures in
    let indexed = after_index c.args.block.now c.args.lines.now c.args.self.now c.args.more c.args.at g (c.args.more.text_end - c.args.more.text_start) refl c.join_text.new.block c.join_index.new.block c.entry_place.result c.entry_place.ensures opened.keeps.same_length c.join_index.ensures in
    let own = after_own c.args.block.now c.args.lines.now c.args.self.now c.args.more c.args.at g (c.args.more.text_end - c.args.more.text_start) refl c.join_index.new.block c.move_starts.new.block c.end-end.result c.end-end.ensures c.move_starts.ensures.moved (omega arith) c.move_starts.ensures.before c.move_starts.ensures.after in
    moved_starts c.args.block.now c.args.lines.now c.args.self.now c.args.more c.args.at g (c.args.more.text_end - c.args.more.text_start) refl c.join_text.new.block c.join_index.new.block c.move_starts.new.block opened indexed own

pub write_header-requires : goal.write_header-requires
write_header-requires c =
    let g = given c.args.block.now c.args.lines.now c.args.self.now c.args.more c.args.at c.requires.view c.requires.more c.requires.places c.requires.at c.requires.fits in
    let bounds = g.fields.bounds in
    omega arith

pub returns : goal.returns
returns c =
    let g = given c.args.block.now c.args.lines.now c.args.self.now c.args.more c.args.at c.requires.view c.requires.more c.requires.places c.requires.at c.requires.fits in
    let opened = after_text c.args.block.now c.args.lines.now c.args.self.now c.args.more c.args.at g (c.args.more.text_end - c.args.more.text_start) refl c.join_text.new.block c.end-end.result c.end-end.ensures c.join_text.ensures in
    let indexed = after_index c.args.block.now c.args.lines.now c.args.self.now c.args.more c.args.at g (c.args.more.text_end - c.args.more.text_start) refl c.join_text.new.block c.join_index.new.block c.entry_place.result c.entry_place.ensures opened.keeps.same_length c.join_index.ensures in
    let own = after_own c.args.block.now c.args.lines.now c.args.self.now c.args.more c.args.at g (c.args.more.text_end - c.args.more.text_start) refl c.join_index.new.block c.move_starts.new.block c.end-end.result c.end-end.ensures c.move_starts.ensures.moved (omega arith) c.move_starts.ensures.before c.move_starts.ensures.after in
    let done = all_done c.args.block.now c.args.lines.now c.args.self.now c.args.more c.args.at g (c.args.more.text_end - c.args.more.text_start) refl c.join_text.new.block c.join_index.new.block c.move_starts.new.block c.move_starts-2.new.block c.write_header.new.block opened indexed own
    c.move_starts-2.ensures.moved (omega arith) c.move_starts-2.ensures.before c.move_starts-2.ensures.after (omega arith) (omega arith) c.write_header.ensures g.space in
    record {
      header = refl;
      view = done.is;
      lines = done.lines;
      marks = done.marks;
      frame = done.frame;
    }
