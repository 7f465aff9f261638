-- A block that is split: the first lines stay where they are, and the others are copied with their places moved.
use Rattle.std.proofs.Common.{◌≡◌, ℕ, zero, suc, ◌+◌, ◌-◌, ◌*◌, ◌/◌, ◌%◌, ◌^◌, ◌<◌, ◌≤◌, map, List, length, take, drop, Some, Ok, refl, sym, ap, ◌∙◌, inl, inr, subst, ⊎_elim, arith}
use Rattle.std.specs.List.{range_with_len}
use Rattle.std.specs.Option.{option_map}
use Rattle.std.proofs.lemmas.Bool.{cases_lt}
use Rattle.vs_bytes.specs.Fields.{Little, field_at, number_at, number_of, with_field}
use Rattle.vs_bytes.proofs.FieldLaws.{length-field_at}
use Rattle.vs_data.specs.declared.DataView.{DataView}
use Rattle.vs_data.specs.Blocks.{HasRest, KeepsFrame, count_in, each_line, end_at, entry_at, id_bytes, line_at, lines_in, mark_at, marks_in, start_at, text_end_in, text_start_in, view_in}
use Rattle.vs_data.proofs.Entries.{EntriesMoved, entry_after}
use Rattle.vs_data.proofs.Headers.{HasHeader, header_view, same_id}
use Rattle.vs_data.proofs.Lines.{lines_are}
use Rattle.vs_data.proofs.Lists.{map-drop, map-take}
use Rattle.vs_data.proofs.Moves.{Keeps, field_after, field_moved, kept_by_write, kept_in_more, kept_on}
use Rattle.vs_data.proofs.Reading.{IsBlock, block_from_lines, ends_fall, ends_within, good_entry, lies_within, text_starts, view_answer}
use Rattle.vs_data.proofs.Stored.{MovedStart, SameLine, same_line, start_moves}

-- a block under a new header, which counts some of the lines from the first on
pub record FirstLines (old new : List ℕ) (view : DataView) (from : ℕ) : Type 0 where
  pub block : IsBlock old
  pub within : from ≤ count_in old
  pub header : HasHeader old new view
  pub count : view.count ≡ from
  pub start : view.text_start ≡ end_at old from
  pub end : view.text_end ≡ text_end_in old

module _ (old new : List ℕ) (view : DataView) (from : ℕ) (has : FirstLines old new view from) where
  first_ends : (k : ℕ) → end_at new k ≡ end_at old k
  first_ends zero = has.header.end ∙ has.end
  first_ends (suc k) = ap (λ (e : ℕ). e % 2 ^ 31) (entry_after old new 4 24 k has.header.keeps (omega arith))

  first_line : (k : ℕ) → k < from → SameLine old k new k
  first_line k low =
      let bounds = has.block.bounds in
      let lies = lies_within old k has.block (omega (arith, has.within)) in
      let start : start_at new k ≡ start_at old k = first_ends (suc k) in
      same_line old k new k (ap (λ (e : ℕ). e / 2 ^ 31) (entry_after old new 4 24 k has.header.keeps (omega arith))) lies.order
      (omega (arith, lies.end, lies.length)) (omega (arith, first_ends k, lies.end, lies.length, has.header.keeps.same_length)) (omega (arith, first_ends k))
      (rw start (field_after old new 4 24 (start_at old k) (end_at old k - start_at old k) has.header.keeps (omega (arith, lies.start, bounds.index))))

  first_block : IsBlock new
  first_block =
      let bounds = has.block.bounds in
      let ends = ends_within old from has.block has.within in
      let count : count_in new ≡ from = has.header.count ∙ has.count in
      let start : text_start_in new ≡ end_at old from = has.header.start ∙ has.start in
      let end : text_end_in new ≡ text_end_in old = has.header.end ∙ has.end in
      block_from_lines new
      (record {
        header = omega (arith, has.header.keeps.same_length, bounds.header);
        id = same_id old new has.header.keeps.before ∙ bounds.id;
        index = omega (arith, has.within, bounds.index, ends.low);
        text = omega (arith, ends.high);
        within = omega (arith, has.header.keeps.same_length, bounds.within);
        empty = ⊎_elim
            (λ (some : 0 < from). inl (omega arith))
            (λ (none : from ≤ 0).
            let is : from ≡ 0 = omega arith in
            inr (start ∙ subst (λ (i : ℕ). end_at old i ≡ text_end_in new) (sym is) (sym end)))
            (cases_lt 0 from);
      })
      (subst (λ (i : ℕ). end_at new i ≡ text_start_in new) (sym count) (first_ends from ∙ sym start))
      (λ k within. (first_line k (omega arith)).is ∙ (good_entry old k (has.block.entries k (omega (arith, has.within)))).is)

  pub first_is : view_in new ≡ Ok view
  first_is = view_answer new first_block ∙ ap Ok (header_view old new view has.header)

  pub first_lines : (before : DataView) → view_in old ≡ Ok before → lines_in new ≡ option_map (λ lines. take from lines) (lines_in old)
  first_lines before e =
      lines_are new view first_is
      ∙ ap (λ (n : ℕ). Some (map (λ k. line_at new k) (range_with_len 0 n))) (has.header.count ∙ has.count)
      ∙ ap Some (map-take (λ k. line_at old k) (λ k. line_at new k) (count_in old) from has.within (λ k low. (first_line k low).line))
      ∙ sym (ap (option_map (λ lines. take from lines)) (lines_are old before e))

  pub first_marks : marks_in new ≡ take from (marks_in old)
  first_marks =
      ap (λ (n : ℕ). map (λ k. mark_at new k) (range_with_len 0 n)) (has.header.count ∙ has.count)
      ∙ map-take (λ k. mark_at old k) (λ k. mark_at new k) (count_in old) from has.within (λ k low. (first_line k low).mark)

  pub first_frame : KeepsFrame old new view
  first_frame =
      let bounds = has.block.bounds in
      record {
        free = has.header.free;
        front = has.header.keeps.before;
        beyond = rw has.end (kept_in_more old new 4 24 4 (text_end_in old) has.header.keeps (omega arith) (omega (arith, bounds.index, bounds.text))).after;
      }

-- a block with lines from `from` on, whose text goes to the end of a block as long, where it begins at `to`
pub record RestFits (old : List ℕ) (from to : ℕ) : Type 0 where
  pub block : IsBlock old
  pub within : from ≤ count_in old
  pub to_is : to + end_at old from ≡ length old + text_start_in old
  pub places : length old ≤ 2 ^ 31

-- what the bytes of the new block are
pub record CopiesRest (old new : List ℕ) (from to : ℕ) : Type 0 where
  pub same_length : length new ≡ length old
  pub text_end : text_end_in new ≡ length old
  pub entries : (k : ℕ) → from + k < count_in old → entry_at new k + text_start_in old ≡ entry_at old (from + k) + to
  pub text : (place moved width : ℕ) → text_start_in old ≤ place → place + width ≤ end_at old from → moved + text_start_in old ≡ place + to
      → field_at new moved width ≡ field_at old place width

module _ (old new : List ℕ) (from to : ℕ) (has : RestFits old from to) (copies : CopiesRest old new from to) where
  rest_start : (k : ℕ) → from + k < count_in old → MovedStart (entry_at old (from + k)) (entry_at new k) (text_start_in old) to
  rest_start k within =
      let bounds = has.block.bounds in
      let lies = lies_within old (from + k) has.block within in
      let under = ends_fall old from (from + k) (λ j below. has.block.entries j (omega arith)) (omega arith) in
      start_moves (entry_at old (from + k)) (entry_at new k) (text_start_in old) to (copies.entries k within) (omega (arith, lies.start)) (omega (arith, lies.order, has.to_is, has.places))

  rest_ends : (k : ℕ) → from + k ≤ count_in old → end_at new k + text_start_in old ≡ end_at old (from + k) + to
  rest_ends zero within =
      let is : from + 0 ≡ from = omega arith in
      rw is (omega (arith, copies.text_end, has.to_is))
  rest_ends (suc j) within =
      let is : from + suc j ≡ suc (from + j) = omega arith in
      let moved = rest_start j (omega arith) in
      rw is moved.start

  rest_line : (k : ℕ) → from + k < count_in old → SameLine old (from + k) new k
  rest_line k within =
      let lies = lies_within old (from + k) has.block within in
      let moved = rest_start k within in
      let end = rest_ends k (omega arith) in
      let under = ends_fall old from (from + k) (λ j below. has.block.entries j (omega arith)) (omega arith) in
      same_line old (from + k) new k moved.mark lies.order (omega (arith, lies.end, lies.length)) (omega (arith, copies.same_length, has.to_is)) (omega (arith, moved.start))
      (copies.text (start_at old (from + k)) (start_at new k) (end_at old (from + k) - start_at old (from + k)) lies.start (omega (arith, lies.order)) moved.start)

  pub rest_block : count_in new ≡ count_in old - from → text_start_in new ≡ to → number_at Little 2 new 0 ≡ 0x6461 → IsBlock new
  rest_block count start id =
      let bounds = has.block.bounds in
      let ends = ends_within old from has.block has.within in
      let starts = text_starts old has.block in
      let all : from + (count_in old - from) ≡ count_in old = omega (arith, has.within) in
      let last : end_at new (count_in old - from) + text_start_in old ≡ end_at old (from + (count_in old - from)) + to = rest_ends (count_in old - from) (omega arith) in
      let last' : end_at new (count_in old - from) + text_start_in old ≡ end_at old (count_in old) + to = rw all at last in
      let begins : end_at new (count_in old - from) ≡ text_start_in new = omega arith in
      block_from_lines new
      (record {
        header = omega (arith, copies.same_length, bounds.header);
        id = id;
        index = omega (arith, bounds.index, ends.high, bounds.within, has.to_is);
        text = omega (arith, copies.text_end, has.to_is, ends.low);
        within = omega (arith, copies.text_end, copies.same_length);
        empty = ⊎_elim
            (λ (some : from < count_in old). inl (omega arith))
            (λ (none : count_in old ≤ from).
            let is : count_in old - from ≡ 0 = omega arith in
            inr (sym begins ∙ subst (λ (i : ℕ). end_at new i ≡ text_end_in new) (sym is) refl))
            (cases_lt from (count_in old));
      })
      (subst (λ (i : ℕ). end_at new i ≡ text_start_in new) (sym count) begins)
      (λ k within. (rest_line k (omega arith)).is ∙ (good_entry old (from + k) (has.block.entries (from + k) (omega arith))).is)

  pub rest_lines : count_in new ≡ count_in old - from → each_line new (λ k. line_at new k) ≡ drop from (each_line old (λ k. line_at old k))
  rest_lines count =
      ap (λ (n : ℕ). map (λ k. line_at new k) (range_with_len 0 n)) count
      ∙ map-drop (λ k. line_at old k) (λ k. line_at new k) (count_in old) from has.within (λ k within. (rest_line k within).line)

  pub rest_marks : count_in new ≡ count_in old - from → marks_in new ≡ drop from (marks_in old)
  rest_marks count =
      ap (λ (n : ℕ). map (λ k. mark_at new k) (range_with_len 0 n)) count
      ∙ map-drop (λ k. mark_at old k) (λ k. mark_at new k) (count_in old) from has.within (λ k within. (rest_line k within).mark)

-- the index entries that are copied
pub entries_copied : (old text index : List ℕ) (from to : ℕ) → RestFits old from to → length text ≡ length old
    → index ≡ with_field text 24 (field_at old (24 + 4 * from) (4 * (count_in old - from)))
    → (k : ℕ) → from + k < count_in old → entry_at index k ≡ entry_at old (from + k)
entries_copied old text index from to has long is k within =
    let bounds = has.block.bounds in
    rw is (ap (number_of Little 4)
    (field_moved text old (24 + 4 * from) (4 * (count_in old - from)) 24 (24 + 4 * k) (24 + 4 * (from + k)) 4 (omega (arith, bounds.header))
    (omega (arith, bounds.index, bounds.text, bounds.within)) (omega arith) (omega arith) (omega arith)))

-- the steps of the code: a fresh block, the text and the index copied over it, the starts that move with the text, and the header
pub record RestSteps (old fresh text index starts new : List ℕ) (view : DataView) (from to : ℕ) : Type 0 where
  pub same_length : length fresh ≡ length old
  pub id : number_at Little 2 fresh 0 ≡ 0x6461
  pub front : take 4 fresh ≡ id_bytes
  pub text_copied : text ≡ with_field fresh to (field_at old (text_start_in old) (end_at old from - text_start_in old))
  pub index_copied : index ≡ with_field text 24 (field_at old (24 + 4 * from) (4 * (count_in old - from)))
  pub moved : EntriesMoved index starts 0 (count_in old - from) (text_start_in old) to
  pub header : HasHeader starts new view
  pub text_end : view.text_end ≡ length old

pub copies_rest : (old fresh text index starts new : List ℕ) (view : DataView) (from to : ℕ) → RestFits old from to → RestSteps old fresh text index starts new view from to
    → CopiesRest old new from to × (take 4 new ≡ take 4 fresh)
copies_rest old fresh text index starts new view from to has steps =
    let n : ℕ = count_in old in
    let start : ℕ = text_start_in old in
    let wide : ℕ = end_at old from - start in
    let past : ℕ = 24 + 4 * (n - from) in
    let bounds = has.block.bounds in
    let ends = ends_within old from has.block has.within in
    let text_wide : length (field_at old start wide) ≡ wide = length-field_at old start wide (omega (arith, ends.low, ends.high, bounds.within)) in
    let index_wide : length (field_at old (24 + 4 * from) (4 * (n - from))) ≡ 4 * (n - from) =
    length-field_at old (24 + 4 * from) (4 * (n - from)) (omega (arith, has.within, bounds.index, bounds.text, bounds.within)) in
    let fits : past ≤ to = omega (arith, bounds.index, ends.high, bounds.within, has.to_is) in
    let text_kept : Keeps fresh text to (length old) =
    rw steps.text_copied (kept_by_write fresh to (field_at old start wide) to (length old) (omega (arith, steps.same_length, has.to_is, ends.low)) (omega arith) (omega (arith, has.to_is, ends.low))) in
    let text_long = text_kept.same_length in
    let index_kept : Keeps text index 24 past =
    rw steps.index_copied (kept_by_write text 24 (field_at old (24 + 4 * from) (4 * (n - from))) 24 past (omega (arith, text_long, steps.same_length, bounds.index, bounds.text, bounds.within)) (omega arith) (omega arith)) in
    let starts_kept : Keeps text starts 24 past =
    kept_on text index starts 24 past index_kept steps.moved.keeps in
    let header_kept : Keeps starts new 4 24 = steps.header.keeps in
    let kept : Keeps text new 4 past =
    kept_on text starts new 4 past (kept_in_more text starts 24 past 4 past starts_kept (omega arith) (omega arith)) (kept_in_more starts new 4 24 4 past header_kept (omega arith) (omega arith)) in (
      record {
        same_length = kept.same_length ∙ text_long ∙ steps.same_length;
        text_end = steps.header.end ∙ steps.text_end;
        entries = λ k within.
            (let moved = steps.moved.moved k (omega arith) (omega arith) in
            let was = entries_copied old text index from to has (text_long ∙ steps.same_length) steps.index_copied k within in
            let is = entry_after starts new 4 24 k header_kept (omega arith) in
            omega arith);
        text = λ place moved width low high same.
            field_after text new 4 past moved width kept (omega arith)
            ∙ rw steps.text_copied (field_moved fresh old start wide to moved place width (omega (arith, steps.same_length, has.to_is, ends.low)) (omega (arith, ends.low, ends.high, bounds.within)) low (omega (arith, ends.low)) (omega arith));
      },
      kept.before ∙ (kept_in_more fresh text to (length old) 4 (length old) text_kept (omega arith) (omega arith)).before,
    )

pub rest_copied : (old fresh text index starts new : List ℕ) (before view : DataView) (from to : ℕ) → RestFits old from to → view_in old ≡ Ok before
    → RestSteps old fresh text index starts new view from to → view.count ≡ count_in old - from → view.text_start ≡ to
    → HasRest old from new view
rest_copied old fresh text index starts new before view from to has e steps count start =
    let both = copies_rest old fresh text index starts new view from to has steps in
    let copies = both.0 in
    let many : count_in new ≡ count_in old - from = steps.header.count ∙ count in
    let block = rest_block old new from to has copies many (steps.header.start ∙ start) (same_id fresh new both.1 ∙ steps.id) in
    let is : view_in new ≡ Ok view = view_answer new block ∙ ap Ok (header_view starts new view steps.header) in
    record {
      count = count;
      start = omega (arith, has.to_is);
      end = steps.text_end;
      answer = is;
      lines = lines_are new view is ∙ ap Some (rest_lines old new from to has copies many) ∙ sym (ap (option_map (λ lines. drop from lines)) (lines_are old before e));
      marks = rest_marks old new from to has copies many;
      free = steps.header.free;
      front = both.1 ∙ steps.front;
    }
