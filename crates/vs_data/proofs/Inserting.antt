-- A line that is put into a block: the text and the index open, and each line is one of the old ones or the new one.
use Rattle.std.proofs.Common.{◌≡◌, ◌≢◌, ℕ, zero, suc, ◌+◌, ◌-◌, ◌*◌, ◌/◌, ◌%◌, ◌^◌, ◌<◌, ◌≤◌, true, map, List, [], ◌∷◌, ◌++◌, length, take, drop, Some, Ok, sym, ap, ◌∙◌, inl, inr, subst, ⊎_elim, arith}
use Rattle.std.specs.List.{All, insert, range_with_len}
use Rattle.std.specs.Option.{option_map}
use Rattle.std.proofs.lemmas.Bool.{cases_lt}
use Rattle.vs_bytes.specs.Fields.{Little, bytes_of, field_at, number_at, number_of, with_field, with_number}
use Rattle.vs_bytes.proofs.FieldLaws.{field_at-with_field, length-bytes_of, length-field_at, length-with_field, number_at-with_number, number_at-with_number_apart}
use Rattle.vs_data.specs.declared.DataView.{DataView}
use Rattle.vs_data.specs.Blocks.{KeepsFrame, count_in, each_line, end_at, entry_at, is_line, line_at, lines_in, mark_at, marks_in, start_at, text_end_in, text_start_in, view_in}
use Rattle.vs_data.proofs.Entries.{EntriesMoved, entry_after, entry_before}
use Rattle.vs_data.proofs.Headers.{HasHeader, header_view, same_id}
use Rattle.vs_data.proofs.Lines.{lines_are}
use Rattle.vs_data.proofs.Lists.{map-insert}
use Rattle.vs_data.proofs.Reading.{EndsWithin, IsBlock, block_from_lines, ends_fall, ends_within, good_entry, lies_within, text_starts, view_answer}
use Rattle.vs_data.proofs.Stored.{IsLine, MovedStart, SameLine, line_put, same_line, start_moves}
use Rattle.vs_data.proofs.Moves.{Keeps, field_after, field_before, field_moved, kept_by_write, kept_in_more, kept_on}

-- the text below `end` stands lower by the size of the bytes that stand there now
pub record TextOpened (old new : List ℕ) (start end size : ℕ) (bytes : List ℕ) : Type 0 where
  pub keeps : Keeps old new (start - size) end
  pub here : field_at new (end - size) size ≡ bytes
  pub below : (place width : ℕ) → start ≤ place → place + width ≤ end → field_at new (place - size) width ≡ field_at old place width

pub text_opens : (old : List ℕ) (start end size : ℕ) (bytes : List ℕ) → length bytes ≡ size → start ≤ end → end ≤ length old → size ≤ start
    → TextOpened old (with_field (with_field old (start - size) (field_at old start (end - start))) (end - size) bytes) start end size bytes
text_opens old start end size bytes wide order within room =
    let text : List ℕ = field_at old start (end - start) in
    let text_wide : length text ≡ end - start = length-field_at old start (end - start) (omega arith) in
    let mid : List ℕ = with_field old (start - size) text in
    let mid_long : length mid ≡ length old = length-with_field old (start - size) text (omega arith) in
    record {
      keeps = kept_on old mid (with_field mid (end - size) bytes) (start - size) end
          (kept_by_write old (start - size) text (start - size) end (omega arith) (omega arith) (omega arith))
          (kept_by_write mid (end - size) bytes (start - size) end (omega arith) (omega arith) (omega arith));
      here = field_at-with_field mid (end - size) bytes size (omega arith) wide;
      below = λ place width low high.
          field_before mid (with_field mid (end - size) bytes) (end - size) end (place - size) width
          (kept_by_write mid (end - size) bytes (end - size) end (omega arith) (omega arith) (omega arith)) (omega arith)
          ∙ field_moved old old start (end - start) (start - size) (place - size) place width (omega arith) (omega arith) low (omega arith) (omega arith);
    }

-- the index entries from one line on stand higher by one, and the one in the gap is given
pub record IndexOpened (old new : List ℕ) (at count value : ℕ) : Type 0 where
  pub keeps : Keeps old new (24 + 4 * at) (24 + 4 * (count + 1))
  pub here : entry_at new at ≡ value
  pub after : (k : ℕ) → at ≤ k → k < count → entry_at new (suc k) ≡ entry_at old k

pub index_opens : (old : List ℕ) (at count value : ℕ) → at ≤ count → 24 + 4 * (count + 1) ≤ length old → value < 2 ^ 32
    → IndexOpened old (with_number Little 4 (with_field old (24 + 4 * (at + 1)) (field_at old (24 + 4 * at) (4 * (count - at)))) (24 + 4 * at) value) at count value
index_opens old at count value order room fits =
    let place : ℕ = 24 + 4 * at in
    let entries : List ℕ = field_at old place (4 * (count - at)) in
    let entries_wide : length entries ≡ 4 * (count - at) = length-field_at old place (4 * (count - at)) (omega arith) in
    let mid : List ℕ = with_field old (24 + 4 * (at + 1)) entries in
    let mid_long : length mid ≡ length old = length-with_field old (24 + 4 * (at + 1)) entries (omega arith) in
    let wide : length (bytes_of Little 4 value) ≡ 4 = length-bytes_of Little 4 value in
    record {
      keeps = kept_on old mid (with_number Little 4 mid place value) place (24 + 4 * (count + 1))
          (kept_by_write old (24 + 4 * (at + 1)) entries place (24 + 4 * (count + 1)) (omega arith) (omega arith) (omega arith))
          (kept_by_write mid place (bytes_of Little 4 value) place (24 + 4 * (count + 1)) (omega arith) (omega arith) (omega arith));
      here = number_at-with_number Little 4 mid place value (omega arith) fits;
      after = λ k low high.
          number_at-with_number_apart Little 4 mid place value Little 4 (24 + 4 * suc k) (omega arith) (inr (omega arith))
          ∙ ap (number_of Little 4) (field_moved old old place (4 * (count - at)) (24 + 4 * (at + 1)) (24 + 4 * suc k) (24 + 4 * k) 4 (omega arith) (omega arith) (omega arith) (omega arith) (omega arith));
    }

-- what the bytes of the new block are
pub record Inserts (old new : List ℕ) (at size : ℕ) (bytes : List ℕ) : Type 0 where
  pub same_length : length new ≡ length old
  pub text_end : text_end_in new ≡ text_end_in old
  pub before : (k : ℕ) → k < at → entry_at new k ≡ entry_at old k
  pub here : entry_at new at + size ≡ end_at old at
  pub after : (k : ℕ) → at ≤ k → k < count_in old → entry_at new (suc k) + size ≡ entry_at old k
  pub above : (place width : ℕ) → end_at old at ≤ place → field_at new place width ≡ field_at old place width
  pub gap : field_at new (end_at old at - size) size ≡ bytes
  pub below : (place width : ℕ) → text_start_in old ≤ place → place + width ≤ end_at old at → field_at new (place - size) width ≡ field_at old place width
  pub front : take 4 new ≡ take 4 old
  pub beyond : drop (text_end_in old) new ≡ drop (text_end_in old) old

-- a block, where a line fits in before line `at`
pub record HasRoom (old : List ℕ) (at : ℕ) (line : List ℕ) : Type 0 where
  pub block : IsBlock old
  pub within : at ≤ count_in old
  pub size : 24 + 4 * count_in old + length line + 5 ≤ text_start_in old
  pub places : text_end_in old ≤ 2 ^ 31
  pub no_zero : All (λ byte. byte ≢ 0) line

module _ (old new : List ℕ) (at : ℕ) (line : List ℕ) (room : HasRoom old at line) (puts : Inserts old new at (length line + 1) (line ++ 0 ∷ [])) where
  end_within : EndsWithin old at
  end_within = ends_within old at room.block room.within

  ends_before : (k : ℕ) → k ≤ at → end_at new k ≡ end_at old k
  ends_before zero low = puts.text_end
  ends_before (suc k) low = ap (λ (e : ℕ). e % 2 ^ 31) (puts.before k (omega arith))

  new_start : start_at new at + (length line + 1) ≡ end_at old at
  new_start = let end = end_within in let here = puts.here in omega (arith, room.places)

  new_mark : mark_at new at ≡ 0
  new_mark = let end = end_within in let here = puts.here in omega (arith, room.places)

  old_start : (k : ℕ) → at ≤ k → k < count_in old → MovedStart (entry_at old k) (entry_at new (suc k)) (length line + 1) 0
  old_start k low high =
      let lies = lies_within old k room.block high in
      start_moves (entry_at old k) (entry_at new (suc k)) (length line + 1) 0 (omega (arith, puts.after k low high)) (omega (arith, room.size)) (omega (arith, room.places))

  ends_after : (k : ℕ) → at ≤ k → k ≤ count_in old → end_at new (suc k) + (length line + 1) ≡ end_at old k
  ends_after zero low high =
      let is : at ≡ zero = omega arith in
      subst (λ (i : ℕ). start_at new i + (length line + 1) ≡ end_at old i) is new_start
  ends_after (suc j) low high =
      ⊎_elim
      (λ (past : at < suc j). let moved = old_start j (omega arith) (omega arith) in omega (arith, moved.start))
      (λ (here : suc j ≤ at). let is : at ≡ suc j = omega arith in subst (λ (i : ℕ). start_at new i + (length line + 1) ≡ end_at old i) is new_start)
      (cases_lt at (suc j))

  lines_before : (k : ℕ) → k < at → SameLine old k new k
  lines_before k low =
      let lies = lies_within old k room.block (omega (arith, room.within)) in
      let end : end_at new k ≡ end_at old k = ends_before k (omega arith) in
      let start : start_at new k ≡ start_at old k = ends_before (suc k) (omega arith) in
      let over = ends_fall old (suc k) at (λ j below. room.block.entries j (omega (arith, room.within))) (omega arith) in
      same_line old k new k (ap (λ (e : ℕ). e / 2 ^ 31) (puts.before k low)) (omega (arith, lies.order)) (omega (arith, lies.end, lies.length)) (omega (arith, lies.end, lies.length, puts.same_length)) (omega arith)
      (rw start (puts.above (start_at old k) (end_at old k - start_at old k) over))

  lines_after : (k : ℕ) → at ≤ k → k < count_in old → SameLine old k new (suc k)
  lines_after k low high =
      let lies = lies_within old k room.block high in
      let moved = old_start k low high in
      let end : end_at new (suc k) + (length line + 1) ≡ end_at old k = ends_after k low (omega arith) in
      let start : start_at new (suc k) ≡ start_at old k - (length line + 1) = omega (arith, moved.start) in
      let under = ends_fall old at k (λ j below. room.block.entries j (omega arith)) low in
      same_line old k new (suc k) moved.mark (omega (arith, lies.order)) (omega (arith, lies.end, lies.length)) (omega (arith, lies.end, lies.length, puts.same_length)) (omega (arith, moved.start))
      (rw start (puts.below (start_at old k) (end_at old k - start_at old k) lies.start (omega (arith, lies.order))))

  line_here : IsLine new at line
  line_here =
      let end = end_within in
      let bounds = room.block.bounds in
      let stop : end_at new at ≡ end_at old at = ends_before at (omega arith) in
      let start : start_at new at ≡ end_at old at - (length line + 1) = omega (arith, new_start) in
      line_put new at line room.no_zero (omega (arith, puts.same_length)) (rw stop new_start) (rw start puts.gap)

  pub inserted_block : count_in new ≡ count_in old + 1 → text_start_in new + (length line + 1) ≡ text_start_in old → number_at Little 2 new 0 ≡ 0x6461 → IsBlock new
  inserted_block count start id =
      let bounds = room.block.bounds in
      let end = end_within in
      let starts = text_starts old room.block in
      let last : end_at new (suc (count_in old)) + (length line + 1) ≡ end_at old (count_in old) = ends_after (count_in old) room.within (omega arith) in
      let is : count_in new ≡ suc (count_in old) = omega arith in
      let begins : end_at new (suc (count_in old)) ≡ text_start_in new = omega arith in
      block_from_lines new
      (record {
        header = omega (arith, puts.same_length, bounds.header);
        id = id;
        index = omega (arith, room.size);
        text = omega (arith, puts.text_end, bounds.text);
        within = omega (arith, puts.text_end, puts.same_length, bounds.within);
        empty = inl (omega arith);
      })
      (subst (λ (i : ℕ). end_at new i ≡ text_start_in new) (sym is) begins)
      (λ k within. ⊎_elim
      (λ (low : k < at). (lines_before k low).is ∙ (good_entry old k (room.block.entries k (omega (arith, room.within)))).is)
      (λ (high : at ≤ k). ⊎_elim
      (λ (past : at < k). let is : suc (k - 1) ≡ k = omega arith in
      subst (λ (i : ℕ). is_line new (start_at new i) (end_at new i) ≡ true) is
      ((lines_after (k - 1) (omega arith) (omega arith)).is ∙ (good_entry old (k - 1) (room.block.entries (k - 1) (omega arith))).is))
      (λ (same : k ≤ at). let is : at ≡ k = omega arith in subst (λ (i : ℕ). is_line new (start_at new i) (end_at new i) ≡ true) is line_here.is)
      (cases_lt at k))
      (cases_lt k at))

  pub inserted_lines : count_in new ≡ count_in old + 1 → each_line new (λ k. line_at new k) ≡ insert (each_line old (λ k. line_at old k)) at line
  inserted_lines count =
      ap (λ (n : ℕ). map (λ k. line_at new k) (range_with_len 0 n)) count
      ∙ map-insert (λ k. line_at old k) (λ k. line_at new k) (count_in old) at line room.within (λ k low. (lines_before k low).line) line_here.line (λ k low high. (lines_after k low high).line)

  pub inserted_marks : count_in new ≡ count_in old + 1 → marks_in new ≡ insert (marks_in old) at 0
  inserted_marks count =
      ap (λ (n : ℕ). map (λ k. mark_at new k) (range_with_len 0 n)) count
      ∙ map-insert (λ k. mark_at old k) (λ k. mark_at new k) (count_in old) at 0 room.within (λ k low. (lines_before k low).mark) new_mark (λ k low high. (lines_after k low high).mark)

-- the steps of the code: the text, the index, the starts that move with the text, and the header
pub record InsertSteps (old text index starts new : List ℕ) (view : DataView) (at : ℕ) (line : List ℕ) : Type 0 where
  pub text_opened : TextOpened old text (text_start_in old) (end_at old at) (length line + 1) (line ++ 0 ∷ [])
  pub index_opened : IndexOpened text index at (count_in old) (end_at old at - (length line + 1))
  pub moved : EntriesMoved index starts (at + 1) (count_in old + 1) (text_start_in old) (text_start_in old - (length line + 1))
  pub header : HasHeader starts new view
  pub text_end : view.text_end ≡ text_end_in old

pub inserts_line : (old text index starts new : List ℕ) (view : DataView) (at : ℕ) (line : List ℕ) → HasRoom old at line → InsertSteps old text index starts new view at line
    → Inserts old new at (length line + 1) (line ++ 0 ∷ [])
inserts_line old text index starts new view at line room steps =
    let n : ℕ = count_in old in
    let start : ℕ = text_start_in old in
    let end : ℕ = end_at old at in
    let size : ℕ = length line + 1 in
    let gap : ℕ = 24 + 4 * at in
    let past : ℕ = 24 + 4 * (n + 1) in
    let ends = ends_within old at room.block room.within in
    let fits : past ≤ start - size = omega (arith, room.size) in
    let index_kept : Keeps text starts gap past =
    kept_on text index starts gap past steps.index_opened.keeps (kept_in_more index starts (24 + 4 * (at + 1)) past gap past steps.moved.keeps (omega arith) (omega arith)) in
    let header_kept : Keeps starts new 4 24 = steps.header.keeps in
    let kept : Keeps text new 4 past =
    kept_on text starts new 4 past (kept_in_more text starts gap past 4 past index_kept (omega arith) (omega arith)) (kept_in_more starts new 4 24 4 past header_kept (omega arith) (omega arith)) in
    let text_kept : Keeps old text (start - size) end = steps.text_opened.keeps in
    let last : (k : ℕ) → entry_at new k ≡ entry_at starts k = λ k. entry_after starts new 4 24 k header_kept (omega arith) in
    let first : (k : ℕ) → k < n → entry_at text k ≡ entry_at old k = λ k within. entry_before old text (start - size) end k text_kept (omega arith) in
    record {
      same_length = kept.same_length ∙ text_kept.same_length;
      text_end = steps.header.end ∙ steps.text_end;
      before = λ k below. last k ∙ entry_before text starts gap past k index_kept (omega arith) ∙ first k (omega (arith, room.within));
      here = (let is = last at ∙ entry_before index starts (24 + 4 * (at + 1)) past at steps.moved.keeps (omega arith) ∙ steps.index_opened.here in omega arith);
      after = λ k above until.
          (let moved = steps.moved.moved (suc k) (omega arith) (omega arith) in
          let was = steps.index_opened.after k above until ∙ first k until in
          let is = last (suc k) in
          omega arith);
      above = λ place width over. field_after text new 4 past place width kept (omega arith) ∙ field_after old text (start - size) end place width text_kept over;
      gap = field_after text new 4 past (end - size) size kept (omega arith) ∙ steps.text_opened.here;
      below = λ place width from until. field_after text new 4 past (place - size) width kept (omega arith) ∙ steps.text_opened.below place width from until;
      front = kept.before ∙ (kept_in_more old text (start - size) end 4 end text_kept (omega arith) (omega arith)).before;
      beyond = (kept_in_more text new 4 past 4 (text_end_in old) kept (omega arith) (omega arith)).after
          ∙ (kept_in_more old text (start - size) end (start - size) (text_end_in old) text_kept (omega arith) (omega arith)).after;
    }

-- what is said of the new block
pub record Inserted (old new : List ℕ) (view : DataView) (at : ℕ) (line : List ℕ) : Type 0 where
  pub is : view_in new ≡ Ok view
  pub lines : lines_in new ≡ option_map (λ lines. insert lines at line) (lines_in old)
  pub marks : marks_in new ≡ insert (marks_in old) at 0
  pub frame : KeepsFrame old new view

pub inserted : (old text index starts new : List ℕ) (before view : DataView) (at : ℕ) (line : List ℕ) → HasRoom old at line → view_in old ≡ Ok before
    → InsertSteps old text index starts new view at line → view.count ≡ count_in old + 1 → view.text_start + (length line + 1) ≡ text_start_in old
    → Inserted old new view at line
inserted old text index starts new before view at line room e steps count start =
    let puts = inserts_line old text index starts new view at line room steps in
    let many : count_in new ≡ count_in old + 1 = steps.header.count ∙ count in
    let bounds = room.block.bounds in
    let id : number_at Little 2 new 0 ≡ 0x6461 = same_id old new puts.front ∙ bounds.id in
    let block = inserted_block old new at line room puts many (omega (arith, steps.header.start)) id in
    let is : view_in new ≡ Ok view = view_answer new block ∙ ap Ok (header_view starts new view steps.header) in
    record {
      is = is;
      lines = lines_are new view is ∙ ap Some (inserted_lines old new at line room puts many) ∙ sym (ap (option_map (λ lines. insert lines at line)) (lines_are old before e));
      marks = inserted_marks old new at line room puts many;
      frame = record { free = steps.header.free; front = puts.front; beyond = rw steps.text_end puts.beyond };
    }
