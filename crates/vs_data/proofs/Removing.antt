-- A line that is taken out of a block: the text and the index close, and each line is one of the old ones.
use Rattle.std.proofs.Common.{◌≡◌, ℕ, zero, suc, ◌+◌, ◌-◌, ◌*◌, ◌/◌, ◌%◌, ◌^◌, ◌<◌, ◌≤◌, map, List, length, take, drop, Some, Ok, refl, sym, ap, ◌∙◌, inl, inr, subst, ⊎_elim, arith}
use Rattle.std.specs.List.{range_with_len, remove}
use Rattle.std.specs.Option.{option_map}
use Rattle.std.proofs.lemmas.Bool.{cases_lt}
use Rattle.vs_bytes.specs.Fields.{Little, field_at, number_at, number_of, with_field}
use Rattle.vs_bytes.proofs.FieldLaws.{length-field_at}
use Rattle.vs_data.specs.declared.DataView.{DataView}
use Rattle.vs_data.specs.Blocks.{KeepsFrame, count_in, each_line, end_at, entry_at, line_at, lines_in, mark_at, marks_in, start_at, text_end_in, text_start_in, view_in}
use Rattle.vs_data.proofs.Entries.{EntriesMoved, entry_after, entry_before}
use Rattle.vs_data.proofs.Headers.{HasHeader, header_view, same_id}
use Rattle.vs_data.proofs.Lines.{lines_are}
use Rattle.vs_data.proofs.Lists.{map-remove}
use Rattle.vs_data.proofs.Moves.{Keeps, field_after, field_moved, kept_by_write, kept_in_more, kept_on}
use Rattle.vs_data.proofs.Reading.{IsBlock, block_from_lines, ends_fall, ends_within, good_entry, lies_within, text_starts, view_answer}
use Rattle.vs_data.proofs.Stored.{MovedStart, SameLine, same_line, start_moves}

-- the text from `start` up to a line's bytes stands higher by their size, over them
pub record TextClosed (old new : List ℕ) (start line size : ℕ) : Type 0 where
  pub keeps : Keeps old new start (line + size)
  pub below : (place width : ℕ) → start ≤ place → place + width ≤ line → field_at new (place + size) width ≡ field_at old place width

pub text_closes : (old : List ℕ) (start line size : ℕ) → start ≤ line → line + size ≤ length old
    → TextClosed old (with_field old (start + size) (field_at old start (line - start))) start line size
text_closes old start line size order within =
    let text : List ℕ = field_at old start (line - start) in
    let wide : length text ≡ line - start = length-field_at old start (line - start) (omega arith) in
    record {
      keeps = kept_by_write old (start + size) text start (line + size) (omega arith) (omega arith) (omega arith);
      below = λ place width low high. field_moved old old start (line - start) (start + size) (place + size) place width (omega arith) (omega arith) low (omega arith) (omega arith);
    }

-- the index entries after a line's stand lower by one, over it
pub record IndexClosed (old new : List ℕ) (at count : ℕ) : Type 0 where
  pub keeps : Keeps old new (24 + 4 * at) (24 + 4 * count)
  pub after : (k : ℕ) → at ≤ k → suc k < count → entry_at new k ≡ entry_at old (suc k)

pub index_closes : (old : List ℕ) (at count : ℕ) → at < count → 24 + 4 * count ≤ length old
    → IndexClosed old (with_field old (24 + 4 * at) (field_at old (24 + 4 * (at + 1)) (4 * (count - 1 - at)))) at count
index_closes old at count order room =
    let wide : ℕ = 4 * (count - 1 - at) in
    let entries : List ℕ = field_at old (24 + 4 * (at + 1)) wide in
    let entries_wide : length entries ≡ wide = length-field_at old (24 + 4 * (at + 1)) wide (omega arith) in
    record {
      keeps = kept_by_write old (24 + 4 * at) entries (24 + 4 * at) (24 + 4 * count) (omega arith) (omega arith) (omega arith);
      after = λ k low high.
          ap (number_of Little 4) (field_moved old old (24 + 4 * (at + 1)) wide (24 + 4 * at) (24 + 4 * k) (24 + 4 * suc k) 4 (omega arith) (omega arith) (omega arith) (omega arith) (omega arith));
    }

-- what the bytes of the new block are
pub record Removes (old new : List ℕ) (at size : ℕ) : Type 0 where
  pub same_length : length new ≡ length old
  pub text_end : text_end_in new ≡ text_end_in old
  pub before : (k : ℕ) → k < at → entry_at new k ≡ entry_at old k
  pub after : (k : ℕ) → at ≤ k → suc k < count_in old → entry_at new k ≡ entry_at old (suc k) + size
  pub above : (place width : ℕ) → end_at old at ≤ place → field_at new place width ≡ field_at old place width
  pub below : (place width : ℕ) → text_start_in old ≤ place → place + width ≤ start_at old at → field_at new (place + size) width ≡ field_at old place width
  pub front : take 4 new ≡ take 4 old
  pub beyond : drop (text_end_in old) new ≡ drop (text_end_in old) old

-- a block with a line `at`
pub record HasLine (old : List ℕ) (at size : ℕ) : Type 0 where
  pub block : IsBlock old
  pub within : at < count_in old
  pub size_is : start_at old at + size ≡ end_at old at
  pub places : text_end_in old ≤ 2 ^ 31

module _ (old new : List ℕ) (at size : ℕ) (has : HasLine old at size) (takes : Removes old new at size) where
  ends_before : (k : ℕ) → k ≤ at → end_at new k ≡ end_at old k
  ends_before zero low = takes.text_end
  ends_before (suc k) low = ap (λ (e : ℕ). e % 2 ^ 31) (takes.before k (omega arith))

  new_start : (k : ℕ) → at ≤ k → suc k < count_in old → MovedStart (entry_at old (suc k)) (entry_at new k) 0 size
  new_start k low high =
      let under = ends_fall old (suc at) (suc k) (λ j below. has.block.entries j (omega arith)) (omega arith) in
      let lies = lies_within old (suc k) has.block high in
      let ends = ends_within old at has.block (omega (arith, has.within)) in
      start_moves (entry_at old (suc k)) (entry_at new k) 0 size (omega (arith, takes.after k low high)) (omega arith) (omega (arith, has.size_is, has.places, lies.order, ends.high))

  ends_here : end_at new at ≡ end_at old (suc at) + size
  ends_here = ends_before at (omega arith) ∙ sym has.size_is

  ends_after : (k : ℕ) → at ≤ k → suc k ≤ count_in old → end_at new k ≡ end_at old (suc k) + size
  ends_after zero low high =
      let is : at ≡ zero = omega arith in
      subst (λ (i : ℕ). end_at new i ≡ end_at old (suc i) + size) is ends_here
  ends_after (suc j) low high =
      ⊎_elim
      (λ (past : at < suc j). let moved = new_start j (omega arith) (omega arith) in omega (arith, moved.start))
      (λ (here : suc j ≤ at). let is : at ≡ suc j = omega arith in subst (λ (i : ℕ). end_at new i ≡ end_at old (suc i) + size) is ends_here)
      (cases_lt at (suc j))

  lines_before : (k : ℕ) → k < at → SameLine old k new k
  lines_before k low =
      let lies = lies_within old k has.block (omega (arith, has.within)) in
      let end : end_at new k ≡ end_at old k = ends_before k (omega arith) in
      let start : start_at new k ≡ start_at old k = ends_before (suc k) (omega arith) in
      let over = ends_fall old (suc k) at (λ j below. has.block.entries j (omega (arith, has.within))) (omega arith) in
      same_line old k new k (ap (λ (e : ℕ). e / 2 ^ 31) (takes.before k low)) lies.order (omega (arith, lies.end, lies.length)) (omega (arith, lies.end, lies.length, takes.same_length)) (omega arith)
      (rw start (takes.above (start_at old k) (end_at old k - start_at old k) over))

  lines_after : (k : ℕ) → at ≤ k → suc k < count_in old → SameLine old (suc k) new k
  lines_after k low high =
      let lies = lies_within old (suc k) has.block high in
      let moved = new_start k low high in
      let end : end_at new k ≡ end_at old (suc k) + size = ends_after k low (omega arith) in
      let start : start_at new k ≡ start_at old (suc k) + size = omega (arith, moved.start) in
      let under = ends_fall old (suc at) (suc k) (λ j below. has.block.entries j (omega arith)) (omega arith) in
      let top = ends_within old at has.block (omega (arith, has.within)) in
      same_line old (suc k) new k moved.mark lies.order (omega (arith, lies.end, lies.length)) (omega (arith, has.size_is, top.high, lies.length, takes.same_length)) (omega arith)
      (rw start (takes.below (start_at old (suc k)) (end_at old (suc k) - start_at old (suc k)) lies.start (omega (arith, lies.order))))

  pub removed_block : count_in new ≡ count_in old - 1 → text_start_in new ≡ text_start_in old + size → number_at Little 2 new 0 ≡ 0x6461 → IsBlock new
  removed_block count start id =
      let bounds = has.block.bounds in
      let top = ends_within old at has.block (omega (arith, has.within)) in
      let bottom = ends_within old (suc at) has.block (omega (arith, has.within)) in
      let starts = text_starts old has.block in
      let whole : suc (count_in old - 1) ≡ count_in old = omega (arith, has.within) in
      let last : end_at new (count_in old - 1) ≡ end_at old (suc (count_in old - 1)) + size = ends_after (count_in old - 1) (omega (arith, has.within)) (omega arith) in
      let last' : end_at new (count_in old - 1) ≡ end_at old (count_in old) + size = subst (λ (i : ℕ). end_at new (count_in old - 1) ≡ end_at old i + size) whole last in
      let begins : end_at new (count_in old - 1) ≡ text_start_in new = omega arith in
      block_from_lines new
      (record {
        header = omega (arith, takes.same_length, bounds.header);
        id = id;
        index = omega (arith, bounds.index);
        text = omega (arith, takes.text_end, has.size_is, top.high, bottom.low);
        within = omega (arith, takes.text_end, takes.same_length, bounds.within);
        empty = ⊎_elim
            (λ (some : 1 < count_in old). inl (omega arith))
            (λ (one : count_in old ≤ 1).
            let first : count_in old - 1 ≡ 0 = omega arith in
            inr (sym begins ∙ subst (λ (i : ℕ). end_at new i ≡ text_end_in new) (sym first) refl))
            (cases_lt 1 (count_in old));
      })
      (subst (λ (i : ℕ). end_at new i ≡ text_start_in new) (sym count) begins)
      (λ k within. ⊎_elim
      (λ (low : k < at). (lines_before k low).is ∙ (good_entry old k (has.block.entries k (omega (arith, has.within)))).is)
      (λ (high : at ≤ k). (lines_after k high (omega arith)).is ∙ (good_entry old (suc k) (has.block.entries (suc k) (omega arith))).is)
      (cases_lt k at))

  pub removed_lines : count_in new ≡ count_in old - 1 → each_line new (λ k. line_at new k) ≡ remove (each_line old (λ k. line_at old k)) at
  removed_lines count =
      ap (λ (n : ℕ). map (λ k. line_at new k) (range_with_len 0 n)) count
      ∙ map-remove (λ k. line_at old k) (λ k. line_at new k) (count_in old) at has.within (λ k low. (lines_before k low).line) (λ k low high. (lines_after k low high).line)

  pub removed_marks : count_in new ≡ count_in old - 1 → marks_in new ≡ remove (marks_in old) at
  removed_marks count =
      ap (λ (n : ℕ). map (λ k. mark_at new k) (range_with_len 0 n)) count
      ∙ map-remove (λ k. mark_at old k) (λ k. mark_at new k) (count_in old) at has.within (λ k low. (lines_before k low).mark) (λ k low high. (lines_after k low high).mark)

-- the steps of the code: the text, the index, the starts that move with the text, and the header
pub record RemoveSteps (old text index starts new : List ℕ) (view : DataView) (at size : ℕ) : Type 0 where
  pub text_closed : TextClosed old text (text_start_in old) (start_at old at) size
  pub index_closed : IndexClosed text index at (count_in old)
  pub moved : EntriesMoved index starts at (count_in old - 1) (text_start_in old) (text_start_in old + size)
  pub header : HasHeader starts new view
  pub text_end : view.text_end ≡ text_end_in old

pub removes_line : (old text index starts new : List ℕ) (view : DataView) (at size : ℕ) → HasLine old at size → RemoveSteps old text index starts new view at size → Removes old new at size
removes_line old text index starts new view at size has steps =
    let n : ℕ = count_in old in
    let start : ℕ = text_start_in old in
    let line : ℕ = start_at old at in
    let place : ℕ = 24 + 4 * at in
    let past : ℕ = 24 + 4 * n in
    let bounds = has.block.bounds in
    let top = ends_within old at has.block (omega (arith, has.within)) in
    let bottom = ends_within old (suc at) has.block (omega (arith, has.within)) in
    let index_kept : Keeps text starts place past =
    kept_on text index starts place past steps.index_closed.keeps (kept_in_more index starts place (24 + 4 * (n - 1)) place past steps.moved.keeps (omega arith) (omega arith)) in
    let header_kept : Keeps starts new 4 24 = steps.header.keeps in
    let kept : Keeps text new 4 past =
    kept_on text starts new 4 past (kept_in_more text starts place past 4 past index_kept (omega arith) (omega arith)) (kept_in_more starts new 4 24 4 past header_kept (omega arith) (omega arith)) in
    let text_kept : Keeps old text start (line + size) = steps.text_closed.keeps in
    let last : (k : ℕ) → entry_at new k ≡ entry_at starts k = λ k. entry_after starts new 4 24 k header_kept (omega arith) in
    let first : (k : ℕ) → k < n → entry_at text k ≡ entry_at old k = λ k within. entry_before old text start (line + size) k text_kept (omega (arith, bounds.index)) in
    record {
      same_length = kept.same_length ∙ text_kept.same_length;
      text_end = steps.header.end ∙ steps.text_end;
      before = λ k below. last k ∙ entry_before text starts place past k index_kept (omega arith) ∙ first k (omega (arith, has.within));
      after = λ k above until.
          (let moved = steps.moved.moved k above (omega arith) in
          let was = steps.index_closed.after k above until ∙ first (suc k) until in
          let is = last k in
          omega arith);
      above = λ place width over. field_after text new 4 past place width kept (omega (arith, bounds.index)) ∙ field_after old text start (line + size) place width text_kept (omega (arith, has.size_is));
      below = λ place width from until. field_after text new 4 past (place + size) width kept (omega (arith, bounds.index)) ∙ steps.text_closed.below place width from until;
      front = kept.before ∙ (kept_in_more old text start (line + size) 4 (line + size) text_kept (omega (arith, bounds.index)) (omega arith)).before;
      beyond = (kept_in_more text new 4 past 4 (text_end_in old) kept (omega arith) (omega (arith, bounds.index, bounds.text))).after
          ∙ (kept_in_more old text start (line + size) start (text_end_in old) text_kept (omega arith) (omega (arith, has.size_is, top.high))).after;
    }

-- what is said of the new block
pub record Removed (old new : List ℕ) (view : DataView) (at : ℕ) : Type 0 where
  pub is : view_in new ≡ Ok view
  pub lines : lines_in new ≡ option_map (λ lines. remove lines at) (lines_in old)
  pub marks : marks_in new ≡ remove (marks_in old) at
  pub frame : KeepsFrame old new view

pub removed : (old text index starts new : List ℕ) (before view : DataView) (at size : ℕ) → HasLine old at size → view_in old ≡ Ok before
    → RemoveSteps old text index starts new view at size → view.count ≡ count_in old - 1 → view.text_start ≡ text_start_in old + size
    → Removed old new view at
removed old text index starts new before view at size has e steps count start =
    let takes = removes_line old text index starts new view at size has steps in
    let many : count_in new ≡ count_in old - 1 = steps.header.count ∙ count in
    let bounds = has.block.bounds in
    let id : number_at Little 2 new 0 ≡ 0x6461 = same_id old new takes.front ∙ bounds.id in
    let block = removed_block old new at size has takes many (steps.header.start ∙ start) id in
    let is : view_in new ≡ Ok view = view_answer new block ∙ ap Ok (header_view starts new view steps.header) in
    record {
      is = is;
      lines = lines_are new view is ∙ ap Some (removed_lines old new at size has takes many) ∙ sym (ap (option_map (λ lines. remove lines at)) (lines_are old before e));
      marks = removed_marks old new at size has takes many;
      frame = record { free = steps.header.free; front = takes.front; beyond = rw steps.text_end takes.beyond };
    }
