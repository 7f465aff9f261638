-- Lines of one block that are put into another: the text and the index open, and each line is one of the old ones or of the new ones.
use Rattle.std.proofs.Common.{◌≡◌, ℕ, zero, suc, ◌+◌, ◌-◌, ◌*◌, ◌/◌, ◌%◌, ◌^◌, ◌<◌, ◌≤◌, true, map, List, length, take, drop, Some, Ok, refl, sym, ap, ◌∙◌, inl, inr, subst, ⊎_elim, arith}
use Rattle.std.specs.List.{range_with_len}
use Rattle.std.proofs.lemmas.Bool.{cases_lt}
use Rattle.vs_bytes.specs.Fields.{Little, field_at, number_at, number_of, with_field}
use Rattle.vs_bytes.proofs.FieldLaws.{field_at-drop, field_at-take, length-field_at, length-with_field}
use Rattle.vs_data.specs.declared.DataView.{DataView}
use Rattle.vs_data.specs.Blocks.{KeepsFrame, count_in, each_line, end_at, entry_at, is_line, line_at, lines_in, mark_at, marks_in, put_in, start_at, text_end_in, text_start_in, view_in, with_lines_in}
use Rattle.vs_data.proofs.Entries.{EntriesMoved, entry_after, entry_before}
use Rattle.vs_data.proofs.Headers.{HasHeader, header_view, same_id}
use Rattle.vs_data.proofs.Inserting.{TextOpened}
use Rattle.vs_data.proofs.Lines.{lines_are}
use Rattle.vs_data.proofs.Lists.{map-put_in}
use Rattle.vs_data.proofs.Moves.{Keeps, field_after, field_moved, kept_by_write, kept_in_more, kept_on}
use Rattle.vs_data.proofs.Reading.{EndsWithin, IsBlock, block_from_lines, ends_fall, ends_within, good_entry, lies_within, text_starts, view_answer}
use Rattle.vs_data.proofs.Stored.{MovedStart, SameLine, same_line, start_moves}

-- a part of bytes that are the same
field_part : (xs ys : List ℕ) (a b size part width : ℕ) → field_at xs a size ≡ field_at ys b size → part + width ≤ size → field_at xs (a + part) width ≡ field_at ys (b + part) width
field_part xs ys a b size part width same inside =
    sym (field_at-take (drop a xs) size part width inside ∙ field_at-drop xs a part width) ∙ ap (λ (f : List ℕ). field_at f part width) same
    ∙ field_at-take (drop b ys) size part width inside ∙ field_at-drop ys b part width

-- the index entries from one line on stand higher, and those of another block stand in the gap
pub record IndexJoined (old new other : List ℕ) (at count more : ℕ) : Type 0 where
  pub keeps : Keeps old new (24 + 4 * at) (24 + 4 * (count + more))
  pub here : (j : ℕ) → j < more → entry_at new (at + j) ≡ entry_at other j
  pub after : (k : ℕ) → at ≤ k → k < count → entry_at new (more + k) ≡ entry_at old k

pub index_joins : (old other : List ℕ) (at count more : ℕ) → at ≤ count → 24 + 4 * (count + more) ≤ length old → 24 + 4 * more ≤ length other
    → IndexJoined old (with_field (with_field old (24 + 4 * at + 4 * more) (field_at old (24 + 4 * at) (4 * (count - at)))) (24 + 4 * at) (field_at other 24 (4 * more))) other at count more
index_joins old other at count more order room lies =
    let place : ℕ = 24 + 4 * at in
    let past : ℕ = 24 + 4 * (count + more) in
    let entries : List ℕ = field_at old place (4 * (count - at)) in
    let entries_wide : length entries ≡ 4 * (count - at) = length-field_at old place (4 * (count - at)) (omega arith) in
    let mid : List ℕ = with_field old (place + 4 * more) entries in
    let mid_long : length mid ≡ length old = length-with_field old (place + 4 * more) entries (omega arith) in
    let index : List ℕ = field_at other 24 (4 * more) in
    let index_wide : length index ≡ 4 * more = length-field_at other 24 (4 * more) lies in
    record {
      keeps = kept_on old mid (with_field mid place index) place past
          (kept_by_write old (place + 4 * more) entries place past (omega arith) (omega arith) (omega arith))
          (kept_by_write mid place index place past (omega arith) (omega arith) (omega arith));
      here = λ j within. ap (number_of Little 4) (field_moved mid other 24 (4 * more) place (24 + 4 * (at + j)) (24 + 4 * j) 4 (omega arith) (omega arith) (omega arith) (omega arith) (omega arith));
      after = λ k low high. ap (number_of Little 4)
          (field_after mid (with_field mid place index) place (place + 4 * more) (24 + 4 * (more + k)) 4
          (kept_by_write mid place index place (place + 4 * more) (omega arith) (omega arith) (omega arith)) (omega arith)
          ∙ field_moved old old place (4 * (count - at)) (place + 4 * more) (24 + 4 * (more + k)) (24 + 4 * k) 4 (omega arith) (omega arith) (omega arith) (omega arith) (omega arith));
    }

-- what the bytes of the new block are
pub record Joins (old other new : List ℕ) (at size : ℕ) : Type 0 where
  pub same_length : length new ≡ length old
  pub text_end : text_end_in new ≡ text_end_in old
  pub before : (k : ℕ) → k < at → entry_at new k ≡ entry_at old k
  pub here : (j : ℕ) → j < count_in other → entry_at new (at + j) + text_start_in other ≡ entry_at other j + (end_at old at - size)
  pub after : (k : ℕ) → at ≤ k → k < count_in old → entry_at new (count_in other + k) + size ≡ entry_at old k
  pub above : (place width : ℕ) → end_at old at ≤ place → field_at new place width ≡ field_at old place width
  pub gap : field_at new (end_at old at - size) size ≡ field_at other (text_start_in other) size
  pub below : (place width : ℕ) → text_start_in old ≤ place → place + width ≤ end_at old at → field_at new (place - size) width ≡ field_at old place width
  pub front : take 4 new ≡ take 4 old
  pub beyond : drop (text_end_in old) new ≡ drop (text_end_in old) old

-- a block, where the lines of another fit in before line `at`
pub record HasSpace (old other : List ℕ) (at size : ℕ) : Type 0 where
  pub block : IsBlock old
  pub lines : IsBlock other
  pub text : text_start_in other + size ≡ text_end_in other
  pub within : at ≤ count_in old
  pub room : 24 + 4 * count_in old + 4 * count_in other + size ≤ text_start_in old
  pub places : text_end_in old ≤ 2 ^ 31

module _ (old other new : List ℕ) (at size : ℕ) (space : HasSpace old other at size) (puts : Joins old other new at size) where
  end_within : EndsWithin old at
  end_within = ends_within old at space.block space.within

  ends_before : (k : ℕ) → k ≤ at → end_at new k ≡ end_at old k
  ends_before zero low = puts.text_end
  ends_before (suc k) low = ap (λ (e : ℕ). e % 2 ^ 31) (puts.before k (omega arith))

  new_start : (j : ℕ) → j < count_in other → MovedStart (entry_at other j) (entry_at new (at + j)) (text_start_in other) (end_at old at - size)
  new_start j within =
      let lies = lies_within other j space.lines within in
      let end = end_within in
      start_moves (entry_at other j) (entry_at new (at + j)) (text_start_in other) (end_at old at - size) (puts.here j within)
      (omega (arith, lies.start)) (omega (arith, lies.order, lies.end, space.text, space.room, space.places, end.low, end.high))

  new_ends : (j : ℕ) → j ≤ count_in other → end_at new (at + j) + text_start_in other ≡ end_at other j + (end_at old at - size)
  new_ends zero within =
      let is : at + zero ≡ at = omega arith in
      let end = end_within in
      rw is (omega (arith, ends_before at (omega arith), space.text, space.room, end.low))
  new_ends (suc j) within =
      let is : at + suc j ≡ suc (at + j) = omega arith in
      rw is (new_start j (omega arith)).start

  old_start : (k : ℕ) → at ≤ k → k < count_in old → MovedStart (entry_at old k) (entry_at new (count_in other + k)) size 0
  old_start k low high =
      let lies = lies_within old k space.block high in
      start_moves (entry_at old k) (entry_at new (count_in other + k)) size 0 (omega (arith, puts.after k low high)) (omega (arith, space.room, lies.start)) (omega (arith, space.places))

  end_past : end_at new (count_in other + at) + size ≡ end_at old at
  end_past =
      let all = new_ends (count_in other) (omega arith) in
      let starts = text_starts other space.lines in
      let end = end_within in
      let is : at + count_in other ≡ count_in other + at = omega arith in
      let all' = rw is at all in
      omega (arith, all', starts, space.room, end.low)

  ends_after : (k : ℕ) → at ≤ k → k ≤ count_in old → end_at new (count_in other + k) + size ≡ end_at old k
  ends_after zero low high =
      let is : at ≡ zero = omega arith in
      subst (λ (i : ℕ). end_at new (count_in other + i) + size ≡ end_at old i) is end_past
  ends_after (suc j) low high =
      ⊎_elim
      (λ (past : at < suc j).
      let moved = old_start j (omega arith) (omega arith) in
      let is : count_in other + suc j ≡ suc (count_in other + j) = omega arith in
      rw is (omega (arith, moved.start)))
      (λ (here : suc j ≤ at). let is : at ≡ suc j = omega arith in subst (λ (i : ℕ). end_at new (count_in other + i) + size ≡ end_at old i) is end_past)
      (cases_lt at (suc j))

  lines_before : (k : ℕ) → k < at → SameLine old k new k
  lines_before k low =
      let lies = lies_within old k space.block (omega (arith, space.within)) in
      let end : end_at new k ≡ end_at old k = ends_before k (omega arith) in
      let start : start_at new k ≡ start_at old k = ends_before (suc k) (omega arith) in
      let over = ends_fall old (suc k) at (λ j below. space.block.entries j (omega (arith, space.within))) (omega arith) in
      same_line old k new k (ap (λ (e : ℕ). e / 2 ^ 31) (puts.before k low)) (omega (arith, lies.order)) (omega (arith, lies.end, lies.length)) (omega (arith, lies.end, lies.length, puts.same_length)) (omega arith)
      (rw start (puts.above (start_at old k) (end_at old k - start_at old k) over))

  lines_here : (j : ℕ) → j < count_in other → SameLine other j new (at + j)
  lines_here j within =
      let lies = lies_within other j space.lines within in
      let moved = new_start j within in
      let end = new_ends j (omega arith) in
      let gap = end_within in
      let old_bounds = space.block.bounds in
      let part : ℕ = start_at other j - text_start_in other in
      let place : start_at new (at + j) ≡ end_at old at - size + part = omega (arith, moved.start, lies.start) in
      let from : text_start_in other + part ≡ start_at other j = omega (arith, lies.start) in
      let bytes : field_at new (end_at old at - size + part) (end_at other j - start_at other j) ≡ field_at other (start_at other j) (end_at other j - start_at other j) =
      field_part new other (end_at old at - size) (text_start_in other) size part (end_at other j - start_at other j) puts.gap (omega (arith, lies.order, lies.end, lies.start, space.text))
      ∙ ap (λ (p : ℕ). field_at other p (end_at other j - start_at other j)) from in
      same_line other j new (at + j) moved.mark lies.order (omega (arith, lies.end, lies.length))
      (omega (arith, end, lies.end, space.text, space.room, gap.low, gap.high, old_bounds.within, puts.same_length)) (omega (arith, end, moved.start))
      (rw place bytes)

  lines_after : (k : ℕ) → at ≤ k → k < count_in old → SameLine old k new (count_in other + k)
  lines_after k low high =
      let lies = lies_within old k space.block high in
      let moved = old_start k low high in
      let end : end_at new (count_in other + k) + size ≡ end_at old k = ends_after k low (omega arith) in
      let start : start_at new (count_in other + k) ≡ start_at old k - size = omega (arith, moved.start) in
      let under = ends_fall old at k (λ j below. space.block.entries j (omega arith)) low in
      same_line old k new (count_in other + k) moved.mark (omega (arith, lies.order)) (omega (arith, lies.end, lies.length)) (omega (arith, lies.end, lies.length, puts.same_length)) (omega (arith, moved.start))
      (rw start (puts.below (start_at old k) (end_at old k - start_at old k) lies.start (omega (arith, lies.order))))

  line_is : (k : ℕ) → k < count_in other + count_in old → is_line new (start_at new k) (end_at new k) ≡ true
  line_is k within = ⊎_elim
      (λ (low : k < at). (lines_before k low).is ∙ (good_entry old k (space.block.entries k (omega (arith, space.within)))).is)
      (λ (high : at ≤ k). ⊎_elim
      (λ (mid : k < at + count_in other). let is : at + (k - at) ≡ k = omega arith in
      subst (λ (i : ℕ). is_line new (start_at new i) (end_at new i) ≡ true) is
      ((lines_here (k - at) (omega arith)).is ∙ (good_entry other (k - at) (space.lines.entries (k - at) (omega arith))).is))
      (λ (past : at + count_in other ≤ k). let is : count_in other + (k - count_in other) ≡ k = omega arith in
      subst (λ (i : ℕ). is_line new (start_at new i) (end_at new i) ≡ true) is
      ((lines_after (k - count_in other) (omega arith) (omega arith)).is ∙ (good_entry old (k - count_in other) (space.block.entries (k - count_in other) (omega arith))).is))
      (cases_lt k (at + count_in other)))
      (cases_lt k at)

  pub joined_block : count_in new ≡ count_in old + count_in other → text_start_in new + size ≡ text_start_in old → number_at Little 2 new 0 ≡ 0x6461 → IsBlock new
  joined_block count start id =
      let bounds = space.block.bounds in
      let others = space.lines.bounds in
      let starts = text_starts old space.block in
      let last = ends_after (count_in old) space.within (omega arith) in
      let is : count_in new ≡ count_in other + count_in old = omega arith in
      let begins : end_at new (count_in other + count_in old) ≡ text_start_in new = omega arith in
      block_from_lines new
      (record {
        header = omega (arith, puts.same_length, bounds.header);
        id = id;
        index = omega (arith, space.room);
        text = omega (arith, puts.text_end, bounds.text);
        within = omega (arith, puts.text_end, puts.same_length, bounds.within);
        empty = ⊎_elim
            (λ (some : 0 < count_in old). inl (omega arith))
            (λ (none : text_start_in old ≡ text_end_in old). ⊎_elim
            (λ (some : 0 < count_in other). inl (omega arith))
            (λ (no_more : text_start_in other ≡ text_end_in other). inr (omega (arith, space.text, puts.text_end)))
            others.empty)
            bounds.empty;
      })
      (subst (λ (i : ℕ). end_at new i ≡ text_start_in new) (sym is) begins)
      (λ k within. line_is k (omega arith))

  pub joined_lines : count_in new ≡ count_in old + count_in other → each_line new (λ k. line_at new k) ≡ put_in (each_line old (λ k. line_at old k)) at (each_line other (λ k. line_at other k))
  joined_lines count =
      ap (λ (n : ℕ). map (λ k. line_at new k) (range_with_len 0 n)) count
      ∙ map-put_in (λ k. line_at old k) (λ k. line_at new k) (count_in old) (λ k. line_at other k) at (count_in other) space.within
      (λ k low. (lines_before k low).line) (λ j within. (lines_here j within).line) (λ k low high. (lines_after k low high).line)

  pub joined_marks : count_in new ≡ count_in old + count_in other → marks_in new ≡ put_in (marks_in old) at (marks_in other)
  joined_marks count =
      ap (λ (n : ℕ). map (λ k. mark_at new k) (range_with_len 0 n)) count
      ∙ map-put_in (λ k. mark_at old k) (λ k. mark_at new k) (count_in old) (λ k. mark_at other k) at (count_in other) space.within
      (λ k low. (lines_before k low).mark) (λ j within. (lines_here j within).mark) (λ k low high. (lines_after k low high).mark)

-- the steps of the code: the text, the index, the starts of the new lines, those that move with the text, and the header
pub record JoinSteps (old other text index lines starts new : List ℕ) (view : DataView) (at size : ℕ) : Type 0 where
  pub text_opened : TextOpened old text (text_start_in old) (end_at old at) size (field_at other (text_start_in other) size)
  pub index_joined : IndexJoined text index other at (count_in old) (count_in other)
  pub own : EntriesMoved index lines at (at + count_in other) (text_start_in other) (end_at old at - size)
  pub moved : EntriesMoved lines starts (at + count_in other) (count_in old + count_in other) (text_start_in old) (text_start_in old - size)
  pub header : HasHeader starts new view
  pub text_end : view.text_end ≡ text_end_in old

pub joins_lines : (old other text index lines starts new : List ℕ) (view : DataView) (at size : ℕ) → HasSpace old other at size → JoinSteps old other text index lines starts new view at size
    → Joins old other new at size
joins_lines old other text index lines starts new view at size space steps =
    let n : ℕ = count_in old in
    let m : ℕ = count_in other in
    let start : ℕ = text_start_in old in
    let end : ℕ = end_at old at in
    let gap : ℕ = 24 + 4 * at in
    let mid : ℕ = 24 + 4 * (at + m) in
    let past : ℕ = 24 + 4 * (n + m) in
    let ends = ends_within old at space.block space.within in
    let fits : past ≤ start - size = omega (arith, space.room) in
    let lines_kept : Keeps text lines gap past =
    kept_on text index lines gap past steps.index_joined.keeps (kept_in_more index lines gap mid gap past steps.own.keeps (omega arith) (omega (arith, space.within))) in
    let index_kept : Keeps text starts gap past =
    kept_on text lines starts gap past lines_kept (kept_in_more lines starts mid past gap past steps.moved.keeps (omega arith) (omega arith)) in
    let header_kept : Keeps starts new 4 24 = steps.header.keeps in
    let kept : Keeps text new 4 past =
    kept_on text starts new 4 past (kept_in_more text starts gap past 4 past index_kept (omega arith) (omega arith)) (kept_in_more starts new 4 24 4 past header_kept (omega arith) (omega arith)) in
    let text_kept : Keeps old text (start - size) end = steps.text_opened.keeps in
    let last : (k : ℕ) → entry_at new k ≡ entry_at starts k = λ k. entry_after starts new 4 24 k header_kept (omega arith) in
    let first : (k : ℕ) → k < n → entry_at text k ≡ entry_at old k = λ k within. entry_before old text (start - size) end k text_kept (omega arith) in
    record {
      same_length = kept.same_length ∙ text_kept.same_length;
      text_end = steps.header.end ∙ steps.text_end;
      before = λ k below. last k ∙ entry_before text starts gap past k index_kept (omega arith) ∙ first k (omega (arith, space.within));
      here = λ j within.
          (let stays = entry_before lines starts mid past (at + j) steps.moved.keeps (omega arith) in
          omega (arith, last (at + j), stays, steps.own.moved (at + j) (omega arith) (omega arith), steps.index_joined.here j within));
      after = λ k above until.
          (let stays = entry_after index lines gap mid (m + k) steps.own.keeps (omega arith) in
          let moved = steps.moved.moved (m + k) (omega arith) (omega arith) in
          omega (arith, last (m + k), moved, stays, steps.index_joined.after k above until, first k until, fits));
      above = λ place width over. field_after text new 4 past place width kept (omega arith) ∙ field_after old text (start - size) end place width text_kept over;
      gap = field_after text new 4 past (end - size) size kept (omega arith) ∙ steps.text_opened.here;
      below = λ place width from until. field_after text new 4 past (place - size) width kept (omega arith) ∙ steps.text_opened.below place width from until;
      front = kept.before ∙ (kept_in_more old text (start - size) end 4 end text_kept (omega arith) (omega arith)).before;
      beyond = (kept_in_more text new 4 past 4 (text_end_in old) kept (omega arith) (omega arith)).after
          ∙ (kept_in_more old text (start - size) end (start - size) (text_end_in old) text_kept (omega arith) (omega arith)).after;
    }

-- what is said of the new block
pub record Joined (old other new : List ℕ) (view : DataView) (at : ℕ) : Type 0 where
  pub is : view_in new ≡ Ok view
  pub lines : lines_in new ≡ with_lines_in old at other
  pub marks : marks_in new ≡ put_in (marks_in old) at (marks_in other)
  pub frame : KeepsFrame old new view

pub joined : (old other text index lines starts new : List ℕ) (before more view : DataView) (at size : ℕ) → HasSpace old other at size → view_in old ≡ Ok before → view_in other ≡ Ok more
    → JoinSteps old other text index lines starts new view at size → view.count ≡ count_in old + count_in other → view.text_start + size ≡ text_start_in old
    → Joined old other new view at
joined old other text index lines starts new before more view at size space e f steps count start =
    let puts = joins_lines old other text index lines starts new view at size space steps in
    let many : count_in new ≡ count_in old + count_in other = steps.header.count ∙ count in
    let id : number_at Little 2 new 0 ≡ 0x6461 = same_id old new puts.front ∙ space.block.bounds.id in
    let block = joined_block old other new at size space puts many (omega (arith, steps.header.start)) id in
    let is : view_in new ≡ Ok view = view_answer new block ∙ ap Ok (header_view starts new view steps.header) in
    let both : with_lines_in old at other ≡ Some (put_in (each_line old (λ k. line_at old k)) at (each_line other (λ k. line_at other k))) =
    rw (lines_are old before e, lines_are other more f) refl in
    record {
      is = is;
      lines = lines_are new view is ∙ ap Some (joined_lines old other new at size space puts many) ∙ sym both;
      marks = joined_marks old other new at size space puts many;
      frame = record { free = steps.header.free; front = puts.front; beyond = rw steps.text_end puts.beyond };
    }
