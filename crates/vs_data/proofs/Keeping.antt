-- Bytes that are no line's, no index entry and no field that a reader goes by: lines and marks stay where these change.
use Rattle.std.proofs.Common.{◌≡◌, ℕ, zero, suc, ◌+◌, ◌-◌, ◌*◌, ◌/◌, ◌%◌, ◌^◌, ◌<◌, ◌≤◌, List, length, map, Some, Ok, sym, ap, ◌∙◌, inl, inr, ⊎_elim, arith}
use Rattle.std.specs.List.{range_with_len}
use Rattle.std.proofs.lemmas.List.{take_all}
use Rattle.std.proofs.lemmas.List.FromFn.{length-map-range_with_len}
use Rattle.vs_bytes.specs.Fields.{Little, field_at, number_at, number_of}
use Rattle.vs_data.specs.declared.DataView.{DataView}
use Rattle.vs_data.specs.Blocks.{count_in, end_at, entry_at, headed, line_at, lines_in, mark_at, marks_in, start_at, text_end_in, text_start_in, view_in, view_of}
use Rattle.vs_data.proofs.Entries.{entry_after, entry_before}
use Rattle.vs_data.proofs.Headers.{header_written, same_id}
use Rattle.vs_data.proofs.Lines.{lines_are}
use Rattle.vs_data.proofs.Lists.{map-take}
use Rattle.vs_data.proofs.Moves.{Keeps, field_after, field_before}
use Rattle.vs_data.proofs.Reading.{IsBlock, block_from_lines, good_entry, has_view, lies_within, text_starts, view_answer, view_bounds, view_holds}
use Rattle.vs_data.proofs.Stored.{SameLine, same_line}

-- what a reader goes by is the same
pub record KeepsLines (old new : List ℕ) : Type 0 where
  pub same_length : length new ≡ length old
  pub id : number_at Little 2 new 0 ≡ number_at Little 2 old 0
  pub count : count_in new ≡ count_in old
  pub start : text_start_in new ≡ text_start_in old
  pub end : text_end_in new ≡ text_end_in old
  pub entries : (k : ℕ) → k < count_in old → entry_at new k ≡ entry_at old k
  pub text : (place width : ℕ) → text_start_in old ≤ place → field_at new place width ≡ field_at old place width

module _ (old new : List ℕ) (view : DataView) (e : view_in old ≡ Ok view) (keeps : KeepsLines old new) where
  block : IsBlock old
  block = (view_holds old view e).0

  ends_kept : (k : ℕ) → k ≤ count_in old → end_at new k ≡ end_at old k
  ends_kept zero within = keeps.end
  ends_kept (suc k) within = ap (λ (entry : ℕ). entry % 2 ^ 31) (keeps.entries k (omega arith))

  line_kept : (k : ℕ) → k < count_in old → SameLine old k new k
  line_kept k within =
      let lies = lies_within old k block within in
      let end : end_at new k ≡ end_at old k = ends_kept k (omega arith) in
      let start : start_at new k ≡ start_at old k = ends_kept (suc k) (omega arith) in
      same_line old k new k (ap (λ (entry : ℕ). entry / 2 ^ 31) (keeps.entries k within)) lies.order (omega (arith, lies.end, lies.length))
      (omega (arith, lies.end, lies.length, keeps.same_length)) (omega arith)
      (rw start (keeps.text (start_at old k) (end_at old k - start_at old k) lies.start))

  kept_block : IsBlock new
  kept_block =
      let bounds = block.bounds in
      let ends = ends_kept (count_in old) (omega arith) in
      let starts = text_starts old block in
      block_from_lines new
      (record {
        header = omega (arith, keeps.same_length);
        id = keeps.id ∙ bounds.id;
        index = omega (arith, keeps.count, keeps.start);
        text = omega (arith, keeps.start, keeps.end);
        within = omega (arith, keeps.end, keeps.same_length);
        empty = ⊎_elim (λ (some : 0 < count_in old). inl (omega (arith, keeps.count))) (λ (none : text_start_in old ≡ text_end_in old). inr (keeps.start ∙ none ∙ sym keeps.end)) bounds.empty;
      })
      (ap (λ (n : ℕ). end_at new n) keeps.count ∙ ends ∙ starts ∙ sym keeps.start)
      (λ k within. let inside : k < count_in old = omega (arith, keeps.count) in (line_kept k inside).is ∙ (good_entry old k (block.entries k inside)).is)

  pub kept_view : view_in new ≡ Ok view
  kept_view =
      let same : view_of new ≡ view_of old = λ i. record { count = keeps.count i; text_start = keeps.start i; text_end = keeps.end i } in
      view_answer new kept_block ∙ ap Ok (same ∙ sym (view_holds old view e).1)

  pub kept_lines : lines_in new ≡ lines_in old
  kept_lines =
      let n : ℕ = count_in old in
      lines_are new view kept_view
      ∙ ap (λ (k : ℕ). Some (map (λ line. line_at new line) (range_with_len 0 k))) keeps.count
      ∙ ap Some (map-take (λ line. line_at old line) (λ line. line_at new line) n n (omega arith) (λ k within. (line_kept k within).line)
      ∙ take_all n (map (λ line. line_at old line) (range_with_len 0 n)) (omega (arith, length-map-range_with_len (λ line. line_at old line) 0 n)))
      ∙ sym (lines_are old view e)

  pub kept_marks : marks_in new ≡ marks_in old
  kept_marks =
      let n : ℕ = count_in old in
      ap (λ (k : ℕ). map (λ line. mark_at new line) (range_with_len 0 k)) keeps.count
      ∙ map-take (λ line. mark_at old line) (λ line. mark_at new line) n n (omega arith) (λ k within. (line_kept k within).mark)
      ∙ take_all n (map (λ line. mark_at old line) (range_with_len 0 n)) (omega (arith, length-map-range_with_len (λ line. mark_at old line) 0 n))

-- bytes between the index and the text
pub gap_changed : (old new : List ℕ) (view : DataView) → view_in old ≡ Ok view → Keeps old new (24 + 4 * view.count) view.text_start → KeepsLines old new
gap_changed old new view e keeps =
    let v = has_view old view (view_bounds old view e) in
    let number : (place width : ℕ) → place + width ≤ 24 → number_at Little width new place ≡ number_at Little width old place =
    λ place width inside. ap (number_of Little width) (field_before old new (24 + 4 * view.count) view.text_start place width keeps (omega arith)) in
    record {
      same_length = keeps.same_length;
      id = number 0 2 (omega arith);
      count = number 16 8 (omega arith);
      start = number 8 4 (omega arith);
      end = number 12 4 (omega arith);
      entries = λ k within. entry_before old new (24 + 4 * view.count) view.text_start k keeps (omega (arith, v.count));
      text = λ place width above. field_after old new (24 + 4 * view.count) view.text_start place width keeps (omega (arith, v.start));
    }

-- the header that says what the block has
pub header_again : (old : List ℕ) (view : DataView) → view_in old ≡ Ok view → view.text_end ≤ 2 ^ 31 → KeepsLines old (headed old view)
header_again old view e places =
    let v = has_view old view (view_bounds old view e) in
    let bounds = v.bounds in
    let header = header_written old view (omega arith) (omega (arith, v.count, v.start, v.end)) (omega (arith, v.start, v.end)) (omega arith) in
    record {
      same_length = header.keeps.same_length;
      id = same_id old (headed old view) header.keeps.before;
      count = header.count ∙ v.count;
      start = header.start ∙ v.start;
      end = header.end ∙ v.end;
      entries = λ k within. entry_after old (headed old view) 4 24 k header.keeps (omega arith);
      text = λ place width above. field_after old (headed old view) 4 24 place width header.keeps (omega arith);
    }
