-- Lines that are put after the last one: each is put in there as `insert` does, where nothing moves, and the bytes of all are those that were taken.
use Rattle.std.proofs.Common.{◌≡◌, ◌≢◌, ℕ, suc, ◌+◌, ◌-◌, ◌*◌, ◌^◌, ◌<◌, ◌≤◌, List, [], ◌∷◌, ◌++◌, length, get_or, take, drop, replicate, Option, None, Some, Ok, refl, sym, ap, subst, ◌∙◌, ⊎_elim, arith, append-nil, append_assoc, length-append, length-drop, length-take}
use Rattle.std.specs.List.{All, insert}
use Rattle.std.specs.Option.{option_map}
use Rattle.std.proofs.lemmas.Bool.{cases_lt}
use Rattle.std.proofs.lemmas.Bool.Decides.{nat_tests}
use Rattle.std.proofs.lemmas.Grind.{common_steps}
use Rattle.std.proofs.lemmas.List.{get_or-append_right, get_or_append_left, get_or-drop, get_or-take, get_or_default, drop-append-le, drop-drop, drop-take, length-take-le, replicate-append-replicate, take_at}
use Rattle.std.proofs.lemmas.List.Concat.{flat_map-append}
use Rattle.std.proofs.lemmas.List.FromFn.{length-map-range_with_len}
use Rattle.std.proofs.lemmas.List.Elements.{All-append, All-nil, All-from_recursion}
use Rattle.std.proofs.Math.Seq.{take-add, take-suc}
use Rattle.memchr.specs.Find.{NoneBefore, Nowhere, Passes, is_byte}
use Rattle.vs_bytes.specs.Fields.{Little, bytes_of, with_field, with_number}
use Rattle.vs_bytes.proofs.FieldLaws.{drop-with_field, field_at-with_field, length-bytes_of, length-with_field, number_at-with_number, take-with_field}
use Rattle.vs_data.specs.declared.DataView.{DataView}
use Rattle.vs_data.specs.Blocks.{PutsLast, count_in, each_line, end_at, line_at, mark_at, ended_of, free_space, header_of, headed, lines_in, marks_in, text_start_in, view_in}
use Rattle.vs_data.proofs.Entries.{none_moved}
use Rattle.vs_data.proofs.Headers.{header_written, length-header_of}
use Rattle.vs_data.proofs.Inserting.{HasRoom, IndexOpened, Inserted, TextOpened, inserted}
use Rattle.vs_data.proofs.Keeping.{header_again, kept_lines, kept_marks, kept_view}
use Rattle.vs_data.proofs.Lines.{lines_are}
use Rattle.vs_data.proofs.Moves.{kept_by_write}
use Rattle.vs_data.proofs.Reading.{HasView, has_view, text_starts, view_bounds, view_holds}

-- a block of which the view is known, and a line for which it has room
module _ (old : List ℕ) (before : DataView) (line : List ℕ) (e : view_in old ≡ Ok before) (places : before.text_end ≤ 2 ^ 31)
    (fits : length line + 5 ≤ free_space before) (none : All (λ byte. byte ≢ 0) line) where
  pub fields : HasView old before
  fields = has_view old before (view_bounds old before e)

  room : HasRoom old (count_in old) line
  room =
      let v = fields in
      let bounds = v.bounds in
      record { block = (view_holds old before e).0; within = omega arith; size = omega arith; places = omega arith; no_zero = none }

  abbrev start : ℕ
  start = text_start_in old

  abbrev size : ℕ
  size = length line + 1

  ends : end_at old (count_in old) ≡ start
  ends = text_starts old room.block

  text_opened : (text : List ℕ) → text ≡ with_field old (start - size) (line ++ 0 ∷ []) → TextOpened old text start (end_at old (count_in old)) size (line ++ 0 ∷ [])
  text_opened text is =
      let v = fields in
      let bounds = v.bounds in
      let wide : length (line ++ 0 ∷ []) ≡ size = length-append line (0 ∷ []) in
      rw (is, ends) (record {
        keeps = kept_by_write old (start - size) (line ++ 0 ∷ []) (start - size) start (omega arith) (omega arith) (omega arith);
        here = field_at-with_field old (start - size) (line ++ 0 ∷ []) size (omega arith) wide;
        below = λ place width low high. let nothing : width ≡ 0 = omega arith in rw nothing refl;
      })

  index_opened : (text index : List ℕ) → length text ≡ length old → index ≡ with_number Little 4 text (24 + 4 * count_in old) (start - size)
      → IndexOpened text index (count_in old) (count_in old) (end_at old (count_in old) - size)
  index_opened text index long is =
      let v = fields in
      let bounds = v.bounds in
      let place : ℕ = 24 + 4 * count_in old in
      let wide : length (bytes_of Little 4 (start - size)) ≡ 4 = length-bytes_of Little 4 (start - size) in
      rw (is, ends) (record {
        keeps = kept_by_write text place (bytes_of Little 4 (start - size)) place (24 + 4 * (count_in old + 1)) (omega arith) (omega arith) (omega arith);
        here = number_at-with_number Little 4 text place (start - size) (omega arith) (omega arith);
        after = λ k low high. absurd (omega arith);
      })

  -- the view that the code ends with
  abbrev pub after_view : DataView
  after_view = record { count = before.count + 1; text_start = before.text_start - size; text_end = before.text_end }

  appended_at : (text index new : List ℕ) → text ≡ with_field old (start - size) (line ++ 0 ∷ []) → index ≡ with_number Little 4 text (24 + 4 * count_in old) (start - size)
      → new ≡ with_field index 4 (header_of after_view) → Inserted old new after_view (count_in old) line
  appended_at text index new text_is index_is new_is =
      let v = fields in
      let bounds = v.bounds in
      let opened = text_opened text text_is in
      let text_long = opened.keeps.same_length in
      let indexed = index_opened text index text_long index_is in
      let index_long = indexed.keeps.same_length in
      inserted old text index index new before after_view (count_in old) line room e
      (record {
        text_opened = opened;
        index_opened = indexed;
        moved = none_moved index (count_in old + 1) start (start - size);
        header = rw new_is (header_written index after_view (omega arith) (omega arith) (omega arith) (omega arith));
        text_end = v.end;
      })
      (omega arith) (omega arith)

  pub appended : (text index new : List ℕ) → text ≡ with_field old (before.text_start - size) (line ++ 0 ∷ [])
      → index ≡ with_number Little 4 text (24 + 4 * before.count) (before.text_start - size)
      → new ≡ with_field index 4 (header_of after_view) → Inserted old new after_view before.count line
  appended text index new text_is index_is new_is =
      let v = fields in
      let at : before.count ≡ count_in old = v.count in
      let from : before.text_start ≡ start = v.start in
      let text_at = rw from at text_is in
      let index_at = rw (at, from) at index_is in
      subst (λ (n : ℕ). Inserted old new after_view n line) (sym at) (appended_at text index new text_at index_at new_is)

-- ---- a header that is written after the lines

-- the same but for the header
record Beside (one other : List ℕ) : Type 0 where
  same_length : length one ≡ length other
  front : take 4 one ≡ take 4 other
  behind : drop 24 one ≡ drop 24 other

behind_write : (block : List ℕ) (place : ℕ) (field : List ℕ) → 24 + place + length field ≤ length block → drop 24 (with_field block (24 + place) field) ≡ with_field (drop 24 block) place field
behind_write block place field within =
    let front : List ℕ = take (24 + place) block in
    let rest : List ℕ = drop (24 + place + length field) block in
    let cut : length front ≡ 24 + place = length-take-le (24 + place) block (omega arith) in
    let past : 24 + (place + length field) ≡ 24 + place + length field = omega arith in
    drop-append-le 24 (front ++ field) rest (omega (arith, length-append front field))
    ∙ ap (λ (xs : List ℕ). xs ++ rest) (drop-append-le 24 front field (omega arith) ∙ ap (λ (xs : List ℕ). xs ++ field) (drop-take 24 place block))
    ∙ ap (λ (xs : List ℕ). take place (drop 24 block) ++ field ++ xs) (ap (λ (n : ℕ). drop n block) (sym past) ∙ sym (drop-drop (place + length field) 24 block))

beside_write : (one other : List ℕ) (place : ℕ) (field : List ℕ) → Beside one other → 24 + place + length field ≤ length one → Beside (with_field one (24 + place) field) (with_field other (24 + place) field)
beside_write one other place field same within = record {
  same_length = length-with_field one (24 + place) field within ∙ same.same_length ∙ sym (length-with_field other (24 + place) field (omega (arith, same.same_length)));
  front = take-with_field one (24 + place) field 4 (omega arith) (omega arith) ∙ same.front ∙ sym (take-with_field other (24 + place) field 4 (omega (arith, same.same_length)) (omega arith));
  behind = behind_write one place field within ∙ ap (λ (xs : List ℕ). with_field xs place field) same.behind ∙ sym (behind_write other place field (omega (arith, same.same_length)));
}

headed_same : (one other header : List ℕ) → Beside one other → length header ≡ 20 → with_field one 4 header ≡ with_field other 4 header
headed_same one other header same wide =
    let end : 4 + length header ≡ 24 = omega arith in
    ap (λ (n : ℕ). take 4 one ++ header ++ drop n one) end
    ∙ (λ i. same.front i ++ header ++ same.behind i)
    ∙ ap (λ (n : ℕ). take 4 other ++ header ++ drop n other) (sym end)

-- a header that was there before two writes behind it is nothing to one that is written over it
pub headed_once : (block before after : List ℕ) (place : ℕ) (text : List ℕ) (at : ℕ) (entry : List ℕ) → length before ≡ 20 → length after ≡ 20 → 24 ≤ place → place + length text ≤ length block
    → 24 + at + length entry ≤ length block
    → with_field (with_field (with_field block place text) (24 + at) entry) 4 after ≡ with_field (with_field (with_field (with_field block 4 before) place text) (24 + at) entry) 4 after
headed_once block before after place text at entry before_wide after_wide behind room inside =
    let is : place ≡ 24 + (place - 24) = omega arith in
    let first : Beside block (with_field block 4 before) = record {
      same_length = sym (length-with_field block 4 before (omega arith));
      front = sym (take-with_field block 4 before 4 (omega arith) (omega arith));
      behind = sym (drop-with_field block 4 before 24 (omega arith) (omega arith));
    } in
    let second : Beside (with_field block place text) (with_field (with_field block 4 before) place text) =
    subst (λ (n : ℕ). Beside (with_field block n text) (with_field (with_field block 4 before) n text)) (sym is) (beside_write block (with_field block 4 before) (place - 24) text first (omega arith)) in
    let third = beside_write (with_field block place text) (with_field (with_field block 4 before) place text) at entry second (omega (arith, length-with_field block place text room)) in
    headed_same (with_field (with_field block place text) (24 + at) entry) (with_field (with_field (with_field block 4 before) place text) (24 + at) entry) after third after_wide

-- ---- where a line ends

is_zero : (byte : ℕ) → Passes (is_byte 0) (byte ∷ []) 0 → byte ≡ 0
is_zero byte e = grind (arith, nat_tests)

zero_passes : (byte : ℕ) → byte ≡ 0 → Passes (is_byte 0) (byte ∷ []) 0
zero_passes byte e = grind (arith, nat_tests)

module _ (bytes : List ℕ) (from : ℕ) (line rest : List ℕ) (is : drop from bytes ≡ line ++ (0 ∷ rest)) where
  none_before : length line - length line ≡ 0
  none_before = omega arith

  zero_at : get_or bytes (from + length line) 0 ≡ 0
  zero_at = sym (get_or-drop from bytes (length line) 0) ∙ ap (λ (xs : List ℕ). get_or xs (length line) 0) is
      ∙ get_or-append_right line (0 ∷ rest) (length line) (length line) 0 refl (omega arith) ∙ ap (λ k. get_or (0 ∷ rest) k 0) none_before

  ends_within : from + length line < length bytes
  ends_within = omega (arith, length-drop from bytes, ap length is, length-append line (0 ∷ rest))

  -- no line ends where there is no zero
  pub no_line : Nowhere (Passes (is_byte 0) bytes) from (length bytes) → ⊥
  no_line none = none (from + length line) (omega arith) ends_within (zero_passes (get_or bytes (from + length line) 0) zero_at)

  -- the first zero from a place on ends the line that begins there
  pub line_is : (at : ℕ) → NoneBefore (Passes (is_byte 0) bytes) from (length bytes) at → Passes (is_byte 0) bytes at → All (λ byte. byte ≢ 0) line → length line ≡ at - from
  line_is at first here some =
      let low : from ≤ at = first.low in
      ⊎_elim
      (λ (early : from + length line < at). absurd (first.before (from + length line) (omega arith) early (zero_passes (get_or bytes (from + length line) 0) zero_at)))
      (λ (late : at ≤ from + length line). ⊎_elim
      (λ (inside : at < from + length line).
      let place : ℕ = at - from in
      let there : at ≡ from + place = omega arith in
      let byte : get_or bytes at 0 ≡ get_or line place 0 =
      ap (λ k. get_or bytes k 0) there ∙ sym (get_or-drop from bytes place 0) ∙ ap (λ (xs : List ℕ). get_or xs place 0) is ∙ get_or_append_left line (0 ∷ rest) 0 place (omega arith) in
      absurd (some place 0 (omega arith) (sym byte ∙ is_zero (get_or bytes at 0) here)))
      (λ (same : from + length line ≤ at). omega arith)
      (cases_lt at (from + length line)))
      (cases_lt (from + length line) at)

module _ (bytes : List ℕ) (from at : ℕ) (first : NoneBefore (Passes (is_byte 0) bytes) from (length bytes) at) where
  -- the line that begins at a place has no zero before its end
  pub line_some : All (λ byte. byte ≢ 0) (take (at - from) (drop from bytes))
  line_some = λ k d within zero.
      let low : from ≤ at = first.low in
      let high : at < length bytes = first.high in
      let inside : k < at - from = omega (arith, length-take (at - from) (drop from bytes)) in
      let byte : get_or (take (at - from) (drop from bytes)) k d ≡ get_or bytes (from + k) d = get_or-take (at - from) (drop from bytes) k d inside ∙ get_or-drop from bytes k d in
      first.before (from + k) (omega arith) (omega arith)
      (zero_passes (get_or bytes (from + k) 0) (get_or_default bytes (from + k) 0 d (omega arith) ∙ sym byte ∙ zero))

  -- and its bytes with its end
  pub line_found : Passes (is_byte 0) bytes at → take (at + 1 - from) (drop from bytes) ≡ take (at - from) (drop from bytes) ++ 0 ∷ []
  line_found here =
      let low : from ≤ at = first.low in
      let high : at < length bytes = first.high in
      let place : ℕ = at - from in
      let more : at + 1 - from ≡ suc place = omega arith in
      let there : from + place ≡ at = omega arith in
      let within : place < length (drop from bytes) = omega (arith, length-drop from bytes) in
      let byte : get_or (drop from bytes) place 0 ≡ 0 = get_or-drop from bytes place 0 ∙ ap (λ k. get_or bytes k 0) there ∙ is_zero (get_or bytes at 0) here in
      rw more (take-suc (drop from bytes) place 0 within ∙ ap (λ b. take place (drop from bytes) ++ b ∷ []) byte)

-- a line's bytes with its end, cut off the end
pub end_cut : (ended line : List ℕ) → ended ≡ line ++ 0 ∷ [] → take (length ended - 1) ended ≡ line
end_cut ended line is =
    let wide : length line ≡ length ended - 1 = omega (arith, ap length is, length-append line (0 ∷ [])) in
    ap (λ xs. take (length ended - 1) xs) is ∙ take_at line (0 ∷ []) (length ended - 1) wide

-- ---- lines one after the other

pub put_last : {X : Type 0} (xs : List X) (at : ℕ) (x : X) → at ≡ length xs → insert xs at x ≡ xs ++ x ∷ []
put_last xs at x last = grind (arith, common_steps)

-- so far no line was put, and no more than the header was written
pub none_put : (block : List ℕ) (view : DataView) (bytes : List ℕ) → view_in block ≡ Ok view → view.text_end ≤ 2 ^ 31 → PutsLast block (headed block view) view view bytes 0
none_put block view bytes is places =
    let v = has_view block view (view_bounds block view is) in
    let bounds = v.bounds in
    let same = header_again block view is places in
    let wide = length-header_of view in
    record {
      put = [];
      lines_end = refl;
      within = omega arith;
      no_zero = All-nil (All (λ byte. byte ≢ 0));
      count = omega arith;
      start = omega arith;
      end = refl;
      view = kept_view block (headed block view) view is same;
      lines = kept_lines block (headed block view) view is same ∙ option_same (lines_in block);
      marks = kept_marks block (headed block view) view is same ∙ sym (append-nil (marks_in block));
      free = (header_written block view (omega arith) (omega (arith, v.count, v.start, v.end)) (omega (arith, v.count, v.start, v.end)) (omega arith)).free;
      front = take-with_field block 4 (header_of view) 4 (omega arith) (omega arith);
      beyond = drop-with_field block 4 (header_of view) view.text_end (omega arith) (omega (arith, v.start, v.end));
    }
  where
    option_same : (o : Option (List (List ℕ))) → o ≡ option_map (λ lines. lines ++ []) o
    option_same None = refl
    option_same (Some lines) = ap Some (sym (append-nil lines))

lines_more : (o mid new : Option (List (List ℕ))) (put held : List (List ℕ)) (at : ℕ) (line : List ℕ) → mid ≡ option_map (λ lines. lines ++ put) o → mid ≡ Some held → at ≡ length held
    → new ≡ option_map (λ lines. insert lines at line) mid → new ≡ option_map (λ lines. lines ++ (put ++ line ∷ [])) o
lines_more None mid new put held at line from is last then = absurd (cc)
lines_more (Some lines) mid new put held at line from is last then =
    let all : mid ≡ Some (lines ++ put) = from in
    let same : held ≡ lines ++ put = cc in
    then ∙ ap (option_map (λ ls. insert ls at line)) is ∙ ap Some (put_last held at line last ∙ ap (λ ls. ls ++ line ∷ []) same ∙ append_assoc lines put (line ∷ []))

-- one more line was put
pub one_put : (old mid new : List ℕ) (before m : DataView) (bytes : List ℕ) (taken at : ℕ) → PutsLast old mid before m bytes taken
    → NoneBefore (Passes (is_byte 0) bytes) taken (length bytes) at → Passes (is_byte 0) bytes at
    → (line : List ℕ) → line ≡ take (at - taken) (drop taken bytes) → (after : DataView) → after.count ≡ m.count + 1 → after.text_start + (at + 1 - taken) ≡ m.text_start → after.text_end ≡ m.text_end
    → Inserted mid new after m.count line → PutsLast old new before after bytes (at + 1)
one_put old mid new before m bytes taken at so first here line line_is after count start end done =
    let low : taken ≤ at = first.low in
    let high : at < length bytes = first.high in
    let more : at + 1 ≡ taken + (at + 1 - taken) = omega arith in
    let held = lines_are mid m so.view in
    let mid_count : m.count ≡ count_in mid = (has_view mid m (view_bounds mid m so.view)).count in
    record {
      put = so.put ++ line ∷ [];
      lines_end = ap (λ n. take n bytes) more ∙ take-add taken (at + 1 - taken) bytes ∙ ap (λ xs. xs ++ take (at + 1 - taken) (drop taken bytes)) so.lines_end
          ∙ ap (λ xs. ended_of so.put ++ xs) (line_found bytes taken at first here ∙ ap (λ xs. xs ++ 0 ∷ []) (sym line_is) ∙ sym (append-nil (line ++ 0 ∷ [])))
          ∙ sym (flat_map-append (λ each. each ++ 0 ∷ []) so.put (line ∷ []));
      within = omega arith;
      no_zero = All-append (All (λ byte. byte ≢ 0)) so.put (line ∷ []) so.no_zero
          (All-from_recursion (All (λ byte. byte ≢ 0)) (line ∷ []) (subst (All (λ byte. byte ≢ 0)) (sym line_is) (line_some bytes taken at first), tt));
      count = omega (arith, count, so.count, length-append so.put (line ∷ []));
      start = omega (arith, start, so.start);
      end = end ∙ so.end;
      view = done.is;
      lines = lines_more (lines_in old) (lines_in mid) (lines_in new) so.put (each_line mid (λ k. line_at mid k)) m.count line so.lines held
          (mid_count ∙ sym (length-map-range_with_len (λ k. line_at mid k) 0 (count_in mid))) done.lines;
      marks = done.marks ∙ put_last (marks_in mid) m.count 0 (mid_count ∙ sym (length-map-range_with_len (λ k. mark_at mid k) 0 (count_in mid)))
          ∙ ap (λ xs. xs ++ 0 ∷ []) so.marks ∙ append_assoc (marks_in old) (replicate (length so.put) 0) (0 ∷ [])
          ∙ ap (λ xs. marks_in old ++ xs) (replicate-append-replicate (length so.put) 1 0 ∙ ap (λ n. replicate n 0) (sym (length-append so.put (line ∷ []))));
      free = done.frame.free;
      front = done.frame.front ∙ so.front;
      beyond = done.frame.beyond ∙ ap (λ n. drop n mid) end ∙ so.beyond ∙ ap (λ n. drop n old) (sym end);
    }
