-- Items up to their end can be completed from where they are refused: by the end, or by the rest of an item and the end.
use Rattle.std.proofs.Common.{◌≡◌, ℕ, zero, suc, ◌+◌, ◌<◌, ◌^◌, ◌⊎◌, inl, inr, false, eqb, List, [], ◌∷◌, ◌++◌, length, replicate, Option, Some, Ok, refl, sym, ap, subst, ◌∙◌, append_assoc, arith}
use Rattle.std.proofs.lemmas.Bool.{ne_eqb}
use Rattle.std.proofs.lemmas.List.{append-nil, append_cancel_right, length-append, length-replicate}
use Rattle.vs_ufile.specs.declared.fault.Fault.{Fault}
use Rattle.vs_ufile.specs.Completing.{NoneIsLate}
use Rattle.vs_ufile.specs.Failing.{AreNumbers}
use Rattle.vs_ufile.specs.Format.{Row, InOrder, Each, Follows, Allowed, IsNumber, change_rows, entry_rows, option_rows}
use Rattle.vs_ufile.specs.Reading.{Placed, Read, carry, change, change_number_kind, change_or_end, checked, entry, entry_or_end, give, magic_kind, next_entry, numbers_of}
use Rattle.vs_ufile.specs.Values.{Entry}
use Rattle.vs_ufile.specs.Refusals.{Part, all_of, body_part, change_magic, change_part, changes_part, entries_part, entry_part, field, file_part, flags_part, front_part, holding, lines_part, links_part, magic, marks_part, numbers_part, option_part, options_part, some_of, up_to}
use Rattle.vs_ufile.proofs.Completed.{AllComplete, Begins, Completes, CompletesSome, Ending, begins_all, begins_past, both_bytes, completes_all, completes_some, ending_as, fewer, most, past_some, rows_of, some_then}
use Rattle.vs_ufile.proofs.Completions.{completes_allowed, completes_field, completes_front, completes_lines, completes_magic, completes_option, number_ending, option_is, some_holding}
use Rattle.vs_ufile.proofs.Faults.{same_format}
use Rattle.vs_ufile.proofs.File.{reads_change_or_end}
use Rattle.vs_ufile.proofs.Laws.{Reads, one_row, row_one}
use Rattle.vs_ufile.proofs.Moved.{Moves, move_each, move_entry, move_number, move_option, replaced}
use Rattle.vs_ufile.proofs.Obeys.{Front, checked_reads, halves}
use Rattle.vs_ufile.proofs.Parts.{IfIs, end_or}
use Rattle.vs_ufile.proofs.Refused.{change_as, obeys_entry, obeys_tail, tail_parts}
use Rattle.vs_ufile.proofs.Rules.{few_heads, follows_numbers, numbers_from}
use Rattle.vs_ufile.proofs.Unused.{few_changes, unused}
use Rattle.vs_ufile.proofs.Whole.{after_magic, one_is, reads_next_entry}
use Rattle.vs_ufile.proofs.Writes.{each_more}

follows_more : {A : Type 0} (asked : List A → A → Type 0) (before xs : List A) (x : A) → Follows asked before xs → asked (before ++ xs) x → Follows asked before (xs ++ x ∷ [])
follows_more asked before [] x h a = (subst (λ ys. asked ys x) (append-nil before) a, tt)
follows_more asked before (y ∷ ys) x h a = (h.0, follows_more asked (before ++ y ∷ []) ys x h.1 (subst (λ zs. asked zs x) (sym (append_assoc before (y ∷ []) ys)) a))

-- ---- items up to an end

-- the same bytes as items where other bytes follow, after which what the part of the next item allows is an item
record Again {A : Type 0} (asked : List A → A → Type 0) (rows : A → List Row) (next : Part) (part : List ℕ) (following : ℕ) : Type 0 where
  again : List A
  follows : Follows asked [] again
  each : Each rows again part following
  one : (bytes : List ℕ) (after : ℕ) → next.row bytes after → (x : A) × asked again x × InOrder (rows x) bytes after

module _ {A : Type 0} (asked : List A → A → Type 0) (rows : A → List Row) (end : List Row) (item : List A → Part)
    (moves : (xs : List A) (part : List ℕ) (m n : ℕ) → Follows asked [] xs → Each rows xs part m → Again asked rows (item xs) part n)
    (end_moves : Moves (InOrder end)) (ended : (following : ℕ) → Ending (InOrder end) [] following)
    (starts : (xs : List A) (part : List ℕ) (m : ℕ) → Each rows xs part m → length part < most → (bytes : List ℕ) (fault : Fault) → length bytes < most → (item xs).refusal bytes fault
    → (fault.left ≡ length bytes) ⊎ Begins (item xs).row bytes fault.left) where
  -- no items
  items_filled : (following : ℕ) → Ending (up_to asked rows end item).row [] following
  items_filled following = let e = ended following in record { after = e.after; are_bytes = e.are_bytes; is = ([], tt, ([], e.after, refl, refl, e.is)) }

  items_move : Moves (up_to asked rows end item).row
  items_move part m n is =
      let s = is.2 in
      let q = moves is.0 s.0 (length s.1 + m) (length s.1 + n) is.1 s.3 in
      (q.again, q.follows, (s.0, s.1, s.2, q.each, end_moves s.1 m n s.4))

  -- the end, after items that stand whole
  end_here : (xs : List A) (bytes part rest : List ℕ) (left : ℕ) → Follows asked [] xs → bytes ≡ part ++ rest → Each rows xs part (length rest) → left ≡ length rest
      → Begins (up_to asked rows end item).row bytes left
  end_here xs bytes part rest left follows whole each here = record {
    before = part;
    rest = rest;
    whole = whole;
    place = sym here;
    ends = λ following.
        let e = ended following in
        let q = moves xs part (length rest) (length e.after + following) follows each in
        record { after = e.after; are_bytes = e.are_bytes; is = (q.again, q.follows, (part, e.after, refl, q.each, e.is)) };
  }

  -- one item more that is begun, and the end
  end_later : (xs : List A) (bytes part rest : List ℕ) (left : ℕ) → Follows asked [] xs → bytes ≡ part ++ rest → Each rows xs part (length rest) → Begins (item xs).row rest left
      → Begins (up_to asked rows end item).row bytes left
  end_later xs bytes part rest left follows whole each b = record {
    before = part ++ b.before;
    rest = b.rest;
    whole = whole ∙ ap (λ (x : List ℕ). part ++ x) b.whole ∙ sym (append_assoc part b.before b.rest);
    place = b.place;
    ends = λ following.
        let e = ended following in
        let place : ℕ = length e.after + following in
        let i = b.ends place in
        let own : List ℕ = b.before ++ i.after in
        let q = moves xs part (length rest) (length own + place) follows each in
        let x = q.one own place i.is in
        let all : (part ++ b.before) ++ (i.after ++ e.after) ≡ (part ++ own) ++ e.after =
        sym (append_assoc (part ++ b.before) i.after e.after) ∙ ap (λ (y : List ℕ). y ++ e.after) (append_assoc part b.before i.after) in
        record {
          after = i.after ++ e.after;
          are_bytes = both_bytes i.after e.after i.are_bytes e.are_bytes;
          is = (q.again ++ x.0 ∷ [], follows_more asked [] q.again x.0 q.follows x.1, (part ++ own, e.after, all, each_more rows q.again x.0 part own place q.each x.2, e.is));
        };
  }

  items_begin : (bytes : List ℕ) (fault : Fault) → length bytes < most → (up_to asked rows end item).refusal bytes fault → Begins (up_to asked rows end item).row bytes fault.left
  items_begin bytes fault few r =
      let p = r.2 in
      let short : length p.0 < most = omega (arith, few, ap length p.2, length-append p.0 p.1) in
      elim (starts r.0 p.0 (length p.1) p.3 short p.1 fault (fewer bytes p.0 p.1 p.2 few) p.4) [
        | inl here ↦ end_here r.0 bytes p.0 p.1 fault.left r.1 p.2 p.3 here
        | inr b ↦ end_later r.0 bytes p.0 p.1 fault.left r.1 p.2 p.3 b
      ]

  completes_up_to : Completes (up_to asked rows end item)
  completes_up_to = record { filled = items_filled; moved = items_move; begins = items_begin }

-- the number that ends items
end_ending : (width n : ℕ) → n < 256 ^ width → (following : ℕ) → Ending (InOrder (IsNumber width n ∷ [])) [] following
end_ending width n fits following =
    ending_as (IsNumber width n) (InOrder (IsNumber width n ∷ [])) [] following (λ part is. one_row (IsNumber width n) part following is) (number_ending width n fits following)

end_moved : (width n : ℕ) → Moves (InOrder (IsNumber width n ∷ []))
end_moved width n part a b is = one_row (IsNumber width n) part b (move_number width n part a b (row_one (IsNumber width n) part a is))

-- ---- optional fields

option_of : (part : List ℕ) (following : ℕ) → option_part.row part following → (o : Option ℕ) × InOrder (option_rows o) part following
option_of part following h = option_is h.0 h.1.0 _ refl part following h.1.1

pub completes_options : Completes options_part
completes_options = completes_up_to (λ _ _. Unit {0}) option_rows (IsNumber 1 0 ∷ []) (λ _. option_part)
    (λ xs part m n follows each. record {
      again = xs;
      follows = follows;
      each = move_each option_rows move_option xs part m n each;
      one = λ bytes after is. let o = option_of bytes after is in (o.0, tt, o.1);
    })
    (end_moved 1 0) (end_ending 1 0 (omega arith)) (λ xs part m each short bytes fault few r. inr (completes_option.begins bytes fault few r))

-- ---- entries

-- what a reader of items takes is in the rows of an item
item_is : {A : Type 0} (r : Read (Option A)) (D : A → Type 0) (rows : A → List Row) (end : List Row) → Reads r (IfIs D) (end_or rows end) → (part rest : List ℕ) (following : ℕ) (x : A)
    → length rest ≡ following → r (part ++ rest) ≡ Ok (Some x, rest) → D x × InOrder (rows x) part following
item_is r D rows end law part rest following x size e =
    let t = law.takes (part ++ rest) (Some x) rest e in
    let same : part ≡ t.1.part = append_cancel_right part t.1.part rest t.1.whole in
    let row : InOrder (rows x) part (length rest) = subst (λ (p : List ℕ). InOrder (rows x) p (length rest)) (sym same) t.1.in_order in
    (t.0, subst (λ (n : ℕ). InOrder (rows x) part n) size row)

-- an item is read after its magic number
magic_reads : {A : Type 0} (a b : ℕ) (tail : Read A) → (a ≡ b → ⊥) → (bytes mid rest : List ℕ) (x : A) → Front (IsNumber 2 a) bytes mid → tail mid ≡ Ok (x, rest)
    → carry (checked 2 (magic_kind a b) bytes) (λ m. after_magic tail (eqb m b)) ≡ Ok (Some x, rest)
magic_reads a b tail differ bytes mid rest x first e =
    let one = checked_reads 2 (magic_kind a b) a (one_is a b) bytes mid first in
    ap (λ q. carry q (λ m. after_magic tail (eqb m b))) one ∙ ap (λ c. after_magic tail c mid) (ne_eqb a b differ) ∙ ap (λ q. carry q (λ v. give (Some v))) e

-- bytes of a row, where so many bytes follow
front_at : (row : Row) (part : List ℕ) (following : ℕ) → row part following → Front row (part ++ replicate following 0) (replicate following 0)
front_at row part following h = record { part = part; whole = refl; is = subst (λ (n : ℕ). row part n) (sym (length-replicate following 0)) h }

abbrev pub entry_tail : List Part
entry_tail = field 4 ∷ field 4 ∷ field 4 ∷ some_of (λ count. all_of (holding 4 count ∷ lines_part count ∷ [])) ∷ []

entry_is : (part : List ℕ) (following : ℕ) → entry_part.row part following → (e : Entry) × InOrder (entry_rows e) part following
unfolding entry_or_end
entry_is part following h =
    let rest : List ℕ = replicate following 0 in
    let s = halves (IsNumber 2 0xf518) (rows_of entry_tail) (part ++ rest) rest (front_at entry_part.row part following h) in
    let x = obeys_entry.reads s.mid rest s.second in
    let e : next_entry [] (part ++ rest) ≡ Ok (Some x.0, rest) = magic_reads 0xf518 0x3581 entry (λ (e : 0xf518 ≡ 0x3581). omega (arith, e)) (part ++ rest) s.mid rest x.0 s.first x.1 in
    (x.0, (item_is (next_entry []) (λ _. Unit {0}) entry_rows (IsNumber 2 0x3581 ∷ []) (reads_next_entry []) part rest following x.0 (length-replicate following 0) e).1)

count_completes : Completes (some_of (λ count. all_of (holding 4 count ∷ lines_part count ∷ [])))
count_completes =
    completes_some (λ count. all_of (holding 4 count ∷ lines_part count ∷ []))
    (some_then (λ count. holding 4 count) (λ count. lines_part count ∷ []) (some_holding 4 (omega arith)) (λ count. (completes_lines count, tt)))

completes_entry : Completes entry_part
completes_entry =
    completes_all (magic 0xf518 0x3581 ∷ entry_tail)
    (completes_magic 0xf518 0x3581 (omega arith), (completes_field 4, (completes_field 4, (completes_field 4, (count_completes, tt)))))

pub completes_entries : Completes entries_part
completes_entries = completes_up_to (λ _ _. Unit {0}) entry_rows (IsNumber 2 0x3581 ∷ []) (λ _. entry_part)
    (λ xs part m n follows each. record {
      again = xs;
      follows = follows;
      each = move_each entry_rows move_entry xs part m n each;
      one = λ bytes after is. let e = entry_is bytes after is in (e.0, tt, e.1);
    })
    (end_moved 2 0x3581) (end_ending 2 0x3581 (omega arith)) (λ xs part m each short bytes fault few r. inr (completes_entry.begins bytes fault few r))

-- ---- changes

change_is : (heads : ℕ) (before : List Placed) (part : List ℕ) (following : ℕ) → (change_part heads before).row part following
    → (p : Placed) × Allowed heads before p × InOrder (change_rows p) part following
unfolding change_or_end
change_is heads before part following h =
    let rest : List ℕ = replicate following 0 in
    let bytes : List ℕ = part ++ rest in
    let s = halves (change_magic heads before).row (rows_of (tail_parts before)) bytes rest (front_at (change_part heads before).row part following h) in
    let magic : Front (IsNumber 2 0x5fd0) bytes s.mid = record { part = s.first.part; whole = s.first.whole; is = s.first.is.1 } in
    let x = (obeys_tail before (length bytes)).reads s.mid rest s.second in
    let read : change heads before (length bytes) s.mid ≡ Ok (x.0, rest) =
    change_as heads before (length bytes) false s.mid (ne_eqb (length before) heads s.first.is.0) ∙ x.1 in
    let all : change_or_end heads before bytes ≡ Ok (Some x.0, rest) =
    magic_reads 0x5fd0 0xe7aa (change heads before (length bytes)) (λ (e : 0x5fd0 ≡ 0xe7aa). omega (arith, e)) bytes s.mid rest x.0 magic read in
    let i = item_is (change_or_end heads before) (Allowed heads before) change_rows (IsNumber 2 0xe7aa ∷ []) (reads_change_or_end heads before) part rest following x.0 (length-replicate following 0) all in
    (x.0, i.0, i.1)

completes_links : Completes links_part
completes_links = completes_all (field 4 ∷ field 4 ∷ field 4 ∷ field 4 ∷ []) (completes_field 4, (completes_field 4, (completes_field 4, (completes_field 4, tt))))

completes_flags : Completes flags_part
completes_flags = completes_all (field 12 ∷ field 4 ∷ field 2 ∷ []) (completes_field 12, (completes_field 4, (completes_field 2, tt)))

marks_complete : (n : ℕ) → AllComplete (replicate n (field 12))
marks_complete zero = tt
marks_complete (suc n) = (completes_field 12, marks_complete n)

completes_marks : Completes marks_part
completes_marks = completes_all (all_of (replicate 26 (field 12)) ∷ field 24 ∷ field 4 ∷ field 4 ∷ [])
    (completes_all (replicate 26 (field 12)) (marks_complete 26), (completes_field 24, (completes_field 4, (completes_field 4, tt))))

completes_body : Completes body_part
completes_body = completes_all (flags_part ∷ marks_part ∷ field 8 ∷ options_part ∷ entries_part ∷ [])
    (completes_flags, (completes_marks, (completes_field 8, (completes_options, (completes_entries, tt)))))

tail_completes : (before : List Placed) → length before < 2147483647 → AllComplete (tail_parts before)
tail_completes before few =
    let u = unused before few in
    (completes_links, (completes_allowed 4 (change_number_kind (numbers_of before)) u.number u.allowed u.fits, (completes_body, tt)))

change_starts : (heads : ℕ) (xs : List Placed) (part : List ℕ) (m : ℕ) → Each change_rows xs part m → length part < most → (bytes : List ℕ) (fault : Fault) → length bytes < most
    → (change_part heads xs).refusal bytes fault → (fault.left ≡ length bytes) ⊎ Begins (change_part heads xs).row bytes fault.left
change_starts heads xs part m each short bytes fault few (inl (inl (inl cut))) = inl (ap (λ (f : Fault). f.left) cut.is)
change_starts heads xs part m each short bytes fault few (inl (inl (inr other))) = inl other.here
change_starts heads xs part m each short bytes fault few (inl (inr many)) = inl (ap (λ (f : Fault). f.left) many.is)
change_starts heads xs part m each short bytes fault few (inr w) =
    inr (begins_past (change_magic heads xs).row (rows_of (tail_parts xs)) bytes w.0 w.1 fault.left w.2 (λ n. (w.3.0, move_number 2 0x5fd0 w.0 (length w.1) n w.3.1))
    (begins_all (tail_parts xs) (tail_completes xs (few_changes xs part m each short)) w.1 fault (fewer bytes w.0 w.1 w.2 few) w.4))

changes_move : (heads : ℕ) (xs : List Placed) (part : List ℕ) (m n : ℕ) → Follows (Allowed heads) [] xs → Each change_rows xs part m
    → Again (Allowed heads) change_rows (change_part heads xs) part n
changes_move heads xs part m n follows each =
    let r = replaced xs part m n each in
    record {
      again = r.again;
      follows = follows_numbers heads r.again (subst AreNumbers (sym r.numbers) (numbers_from heads xs follows)) (omega (arith, r.count, few_heads heads xs follows));
      each = r.rows;
      one = λ bytes after is.
          let p = change_is heads xs bytes after is in
          let allowed : Allowed heads r.again p.0 = record {
            head = ap (λ (n : ℕ). eqb n heads) r.count ∙ p.1.head;
            number = ap (λ (ns : List ℕ). change_number_kind ns p.0.change.number) r.numbers ∙ p.1.number;
          } in
          (p.0, allowed, p.2);
    }

pub completes_changes : (heads : ℕ) → Completes (changes_part heads)
completes_changes heads = completes_up_to (Allowed heads) change_rows (IsNumber 2 0xe7aa ∷ []) (change_part heads)
    (changes_move heads) (end_moved 2 0xe7aa) (end_ending 2 0xe7aa (omega arith)) (change_starts heads)

-- ---- the file

some_numbers : CompletesSome numbers_part
some_numbers =
    let two : AllComplete (field 4 ∷ field 4 ∷ []) = (completes_field 4, (completes_field 4, tt)) in
    past_some (field 4) (λ heads. field 4 ∷ field 4 ∷ holding 4 heads ∷ field 4 ∷ field 4 ∷ []) (completes_field 4)
    (past_some (field 4) (λ heads. field 4 ∷ holding 4 heads ∷ field 4 ∷ field 4 ∷ []) (completes_field 4)
    (past_some (field 4) (λ heads. holding 4 heads ∷ field 4 ∷ field 4 ∷ []) (completes_field 4)
    (some_then (λ heads. holding 4 heads) (λ heads. field 4 ∷ field 4 ∷ []) (some_holding 4 (omega arith)) (λ heads. two))))

completes_file : Completes file_part
completes_file =
    completes_some (λ heads. all_of (front_part ∷ numbers_part heads ∷ field 8 ∷ options_part ∷ changes_part heads ∷ []))
    (past_some front_part (λ heads. numbers_part heads ∷ field 8 ∷ options_part ∷ changes_part heads ∷ []) completes_front
    (some_then numbers_part (λ heads. field 8 ∷ options_part ∷ changes_part heads ∷ []) some_numbers
    (λ heads. (completes_field 8, (completes_options, (completes_changes heads, tt))))))

pub none_is_late : NoneIsLate
unfolding most
none_is_late bytes fault few refused =
    let b = completes_file.begins bytes fault few refused in
    let e = b.ends 0 in
    let all : List ℕ = b.before ++ e.after in
    let form = (same_format all).0 (all, [], sym (append-nil all), e.is, tt) in
    (b.before, b.rest, b.whole, b.place, record { after = e.after; are_bytes = e.are_bytes; file = form.0; form = form.1 })
