-- Each part of the format is refused where its reader refuses it.
use Rattle.std.proofs.Common.{◌≡◌, ℕ, zero, suc, ◌+◌, ◌<◌, inl, inr, Bool, true, false, cond, eqb, List, [], ◌∷◌, ◌++◌, length, take, drop, map, replicate, Option, Some, None, Result, Ok, Err, refl, sym, ap, subst, ◌∙◌, arith}
use Rattle.std.specs.Prelude.{nat_eq}
use Rattle.std.specs.List.{starts_with}
use Rattle.std.specs.Str.{bytes_eq}
use Rattle.std.proofs.lemmas.Slice.Eq.{bytes_eq-Decides}
use Rattle.std.proofs.lemmas.List.{take_at}
use Rattle.std.proofs.lemmas.Bool.{eq-eqb, eqb-false, eqb-true, ne_eqb}
use Rattle.vs_ufile.specs.declared.error.UfKind.TheVariants.{NotUndo, TooManyHeads}
use Rattle.vs_ufile.specs.declared.fault.Fault.{Fault}
use Rattle.vs_ufile.specs.declared.reading.Front as declared_front
use Rattle.vs_ufile.specs.declared.reading.Numbers.{Numbers}
use Rattle.vs_bytes.specs.Fields.{Big, number_of}
use Rattle.vs_text.specs.Text.{plain_line}
use Rattle.vs_ufile.specs.Values.{Entry}
use Rattle.vs_ufile.specs.Reading.{◌>>=◌, File, Placed, Read, added, adding, body, carry, change, change_from, change_number_kind, change_or_end, changes, checked, entries, entry, entry_or_end, file, flags, front, give, here, items, last_of, line, lines, links, magic_kind, marks, next_entry, next_line, next_mark, next_option, number, numbers, numbers_of, option_data, option_or_end, options, refuse, repeat, run, save_number_kind, sized_run, start, start_bytes, version, version_kind}
use Rattle.vs_ufile.specs.Format.{Row, InOrder, Each, Allowed, Is, IsNumber, numbers_rows, change_rows, entry_rows, line_rows, option_rows}
use Rattle.vs_ufile.specs.Refusals.{Part, Past, RefusedAtOne, all_of, allowed_number, body_part, change_magic, change_part, changes_part, data_part, entries_part, entry_part, field, file_part, flags_part, front_part, holding, length_part, lines_part, links_part, magic, marks_part, numbers_part, option_part, options_part, sized_part, some_of, start_part}
use Rattle.vs_ufile.proofs.Laws.{carry_ok, one_row, row_one}
use Rattle.vs_ufile.proofs.Parts.{reads_checked}
use Rattle.vs_ufile.proofs.Whole.{after_magic, entry_some, line_more, one_is, reads_line, reads_lines, reads_next_entry, which}
use Rattle.vs_ufile.proofs.Header.{data_by, field_by, is_save, option_by, option_some, reads_option}
use Rattle.vs_ufile.proofs.File.{change_some, reads_change_or_end, reads_numbers, reads_start, start_by}
use Rattle.vs_ufile.proofs.Obeys.{Front, Obeys, ObeysAll, ObeysSome, carry_err, checked_faults, checked_reads, checked_refuses, fault_past, front_as, front_more, front_of, front_past, halves, number_cut, number_fault, number_reads, number_takes, obeys_checked, obeys_end, obeys_items, obeys_last, obeys_map, obeys_number, obeys_all, obeys_as, obeys_run, obeys_some, obeys_then, past_more, past_next, past_none, past_of, refused_past, some_number}

-- ---- sized runs and optional fields

obeys_sized : Obeys (number 4 >>= run) sized_part
obeys_sized =
    obeys_some (number 4) run (λ n. n) (λ size. holding 4 size) (λ size. field size ∷ []) (some_number 4)
    (λ size. obeys_last (run size) (field size) (obeys_run size))

-- the data of an optional field
obeys_data : (size : ℕ) (by : Bool) → Obeys (data_by size by) (data_part by size)
obeys_data size true = obeys_map (checked 4 save_number_kind) (λ save. Some save) (allowed_number 4 save_number_kind) (obeys_checked 4 save_number_kind)
obeys_data size false = obeys_map (run size) (λ _. None) (field size) (obeys_run size)

option_refused_by : (size : ℕ) (is_end : Bool) → eqb size 0 ≡ is_end → (bytes mid : List ℕ) (fault : Fault) → Front (IsNumber 1 size) bytes mid → option_by size is_end mid ≡ Err fault
    → option_part.refusal bytes fault
option_refused_by size true is bytes mid fault t e = absurd cc
option_refused_by size false is bytes mid fault t e =
    let long : Front (length_part size).row bytes mid = front_as (IsNumber 1 size) (length_part size).row bytes mid (λ part following h. (eqb-false size 0 is, h)) t in
    elim (carry_err (number 1 mid) (λ kind. data_by size (is_save kind size) >>= λ found. give (Some found)) fault e) [
      | inl now ↦
          let parts : List Part = holding 1 0 ∷ data_part (is_save 0 size) size ∷ [] in
          (size, (0, inr (past_of (length_part size).row (λ rest. RefusedAtOne parts rest fault) bytes mid long (inl (number_cut 1 mid fault now)))))
      | inr w ↦ elim (carry_err (data_by size (is_save w.0.0 size) w.0.1) (λ found. give (Some found)) fault w.2) [
        | inl now ↦
            let last : List Part = data_part (is_save w.0.0 size) size ∷ [] in
            let parts : List Part = holding 1 w.0.0 ∷ last in
            let refused : RefusedAtOne parts mid fault =
            inr (past_of (IsNumber 1 w.0.0) (λ rest. RefusedAtOne last rest fault) mid w.0.1 (number_takes 1 mid w.0.0 w.0.1 w.1) (inl ((obeys_data size (is_save w.0.0 size)).refuses w.0.1 fault now))) in
            (size, (w.0.0, inr (past_of (length_part size).row (λ rest. RefusedAtOne parts rest fault) bytes mid long refused)))
        | inr v ↦ absurd cc
      ]
    ]

option_refused : (before : List (Option ℕ)) (bytes : List ℕ) (fault : Fault) → next_option before bytes ≡ Err fault → option_part.refusal bytes fault
unfolding option_or_end option_data
option_refused before bytes fault e = elim (carry_err (number 1 bytes) (λ size. option_by size (eqb size 0)) fault e) [
  | inl now ↦ (0, (0, inl (number_cut 1 bytes fault now)))
  | inr w ↦ option_refused_by w.0.0 (eqb w.0.0 0) refl bytes w.0.1 fault (number_takes 1 bytes w.0.0 w.0.1 w.1) w.2
]

option_fault_by : (size kind : ℕ) (mid : List ℕ) (fault : Fault) → RefusedAtOne (holding 1 kind ∷ data_part (is_save kind size) size ∷ []) mid fault → field_by size mid ≡ Err fault
option_fault_by size kind mid fault (inl cut) = ap (λ q. carry q (λ kind. data_by size (is_save kind size) >>= λ found. give (Some found))) (number_fault 1 mid fault cut)
option_fault_by size kind mid fault (inr w) =
    let last : List Part = data_part (is_save kind size) size ∷ [] in
    let one : number 1 mid ≡ Ok (kind, w.1) = number_reads 1 kind mid w.1 (front_past (IsNumber 1 kind) (λ rest. RefusedAtOne last rest fault) mid w) in
    elim w.4 [
      | inl now ↦
          ap (λ q. carry q (λ kind. data_by size (is_save kind size) >>= λ found. give (Some found))) one
          ∙ ap (λ q. carry q (λ found. give (Some found))) ((obeys_data size (is_save kind size)).faults w.1 fault now)
      | inr v ↦ absurd v.4
    ]

option_fault : (before : List (Option ℕ)) (bytes : List ℕ) (fault : Fault) → option_part.refusal bytes fault → next_option before bytes ≡ Err fault
unfolding option_or_end option_data
option_fault before bytes fault h =
    let size : ℕ = h.0 in
    let kind : ℕ = h.1.0 in
    let parts : List Part = holding 1 kind ∷ data_part (is_save kind size) size ∷ [] in
    elim h.1.1 [
      | inl cut ↦ ap (λ q. carry q (λ size. option_by size (eqb size 0))) (number_fault 1 bytes fault cut)
      | inr w ↦
          let there = front_past (length_part size).row (λ rest. RefusedAtOne parts rest fault) bytes w in
          let one : number 1 bytes ≡ Ok (size, w.1) = number_reads 1 size bytes w.1 (record { part = there.part; whole = there.whole; is = there.is.1 }) in
          ap (λ q. carry q (λ size. option_by size (eqb size 0))) one ∙ ap (λ b. option_by size b w.1) (ne_eqb size 0 there.is.0) ∙ option_fault_by size kind w.1 fault w.4
    ]

obeys_options : Obeys options options_part
unfolding options
obeys_options = obeys_map (items next_option) last_of options_part
    (obeys_items next_option (λ _ _. Unit {0}) option_rows (IsNumber 1 0 ∷ []) (λ _. option_part) reads_option option_some option_refused option_fault)

-- ---- lines and entries

obeys_line : Obeys line sized_part
unfolding line sized_run
obeys_line = obeys_map (number 4 >>= run) plain_line sized_part obeys_sized

lines_refused : (n : ℕ) (before : List (List ℕ)) (bytes : List ℕ) (fault : Fault) → repeat n (adding next_line) before bytes ≡ Err fault → (lines_part n).refusal bytes fault
unfolding repeat adding
lines_refused zero before bytes fault e = absurd cc
lines_refused (suc n) before bytes fault e =
    let f = λ (found : Option (List (List ℕ))). elim found as (λ _. Read (List (List ℕ))) [ None ↦ give before | Some next ↦ repeat n (adding next_line) next ] in
    elim (carry_err (adding next_line before bytes) f fault e) [
      | inl now ↦ elim (carry_err (next_line before bytes) (λ found. give (added before found)) fault now) [
        | inl here ↦ elim (carry_err (line bytes) (λ found. give (Some found)) fault here) [
          | inl first ↦ ([], omega arith, ([], bytes, refl, refl, obeys_line.refuses bytes fault first))
          | inr w ↦ absurd cc
        ]
        | inr w ↦ absurd cc
      ]
      | inr w ↦
          let b = carry_ok (next_line before bytes) (λ found. give (added before found)) w.0 w.1 in
          let d = carry_ok (line bytes) (λ found. give (Some found)) b.0 b.1 in
          let s = lines_refused n (before ++ d.0.0 ∷ []) d.0.1 fault (sym (line_more n before d.0.0 bytes d.0.1 d.1) ∙ e) in (
            d.0.0 ∷ s.0,
            omega (arith, s.1),
            past_more line_rows d.0.0 s.0 (λ rest. sized_part.refusal rest fault) bytes d.0.1 (reads_line.takes bytes d.0.0 d.0.1 d.1).1 s.2,
          )
    ]

line_fault : (n : ℕ) (before : List (List ℕ)) (bytes : List ℕ) (fault : Fault) → line bytes ≡ Err fault → repeat (suc n) (adding next_line) before bytes ≡ Err fault
unfolding repeat adding
line_fault n before bytes fault h = rw h refl

lines_fault : (n : ℕ) (before xs : List (List ℕ)) (bytes : List ℕ) (fault : Fault) → length xs < n → Past (Each line_rows xs) (λ rest. sized_part.refusal rest fault) bytes
    → repeat n (adding next_line) before bytes ≡ Err fault
lines_fault zero before xs bytes fault lt p = absurd (omega (arith, lt))
lines_fault (suc n) before [] bytes fault lt p = line_fault n before bytes fault (obeys_line.faults bytes fault (past_none line_rows (λ rest. sized_part.refusal rest fault) bytes p))
lines_fault (suc n) before (x ∷ xs) bytes fault lt p =
    let s = past_next line_rows x xs (λ rest. sized_part.refusal rest fault) bytes p in
    let one : line bytes ≡ Ok (x, s.mid) = ap line s.first.whole ∙ reads_line.again x tt s.first.part s.mid s.first.is in
    line_more n before x bytes s.mid one ∙ lines_fault n (before ++ x ∷ []) xs s.mid fault (omega (arith, lt)) s.later

obeys_lines : (count : ℕ) → Obeys (lines count) (lines_part count)
unfolding lines
obeys_lines count = record {
  takes = λ bytes xs rest e.
      let t = (reads_lines count).takes bytes xs rest e in
      front_as (Each line_rows xs) (lines_part count).row bytes rest (λ part following h. (xs, t.0, h)) (front_of (Each line_rows xs) bytes rest t.1);
  refuses = λ bytes fault e. lines_refused count [] bytes fault e;
  reads = λ bytes rest f. (
    f.is.0,
    ap (lines count) f.whole ∙ (reads_lines count).again f.is.0 f.is.1 f.part rest (one_row (Each line_rows f.is.0) f.part (length rest) f.is.2),
  );
  faults = λ bytes fault h. lines_fault count [] h.0 bytes fault h.1 h.2;
}

pub obeys_entry : ObeysAll entry (field 4 ∷ field 4 ∷ field 4 ∷ some_of (λ count. all_of (holding 4 count ∷ lines_part count ∷ [])) ∷ [])
unfolding entry
obeys_entry =
    obeys_then (number 4) _ (field 4) _ (obeys_number 4) (λ top.
    obeys_then (number 4) _ (field 4) _ (obeys_number 4) (λ bottom.
    obeys_then (number 4) _ (field 4) _ (obeys_number 4) (λ count.
    obeys_last _ _
    (obeys_some (number 4) _ (λ n. n) (λ count. holding 4 count) (λ count. lines_part count ∷ []) (some_number 4) (λ size.
    obeys_then (lines size) _ (lines_part size) [] (obeys_lines size) (λ lines. obeys_end _))))))

-- an item after its magic number, which is not that of the end
magic_refused_by : {A : Type 0} (a b : ℕ) (tail : Read A) (ps : List Part) → ObeysAll tail ps → (m : ℕ) (is_end : Bool) → eqb m b ≡ is_end → (bytes mid : List ℕ) (fault : Fault)
    → magic_kind a b m ≡ None → Front (IsNumber 2 m) bytes mid → after_magic tail is_end mid ≡ Err fault → RefusedAtOne (magic a b ∷ ps) bytes fault
magic_refused_by a b tail ps law m true is bytes mid fault k t e = absurd cc
magic_refused_by a b tail ps law m false is bytes mid fault k t e = elim (carry_err (tail mid) (λ x. give (Some x)) fault e) [
  | inl now ↦
      let there : Front (IsNumber 2 a) bytes mid = subst (λ (n : ℕ). Front (IsNumber 2 n) bytes mid) (which a b m k is) t in
      inr (past_of (IsNumber 2 a) (λ rest. RefusedAtOne ps rest fault) bytes mid there (law.refuses mid fault now))
  | inr w ↦ absurd cc
]

magic_refused : {A : Type 0} (a b : ℕ) (tail : Read A) (ps : List Part) → ObeysAll tail ps → (bytes : List ℕ) (fault : Fault)
    → carry (checked 2 (magic_kind a b) bytes) (λ m. after_magic tail (eqb m b)) ≡ Err fault → RefusedAtOne (magic a b ∷ ps) bytes fault
magic_refused a b tail ps law bytes fault e = elim (carry_err (checked 2 (magic_kind a b) bytes) (λ m. after_magic tail (eqb m b)) fault e) [
  | inl now ↦ inl (checked_refuses 2 (magic_kind a b) bytes fault now)
  | inr w ↦
      let t = (reads_checked 2 (magic_kind a b)).takes bytes w.0.0 w.0.1 w.1 in
      magic_refused_by a b tail ps law w.0.0 (eqb w.0.0 b) refl bytes w.0.1 fault t.0 (front_of (IsNumber 2 w.0.0) bytes w.0.1 t.1) w.2
]

magic_fault : {A : Type 0} (a b : ℕ) (tail : Read A) (ps : List Part) → (a ≡ b → ⊥) → ObeysAll tail ps → (bytes : List ℕ) (fault : Fault) → RefusedAtOne (magic a b ∷ ps) bytes fault
    → carry (checked 2 (magic_kind a b) bytes) (λ m. after_magic tail (eqb m b)) ≡ Err fault
magic_fault a b tail ps differ law bytes fault (inl now) = ap (λ q. carry q (λ m. after_magic tail (eqb m b))) (checked_faults 2 (magic_kind a b) bytes fault now)
magic_fault a b tail ps differ law bytes fault (inr w) =
    let one = checked_reads 2 (magic_kind a b) a (one_is a b) bytes w.1 (front_past (IsNumber 2 a) (λ rest. RefusedAtOne ps rest fault) bytes w) in
    ap (λ q. carry q (λ m. after_magic tail (eqb m b))) one ∙ ap (λ c. after_magic tail c w.1) (ne_eqb a b differ) ∙ ap (λ q. carry q (λ v. give (Some v))) (law.faults w.1 fault w.4)

entry_refused : (before : List Entry) (bytes : List ℕ) (fault : Fault) → next_entry before bytes ≡ Err fault → entry_part.refusal bytes fault
unfolding entry_or_end
entry_refused before bytes fault e = magic_refused 0xf518 0x3581 entry _ obeys_entry bytes fault e

entry_fault : (before : List Entry) (bytes : List ℕ) (fault : Fault) → entry_part.refusal bytes fault → next_entry before bytes ≡ Err fault
unfolding entry_or_end
entry_fault before bytes fault h = magic_fault 0xf518 0x3581 entry _ (λ (e : 0xf518 ≡ 0x3581). omega (arith, e)) obeys_entry bytes fault h

obeys_entries : Obeys entries entries_part
unfolding entries
obeys_entries = obeys_items next_entry (λ _ _. Unit {0}) entry_rows (IsNumber 2 0x3581 ∷ []) (λ _. entry_part) reads_next_entry entry_some entry_refused entry_fault

-- ---- changes

mark_as : (n before : ℕ) (q : Result (List ℕ × List ℕ) Fault)
    → carry (carry q (λ _. give (Some (before + 1)))) (λ found. elim found as (λ _. Read ℕ) [ None ↦ give before | Some next ↦ repeat n next_mark next ])
    ≡ carry q (λ _. repeat n next_mark (before + 1))
mark_as n before (Ok x) = refl
mark_as n before (Err d) = refl

obeys_each_mark : (n before : ℕ) → ObeysAll (repeat n next_mark before) (replicate n (field 12))
unfolding repeat next_mark
obeys_each_mark zero before = obeys_end before
obeys_each_mark (suc n) before =
    obeys_as (run 12 >>= λ _. repeat n next_mark (before + 1)) (repeat (suc n) next_mark before) (replicate (suc n) (field 12)) (λ bytes. mark_as n before (run 12 bytes))
    (obeys_then (run 12) (λ _. repeat n next_mark (before + 1)) (field 12) (replicate n (field 12)) (obeys_run 12) (λ _. obeys_each_mark n (before + 1)))

obeys_marks : Obeys marks marks_part
unfolding marks
obeys_marks = obeys_all marks _ (
    obeys_then (repeat 26 next_mark 0) _ (all_of (replicate 26 (field 12))) _ (obeys_all (repeat 26 next_mark 0) (replicate 26 (field 12)) (obeys_each_mark 26 0)) (λ marks.
    obeys_then (run 24) _ (field 24) _ (obeys_run 24) (λ positions.
    obeys_then (run 4) _ (field 4) _ (obeys_run 4) (λ mode.
    obeys_then (run 4) _ (field 4) _ (obeys_run 4) (λ wanted. obeys_end marks)))))

obeys_flags : Obeys flags flags_part
unfolding flags
obeys_flags = obeys_all flags _ (
    obeys_then (run 12) _ (field 12) _ (obeys_run 12) (λ cursor.
    obeys_then (run 4) _ (field 4) _ (obeys_run 4) (λ column.
    obeys_then (number 2) _ (field 2) _ (obeys_number 2) (λ flags. obeys_end _))))

obeys_links : Obeys links links_part
unfolding links
obeys_links = obeys_all links _ (
    obeys_then (number 4) _ (field 4) _ (obeys_number 4) (λ next.
    obeys_then (number 4) _ (field 4) _ (obeys_number 4) (λ prev.
    obeys_then (number 4) _ (field 4) _ (obeys_number 4) (λ alt_next.
    obeys_then (number 4) _ (field 4) _ (obeys_number 4) (λ alt_prev. obeys_end _)))))

obeys_body : Obeys body body_part
unfolding body
obeys_body = obeys_all body _ (
    obeys_then flags _ flags_part _ obeys_flags (λ empty.
    obeys_then marks _ marks_part _ obeys_marks (λ places.
    obeys_then (number 8) _ (field 8) _ (obeys_number 8) (λ time.
    obeys_then options _ options_part _ obeys_options (λ save.
    obeys_then entries _ entries_part _ obeys_entries (λ entries. obeys_end _))))))

-- the parts of a change after its magic number
abbrev pub tail_parts : List Placed → List Part
tail_parts before = links_part ∷ allowed_number 4 (change_number_kind (numbers_of before)) ∷ body_part ∷ []

abbrev pub tail_reader : List Placed → ℕ → Read Placed
tail_reader before left = do
  links ← links
  number ← checked 4 (change_number_kind (numbers_of before))
  body ← body
  give (change_from left links number body)

pub obeys_tail : (before : List Placed) (left : ℕ) → ObeysAll (tail_reader before left) (tail_parts before)
obeys_tail before left =
    obeys_then links _ links_part _ obeys_links (λ links.
    obeys_then (checked 4 (change_number_kind (numbers_of before))) _ (allowed_number 4 (change_number_kind (numbers_of before))) _ (obeys_checked 4 (change_number_kind (numbers_of before))) (λ number.
    obeys_then body _ body_part _ obeys_body (λ body. obeys_end _)))

change_by : (heads : ℕ) (before : List Placed) (full : Bool) → eqb (length before) heads ≡ full → (bytes mid : List ℕ) (fault : Fault) → Front (IsNumber 2 0x5fd0) bytes mid
    → cond full (refuse (length bytes) TooManyHeads heads mid) (tail_reader before (length bytes) mid) ≡ Err fault → (change_part heads before).refusal bytes fault
change_by heads before true is bytes mid fault t e =
    inl (inr (record { none_left = eqb-true (length before) heads is; begins = past_of (IsNumber 2 0x5fd0) (λ _. Unit {0}) bytes mid t tt; is = cc }))
change_by heads before false is bytes mid fault t e =
    let row = (change_magic heads before).row in
    let there : Front row bytes mid = front_as (IsNumber 2 0x5fd0) row bytes mid (λ part following h. (eqb-false (length before) heads is, h)) t in
    inr (past_of row (λ rest. RefusedAtOne (tail_parts before) rest fault) bytes mid there ((obeys_tail before (length bytes)).refuses mid fault e))

change_refused_by : (heads : ℕ) (before : List Placed) (m : ℕ) (is_end : Bool) → eqb m 0xe7aa ≡ is_end → (bytes mid : List ℕ) (fault : Fault) → magic_kind 0x5fd0 0xe7aa m ≡ None
    → Front (IsNumber 2 m) bytes mid → after_magic (change heads before (length bytes)) is_end mid ≡ Err fault → (change_part heads before).refusal bytes fault
unfolding change
change_refused_by heads before m true is bytes mid fault k t e = absurd cc
change_refused_by heads before m false is bytes mid fault k t e = elim (carry_err (change heads before (length bytes) mid) (λ x. give (Some x)) fault e) [
  | inl now ↦
      let there : Front (IsNumber 2 0x5fd0) bytes mid = subst (λ (n : ℕ). Front (IsNumber 2 n) bytes mid) (which 0x5fd0 0xe7aa m k is) t in
      change_by heads before (eqb (length before) heads) refl bytes mid fault there now
  | inr w ↦ absurd cc
]

change_refused : (heads : ℕ) (before : List Placed) (bytes : List ℕ) (fault : Fault) → change_or_end heads before bytes ≡ Err fault → (change_part heads before).refusal bytes fault
unfolding change_or_end
change_refused heads before bytes fault e =
    elim (carry_err (checked 2 (magic_kind 0x5fd0 0xe7aa) bytes) (λ m. after_magic (change heads before (length bytes)) (eqb m 0xe7aa)) fault e) [
      | inl now ↦ inl (inl (checked_refuses 2 (magic_kind 0x5fd0 0xe7aa) bytes fault now))
      | inr w ↦
          let t = (reads_checked 2 (magic_kind 0x5fd0 0xe7aa)).takes bytes w.0.0 w.0.1 w.1 in
          change_refused_by heads before w.0.0 (eqb w.0.0 0xe7aa) refl bytes w.0.1 fault t.0 (front_of (IsNumber 2 w.0.0) bytes w.0.1 t.1) w.2
    ]

change_fault_by : (heads : ℕ) (before : List Placed) (bytes mid : List ℕ) (fault : Fault) → Front (IsNumber 2 0x5fd0) bytes mid → change heads before (length bytes) mid ≡ Err fault
    → change_or_end heads before bytes ≡ Err fault
unfolding change_or_end
change_fault_by heads before bytes mid fault t e =
    let differ : 0x5fd0 ≡ 0xe7aa → ⊥ = λ (d : 0x5fd0 ≡ 0xe7aa). omega (arith, d) in
    let tail = change heads before (length bytes) in
    ap (λ q. carry q (λ m. after_magic tail (eqb m 0xe7aa))) (checked_reads 2 (magic_kind 0x5fd0 0xe7aa) 0x5fd0 (one_is 0x5fd0 0xe7aa) bytes mid t)
    ∙ ap (λ c. after_magic tail c mid) (ne_eqb 0x5fd0 0xe7aa differ) ∙ ap (λ q. carry q (λ v. give (Some v))) e

pub change_as : (heads : ℕ) (before : List Placed) (left : ℕ) (full : Bool) (bytes : List ℕ) → eqb (length before) heads ≡ full
    → change heads before left bytes ≡ cond full (refuse left TooManyHeads heads bytes) (tail_reader before left bytes)
unfolding change
change_as heads before left full bytes is = ap (λ b. cond b (refuse left TooManyHeads heads bytes) (tail_reader before left bytes)) is

change_fault : (heads : ℕ) (before : List Placed) (bytes : List ℕ) (fault : Fault) → (change_part heads before).refusal bytes fault → change_or_end heads before bytes ≡ Err fault
unfolding change_or_end
change_fault heads before bytes fault (inl (inl now)) =
    ap (λ q. carry q (λ m. after_magic (change heads before (length bytes)) (eqb m 0xe7aa))) (checked_faults 2 (magic_kind 0x5fd0 0xe7aa) bytes fault now)
change_fault heads before bytes fault (inl (inr many)) =
    let mid : List ℕ = many.begins.1 in
    let there = front_past (IsNumber 2 0x5fd0) (λ _. Unit {0}) bytes many.begins in
    change_fault_by heads before bytes mid fault there (change_as heads before (length bytes) true mid (eq-eqb (length before) heads many.none_left) ∙ ap Err (sym many.is))
change_fault heads before bytes fault (inr w) =
    let row = (change_magic heads before).row in
    let there = front_past row (λ rest. RefusedAtOne (tail_parts before) rest fault) bytes w in
    let magic : Front (IsNumber 2 0x5fd0) bytes w.1 = record { part = there.part; whole = there.whole; is = there.is.1 } in
    change_fault_by heads before bytes w.1 fault magic
    (change_as heads before (length bytes) false w.1 (ne_eqb (length before) heads there.is.0) ∙ (obeys_tail before (length bytes)).faults w.1 fault w.4)

obeys_changes : (heads : ℕ) → Obeys (changes heads) (changes_part heads)
unfolding changes
obeys_changes heads =
    obeys_items (change_or_end heads) (Allowed heads) change_rows (IsNumber 2 0xe7aa ∷ []) (change_part heads) (reads_change_or_end heads) change_some (change_refused heads) (change_fault heads)

-- ---- the file

start_err : (bytes : List ℕ) (b : Bool) (fault : Fault) → start_by b bytes ≡ Err fault → (b ≡ false) × (fault ≡ record { kind = NotUndo; left = length bytes; found = 0 })
start_err bytes true fault e = absurd cc
start_err bytes false fault e = (refl, cc)

start_fault : (bytes : List ℕ) (fault : Fault) (b : Bool) → starts_with nat_eq bytes start_bytes ≡ b → start_part.refusal bytes fault → start_by b bytes ≡ Err fault
unfolding start
start_fault bytes fault true is h =
    let t = (reads_start.takes bytes start_bytes (drop 9 bytes) (ap (λ b. start_by b bytes) is)).1 in
    let row = row_one (Is start_bytes) t.part (length (drop 9 bytes)) t.in_order in
    absurd (h.0 (drop 9 bytes) (t.whole ∙ ap (λ (x : List ℕ). x ++ drop 9 bytes) row.same))
start_fault bytes fault false is h = ap Err (sym h.1)

obeys_start : Obeys start start_part
unfolding start
obeys_start = record {
  takes = λ bytes x rest e. front_of (Is start_bytes) bytes rest (reads_start.takes bytes x rest e).1;
  refuses = λ bytes fault e.
      let g = start_err bytes (starts_with nat_eq bytes start_bytes) fault e in (
        λ rest same.
            let front : take 9 bytes ≡ start_bytes = ap (take 9) same ∙ take_at start_bytes rest 9 refl in
            let test : bytes_eq start_bytes (take 9 bytes) ≡ true = (bytes_eq-Decides start_bytes (take 9 bytes)).1 (sym front) in
            let no : true ≡ false = sym test ∙ g.0 in
            absurd cc,
        g.1,
      );
  reads = λ bytes rest f. (start_bytes, ap start f.whole ∙ reads_start.again start_bytes refl f.part rest (one_row (Is start_bytes) f.part (length rest) f.is));
  faults = λ bytes fault h. start_fault bytes fault (starts_with nat_eq bytes start_bytes) refl h;
}

obeys_front : Obeys front front_part
unfolding front sized_run
obeys_front = obeys_all front _ (
    obeys_then start _ start_part _ obeys_start (λ start.
    obeys_then version _ (allowed_number 2 version_kind) _ (obeys_checked 2 version_kind) (λ version.
    obeys_then (run 32) _ (field 32) _ (obeys_run 32) (λ digest.
    obeys_then (number 4) _ (field 4) _ (obeys_number 4) (λ lines.
    obeys_then (number 4 >>= run) _ sized_part _ obeys_sized (λ u_line.
    obeys_then (run 4) _ (field 4) _ (obeys_run 4) (λ u_number.
    obeys_then (run 4) _ (field 4) _ (obeys_run 4) (λ u_column. obeys_end _))))))))

numbers_take : (bytes : List ℕ) (n : Numbers) (rest : List ℕ) → numbers bytes ≡ Ok (n, rest) → Front (numbers_part n.heads).row bytes rest
numbers_take bytes n rest e =
    let t = (reads_numbers.takes bytes n rest e).1 in
    let a = t.in_order in
    let b = a.4 in
    let c = b.4 in
    let d = c.4 in
    let f = d.4 in
    let g = f.4 in
    record {
      part = t.part;
      whole = t.whole;
      is = (
        a.0,
        a.1,
        a.2,
        record { wide = a.3.wide },
        (b.0, b.1, b.2, record { wide = b.3.wide }, (c.0, c.1, c.2, record { wide = c.3.wide }, (d.0, d.1, d.2, d.3, (f.0, f.1, f.2, record { wide = f.3.wide }, (g.0, g.1, g.2, record { wide = g.3.wide }, g.4))))),
      );
    }

numbers_refused : (bytes : List ℕ) (fault : Fault) → numbers bytes ≡ Err fault → (heads : ℕ) × (numbers_part heads).refusal bytes fault
unfolding numbers
numbers_refused bytes fault e =
    let counts : ℕ → List Part = λ heads. holding 4 heads ∷ field 4 ∷ field 4 ∷ [] in
    refused_past (number 4) _ (field 4) (λ heads. field 4 ∷ field 4 ∷ counts heads) 0 (obeys_number 4) (λ oldest.
    refused_past (number 4) _ (field 4) (λ heads. field 4 ∷ counts heads) 0 (obeys_number 4) (λ newest.
    refused_past (number 4) _ (field 4) counts 0 (obeys_number 4) (λ current_head mid fault more.
    (obeys_some (number 4) _ (λ n. n) (λ heads. holding 4 heads) (λ _. field 4 ∷ field 4 ∷ []) (some_number 4) (λ heads.
    obeys_then (number 4) _ (field 4) _ (obeys_number 4) (λ last.
    obeys_then (number 4) _ (field 4) _ (obeys_number 4) (λ current. obeys_end _)))).refuses mid fault more))) bytes fault e

-- the bytes of each number
number_in : List ℕ → ℕ
number_in part = number_of Big 4 part

numbers_read : (heads : ℕ) (bytes rest : List ℕ) → Front (numbers_part heads).row bytes rest → (n : Numbers) × (n.heads ≡ heads) × (numbers bytes ≡ Ok (n, rest))
unfolding number_in
numbers_read heads bytes rest t =
    let a = t.is in
    let b = a.4 in
    let c = b.4 in
    let d = c.4 in
    let f = d.4 in
    let g = f.4 in
    let n : Numbers = record { oldest = number_in a.0; newest = number_in b.0; current_head = number_in c.0; heads = heads; last = number_in f.0; current = number_in g.0 } in
    let rows : InOrder (numbers_rows n) t.part (length rest) = (
      a.0,
      a.1,
      a.2,
      record { wide = a.3.wide; value = refl },
      (
        b.0,
        b.1,
        b.2,
        record { wide = b.3.wide; value = refl },
        (
          c.0,
          c.1,
          c.2,
          record { wide = c.3.wide; value = refl },
          (d.0, d.1, d.2, d.3, (f.0, f.1, f.2, record { wide = f.3.wide; value = refl }, (g.0, g.1, g.2, record { wide = g.3.wide; value = refl }, g.4))),
        ),
      ),
    ) in
    (n, refl, ap numbers t.whole ∙ reads_numbers.again n tt t.part rest rows)

obeys_numbers_fields : ObeysAll numbers (field 4 ∷ field 4 ∷ field 4 ∷ field 4 ∷ field 4 ∷ field 4 ∷ [])
unfolding numbers
obeys_numbers_fields =
    obeys_then (number 4) _ (field 4) _ (obeys_number 4) (λ oldest.
    obeys_then (number 4) _ (field 4) _ (obeys_number 4) (λ newest.
    obeys_then (number 4) _ (field 4) _ (obeys_number 4) (λ current_head.
    obeys_then (number 4) _ (field 4) _ (obeys_number 4) (λ heads.
    obeys_then (number 4) _ (field 4) _ (obeys_number 4) (λ last.
    obeys_then (number 4) _ (field 4) _ (obeys_number 4) (λ current. obeys_end _))))))

-- what is refused after some part is refused after it by parts that refuse more
later_too : (p : Part) (ps qs : List Part) (fault : Fault) → ((bytes : List ℕ) → RefusedAtOne ps bytes fault → RefusedAtOne qs bytes fault)
    → (bytes : List ℕ) → RefusedAtOne (p ∷ ps) bytes fault → RefusedAtOne (p ∷ qs) bytes fault
later_too p ps qs fault more bytes (inl now) = inl now
later_too p ps qs fault more bytes (inr w) = inr (w.0, w.1, w.2, w.3, more w.1 w.4)

any_number : (n : ℕ) (ps : List Part) (fault : Fault) (bytes : List ℕ) → RefusedAtOne (holding 4 n ∷ ps) bytes fault → RefusedAtOne (field 4 ∷ ps) bytes fault
any_number n ps fault bytes (inl now) = inl now
any_number n ps fault bytes (inr w) = inr (w.0, w.1, w.2, record { wide = w.3.wide }, w.4)

numbers_fault : (heads : ℕ) (bytes : List ℕ) (fault : Fault) → (numbers_part heads).refusal bytes fault → numbers bytes ≡ Err fault
numbers_fault heads bytes fault h =
    let two : List Part = field 4 ∷ field 4 ∷ [] in
    let own : List Part = holding 4 heads ∷ two in
    let all : List Part = field 4 ∷ two in
    let third = later_too (field 4) own all fault (any_number heads two fault) in
    let second = later_too (field 4) (field 4 ∷ own) (field 4 ∷ all) fault third in
    obeys_numbers_fields.faults bytes fault (later_too (field 4) (field 4 ∷ field 4 ∷ own) (field 4 ∷ field 4 ∷ all) fault second bytes h)

some_numbers : ObeysSome numbers (λ (n : Numbers). n.heads) numbers_part
some_numbers = record { takes = numbers_take; refuses = numbers_refused; reads = numbers_read; faults = numbers_fault }

-- a file after its front
abbrev back : declared_front.Front → ℕ → Numbers → Read File
back head left numbers = do
  time ← number 8
  last_save ← options
  placed ← changes numbers.heads
  give (record { heads_left = left; front = head; numbers = numbers; time = time; last_save = last_save; placed = placed })

-- the parts after the front of a file
abbrev back_parts : ℕ → List Part
back_parts heads = field 8 ∷ options_part ∷ changes_part heads ∷ []

obeys_back : (head : declared_front.Front) (left : ℕ) → Obeys (numbers >>= back head left) (some_of (λ heads. all_of (numbers_part heads ∷ back_parts heads)))
obeys_back head left =
    obeys_some numbers _ (λ n. n.heads) numbers_part back_parts some_numbers (λ numbers.
    obeys_then (number 8) _ (field 8) _ (obeys_number 8) (λ time.
    obeys_then options _ options_part _ obeys_options (λ save.
    obeys_then (changes numbers.heads) _ (changes_part numbers.heads) _ (obeys_changes numbers.heads) (λ placed. obeys_end _))))

-- a file after its front, whose length is the place of the heads
abbrev placed_back : declared_front.Front → Read File
placed_back head = here >>= λ left. numbers >>= back head left

pub obeys_file : Obeys file file_part
unfolding file
obeys_file = record {
  takes = λ bytes f rest e.
      let a = carry_ok (front bytes) placed_back (f, rest) e in
      let more = (obeys_back a.0.0 (length a.0.1)).takes a.0.1 f rest a.2 in
      let heads : ℕ = more.is.0 in
      let rows : List Row = map (λ p. p.row) (numbers_part heads ∷ back_parts heads) in
      let second : Front (InOrder rows) a.0.1 rest = record { part = more.part; whole = more.whole; is = more.is.1 } in
      let all = front_more front_part.row rows bytes a.0.1 rest (obeys_front.takes bytes a.0.0 a.0.1 a.1) second in
      record { part = all.part; whole = all.whole; is = (heads, all.is) };
  refuses = λ bytes fault e.
      refused_past front placed_back front_part (λ heads. numbers_part heads ∷ back_parts heads) 0 obeys_front (λ head mid fault more. (obeys_back head (length mid)).refuses mid fault more) bytes fault e;
  reads = λ bytes rest t.
      let heads : ℕ = t.is.0 in
      let h = halves front_part.row (map (λ p. p.row) (numbers_part heads ∷ back_parts heads)) bytes rest (record { part = t.part; whole = t.whole; is = t.is.1 }) in
      let x = obeys_front.reads bytes h.mid h.first in
      let y = (obeys_back x.0 (length h.mid)).reads h.mid rest (record { part = h.second.part; whole = h.second.whole; is = (heads, h.second.is) }) in
      (y.0, ap (λ q. carry q placed_back) x.1 ∙ y.1);
  faults = λ bytes fault h.
      fault_past front placed_back front_part (numbers_part h.0 ∷ back_parts h.0) obeys_front (λ head mid fault more. (obeys_back head (length mid)).faults mid fault (h.0, more)) bytes fault h.1;
}
