-- Each part of an undo file can be completed from where it is refused, and so can the file.
use Rattle.std.proofs.Common.{◌≡◌, ℕ, zero, suc, ◌+◌, ◌<◌, ◌^◌, inl, inr, Bool, true, false, List, [], ◌∷◌, length, replicate, Option, Some, None, refl, sym, ap, subst, arith}
use Rattle.std.proofs.lemmas.List.{length-replicate}
use Rattle.std.proofs.Math.Nat.{mod-lt}
use Rattle.std.specs.Int.{byte_at, bytes_high_first}
use Rattle.vs_bytes.specs.Fields.{Big, bytes_of}
use Rattle.vs_bytes.proofs.FieldLaws.{length-bytes_of, number_of-bytes_of}
use Rattle.vs_text.specs.Text.{plain_line}
use Rattle.vs_ufile.specs.declared.error.UfKind.{UfKind}
use Rattle.vs_ufile.specs.declared.fault.Fault.{Fault}
use Rattle.vs_ufile.specs.Completing.{AreBytes}
use Rattle.vs_ufile.specs.Format.{Row, InOrder, Each, Any, IsLine, IsNumber, Skipped, line_rows, option_rows}
use Rattle.vs_ufile.specs.Reading.{save_number_kind, start_bytes, version_kind}
use Rattle.vs_ufile.specs.Refusals.{IsCut, Part, Past, all_of, allowed_number, data_part, field, front_part, holding, length_part, lines_part, magic, option_part, sized_part, some_of, start_part}
use Rattle.vs_ufile.proofs.Completed.{AllComplete, Begins, Completes, CompletesSome, Ending, begins_as, begins_here, begins_past, begins_then, completes_all, completes_here, completes_some, ending_as, ending_then, fewer, most, rows_of, some_then, zero_bytes}
use Rattle.vs_ufile.proofs.Header.{is_save, save_or_not, save_small}
use Rattle.vs_ufile.proofs.Laws.{one_row, row_one}
use Rattle.vs_ufile.proofs.Moved.{move_any, move_each, move_line, move_number, move_run}
use Rattle.vs_ufile.proofs.Obeys.{past_next, past_none}

-- ---- fields

byte_below : (k n : ℕ) → byte_at k n < 256
byte_below zero n = mod-lt n (omega arith)
byte_below (suc k) n = mod-lt _ (omega arith)

high_bytes : (width n : ℕ) → AreBytes (bytes_high_first width n)
high_bytes zero n = tt
high_bytes (suc k) n = (byte_below k n, high_bytes k n)

number_bytes : (width n : ℕ) → AreBytes (bytes_of Big width n)
unfolding bytes_of
number_bytes width n = high_bytes width n

pub number_ending : (width n : ℕ) → n < 256 ^ width → (following : ℕ) → Ending (IsNumber width n) [] following
number_ending width n fits following = record {
  after = bytes_of Big width n;
  are_bytes = number_bytes width n;
  is = record { wide = length-bytes_of Big width n; value = number_of-bytes_of Big width n fits };
}

any_ending : (size following : ℕ) → Ending (Any size) [] following
any_ending size following = record { after = replicate size 0; are_bytes = zero_bytes size; is = record { wide = length-replicate size 0 } }

cut_here : (width : ℕ) (bytes : List ℕ) (fault : Fault) → IsCut width bytes fault → fault.left ≡ length bytes
cut_here width bytes fault cut = ap (λ (f : Fault). f.left) cut.is

pub completes_field : (width : ℕ) → Completes (field width)
completes_field width = completes_here (field width) (any_ending width) (move_any width) (cut_here width)

pub some_holding : (width : ℕ) → 0 < 256 ^ width → CompletesSome (λ n. holding width n)
some_holding width fits = record {
  value = 0;
  filled = number_ending width 0 fits;
  moved = move_number width;
  begins = λ n bytes fault few cut. (0, begins_here (IsNumber width 0) bytes fault.left (cut_here width bytes fault cut) (number_ending width 0 fits));
}

pub completes_allowed : (width : ℕ) (kind_of : ℕ → Option UfKind) (n : ℕ) → kind_of n ≡ None → n < 256 ^ width → Completes (allowed_number width kind_of)
completes_allowed width kind_of n none fits = completes_here (allowed_number width kind_of)
    (λ following. ending_as (IsNumber width n) (allowed_number width kind_of).row [] following (λ part is. (n, none, is)) (number_ending width n fits following))
    (λ part a b is. (is.0, is.1, move_number width is.0 part a b is.2))
    (λ bytes fault r. elim r [ inl cut ↦ cut_here width bytes fault cut | inr h ↦ h.here ])

pub completes_magic : (item end : ℕ) → item < 256 ^ 2 → Completes (magic item end)
completes_magic item end fits =
    completes_here (magic item end) (number_ending 2 item fits) (move_number 2 item) (λ bytes fault r. elim r [ inl cut ↦ cut_here 2 bytes fault cut | inr h ↦ h.here ])

start_are_bytes : AreBytes start_bytes
start_are_bytes = (omega arith, (omega arith, (omega arith, (omega arith, (omega arith, (omega arith, (omega arith, (omega arith, (omega arith, tt)))))))))

completes_start : Completes start_part
completes_start = completes_here start_part
    (λ following. record { after = start_bytes; are_bytes = start_are_bytes; is = record { same = refl } }) (move_run start_bytes)
    (λ bytes fault r. ap (λ (f : Fault). f.left) r.1)

completes_sized : Completes sized_part
completes_sized =
    completes_some _ (some_then (λ size. holding 4 size) (λ size. field size ∷ []) (some_holding 4 (omega arith)) (λ size. (completes_field size, tt)))

completes_data : (by : Bool) (size : ℕ) → Completes (data_part by size)
completes_data true size = completes_allowed 4 save_number_kind 0 refl (omega arith)
completes_data false size = completes_field size

-- ---- optional fields

some_length : CompletesSome length_part
some_length =
    let filled : (following : ℕ) → Ending (length_part 1).row [] following =
    λ following. ending_as (IsNumber 1 1) (length_part 1).row [] following (λ part is. (omega arith, is)) (number_ending 1 1 (omega arith) following) in
    record {
      value = 1;
      filled = filled;
      moved = λ size part m n is. (is.0, move_number 1 size part m n is.1);
      begins = λ size bytes fault few cut. (1, begins_here (length_part 1).row bytes fault.left (cut_here 1 bytes fault cut) filled);
    }

abbrev option_tail : ℕ → ℕ → List Part
option_tail size kind = holding 1 kind ∷ data_part (is_save kind size) size ∷ []

some_kind : (size : ℕ) → CompletesSome (λ kind. all_of (option_tail size kind))
some_kind size =
    some_then (λ kind. holding 1 kind) (λ kind. data_part (is_save kind size) size ∷ []) (some_holding 1 (omega arith)) (λ kind. (completes_data (is_save kind size) size, tt))

-- a part that depends on a value, and parts after it that depend on one more
completes_two : {A B : Type 0} (q : A → Part) (ps : A → B → List Part) → CompletesSome q → ((x : A) → CompletesSome (λ y. all_of (ps x y)))
    → Completes (some_of (λ x. some_of (λ y. all_of (q x ∷ ps x y))))
completes_two {A = A} {B = B} q ps s t =
    let both : A → Part = λ x. some_of (λ y. all_of (q x ∷ ps x y)) in
    let rows : A → B → Row = λ x y. InOrder (rows_of (q x ∷ ps x y)) in
    let whole : Part = some_of both in
    let filled : (x : A) (following : ℕ) → Ending (InOrder (rows_of (ps x (t x).value))) [] following = λ x. (t x).filled in
    record {
      filled = λ following.
          let x : A = s.value in
          ending_as (rows x (t x).value) whole.row [] following (λ part is. (x, ((t x).value, is))) (ending_then (q x).row (rows_of (ps x (t x).value)) [] s.filled (filled x) following);
      moved = λ part m n is.
          let r = is.1.1 in
          (is.0, (is.1.0, (r.0, r.1, r.2, s.moved is.0 r.0 (length r.1 + m) (length r.1 + n) r.3, (t is.0).moved is.1.0 r.1 m n r.4)));
      begins = λ bytes fault few r. elim r.1.1 [
        | inl now ↦
            let b = s.begins r.0 bytes fault few now in
            let y : B = (t b.0).value in
            begins_as (rows b.0 y) whole.row bytes fault.left (λ part following is. (b.0, (y, is))) (begins_then (q b.0).row (rows_of (ps b.0 y)) bytes fault.left b.1 (filled b.0))
        | inr w ↦
            let x : A = r.0 in
            let b = (t x).begins r.1.0 w.1 fault (fewer bytes w.0 w.1 w.2 few) w.4 in
            begins_as (rows x b.0) whole.row bytes fault.left (λ part following is. (x, (b.0, is)))
            (begins_past (q x).row (rows_of (ps x b.0)) bytes w.0 w.1 fault.left w.2 (λ n. s.moved x w.0 (length w.1) n w.3) b.1)
      ];
    }

pub completes_option : Completes option_part
completes_option = completes_two length_part option_tail some_length some_kind

pub option_is : (size kind : ℕ) (by : Bool) → is_save kind size ≡ by → (part : List ℕ) (following : ℕ) → InOrder (rows_of (length_part size ∷ holding 1 kind ∷ data_part by size ∷ [])) part following
    → (o : Option ℕ) × InOrder (option_rows o) part following
option_is size kind true by part following h =
    let is4 = save_or_not size kind true by refl in
    let t = h.4 in
    let u = t.4 in
    let n : ℕ = u.3.0 in
    let first : IsNumber 1 4 h.0 (length h.1 + following) = subst (λ (k : ℕ). IsNumber 1 k h.0 (length h.1 + following)) is4.0 h.3.1 in
    let second : IsNumber 1 1 t.0 (length t.1 + following) = subst (λ (k : ℕ). IsNumber 1 k t.0 (length t.1 + following)) is4.1 t.3 in
    (Some n, (h.0, h.1, h.2, first, (t.0, t.1, t.2, second, (u.0, u.1, u.2, record { number = u.3.2; small = save_small n _ refl u.3.1 }, u.4))))
option_is size kind false by part following h =
    (None, one_row Skipped part following (record { size = size; kind = kind; not_end = h.3.0; not_save = by; in_order = (h.0, h.1, h.2, h.3.1, h.4) }))

-- ---- lines

line_is : (part : List ℕ) (following : ℕ) → sized_part.row part following → (line : List ℕ) × InOrder (line_rows line) part following
line_is part following h =
    let size : ℕ = h.0 in
    let s = h.1 in
    let t = s.4 in
    let run : List ℕ = t.0 in
    let number : IsNumber 4 (length run) s.0 (length s.1 + following) = subst (λ (n : ℕ). IsNumber 4 n s.0 (length s.1 + following)) (sym t.3.wide) s.3 in
    (plain_line run, one_row (IsLine (plain_line run)) part following (run, refl, (s.0, s.1, s.2, number, (t.0, t.1, t.2, record { same = refl }, t.4))))

-- a line, and then so many lines
line_then : (n : ℕ) (line part : List ℕ) (following : ℕ) → InOrder (InOrder (line_rows line) ∷ (lines_part n).row ∷ []) part following → (lines_part (suc n)).row part following
line_then n line part following h =
    let more = row_one (lines_part n).row h.1 following h.4 in
    (line ∷ more.0, ap suc more.1, (h.0, h.1, h.2, h.3, more.2))

sized_then : (n : ℕ) (part : List ℕ) (following : ℕ) → InOrder (sized_part.row ∷ (lines_part n).row ∷ []) part following → (lines_part (suc n)).row part following
sized_then n part following h =
    let line = line_is h.0 (length h.1 + following) h.3 in
    line_then n line.0 part following (h.0, h.1, h.2, line.1, h.4)

one_ending : (row : Row) → ((following : ℕ) → Ending row [] following) → (following : ℕ) → Ending (InOrder (row ∷ [])) [] following
one_ending row filled following = ending_as row (InOrder (row ∷ [])) [] following (λ part is. one_row row part following is) (filled following)

lines_filled : (n following : ℕ) → Ending (lines_part n).row [] following
lines_filled zero following = record { after = []; are_bytes = tt; is = ([], refl, refl) }
lines_filled (suc n) following =
    ending_as (InOrder (sized_part.row ∷ (lines_part n).row ∷ [])) (lines_part (suc n)).row [] following (λ part is. sized_then n part following is)
    (ending_then sized_part.row ((lines_part n).row ∷ []) [] completes_sized.filled (one_ending (lines_part n).row (lines_filled n)) following)

lines_begin : (n : ℕ) (lines : List (List ℕ)) (bytes : List ℕ) (fault : Fault) → length bytes < most → length lines < n
    → Past (Each line_rows lines) (λ rest. sized_part.refusal rest fault) bytes → Begins (lines_part n).row bytes fault.left
lines_begin zero lines bytes fault few lt p = absurd (omega (arith, lt))
lines_begin (suc n) [] bytes fault few lt p =
    begins_as (InOrder (sized_part.row ∷ (lines_part n).row ∷ [])) (lines_part (suc n)).row bytes fault.left (sized_then n)
    (begins_then sized_part.row ((lines_part n).row ∷ []) bytes fault.left
    (completes_sized.begins bytes fault few (past_none line_rows (λ rest. sized_part.refusal rest fault) bytes p)) (one_ending (lines_part n).row (lines_filled n)))
lines_begin (suc n) (x ∷ xs) bytes fault few lt p =
    let s = past_next line_rows x xs (λ rest. sized_part.refusal rest fault) bytes p in
    let line : Row = InOrder (line_rows x) in
    let later = lines_begin n xs s.mid fault (fewer bytes s.first.part s.mid s.first.whole few) (omega (arith, lt)) s.later in
    begins_as (InOrder (line ∷ (lines_part n).row ∷ [])) (lines_part (suc n)).row bytes fault.left (line_then n x)
    (begins_past line ((lines_part n).row ∷ []) bytes s.first.part s.mid fault.left s.first.whole (λ m. move_line x s.first.part (length s.mid) m s.first.is)
    (begins_as (lines_part n).row (InOrder ((lines_part n).row ∷ [])) s.mid fault.left (λ part following is. one_row (lines_part n).row part following is) later))

pub completes_lines : (count : ℕ) → Completes (lines_part count)
completes_lines count = record {
  filled = lines_filled count;
  moved = λ part m n is. (is.0, is.1, move_each line_rows move_line is.0 part m n is.2);
  begins = λ bytes fault few r. lines_begin count r.0 bytes fault few r.1 r.2;
}

-- ---- the front of a file

front_parts_complete : AllComplete (start_part ∷ allowed_number 2 version_kind ∷ field 32 ∷ field 4 ∷ sized_part ∷ field 4 ∷ field 4 ∷ [])
front_parts_complete = (
  completes_start,
  (completes_allowed 2 version_kind 2 refl (omega arith), (completes_field 32, (completes_field 4, (completes_sized, (completes_field 4, (completes_field 4, tt)))))),
)

pub completes_front : Completes front_part
completes_front = completes_all (start_part ∷ allowed_number 2 version_kind ∷ field 32 ∷ field 4 ∷ sized_part ∷ field 4 ∷ field 4 ∷ []) front_parts_complete
