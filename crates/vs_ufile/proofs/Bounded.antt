-- The rows of a format have at least so many bytes.
use Rattle.std.proofs.Common.{◌≡◌, ℕ, ◌+◌, ◌≤◌, Bool, List, [], ◌∷◌, length, map, Result, Ok, Err, refl, sym, ap, ◌∙◌, arith}
use Rattle.std.specs.Prelude.{IfOk, sum_by}
use Rattle.std.proofs.lemmas.List.{length-append, length-map}
use Rattle.std.proofs.lemmas.List.Sums.{sum_by-cons}
use Rattle.vs_text.specs.Text.{plain_byte}
use Rattle.vs_ufile.specs.declared.error.UfErr.{UfErr}
use Rattle.vs_ufile.specs.declared.history.FileHistory.{FileHistory}
use Rattle.vs_ufile.specs.Decode.{IsUndoFile, history}
use Rattle.vs_ufile.specs.Format.{AnySized, Any, Each, Here, InOrder, Is, IsFlags, IsLine, IsNumber, IsOptions, Row, change_rows, entry_rows, file_rows, line_rows}
use Rattle.vs_ufile.specs.Reading.{File, Placed, start_bytes}
use Rattle.vs_ufile.specs.Sizes.{change_size, entry_size, least_size}
use Rattle.vs_ufile.specs.Values.{Entry, History, history_of}
use Rattle.vs_ufile.proofs.Laws.{row_one}

record AtLeast (n : ℕ) (row : Row) : Type 0 where
  size : (bytes : List ℕ) (following : ℕ) → row bytes following → n ≤ length bytes

pub record AllAtLeast (n : ℕ) (rows : List Row) : Type 0 where
  pub sizes : (bytes : List ℕ) (following : ℕ) → InOrder rows bytes following → n ≤ length bytes

least_end : AllAtLeast 0 []
least_end = record { sizes = λ bytes following h. omega arith }

least_more : (n m : ℕ) (row : Row) (rows : List Row) → AtLeast n row → AllAtLeast m rows → AllAtLeast (n + m) (row ∷ rows)
least_more n m row rows first next = record {
  sizes = λ bytes following h. omega (arith, ap length h.2, length-append h.0 h.1, first.size h.0 (length h.1 + following) h.3, next.sizes h.1 following h.4);
}

least_number : (width n : ℕ) → AtLeast width (IsNumber width n)
least_number width n = record { size = λ bytes following h. omega (arith, h.wide) }

least_any : (width : ℕ) → AtLeast width (Any width)
least_any width = record { size = λ bytes following h. omega (arith, h.wide) }

least_run : (run : List ℕ) → AtLeast (length run) (Is run)
least_run run = record { size = λ bytes following h. omega (arith, ap length h.same) }

least_each : {A : Type 0} (item : A → List Row) (size : A → ℕ) → ((x : A) → AllAtLeast (size x) (item x)) → (xs : List A) → AtLeast (sum_by size xs) (Each item xs)
least_each item size one [] = record { size = λ bytes following h. omega arith }
least_each item size one (x ∷ xs) = record {
  size = λ bytes following h.
      let more = least_each item size one xs in
      omega (arith, sum_by-cons size x xs, ap length h.2, length-append h.0 h.1, (one x).sizes h.0 (length h.1 + following) h.3, more.size h.1 following h.4);
}

least_flags : (empty : Bool) → AtLeast 2 (IsFlags empty)
least_flags empty = record { size = λ bytes following h. (least_number 2 h.0).size bytes following (row_one (IsNumber 2 h.0) bytes following h.2) }

least_options : (save : ℕ) → AtLeast 1 (IsOptions save)
least_options save = record {
  size = λ bytes following h. let o = h.2 in omega (arith, ap length o.2, length-append o.0 o.1, ap length o.4.2, length-append o.4.0 o.4.1, o.4.3.wide);
}

least_line : (line : List ℕ) → AllAtLeast (4 + length line) (line_rows line)
least_line line = record {
  sizes = λ bytes following h.
      let l = row_one (IsLine line) bytes following h in
      let wide : length l.0 ≡ length line = sym (length-map l.0 plain_byte) ∙ ap length l.1 in
      let s = l.2 in
      omega (arith, wide, ap length s.2, length-append s.0 s.1, s.3.wide, ap length s.4.2, length-append s.4.0 s.4.1, ap length s.4.3.same);
}

least_sized : AtLeast 4 AnySized
least_sized = record { size = λ bytes following h. let s = h.1 in omega (arith, ap length s.2, length-append s.0 s.1, s.3.wide) }

least_here : (left : ℕ) → AtLeast 0 (Here left)
least_here left = record { size = λ bytes following h. omega arith }

as_least : (n m : ℕ) (rows : List Row) → n ≡ m → AllAtLeast n rows → AllAtLeast m rows
as_least n m rows e h = record { sizes = λ bytes following r. omega (arith, e, h.sizes bytes following r) }

least_entry : (e : Entry) → AllAtLeast (entry_size e) (entry_rows e)
least_entry e = as_least _ (entry_size e) (entry_rows e) (omega arith)
    (least_more 2 _ _ _ (least_number 2 0xf518) (least_more 4 _ _ _ (least_number 4 e.top) (least_more 4 _ _ _ (least_number 4 e.bottom)
    (least_more 4 _ _ _ (least_number 4 e.count) (least_more 4 _ _ _ (least_number 4 (length e.lines))
    (least_more _ 0 _ _ (least_each line_rows (λ line. 4 + length line) least_line e.lines) least_end))))))

pub least_change : (p : Placed) → AllAtLeast (change_size p.change) (change_rows p)
least_change p =
    let c = p.change in
    as_least _ (change_size c) (change_rows p) (omega arith)
    (least_more 0 _ _ _ (least_here p.left) (least_more 2 _ _ _ (least_number 2 0x5fd0)
    (least_more 4 _ _ _ (least_number 4 c.next) (least_more 4 _ _ _ (least_number 4 c.prev) (least_more 4 _ _ _ (least_number 4 c.alt_next)
    (least_more 4 _ _ _ (least_number 4 c.alt_prev) (least_more 4 _ _ _ (least_number 4 c.number)
    (least_more 12 _ _ _ (least_any 12) (least_more 4 _ _ _ (least_any 4) (least_more 2 _ _ _ (least_flags c.empty)
    (least_more 312 _ _ _ (least_any 312) (least_more 24 _ _ _ (least_any 24) (least_more 4 _ _ _ (least_any 4) (least_more 4 _ _ _ (least_any 4)
    (least_more 8 _ _ _ (least_number 8 c.time) (least_more 1 _ _ _ (least_options c.save)
    (least_more _ 2 _ _ (least_each entry_rows entry_size least_entry c.entries) (least_more 2 0 _ _ (least_number 2 0x3581) least_end))))))))))))))))))

sizes_are : (ps : List Placed) → sum_by change_size (map (λ p. p.change) ps) ≡ sum_by (λ p. change_size p.change) ps
sizes_are [] = refl
sizes_are (p ∷ ps) = sum_by-cons change_size p.change (map (λ p. p.change) ps) ∙ ap (λ n. change_size p.change + n) (sizes_are ps) ∙ sym (sum_by-cons (λ p. change_size p.change) p ps)

least_file : (f : File) → length f.front.digest ≡ 32 → AllAtLeast (least_size (history f)) (file_rows f)
least_file f digest = as_least _ (least_size (history f)) (file_rows f) (omega (arith, digest, sizes_are f.placed))
    (least_more 9 _ _ _ (least_run start_bytes) (least_more 2 _ _ _ (least_number 2 2) (least_more _ _ _ _ (least_run f.front.digest)
    (least_more 4 _ _ _ (least_number 4 f.front.lines) (least_more 4 _ _ _ least_sized (least_more 4 _ _ _ (least_any 4) (least_more 4 _ _ _ (least_any 4)
    (least_more 0 _ _ _ (least_here f.heads_left) (least_more 4 _ _ _ (least_number 4 f.numbers.oldest) (least_more 4 _ _ _ (least_number 4 f.numbers.newest)
    (least_more 4 _ _ _ (least_number 4 f.numbers.current_head) (least_more 4 _ _ _ (least_number 4 f.numbers.heads) (least_more 4 _ _ _ (least_number 4 f.numbers.last)
    (least_more 4 _ _ _ (least_number 4 f.numbers.current) (least_more 8 _ _ _ (least_number 8 f.time) (least_more 1 _ _ _ (least_options f.last_save)
    (least_more _ 2 _ _ (least_each change_rows (λ p. change_size p.change) least_change f.placed) (least_more 2 0 _ _ (least_number 2 0xe7aa) least_end))))))))))))))))))

least_bytes : (h : History) (bytes : List ℕ) → IsUndoFile h bytes → least_size h ≤ length bytes
least_bytes h bytes is =
    let form = is.form in
    let least = (least_file is.file form.digest).sizes form.part (length form.rest) form.in_order in
    omega (arith, ap least_size is.is, least, ap length form.whole, length-append form.part form.rest)

-- what is read is no larger than its bytes
pub is_bounded : (bytes : List ℕ) (r : Result FileHistory UfErr) → IfOk r (λ h. IsUndoFile (history_of h) bytes) → IfOk r (λ h. least_size (history_of h) ≤ length bytes)
is_bounded bytes (Ok h) is = least_bytes (history_of h) bytes is
is_bounded bytes (Err e) is = tt
