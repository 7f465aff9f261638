-- The laws of changes and of a whole file.
use Rattle.std.proofs.Common.{◌≡◌, ℕ, ◌<◌, Bool, true, false, cond, eqb, List, [], ◌∷◌, ◌++◌, length, take, drop, Option, Some, None, Ok, Err, refl, sym, ap, subst, ◌∙◌, arith}
use Rattle.std.proofs.lemmas.List.{length-append, take-append-drop, take_at, drop_at}
use Rattle.std.specs.Prelude.{nat_eq}
use Rattle.std.specs.List.{starts_with}
use Rattle.std.specs.Str.{bytes_eq}
use Rattle.std.proofs.lemmas.Slice.Eq.{bytes_eq-Decides}
use Rattle.std.proofs.lemmas.Bool.{eqb-true}
use Rattle.vs_ufile.specs.declared.error.UfKind.{UfKind}
use Rattle.vs_ufile.specs.declared.error.UfKind.TheVariants.{Encrypted, NotUndo, TooManyHeads, Version}
use Rattle.vs_ufile.specs.declared.reading.Front.{Front}
use Rattle.vs_ufile.specs.declared.reading.Numbers.{Numbers}
use Rattle.vs_ufile.specs.declared.reading.Links.{Links}
use Rattle.vs_ufile.specs.Reading.{◌>>=◌, Body, File, Placed, Read, change, change_from, change_number_kind, change_or_end, changes, checked, body, file, front, give, links, magic_kind, number, numbers, numbers_of, options, refuse, run, sized_run, start, start_bytes, version, version_kind}
use Rattle.vs_ufile.specs.Format.{Row, InOrder, Each, Follows, Allowed, AnySized, Here, IsNumber, IsOptions, HasForm, Is, body_rows, change_rows, file_rows, front_rows, links_rows, numbers_rows, sized}
use Rattle.vs_ufile.proofs.Laws.{Reads, Takes, Always, done, ok_is, one_row, row_one, reads_field, reads_give, reads_links, reads_number, reads_run, reads_skip, takes_both}
use Rattle.vs_ufile.proofs.Parts.{IfIs, end_or, reads_when, reads_part, reads_here, reads_past, reads_sized, reads_checked, reads_items}
use Rattle.vs_ufile.proofs.Whole.{reads_magic}
use Rattle.vs_ufile.proofs.Header.{reads_body, reads_options}

-- ---- a change

-- a part that is refused where a test is true
reads_unless : {Y : Type 0} (b : Bool) (left : ℕ) (kind : UfKind) (found : ℕ) (r : Read Y) (C : Y → Type 0) (Ps : Y → List Row) → Reads r C Ps
    → Reads (λ bytes. cond b (refuse left kind found bytes) (r bytes)) (λ y. (b ≡ false) × C y) Ps
reads_unless true left kind found r C Ps law = record {
  takes = λ bytes y rest e. absurd cc;
  again = λ y k part rest h. absurd cc;
}
reads_unless false left kind found r C Ps law = record {
  takes = λ bytes y rest e. let t = law.takes bytes y rest e in ((refl, t.0), t.1);
  again = λ y k part rest h. law.again y k.1 part rest h;
}

abbrev links_in : Placed → Links
links_in p = record { next = p.change.next; prev = p.change.prev; alt_next = p.change.alt_next; alt_prev = p.change.alt_prev }

abbrev body_in : Placed → Body
body_in p = record { empty = p.change.empty; time = p.change.time; save = p.change.save; entries = p.change.entries }

-- the rows of a change after its magic
abbrev tail_rows : Placed → List Row
tail_rows p = links_rows (links_in p) ++ (IsNumber 4 p.change.number ∷ body_rows (body_in p))

abbrev Fresh : ℕ → List Placed → ℕ → Placed → Type 0
Fresh heads before left p = (p.left ≡ left) × Allowed heads before p

reads_change : (heads : ℕ) (before : List Placed) (left : ℕ) → Reads (change heads before left) (Fresh heads before left) tail_rows
unfolding change
reads_change heads before left =
    let kind_of = change_number_kind (numbers_of before) in
    let C = λ (p : Placed). (p.left ≡ left) × (kind_of p.change.number ≡ None) in
    reads_when (change heads before left) (λ p. ((eqb (length before) heads) ≡ false) × C p) (Fresh heads before left) tail_rows
    (reads_unless (eqb (length before) heads) left TooManyHeads heads _ C tail_rows
    (reads_field links _ links_in C links_rows _ reads_links (λ links.
    reads_part (checked 4 kind_of) _ (λ (p : Placed). p.change.number) (λ n. kind_of n ≡ None) _ (λ n. IsNumber 4 n ∷ []) _ (reads_checked 4 kind_of) (λ number asked.
    reads_field body _ body_in _ body_rows (λ _. []) reads_body (λ body.
    reads_give (change_from left links number body) _ (refl, (refl, (refl, (refl, asked)))) (λ y k. rw (← k.0, ← k.1.0, ← k.1.1.0, ← k.1.1.1.0) refl))) (λ y k. k.1.1))))
    (λ p k. (k.1.0, record { head = k.0; number = k.1.1 }))
    (λ p k. (k.1.head, (k.0, k.1.number)))

change_magic : (heads : ℕ) (before : List Placed) (left : ℕ)
    → Reads (checked 2 (magic_kind 0x5fd0 0xe7aa) >>= λ m. cond (eqb m 0xe7aa) (give None) (change heads before left >>= λ x. give (Some x)))
    (IfIs (Fresh heads before left)) (end_or (λ x. IsNumber 2 0x5fd0 ∷ tail_rows x) (IsNumber 2 0xe7aa ∷ []))
change_magic heads before left =
    let differ : (0x5fd0 ≡ 0xe7aa) → ⊥ = λ (e : 0x5fd0 ≡ 0xe7aa). omega (arith, e) in
    reads_magic 0x5fd0 0xe7aa (change heads before left) (Fresh heads before left) tail_rows differ (reads_change heads before left)

change_or_takes : (heads : ℕ) (before : List Placed) (bytes : List ℕ) (y : Option Placed) (rest : List ℕ)
    → IfIs (Fresh heads before (length bytes)) y × Takes (end_or (λ x. IsNumber 2 0x5fd0 ∷ tail_rows x) (IsNumber 2 0xe7aa ∷ []) y) bytes rest
    → IfIs (Allowed heads before) y × Takes (end_or change_rows (IsNumber 2 0xe7aa ∷ []) y) bytes rest
change_or_takes heads before bytes None rest t = t
change_or_takes heads before bytes (Some p) rest t =
    let same : Takes (Here p.left ∷ []) bytes bytes =
    record { part = []; whole = refl; in_order = one_row (Here p.left) [] (length bytes) (record { none = refl; place = t.0.0 }) } in
    (t.0.1, takes_both (Here p.left ∷ []) (IsNumber 2 0x5fd0 ∷ tail_rows p) bytes bytes rest same t.1)

change_or_again : (heads : ℕ) (before : List Placed) (y : Option Placed) (part rest : List ℕ) → IfIs (Allowed heads before) y
    → InOrder (end_or change_rows (IsNumber 2 0xe7aa ∷ []) y) part (length rest) → change_or_end heads before (part ++ rest) ≡ Ok (y, rest)
unfolding change_or_end
change_or_again heads before None part rest k h = (change_magic heads before (length (part ++ rest))).again None tt part rest h
change_or_again heads before (Some p) part rest k h =
    let whole : part ≡ h.1 = h.2 ∙ ap (λ (x : List ℕ). x ++ h.1) h.3.none in
    let place : p.left ≡ length (part ++ rest) = h.3.place ∙ omega (arith, length-append part rest, ap length whole) in
    (change_magic heads before (length (part ++ rest))).again (Some p) (place, k) part rest
    (subst (λ (x : List ℕ). InOrder (IsNumber 2 0x5fd0 ∷ tail_rows p) x (length rest)) (sym whole) h.4)

pub reads_change_or_end : (heads : ℕ) (before : List Placed) → Reads (change_or_end heads before) (IfIs (Allowed heads before)) (end_or change_rows (IsNumber 2 0xe7aa ∷ []))
unfolding change_or_end
reads_change_or_end heads before = record {
  takes = λ bytes y rest e. change_or_takes heads before bytes y rest ((change_magic heads before (length bytes)).takes bytes y rest e);
  again = λ y k part rest h. change_or_again heads before y part rest k h;
}

pub change_some : (p : Placed) (part : List ℕ) (following : ℕ) → InOrder (change_rows p) part following → 0 < length part
change_some p part following h =
    let t = h.4 in
    omega (arith, ap length h.2, length-append h.0 h.1, ap length t.2, length-append t.0 t.1, t.3.wide)

pub reads_changes : (heads : ℕ) → Reads (changes heads) (Follows (Allowed heads) []) (λ ps. Each change_rows ps ∷ IsNumber 2 0xe7aa ∷ [])
unfolding changes
reads_changes heads = reads_items (change_or_end heads) (Allowed heads) change_rows (IsNumber 2 0xe7aa ∷ []) (reads_change_or_end heads) change_some

-- ---- the header

abbrev no_kind : Option UfKind
no_kind = None

abbrev pub start_by : Bool → Read (List ℕ)
start_by b bytes = cond b (Ok (start_bytes, drop 9 bytes)) (Err (record { kind = NotUndo; left = length bytes; found = 0 }))

start_ok : (bytes : List ℕ) (b : Bool) (y rest : List ℕ) → start_by b bytes ≡ Ok (y, rest) → (b ≡ true) × (start_bytes ≡ y) × (drop 9 bytes ≡ rest)
start_ok bytes true y rest e =
    let p = ok_is (start_bytes, drop 9 bytes) (y, rest) e in
    (refl, ap (λ (x : List ℕ × List ℕ). x.0) p, ap (λ (x : List ℕ × List ℕ). x.1) p)
start_ok bytes false y rest e = absurd cc

pub reads_start : Reads start (λ x. x ≡ start_bytes) (λ _. Is start_bytes ∷ [])
unfolding start
reads_start = record {
  takes = λ bytes y rest e.
      let g = start_ok bytes (starts_with nat_eq bytes start_bytes) y rest e in
      let d = bytes_eq-Decides start_bytes (take 9 bytes) in
      let same : start_bytes ≡ take 9 bytes = d.0 g.0 in
      let whole : bytes ≡ start_bytes ++ drop 9 bytes = sym (take-append-drop 9 bytes) ∙ ap (λ (x : List ℕ). x ++ drop 9 bytes) (sym same) in
      let t : Takes (Is start_bytes ∷ []) bytes (drop 9 bytes) = record { part = start_bytes; whole = whole; in_order = one_row (Is start_bytes) start_bytes (length (drop 9 bytes)) (record { same = refl }) } in
      (sym g.1, subst (λ (x : List ℕ). Takes (Is start_bytes ∷ []) bytes x) g.2 t);
  again = λ y k part rest h.
      let row = row_one (Is start_bytes) part (length rest) h in
      let front : take 9 (part ++ rest) ≡ start_bytes = take_at part rest 9 (ap length row.same) ∙ row.same in
      let test : bytes_eq start_bytes (take 9 (part ++ rest)) ≡ true = (bytes_eq-Decides start_bytes (take 9 (part ++ rest))).1 (sym front) in
      let back : drop 9 (part ++ rest) ≡ rest = drop_at part rest 9 (ap length row.same) in
      ap (λ b. start_by b (part ++ rest)) test ∙ ap (λ (x : List ℕ). done (start_bytes, x)) back ∙ ap (λ (x : List ℕ). done (x, rest)) (sym k);
}

version_is : (n : ℕ) (a b : Bool) → eqb n 2 ≡ a → cond a no_kind (cond b (Some Encrypted) (Some Version)) ≡ no_kind → n ≡ 2
version_is n true b e k = eqb-true n 2 e
version_is n false true e k = absurd cc
version_is n false false e k = absurd cc

reads_version : Reads version (λ n. n ≡ 2) (λ n. IsNumber 2 n ∷ [])
reads_version = reads_when version (λ n. version_kind n ≡ None) (λ n. n ≡ 2) (λ n. IsNumber 2 n ∷ []) (reads_checked 2 version_kind)
    (λ n k. version_is n (eqb n 2) (eqb n 0x8002) refl k) (λ n k. ap version_kind k)

pub reads_front : Reads front (λ f. length f.digest ≡ 32) front_rows
unfolding front sized_run
reads_front =
    let C = λ (f : Front). length f.digest ≡ 32 in
    reads_part start _ (λ (f : Front). start_bytes) (λ x. x ≡ start_bytes) C (λ _. Is start_bytes ∷ []) _ reads_start (λ start asked_start.
    reads_part version _ (λ (f : Front). 2) (λ n. n ≡ 2) _ (λ n. IsNumber 2 n ∷ []) _ reads_version (λ version asked_version.
    reads_part (run 32) _ (λ (f : Front). f.digest) (λ x. length x ≡ 32) _ (λ x. Is x ∷ []) _ (reads_run 32) (λ digest asked.
    reads_field (number 4) _ (λ (f : Front). f.lines) _ (λ n. IsNumber 4 n ∷ []) _ (reads_number 4) (λ lines.
    reads_skip (number 4 >>= run) _ _ sized (AnySized ∷ []) _ reads_sized
    (λ x part following h. one_row AnySized part following (x, h)) (λ part following h. row_one AnySized part following h) (λ u_line.
    reads_past 4 _ _ _ (λ u_number. reads_past 4 _ _ _ (λ u_column.
    reads_give _ _ (refl, (refl, (sym asked_version, (sym asked_start, asked)))) (λ y k. rw (← k.0, ← k.1.0) refl)))))) (λ y k. k.1.1)) (λ y k. refl)) (λ y k. refl)

pub reads_numbers : Reads numbers Always numbers_rows
unfolding numbers
reads_numbers =
    reads_field (number 4) _ (λ (y : Numbers). y.oldest) Always (λ n. IsNumber 4 n ∷ []) _ (reads_number 4) (λ oldest.
    reads_field (number 4) _ (λ (y : Numbers). y.newest) _ (λ n. IsNumber 4 n ∷ []) _ (reads_number 4) (λ newest.
    reads_field (number 4) _ (λ (y : Numbers). y.current_head) _ (λ n. IsNumber 4 n ∷ []) _ (reads_number 4) (λ current_head.
    reads_field (number 4) _ (λ (y : Numbers). y.heads) _ (λ n. IsNumber 4 n ∷ []) _ (reads_number 4) (λ heads.
    reads_field (number 4) _ (λ (y : Numbers). y.last) _ (λ n. IsNumber 4 n ∷ []) _ (reads_number 4) (λ last.
    reads_field (number 4) _ (λ (y : Numbers). y.current) _ (λ n. IsNumber 4 n ∷ []) _ (reads_number 4) (λ current.
    reads_give _ _ (refl, (refl, (refl, (refl, (refl, (refl, tt)))))) (λ y k. rw (← k.0, ← k.1.0, ← k.1.1.0, ← k.1.1.1.0, ← k.1.1.1.1.0, ← k.1.1.1.1.1.0) refl)))))))

-- ---- the whole file

abbrev InFile : File → Type 0
InFile f = (length f.front.digest ≡ 32) × Follows (Allowed f.numbers.heads) [] f.placed

pub reads_file : Reads file InFile file_rows
unfolding file
reads_file =
    reads_part front _ (λ (f : File). f.front) (λ f. length f.digest ≡ 32) InFile front_rows _ reads_front (λ front asked.
    reads_here _ (λ (f : File). f.heads_left) _ _ (λ left.
    reads_field numbers _ (λ (f : File). f.numbers) _ numbers_rows _ reads_numbers (λ numbers.
    reads_field (number 8) _ (λ (f : File). f.time) _ (λ n. IsNumber 8 n ∷ []) _ (reads_number 8) (λ time.
    reads_field options _ (λ (f : File). f.last_save) _ (λ save. IsOptions save ∷ []) _ reads_options (λ save.
    reads_part (changes numbers.heads) _ (λ (f : File). f.placed) (Follows (Allowed numbers.heads) []) _ (λ ps. Each change_rows ps ∷ IsNumber 2 0xe7aa ∷ []) _ (reads_changes numbers.heads) (λ placed follows.
    reads_give _ _ (refl, (refl, (refl, (refl, (refl, (refl, (asked, follows))))))) (λ y k. rw (← k.0, ← k.1.0, ← k.1.1.0, ← k.1.1.1.0, ← k.1.1.1.1.0, ← k.1.1.1.1.1.0) refl))
    (λ y k. subst (λ (n : Numbers). Follows (Allowed n.heads) [] y.placed) k.1.1.0 k.1.1.1.1.1.1)))))) (λ y k. k.0)

-- what is read is in the format
pub read_is : (bytes : List ℕ) (f : File) (rest : List ℕ) → file bytes ≡ Ok (f, rest) → HasForm f bytes
read_is bytes f rest e =
    let t = reads_file.takes bytes f rest e in
    record { part = t.1.part; rest = rest; whole = t.1.whole; in_order = t.1.in_order; digest = t.0.0; numbers = t.0.1 }

-- what is in the format is read
pub is_read : (bytes : List ℕ) (f : File) (is : HasForm f bytes) → file bytes ≡ Ok (f, is.rest)
is_read bytes f is = ap file is.whole ∙ reads_file.again f (is.digest, is.numbers) is.part is.rest is.in_order
