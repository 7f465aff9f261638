-- The laws of the parts of an undo file, from the fields to the whole.
use Rattle.std.proofs.Common.{◌≡◌, ℕ, zero, suc, ◌+◌, ◌<◌, Bool, true, false, cond, eqb, List, [], ◌∷◌, ◌++◌, length, Option, Some, None, Ok, refl, sym, ap, subst, ◌∙◌, append_assoc, arith}
use Rattle.std.proofs.lemmas.List.{append-nil, length-append}
use Rattle.std.proofs.lemmas.Bool.{eqb-true, eq-eqb, ne_eqb}
use Rattle.vs_text.specs.Text.{plain_line}
use Rattle.vs_ufile.specs.declared.error.UfKind.{UfKind}
use Rattle.vs_ufile.specs.declared.error.UfKind.TheVariants.{BadMagic}
use Rattle.vs_ufile.specs.Values.{Entry}
use Rattle.vs_ufile.specs.Reading.{◌>>=◌, Read, added, adding, carry, checked, entries, entry, entry_or_end, give, items, line, lines, magic_kind, next_entry, next_line, number, repeat, run, sized_run}
use Rattle.vs_ufile.specs.Format.{Row, InOrder, Each, Follows, IsNumber, IsLine, entry_rows, entries_rows, line_rows, sized}
use Rattle.vs_ufile.proofs.Laws.{Reads, Takes, Always, carry_ok, done, ok_is, one_row, row_one, reads_field, reads_give, reads_number, takes_both}
use Rattle.vs_ufile.proofs.Parts.{IfIs, end_or, reads_when, reads_part, reads_map, reads_sized, reads_checked, reads_items}

-- ---- a part after one of two magic numbers

abbrev none_kind : Option UfKind
none_kind = None

which_by : (a n : ℕ) (is_a is_b : Bool) → eqb n a ≡ is_a → cond is_a none_kind (cond is_b none_kind (Some BadMagic)) ≡ none_kind → is_b ≡ false → n ≡ a
which_by a n true is_b e k other = eqb-true n a e
which_by a n false true e k other = absurd cc
which_by a n false false e k other = absurd cc

-- which of the two it is
pub which : (a b n : ℕ) → magic_kind a b n ≡ None → eqb n b ≡ false → n ≡ a
which a b n k other = which_by a n (eqb n a) (eqb n b) refl k other

abbrev pub after_magic : {A : Type 0} → Read A → Bool → Read (Option A)
after_magic tail is_end = cond is_end (give None) (tail >>= λ x. give (Some x))

magic_takes : {A : Type 0} (a b : ℕ) (tail : Read A) (D : A → Type 0) (Ps : A → List Row) → Reads tail D Ps
    → (bytes : List ℕ) (m : ℕ) (mid : List ℕ) (y : Option A) (rest : List ℕ) → magic_kind a b m ≡ None → Takes (IsNumber 2 m ∷ []) bytes mid
    → (is_end : Bool) → eqb m b ≡ is_end → after_magic tail is_end mid ≡ Ok (y, rest)
    → IfIs D y × Takes (end_or (λ x. IsNumber 2 a ∷ Ps x) (IsNumber 2 b ∷ []) y) bytes rest
magic_takes {A = A} a b tail D Ps law bytes m mid y rest k t true is e =
    let nothing : Option A = None in
    let p : (nothing, mid) ≡ (y, rest) = ok_is (nothing, mid) (y, rest) e in
    let P = λ (v : Option A × List ℕ). IfIs D v.0 × Takes (end_or (λ x. IsNumber 2 a ∷ Ps x) (IsNumber 2 b ∷ []) v.0) bytes v.1 in
    subst P p (tt, subst (λ (n : ℕ). Takes (IsNumber 2 n ∷ []) bytes mid) (eqb-true m b is) t)
magic_takes {A = A} a b tail D Ps law bytes m mid y rest k t false is e =
    let c = carry_ok (tail mid) (λ x. give (Some x)) (y, rest) e in
    let found : Option A = Some c.0.0 in
    let p : (found, c.0.1) ≡ (y, rest) = ok_is (found, c.0.1) (y, rest) c.2 in
    let more = law.takes mid c.0.0 c.0.1 c.1 in
    let P = λ (v : Option A × List ℕ). IfIs D v.0 × Takes (end_or (λ x. IsNumber 2 a ∷ Ps x) (IsNumber 2 b ∷ []) v.0) bytes v.1 in
    let front = subst (λ (n : ℕ). Takes (IsNumber 2 n ∷ []) bytes mid) (which a b m k is) t in
    subst P p (more.0, takes_both (IsNumber 2 a ∷ []) (Ps c.0.0) bytes mid c.0.1 front more.1)

either : (c : Bool) → cond c none_kind none_kind ≡ none_kind
either true = refl
either false = refl

pub one_is : (a b : ℕ) → magic_kind a b a ≡ None
one_is a b = let same : eqb a a ≡ true = eq-eqb a a refl in rw same refl

other_is : (a b : ℕ) → magic_kind a b b ≡ None
other_is a b = let same : eqb b b ≡ true = eq-eqb b b refl in rw same (either (eqb b a))

magic_again : {A : Type 0} (a b : ℕ) (tail : Read A) (D : A → Type 0) (Ps : A → List Row) → (a ≡ b → ⊥) → Reads tail D Ps
    → (y : Option A) → IfIs D y → (part rest : List ℕ) → InOrder (end_or (λ x. IsNumber 2 a ∷ Ps x) (IsNumber 2 b ∷ []) y) part (length rest)
    → carry (checked 2 (magic_kind a b) (part ++ rest)) (λ m. after_magic tail (eqb m b)) ≡ Ok (y, rest)
magic_again a b tail D Ps differ law None k part rest h =
    let one = (reads_checked 2 (magic_kind a b)).again b (other_is a b) part rest h in
    let same : eqb b b ≡ true = eq-eqb b b refl in
    ap (λ q. carry q (λ m. after_magic tail (eqb m b))) one ∙ ap (λ c. after_magic tail c rest) same
magic_again a b tail D Ps differ law (Some x) k part rest h =
    let first : List ℕ = h.0 in
    let regrouped : part ++ rest ≡ first ++ (h.1 ++ rest) = ap (λ (z : List ℕ). z ++ rest) h.2 ∙ append_assoc first h.1 rest in
    let row : IsNumber 2 a first (length (h.1 ++ rest)) = record { wide = h.3.wide; value = h.3.value } in
    let one = (reads_checked 2 (magic_kind a b)).again a (one_is a b) first (h.1 ++ rest) (one_row (IsNumber 2 a) first (length (h.1 ++ rest)) row) in
    let same : eqb a b ≡ false = ne_eqb a b differ in
    let more = law.again x k h.1 rest h.4 in
    ap (λ z. carry (checked 2 (magic_kind a b) z) (λ m. after_magic tail (eqb m b))) regrouped
    ∙ ap (λ q. carry q (λ m. after_magic tail (eqb m b))) one ∙ ap (λ c. after_magic tail c (h.1 ++ rest)) same
    ∙ ap (λ q. carry q (λ v. give (Some v))) more

pub reads_magic : {A : Type 0} (a b : ℕ) (tail : Read A) (D : A → Type 0) (Ps : A → List Row) → (a ≡ b → ⊥) → Reads tail D Ps
    → Reads (checked 2 (magic_kind a b) >>= λ m. cond (eqb m b) (give None) (tail >>= λ x. give (Some x))) (IfIs D) (end_or (λ x. IsNumber 2 a ∷ Ps x) (IsNumber 2 b ∷ []))
reads_magic {A = A} a b tail D Ps differ law = record {
  takes = λ bytes y rest e.
      let f = λ (m : ℕ). cond (eqb m b) (give None) (tail >>= λ x. give (Some x)) in
      let c = carry_ok (checked 2 (magic_kind a b) bytes) f (y, rest) e in
      let t = (reads_checked 2 (magic_kind a b)).takes bytes c.0.0 c.0.1 c.1 in
      magic_takes a b tail D Ps law bytes c.0.0 c.0.1 y rest t.0 t.1 (eqb c.0.0 b) refl c.2;
  again = λ y k part rest h. magic_again a b tail D Ps differ law y k part rest h;
}

-- ---- lines, and entries

pub reads_line : Reads line Always (λ line. IsLine line ∷ [])
unfolding line sized_run
reads_line = reads_map (number 4 >>= run) plain_line sized reads_sized

-- this many lines
record Lines (before all : List (List ℕ)) (n : ℕ) (bytes rest : List ℕ) : Type 0 where
  xs : List (List ℕ)
  all_is : all ≡ before ++ xs
  count : length xs ≡ n
  takes : Takes (Each line_rows xs ∷ []) bytes rest

pub line_more : (n : ℕ) (before : List (List ℕ)) (x bytes after : List ℕ) → line bytes ≡ Ok (x, after) → repeat (suc n) (adding next_line) before bytes ≡ repeat n (adding next_line) (before ++ x ∷ []) after
unfolding repeat adding
line_more n before x bytes after h = rw h refl

lines_step : (n : ℕ) (before all : List (List ℕ)) (x bytes mid rest : List ℕ) → line bytes ≡ Ok (x, mid) → repeat (suc n) (adding next_line) before bytes ≡ Ok (all, rest)
    → repeat n (adding next_line) (before ++ x ∷ []) mid ≡ Ok (all, rest)
lines_step n before all x bytes mid rest first e = sym (line_more n before x bytes mid first) ∙ e

-- a line, and then those that follow it
lines_grow : (n : ℕ) (before all : List (List ℕ)) (x bytes mid rest : List ℕ) → Takes (line_rows x) bytes mid → Lines (before ++ x ∷ []) all n mid rest → Lines before all (suc n) bytes rest
lines_grow n before all x bytes mid rest t l =
    let m = row_one (Each line_rows l.xs) l.takes.part (length rest) l.takes.in_order in
    let size : length mid ≡ length l.takes.part + length rest = ap length l.takes.whole ∙ length-append l.takes.part rest in
    record {
      xs = x ∷ l.xs;
      all_is = l.all_is ∙ append_assoc before (x ∷ []) l.xs;
      count = ap suc l.count;
      takes = record {
        part = t.part ++ l.takes.part;
        whole = t.whole ∙ ap (λ (y : List ℕ). t.part ++ y) l.takes.whole ∙ sym (append_assoc t.part l.takes.part rest);
        in_order = one_row (Each line_rows (x ∷ l.xs)) (t.part ++ l.takes.part) (length rest)
            (t.part, l.takes.part, refl, subst (λ (k : ℕ). InOrder (line_rows x) t.part k) size t.in_order, m);
      };
    }

lines_take : (n : ℕ) (before all : List (List ℕ)) (bytes rest : List ℕ) → repeat n (adding next_line) before bytes ≡ Ok (all, rest) → Lines before all n bytes rest
unfolding repeat adding
lines_take zero before all bytes rest e =
    let P = λ (v : List (List ℕ) × List ℕ). Lines before v.0 0 bytes v.1 in
    subst P (ok_is (before, bytes) (all, rest) e) (record {
      xs = [];
      all_is = sym (append-nil before);
      count = refl;
      takes = record { part = []; whole = refl; in_order = one_row (Each line_rows []) [] (length bytes) refl };
    })
lines_take (suc n) before all bytes rest e =
    let f = λ (found : Option (List (List ℕ))). elim found as (λ _. Read (List (List ℕ))) [ None ↦ give before | Some next ↦ repeat n (adding next_line) next ] in
    let a = carry_ok (adding next_line before bytes) f (all, rest) e in
    let b = carry_ok (next_line before bytes) (λ found. give (added before found)) a.0 a.1 in
    let d = carry_ok (line bytes) (λ found. give (Some found)) b.0 b.1 in
    let next = lines_step n before all d.0.0 bytes d.0.1 rest d.1 e in
    lines_grow n before all d.0.0 bytes d.0.1 rest (reads_line.takes bytes d.0.0 d.0.1 d.1).1 (lines_take n (before ++ d.0.0 ∷ []) all d.0.1 rest next)

lines_again : (xs before : List (List ℕ)) (part rest : List ℕ) → Each line_rows xs part (length rest) → repeat (length xs) (adding next_line) before (part ++ rest) ≡ Ok (before ++ xs, rest)
unfolding repeat adding
lines_again [] before part rest h =
    ap (λ (v : List ℕ). done (before, v ++ rest)) h ∙ ap (λ (v : List (List ℕ)). done (v, rest)) (sym (append-nil before))
lines_again (x ∷ xs) before part rest h =
    let regrouped : part ++ rest ≡ h.0 ++ (h.1 ++ rest) = ap (λ (y : List ℕ). y ++ rest) h.2 ∙ append_assoc h.0 h.1 rest in
    let size : length h.1 + length rest ≡ length (h.1 ++ rest) = sym (length-append h.1 rest) in
    let one : line (h.0 ++ (h.1 ++ rest)) ≡ Ok (x, h.1 ++ rest) = reads_line.again x tt h.0 (h.1 ++ rest) (subst (λ (k : ℕ). InOrder (line_rows x) h.0 k) size h.3) in
    let stepped : repeat (suc (length xs)) (adding next_line) before (h.0 ++ (h.1 ++ rest)) ≡ repeat (length xs) (adding next_line) (before ++ x ∷ []) (h.1 ++ rest) = rw one refl in
    ap (repeat (suc (length xs)) (adding next_line) before) regrouped ∙ stepped ∙ lines_again xs (before ++ x ∷ []) h.1 rest h.4
    ∙ ap (λ (v : List (List ℕ)). done (v, rest)) (append_assoc before (x ∷ []) xs)

pub reads_lines : (n : ℕ) → Reads (lines n) (λ xs. length xs ≡ n) (λ xs. Each line_rows xs ∷ [])
unfolding lines
reads_lines n = record {
  takes = λ bytes y rest e.
      let l = lines_take n [] y bytes rest e in
      let P = λ (v : List (List ℕ)). (length v ≡ n) × Takes (Each line_rows v ∷ []) bytes rest in
      subst P (sym l.all_is) (l.count, l.takes);
  again = λ y k part rest h.
      ap (λ m. repeat m (adding next_line) [] (part ++ rest)) (sym k) ∙ lines_again y [] part rest (row_one (Each line_rows y) part (length rest) h);
}

pub reads_entry : Reads entry Always (λ e.
    IsNumber 4 e.top ∷ IsNumber 4 e.bottom ∷ IsNumber 4 e.count ∷ IsNumber 4 (length e.lines) ∷ Each line_rows e.lines ∷ [])
unfolding entry
reads_entry =
    reads_field (number 4) _ (λ (e : Entry). e.top) Always (λ n. IsNumber 4 n ∷ []) _ (reads_number 4) (λ top.
    reads_field (number 4) _ (λ (e : Entry). e.bottom) _ (λ n. IsNumber 4 n ∷ []) _ (reads_number 4) (λ bottom.
    reads_field (number 4) _ (λ (e : Entry). e.count) _ (λ n. IsNumber 4 n ∷ []) _ (reads_number 4) (λ count.
    reads_field (number 4) _ (λ (e : Entry). length e.lines) _ (λ n. IsNumber 4 n ∷ []) _ (reads_number 4) (λ size.
    reads_part (lines size) _ (λ (e : Entry). e.lines) (λ xs. length xs ≡ size) _ (λ xs. Each line_rows xs ∷ []) _ (reads_lines size) (λ lines asked.
    reads_give _ _ (refl, (asked, (refl, (refl, (refl, tt))))) (λ y k. rw (← k.0, ← k.1.1.0, ← k.1.1.1.0, ← k.1.1.1.1.0) refl)) (λ y k. k.0)))))

pub follows_any : {A : Type 0} (before xs : List A) → Follows (λ _ _. Unit {0}) before xs
follows_any before [] = tt
follows_any before (x ∷ xs) = (tt, follows_any (before ++ x ∷ []) xs)

pub entry_some : (e : Entry) (part : List ℕ) (following : ℕ) → InOrder (entry_rows e) part following → 0 < length part
entry_some e part following h = omega (arith, ap length h.2, length-append h.0 h.1, h.3.wide)

pub reads_next_entry : (before : List Entry) → Reads (next_entry before) (IfIs (λ _. Unit {0})) (end_or entry_rows (IsNumber 2 0x3581 ∷ []))
unfolding entry_or_end
reads_next_entry before =
    let differ : (0xf518 ≡ 0x3581) → ⊥ = λ (e : 0xf518 ≡ 0x3581). omega (arith, e) in
    reads_magic 0xf518 0x3581 entry Always (λ e. IsNumber 4 e.top ∷ IsNumber 4 e.bottom ∷ IsNumber 4 e.count ∷ IsNumber 4 (length e.lines) ∷ Each line_rows e.lines ∷ []) differ reads_entry

pub reads_entries : Reads entries Always entries_rows
unfolding entries
reads_entries =
    reads_when (items next_entry) (Follows (λ _ _. Unit {0}) []) Always entries_rows
    (reads_items next_entry (λ _ _. Unit {0}) entry_rows (IsNumber 2 0x3581 ∷ []) reads_next_entry entry_some)
    (λ y k. tt) (λ y k. follows_any [] y)
