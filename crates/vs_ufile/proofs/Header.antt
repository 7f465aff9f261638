-- The laws of optional fields, of a change and of a whole file.
use Rattle.std.proofs.Common.{◌≡◌, ℕ, zero, suc, ◌+◌, ◌*◌, ◌<◌, ◌≤◌, Bool, true, false, ◌⊎◌, inl, inr, cond, ltb, eqb, ◌&&◌, List, [], ◌∷◌, ◌++◌, length, take, drop, Option, Some, None, Ok, refl, sym, ap, subst, ◌∙◌, append_assoc, arith}
use Rattle.std.proofs.lemmas.List.{length-append, length-drop, length-take-le, nil_from_length, take-append-drop}
use Rattle.std.proofs.lemmas.Bool.{eqb-true, eqb-false, ne_eqb, ltb-false, le-ltb}
use Rattle.vs_ufile.specs.declared.error.UfKind.{UfKind}
use Rattle.vs_ufile.specs.declared.error.UfKind.TheVariants.{NumberZero}
use Rattle.vs_ufile.specs.Reading.{◌>>=◌, Body, Read, carry, checked, body, entries, flags, give, is_empty, items, last_of, marks, next_mark, next_option, number, option_data, option_or_end, options, repeat, run, save_number_kind}
use Rattle.vs_ufile.specs.Format.{Row, InOrder, Each, Follows, IsFlags, IsNumber, IsOptions, IsSave, Any, Is, Skipped, body_rows, entries_rows, option_rows}
use Rattle.vs_ufile.proofs.Laws.{Reads, Takes, Always, carry_ok, done, ok_is, one_row, row_one, reads_field, reads_give, reads_number, reads_run, takes_both}
use Rattle.vs_ufile.proofs.Parts.{IfIs, end_or, reads_when, reads_part, reads_rows, reads_map, reads_past, reads_checked, reads_items}
use Rattle.vs_ufile.proofs.Whole.{follows_any, reads_entries}

-- ---- optional fields

abbrev none_kind : Option UfKind
none_kind = None

pub save_small : (n : ℕ) (b : Bool) → ltb 2000000000 n ≡ b → cond b (Some NumberZero) None ≡ none_kind → n ≤ 2000000000
save_small n true e k = absurd cc
save_small n false e k = ltb-false 2000000000 n e

save_kind : (n : ℕ) → n ≤ 2000000000 → save_number_kind n ≡ None
save_kind n le = let big : ltb 2000000000 n ≡ false = le-ltb 2000000000 n le in rw big refl

reads_save : Reads (checked 4 save_number_kind) Always (λ n. IsSave n ∷ [])
reads_save = reads_rows (checked 4 save_number_kind) (λ n. save_number_kind n ≡ None) (λ n. IsNumber 4 n ∷ []) (λ n. IsSave n ∷ []) (reads_checked 4 save_number_kind)
    (λ n part following k h. one_row (IsSave n) part following (record { number = row_one (IsNumber 4 n) part following h; small = save_small n (ltb 2000000000 n) refl k }))
    (λ n part following h. let row = row_one (IsSave n) part following h in (save_kind n row.small, one_row (IsNumber 4 n) part following row.number))

abbrev pub is_save : ℕ → ℕ → Bool
is_save kind size = (eqb kind 1) && (eqb size 4)

abbrev pub data_by : ℕ → Bool → Read (Option ℕ)
data_by size by = cond by (checked 4 save_number_kind >>= λ save. give (Some save)) (run size >>= λ _. give None)

abbrev none_save : Option ℕ
none_save = None

save_of : (size kind : ℕ) (a b : Bool) → eqb kind 1 ≡ a → eqb size 4 ≡ b → (a && b) ≡ true → (size ≡ 4) × (kind ≡ 1)
save_of size kind true true p q e = (eqb-true size 4 q, eqb-true kind 1 p)
save_of size kind true false p q e = absurd cc
save_of size kind false b p q e = absurd cc

is_any : {A : Type 0} (o : Option A) → IfIs (λ _. Unit {0}) o
is_any None = tt
is_any (Some x) = tt

-- what stands after size and kind
data_takes : (size : ℕ) (by : Bool) (bytes : List ℕ) (found : Option ℕ) (rest : List ℕ) → data_by size by bytes ≡ Ok (found, rest)
    → ((save : ℕ) × (by ≡ true) × (found ≡ Some save) × Takes (IsSave save ∷ []) bytes rest) ⊎ ((by ≡ false) × (found ≡ None) × Takes (Any size ∷ []) bytes rest)
data_takes size true bytes found rest e =
    let c = carry_ok (checked 4 save_number_kind bytes) (λ save. give (Some save)) (found, rest) e in
    let t = (reads_save.takes bytes c.0.0 c.0.1 c.1).1 in
    let some : Option ℕ = Some c.0.0 in
    let p : (some, c.0.1) ≡ (found, rest) = ok_is (some, c.0.1) (found, rest) c.2 in
    let P = λ (v : Option ℕ × List ℕ). ((save : ℕ) × (true ≡ true) × (v.0 ≡ Some save) × Takes (IsSave save ∷ []) bytes v.1) ⊎ ((true ≡ false) × (v.0 ≡ None) × Takes (Any size ∷ []) bytes v.1) in
    subst P p (inl (c.0.0, refl, refl, t))
data_takes size false bytes found rest e =
    let law = reads_past size (λ _. give none_save) (λ y. none_save ≡ y) (λ _. []) (λ x. reads_give none_save (λ y. none_save ≡ y) refl (λ y k. k)) in
    let t = law.takes bytes found rest e in
    inr (refl, sym t.0, t.1)

-- an optional field after its size, which is not zero
abbrev pub field_by : ℕ → Read (Option (Option ℕ))
field_by size = number 1 >>= λ kind. data_by size (is_save kind size) >>= λ found. give (Some found)

abbrev pub option_by : ℕ → Bool → Read (Option (Option ℕ))
option_by size is_end = cond is_end (give None) (field_by size)

pub option_is : option_or_end ≡ (number 1 >>= λ size. option_by size (eqb size 0))
unfolding option_or_end option_data
option_is = refl

abbrev pub option_or : Option (Option ℕ) → List Row
option_or o = end_or option_rows (IsNumber 1 0 ∷ []) o

pub save_or_not : (size kind : ℕ) (by : Bool) → is_save kind size ≡ by → by ≡ true → (size ≡ 4) × (kind ≡ 1)
save_or_not size kind by e t = save_of size kind (eqb kind 1) (eqb size 4) refl refl (e ∙ t)

option_takes : (size : ℕ) (is_end : Bool) → eqb size 0 ≡ is_end → (bytes mid : List ℕ) (y : Option (Option ℕ)) (rest : List ℕ)
    → Takes (IsNumber 1 size ∷ []) bytes mid → option_by size is_end mid ≡ Ok (y, rest) → Takes (option_or y) bytes rest
option_takes size true is bytes mid y rest t e =
    let nothing : Option (Option ℕ) = None in
    let p : (nothing, mid) ≡ (y, rest) = ok_is (nothing, mid) (y, rest) e in
    let P = λ (v : Option (Option ℕ) × List ℕ). Takes (option_or v.0) bytes v.1 in
    subst P p (subst (λ (n : ℕ). Takes (IsNumber 1 n ∷ []) bytes mid) (eqb-true size 0 is) t)
option_takes size false is bytes mid y rest t e =
    let c = carry_ok (number 1 mid) (λ kind. data_by size (is_save kind size) >>= λ found. give (Some found)) (y, rest) e in
    let d = carry_ok (data_by size (is_save c.0.0 size) c.0.1) (λ found. give (Some found)) (y, rest) c.2 in
    let some : Option (Option ℕ) = Some d.0.0 in
    let p : (some, d.0.1) ≡ (y, rest) = ok_is (some, d.0.1) (y, rest) d.2 in
    let k = ((reads_number 1).takes mid c.0.0 c.0.1 c.1).1 in
    let front = takes_both (IsNumber 1 size ∷ []) (IsNumber 1 c.0.0 ∷ []) bytes mid c.0.1 t k in
    let P = λ (v : Option (Option ℕ) × List ℕ). Takes (option_or v.0) bytes v.1 in
    let taken : Takes (option_rows d.0.0) bytes d.0.1 = elim (data_takes size (is_save c.0.0 size) c.0.1 d.0.0 d.0.1 d.1) [
      | inl s ↦
          let is4 = save_or_not size c.0.0 (is_save c.0.0 size) refl s.1 in
          let both = takes_both (IsNumber 1 size ∷ IsNumber 1 c.0.0 ∷ []) (IsSave s.0 ∷ []) bytes c.0.1 d.0.1 front s.3 in
          let at4 = subst (λ (n : ℕ). Takes (IsNumber 1 n ∷ IsNumber 1 c.0.0 ∷ IsSave s.0 ∷ []) bytes d.0.1) is4.0 both in
          let at1 = subst (λ (n : ℕ). Takes (IsNumber 1 4 ∷ IsNumber 1 n ∷ IsSave s.0 ∷ []) bytes d.0.1) is4.1 at4 in
          subst (λ (f : Option ℕ). Takes (option_rows f) bytes d.0.1) (sym s.2) at1
      | inr s ↦
          let both = takes_both (IsNumber 1 size ∷ IsNumber 1 c.0.0 ∷ []) (Any size ∷ []) bytes c.0.1 d.0.1 front s.2 in
          let row : Skipped both.part (length d.0.1) = record { size = size; kind = c.0.0; not_end = eqb-false size 0 is; not_save = s.0; in_order = both.in_order } in
          let one : Takes (Skipped ∷ []) bytes d.0.1 = record { part = both.part; whole = both.whole; in_order = one_row Skipped both.part (length d.0.1) row } in
          subst (λ (f : Option ℕ). Takes (option_rows f) bytes d.0.1) (sym s.1) one
    ] in
    subst P p taken

number_again : (width n : ℕ) (part rest : List ℕ) → IsNumber width n part (length rest) → number width (part ++ rest) ≡ Ok (n, rest)
number_again width n part rest row = (reads_number width).again n tt part rest (one_row (IsNumber width n) part (length rest) row)

at_place : (width n : ℕ) (part : List ℕ) (a b : ℕ) → IsNumber width n part a → IsNumber width n part b
at_place width n part a b row = record { wide = row.wide; value = row.value }

option_again : (y : Option (Option ℕ)) (part rest : List ℕ) → InOrder (option_or y) part (length rest) → carry (number 1 (part ++ rest)) (λ size. option_by size (eqb size 0)) ≡ Ok (y, rest)
option_again None part rest h =
    let row = row_one (IsNumber 1 0) part (length rest) h in
    ap (λ q. carry q (λ size. option_by size (eqb size 0))) (number_again 1 0 part rest row)
option_again (Some (Some save)) part rest h =
    let a = h.0 in
    let t = h.4 in
    let b = t.0 in
    let u = t.4 in
    let d = u.0 in
    let last : InOrder (IsSave save ∷ []) t.1 (length rest) = u in
    let all : part ++ rest ≡ a ++ (b ++ (t.1 ++ rest)) = ap (λ (x : List ℕ). x ++ rest) (h.2 ∙ ap (λ (x : List ℕ). a ++ x) t.2) ∙ append_assoc a (b ++ t.1) rest ∙ ap (λ (x : List ℕ). a ++ x) (append_assoc b t.1 rest) in
    let one = number_again 1 4 a (b ++ (t.1 ++ rest)) (at_place 1 4 a _ _ h.3) in
    let two = number_again 1 1 b (t.1 ++ rest) (at_place 1 1 b _ _ t.3) in
    let three = reads_save.again save tt t.1 rest last in
    ap (λ z. carry (number 1 z) (λ size. option_by size (eqb size 0))) all
    ∙ ap (λ q. carry q (λ size. option_by size (eqb size 0))) one
    ∙ ap (λ q. carry q (λ kind. data_by 4 (is_save kind 4) >>= λ found. give (Some found))) two
    ∙ ap (λ q. carry (carry q (λ save. give (Some save))) (λ found. give (Some found))) three
option_again (Some None) part rest h =
    let row = row_one Skipped part (length rest) h in
    let o = row.in_order in
    let a = o.0 in
    let t = o.4 in
    let b = t.0 in
    let all : part ++ rest ≡ a ++ (b ++ (t.1 ++ rest)) = ap (λ (x : List ℕ). x ++ rest) (o.2 ∙ ap (λ (x : List ℕ). a ++ x) t.2) ∙ append_assoc a (b ++ t.1) rest ∙ ap (λ (x : List ℕ). a ++ x) (append_assoc b t.1 rest) in
    let one = number_again 1 row.size a (b ++ (t.1 ++ rest)) (at_place 1 row.size a _ _ o.3) in
    let two = number_again 1 row.kind b (t.1 ++ rest) (at_place 1 row.kind b _ _ t.3) in
    let law = reads_past row.size (λ _. give none_save) (λ y. none_save ≡ y) (λ _. []) (λ x. reads_give none_save (λ y. none_save ≡ y) refl (λ y k. k)) in
    let three = law.again None refl t.1 rest t.4 in
    let not_end : eqb row.size 0 ≡ false = ne_eqb row.size 0 row.not_end in
    ap (λ z. carry (number 1 z) (λ size. option_by size (eqb size 0))) all
    ∙ ap (λ q. carry q (λ size. option_by size (eqb size 0))) one
    ∙ ap (λ c. option_by row.size c (b ++ (t.1 ++ rest))) not_end
    ∙ ap (λ q. carry q (λ kind. data_by row.size (is_save kind row.size) >>= λ found. give (Some found))) two
    ∙ ap (λ c. carry (data_by row.size c (t.1 ++ rest)) (λ found. give (Some found))) row.not_save
    ∙ ap (λ q. carry q (λ found. give (Some found))) three

pub reads_option : (before : List (Option ℕ)) → Reads (next_option before) (IfIs (λ _. Unit {0})) option_or
unfolding option_or_end option_data
reads_option before = record {
  takes = λ bytes y rest e.
      let c = carry_ok (number 1 bytes) (λ size. option_by size (eqb size 0)) (y, rest) e in
      let t = ((reads_number 1).takes bytes c.0.0 c.0.1 c.1).1 in
      (is_any y, option_takes c.0.0 (eqb c.0.0 0) refl bytes c.0.1 y rest t c.2);
  again = λ y k part rest h. option_again y part rest h;
}

pub option_some : (o : Option ℕ) (part : List ℕ) (following : ℕ) → InOrder (option_rows o) part following → 0 < length part
option_some (Some save) part following h = omega (arith, ap length h.2, length-append h.0 h.1, h.3.wide)
option_some None part following h =
    let row = row_one Skipped part following h in
    omega (arith, ap length row.in_order.2, length-append row.in_order.0 row.in_order.1, row.in_order.3.wide)

pub reads_options : Reads options Always (λ save. IsOptions save ∷ [])
unfolding options
reads_options = reads_map (items next_option) last_of (λ found. Each option_rows found ∷ IsNumber 1 0 ∷ [])
    (reads_when (items next_option) (Follows (λ _ _. Unit {0}) []) Always (λ found. Each option_rows found ∷ IsNumber 1 0 ∷ [])
    (reads_items next_option (λ _ _. Unit {0}) option_rows (IsNumber 1 0 ∷ []) reads_option option_some)
    (λ y k. tt) (λ y k. follows_any [] y))

-- ---- marks and flags

mark_more : (n before : ℕ) (bytes mark after : List ℕ) → run 12 bytes ≡ Ok (mark, after) → repeat (suc n) next_mark before bytes ≡ repeat n next_mark (before + 1) after
unfolding repeat next_mark
mark_more n before bytes mark after h =
    ap (λ q. carry (carry q (λ _. give (Some (before + 1)))) (λ found. elim found as (λ _. Read ℕ) [ None ↦ give before | Some next ↦ repeat n next_mark next ])) h

marks_step : (n before : ℕ) (bytes mark mid : List ℕ) (m : ℕ) (rest : List ℕ) → run 12 bytes ≡ Ok (mark, mid) → repeat (suc n) next_mark before bytes ≡ Ok (m, rest)
    → repeat n next_mark (before + 1) mid ≡ Ok (m, rest)
marks_step n before bytes mark mid m rest first e = sym (mark_more n before bytes mark mid first) ∙ e

-- a mark, and then those that follow it
marks_grow : (n before m : ℕ) (bytes mark mid rest : List ℕ) → length mark ≡ 12 → Takes (Is mark ∷ []) bytes mid → (m ≡ before + 1 + n) × Takes (Any (12 * n) ∷ []) mid rest
    → (m ≡ before + suc n) × Takes (Any (12 * suc n) ∷ []) bytes rest
marks_grow n before m bytes mark mid rest twelve t more =
    let row = row_one (Is mark) t.part (length mid) t.in_order in
    let tail = row_one (Any (12 * n)) more.1.part (length rest) more.1.in_order in
    let wide : length (t.part ++ more.1.part) ≡ 12 * suc n = omega (arith, length-append t.part more.1.part, ap length row.same, twelve, tail.wide) in (
      omega (arith, more.0),
      record {
        part = t.part ++ more.1.part;
        whole = t.whole ∙ ap (λ (y : List ℕ). t.part ++ y) more.1.whole ∙ sym (append_assoc t.part more.1.part rest);
        in_order = one_row (Any (12 * suc n)) (t.part ++ more.1.part) (length rest) (record { wide = wide });
      },
    )

marks_take : (n before : ℕ) (bytes : List ℕ) (m : ℕ) (rest : List ℕ) → repeat n next_mark before bytes ≡ Ok (m, rest) → (m ≡ before + n) × Takes (Any (12 * n) ∷ []) bytes rest
unfolding repeat next_mark
marks_take zero before bytes m rest e =
    let p : (before, bytes) ≡ (m, rest) = ok_is (before, bytes) (m, rest) e in
    let P = λ (v : ℕ × List ℕ). (v.0 ≡ before + 0) × Takes (Any (12 * 0) ∷ []) bytes v.1 in
    subst P p (omega arith, record { part = []; whole = refl; in_order = one_row (Any 0) [] (length bytes) (record { wide = refl }) })
marks_take (suc n) before bytes m rest e =
    let f = λ (found : Option ℕ). elim found as (λ _. Read ℕ) [ None ↦ give before | Some next ↦ repeat n next_mark next ] in
    let a = carry_ok (next_mark before bytes) f (m, rest) e in
    let b = carry_ok (run 12 bytes) (λ _. give (Some (before + 1))) a.0 a.1 in
    let next = marks_step n before bytes b.0.0 b.0.1 m rest b.1 e in
    let t = (reads_run 12).takes bytes b.0.0 b.0.1 b.1 in
    marks_grow n before m bytes b.0.0 b.0.1 rest t.0 t.1 (marks_take n (before + 1) b.0.1 m rest next)

marks_again : (n before : ℕ) (part rest : List ℕ) → length part ≡ 12 * n → repeat n next_mark before (part ++ rest) ≡ Ok (before + n, rest)
unfolding repeat next_mark
marks_again zero before part rest e =
    let none : part ≡ [] = nil_from_length part (omega (arith, e)) in
    let same : before ≡ before + 0 = omega arith in
    ap (λ (v : List ℕ). done (before, v ++ rest)) none ∙ ap (λ (v : ℕ). done (v, rest)) same
marks_again (suc n) before part rest e =
    let first : List ℕ = take 12 part in
    let second : List ℕ = drop 12 part in
    let wide : length first ≡ 12 = length-take-le 12 part (omega (arith, e)) in
    let size : length second ≡ 12 * n = omega (arith, e, length-drop 12 part) in
    let regrouped : part ++ rest ≡ first ++ (second ++ rest) = ap (λ (y : List ℕ). y ++ rest) (sym (take-append-drop 12 part)) ∙ append_assoc first second rest in
    let one = (reads_run 12).again first wide first (second ++ rest) (one_row (Is first) first (length (second ++ rest)) (record { same = refl })) in
    let value : before + 1 + n ≡ before + suc n = omega arith in
    ap (repeat (suc n) next_mark before) regrouped ∙ mark_more n before (first ++ (second ++ rest)) first (second ++ rest) one ∙ marks_again n (before + 1) second rest size
    ∙ ap (λ (v : ℕ). done (v, rest)) value

reads_each_mark : Reads (repeat 26 next_mark 0) (λ m. m ≡ 26) (λ _. Any 312 ∷ [])
reads_each_mark = record {
  takes = λ bytes m rest e. let t = marks_take 26 0 bytes m rest e in (t.0, t.1);
  again = λ m k part rest h. marks_again 26 0 part rest (row_one (Any 312) part (length rest) h).wide ∙ ap (λ (v : ℕ). done (v, rest)) (sym k);
}

pub reads_marks : Reads marks (λ m. m ≡ 26) (λ _. Any 312 ∷ Any 24 ∷ Any 4 ∷ Any 4 ∷ [])
unfolding marks
reads_marks =
    reads_part (repeat 26 next_mark 0) _ (λ (m : ℕ). m) (λ m. m ≡ 26) (λ m. m ≡ 26) (λ _. Any 312 ∷ []) _ reads_each_mark
    (λ m asked. reads_past 24 _ _ _ (λ _. reads_past 4 _ _ _ (λ _. reads_past 4 _ _ _ (λ _. reads_give m _ (refl, asked) (λ y k. sym k.0)))))
    (λ y k. k)

pub reads_flags : Reads flags Always (λ empty. Any 12 ∷ Any 4 ∷ IsFlags empty ∷ [])
unfolding flags
reads_flags = reads_past 12 _ _ _ (λ _. reads_past 4 _ _ _ (λ _. reads_map (number 2) is_empty (λ n. IsNumber 2 n ∷ []) (reads_number 2)))

-- ---- a change

pub reads_body : Reads body Always body_rows
unfolding body
reads_body =
    reads_field flags _ (λ (b : Body). b.empty) Always (λ empty. Any 12 ∷ Any 4 ∷ IsFlags empty ∷ []) _ reads_flags (λ empty.
    reads_part marks _ (λ (b : Body). 26) (λ m. m ≡ 26) _ (λ _. Any 312 ∷ Any 24 ∷ Any 4 ∷ Any 4 ∷ []) _ reads_marks (λ places asked.
    reads_field (number 8) _ (λ (b : Body). b.time) _ (λ n. IsNumber 8 n ∷ []) _ (reads_number 8) (λ time.
    reads_field options _ (λ (b : Body). b.save) _ (λ save. IsOptions save ∷ []) _ reads_options (λ save.
    reads_field entries _ (λ (b : Body). b.entries) _ entries_rows _ reads_entries (λ entries.
    reads_give _ _ (refl, (refl, (refl, (sym asked, (refl, tt))))) (λ y k. rw (← k.0, ← k.1.0, ← k.1.1.0, ← k.1.1.1.1.0) refl)))))
    (λ y k. refl))
