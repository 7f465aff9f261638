-- More laws of readers: constraints, values that are changed, items up to an end, and parts of one size.
use Rattle.std.proofs.Common.{◌≡◌, ℕ, zero, suc, ◌+◌, ◌<◌, List, [], ◌∷◌, ◌++◌, length, Option, Some, None, Ok, refl, sym, ap, subst, ◌∙◌, append_assoc, arith}
use Rattle.std.proofs.lemmas.List.{append-nil, length-append}
use Rattle.vs_ufile.specs.declared.error.UfKind.{UfKind}
use Rattle.vs_ufile.specs.Reading.{◌>>=◌, Read, added, adding, allowed, carry, checked, give, here, items, number, run, until}
use Rattle.vs_ufile.specs.Format.{Row, InOrder, Each, Follows, Here, IsNumber, Any, Is, sized}
use Rattle.vs_ufile.proofs.Laws.{Reads, Takes, Always, carry_ok, done, ok_is, one_row, row_one, reads_field, reads_number, reads_run, takes_both, splits}

-- ---- constraints and rows

pub reads_when : {Y : Type 0} (r : Read Y) (C D : Y → Type 0) (Ps : Y → List Row) → Reads r C Ps → ((y : Y) → C y → D y) → ((y : Y) → D y → C y) → Reads r D Ps
reads_when r C D Ps law to from = record {
  takes = λ bytes y rest e. let t = law.takes bytes y rest e in (to y t.0, t.1);
  again = λ y k part rest h. law.again y (from y k) part rest h;
}

pub reads_rows : {Y : Type 0} (r : Read Y) (C : Y → Type 0) (Ps Qs : Y → List Row) → Reads r C Ps
    → ((y : Y) (part : List ℕ) (following : ℕ) → C y → InOrder (Ps y) part following → InOrder (Qs y) part following)
    → ((y : Y) (part : List ℕ) (following : ℕ) → InOrder (Qs y) part following → C y × InOrder (Ps y) part following) → Reads r Always Qs
reads_rows r C Ps Qs law to from = record {
  takes = λ bytes y rest e.
      let t = law.takes bytes y rest e in
      (tt, record { part = t.1.part; whole = t.1.whole; in_order = to y t.1.part (length rest) t.0 t.1.in_order });
  again = λ y k part rest h. let f = from y part (length rest) h in law.again y f.0 part rest f.1;
}

-- the bytes of a value that is made of another
abbrev pub Through : {A Y : Type 0} → (A → Y) → (A → List Row) → Y → Row
Through {A = A} g Qs y bytes following = (x : A) × (g x ≡ y) × InOrder (Qs x) bytes following

pub reads_map : {A Y : Type 0} (r : Read A) (g : A → Y) (Qs : A → List Row) → Reads r Always Qs → Reads (r >>= λ x. give (g x)) Always (λ y. Through g Qs y ∷ [])
reads_map r g Qs law = record {
  takes = λ bytes y rest e.
      let a = carry_ok (r bytes) (λ x. give (g x)) (y, rest) e in
      let t = (law.takes bytes a.0.0 a.0.1 a.1).1 in
      let p : (g a.0.0, a.0.1) ≡ (y, rest) = ok_is (g a.0.0, a.0.1) (y, rest) a.2 in
      let same : a.0.1 ≡ rest = ap (λ (x : _ × List ℕ). x.1) p in
      let value : g a.0.0 ≡ y = ap (λ (x : _ × List ℕ). x.0) p in (
        tt,
        record {
          part = t.part;
          whole = t.whole ∙ ap (λ (x : List ℕ). t.part ++ x) same;
          in_order = one_row (Through g Qs y) t.part (length rest) (a.0.0, value, subst (λ (x : List ℕ). InOrder (Qs a.0.0) t.part (length x)) same t.in_order);
        },
      );
  again = λ y k part rest h.
      let x = row_one (Through g Qs y) part (length rest) h in
      ap (λ q. carry q (λ x. give (g x))) (law.again x.0 tt part rest x.2) ∙ ap (λ v. done (v, rest)) x.1;
}

-- ---- fields that are skipped

pub reads_past : {Y : Type 0} (size : ℕ) (f : List ℕ → Read Y) (C : Y → Type 0) (Ps : Y → List Row) → ((x : List ℕ) → Reads (f x) C Ps) → Reads (run size >>= f) C (λ y. Any size ∷ Ps y)
reads_past size f C Ps next = record {
  takes = λ bytes y rest e.
      let a = carry_ok (run size bytes) f (y, rest) e in
      let t = (reads_run size).takes bytes a.0.0 a.0.1 a.1 in
      let tail = (next a.0.0).takes a.0.1 y rest a.2 in
      let row = row_one (Is a.0.0) t.1.part (length a.0.1) t.1.in_order in
      let same : Takes (Any size ∷ []) bytes a.0.1 =
      record { part = t.1.part; whole = t.1.whole; in_order = one_row (Any size) t.1.part (length a.0.1) (record { wide = ap length row.same ∙ t.0 }) } in
      (tail.0, takes_both (Any size ∷ []) (Ps y) bytes a.0.1 rest same tail.1);
  again = λ y k part rest h.
      let first : List ℕ = h.0 in
      let regrouped : part ++ rest ≡ first ++ (h.1 ++ rest) = ap (λ (x : List ℕ). x ++ rest) h.2 ∙ append_assoc first h.1 rest in
      ap (run size >>= f) regrouped ∙ ap (λ q. carry q f) ((reads_run size).again first h.3.wide first (h.1 ++ rest) (one_row (Is first) first (length (h.1 ++ rest)) (record { same = refl })))
      ∙ (next first).again y k h.1 rest h.4;
}

-- ---- a length and that many bytes

pub reads_sized : Reads (number 4 >>= run) Always sized
reads_sized =
    reads_field (number 4) run length Always (λ n. IsNumber 4 n ∷ []) (λ y. Is y ∷ []) (reads_number 4)
    (λ n. reads_when (run n) (λ x. length x ≡ n) (λ y. (length y ≡ n) × Always y) (λ x. Is x ∷ []) (reads_run n) (λ y e. (e, tt)) (λ y k. k.0))

-- a field of which something is asked, which the fields after it repeat
pub reads_part : {A Y : Type 0} (r : Read A) (f : A → Read Y) (get : Y → A) (D : A → Type 0) (C : Y → Type 0) (Qs : A → List Row) (Ps : Y → List Row)
    → Reads r D Qs → ((x : A) → D x → Reads (f x) (λ y. (get y ≡ x) × C y) Ps) → ((y : Y) → C y → D (get y)) → Reads (r >>= f) C (λ y. Qs (get y) ++ Ps y)
reads_part r f get D C Qs Ps first next asked = record {
  takes = λ bytes y rest e.
      let a = carry_ok (r bytes) f (y, rest) e in
      let head = first.takes bytes a.0.0 a.0.1 a.1 in
      let tail = (next a.0.0 head.0).takes a.0.1 y rest a.2 in
      let same : Takes (Qs (get y)) bytes a.0.1 = subst (λ x. Takes (Qs x) bytes a.0.1) (sym tail.0.0) head.1 in
      (tail.0.1, takes_both (Qs (get y)) (Ps y) bytes a.0.1 rest same tail.1);
  again = λ y k part rest h.
      let s = splits (Qs (get y)) (Ps y) part (length rest) h in
      let place : length s.second + length rest ≡ length (s.second ++ rest) = sym (length-append s.second rest) in
      let regrouped : part ++ rest ≡ s.first ++ (s.second ++ rest) = ap (λ (x : List ℕ). x ++ rest) s.whole ∙ append_assoc s.first s.second rest in
      ap (r >>= f) regrouped ∙ ap (λ q. carry q f) (first.again (get y) (asked y k) s.first (s.second ++ rest) (subst (λ (n : ℕ). InOrder (Qs (get y)) s.first n) place s.first_is))
      ∙ (next (get y) (asked y k)).again y (refl, k) s.second rest s.second_is;
}

-- the place of what follows
pub reads_here : {Y : Type 0} (f : ℕ → Read Y) (get : Y → ℕ) (C : Y → Type 0) (Ps : Y → List Row)
    → ((n : ℕ) → Reads (f n) (λ y. (get y ≡ n) × C y) Ps) → Reads (here >>= f) C (λ y. Here (get y) ∷ Ps y)
reads_here f get C Ps next = record {
  takes = λ bytes y rest e.
      let tail = (next (length bytes)).takes bytes y rest e in
      let same : Takes (Here (get y) ∷ []) bytes bytes =
      record { part = []; whole = refl; in_order = one_row (Here (get y)) [] (length bytes) (record { none = refl; place = tail.0.0 }) } in
      (tail.0.1, takes_both (Here (get y) ∷ []) (Ps y) bytes bytes rest same tail.1);
  again = λ y k part rest h.
      let whole : part ≡ h.1 = h.2 ∙ ap (λ (x : List ℕ). x ++ h.1) h.3.none in
      let place : get y ≡ length (part ++ rest) = h.3.place ∙ omega (arith, length-append part rest, ap length whole) in
      (next (length (part ++ rest))).again y (place, k) part rest (subst (λ (x : List ℕ). InOrder (Ps y) x (length rest)) (sym whole) h.4);
}

-- ---- a number that may be refused

abbrev both : ℕ → List ℕ → ℕ × List ℕ
both n rest = (n, rest)

allowed_ok : (left n : ℕ) (o : Option UfKind) (rest : List ℕ) (m : ℕ) (after : List ℕ) → allowed left n o rest ≡ Ok (m, after) → (o ≡ None) × (both n rest ≡ both m after)
allowed_ok left n None rest m after e = (refl, ok_is (both n rest) (both m after) e)
allowed_ok left n (Some kind) rest m after e = absurd cc

pub reads_checked : (width : ℕ) (kind_of : ℕ → Option UfKind) → Reads (checked width kind_of) (λ n. kind_of n ≡ None) (λ n. IsNumber width n ∷ [])
reads_checked width kind_of = record {
  takes = λ bytes n rest e.
      let a = carry_ok (number width bytes) (λ n. allowed (length bytes) n (kind_of n)) (n, rest) e in
      let t = (reads_number width).takes bytes a.0.0 a.0.1 a.1 in
      let k = allowed_ok (length bytes) a.0.0 (kind_of a.0.0) a.0.1 n rest a.2 in
      let P = λ (x : ℕ × List ℕ). (kind_of x.0 ≡ None) × Takes (IsNumber width x.0 ∷ []) bytes x.1 in
      subst P k.1 (k.0, t.1);
  again = λ n k part rest h.
      ap (λ q. carry q (λ n. allowed (length (part ++ rest)) n (kind_of n))) ((reads_number width).again n tt part rest h)
      ∙ ap (λ o. allowed (length (part ++ rest)) n o rest) k;
}

-- ---- items up to an end

abbrev pub IfIs : {A : Type 0} → (A → Type 0) → Option A → Type 0
IfIs D None = Unit {0}
IfIs D (Some x) = D x

abbrev pub end_or : {A : Type 0} → (A → List Row) → List Row → Option A → List Row
end_or rows end None = end
end_or rows end (Some x) = rows x

module _ {A : Type 0} (item : List A → Read (Option A)) (D : List A → A → Type 0) (rows : A → List Row) (end : List Row)
    (law : (before : List A) → Reads (item before) (IfIs (D before)) (end_or rows end))
    (some : (x : A) (part : List ℕ) (following : ℕ) → InOrder (rows x) part following → 0 < length part) where
  record Listed (before all : List A) (bytes rest : List ℕ) : Type 0 where
    xs : List A
    all_is : all ≡ before ++ xs
    follows : Follows D before xs
    takes : Takes (Each rows xs ∷ end) bytes rest

  listed_end : (before : List A) (bytes rest : List ℕ) → Takes end bytes rest → Listed before before bytes rest
  listed_end before bytes rest t = record {
    xs = [];
    all_is = sym (append-nil before);
    follows = tt;
    takes = record { part = t.part; whole = t.whole; in_order = ([], t.part, refl, refl, t.in_order) };
  }

  listed_more : (before all : List A) (x : A) (bytes mid rest : List ℕ) → D before x → Takes (rows x) bytes mid → Listed (before ++ x ∷ []) all mid rest → Listed before all bytes rest
  listed_more before all x bytes mid rest d t more =
      let m = more.takes.in_order in
      let size : length mid ≡ length m.0 + (length m.1 + length rest) =
      omega (arith, ap length more.takes.whole, length-append more.takes.part rest, ap length m.2, length-append m.0 m.1) in
      record {
        xs = x ∷ more.xs;
        all_is = more.all_is ∙ append_assoc before (x ∷ []) more.xs;
        follows = (d, more.follows);
        takes = record {
          part = t.part ++ more.takes.part;
          whole = t.whole ∙ ap (λ (y : List ℕ). t.part ++ y) more.takes.whole ∙ sym (append_assoc t.part more.takes.part rest);
          in_order = (
            t.part ++ m.0,
            m.1,
            ap (λ (y : List ℕ). t.part ++ y) m.2 ∙ sym (append_assoc t.part m.0 m.1),
            (t.part, m.0, refl, subst (λ (n : ℕ). InOrder (rows x) t.part n) size t.in_order, m.3),
            m.4,
          );
        };
      }

  items_step : (n : ℕ) (before all : List A) (bytes rest r1 : List ℕ) (found : Option A) → item before bytes ≡ Ok (found, r1)
      → until (suc n) (adding item) before bytes ≡ Ok (all, rest)
      → ((x : A) → until n (adding item) (before ++ x ∷ []) r1 ≡ Ok (all, rest) → Listed (before ++ x ∷ []) all r1 rest)
      → Listed before all bytes rest
  unfolding until adding
  items_step n before all bytes rest r1 None h e more =
      let one : until (suc n) (adding item) before bytes ≡ Ok (before, r1) = rw h refl in
      let p : (before, r1) ≡ (all, rest) = ok_is (before, r1) (all, rest) (sym one ∙ e) in
      let t = ((law before).takes bytes None r1 h).1 in
      let P = λ (x : List A × List ℕ). Listed before x.0 bytes x.1 in
      subst P p (listed_end before bytes r1 t)
  items_step n before all bytes rest r1 (Some x) h e more =
      let one : until (suc n) (adding item) before bytes ≡ until n (adding item) (before ++ x ∷ []) r1 = rw h refl in
      let t = (law before).takes bytes (Some x) r1 h in
      listed_more before all x bytes r1 rest t.0 t.1 (more x (sym one ∙ e))

  items_take : (n : ℕ) (before all : List A) (bytes rest : List ℕ) → until n (adding item) before bytes ≡ Ok (all, rest) → Listed before all bytes rest
  unfolding until adding
  items_take zero before all bytes rest e = absurd cc
  items_take (suc n) before all bytes rest e =
      let f = λ (found : Option (List A)). elim found as (λ _. Read (List A)) [ None ↦ give before | Some next ↦ until n (adding item) next ] in
      let a = carry_ok (adding item before bytes) f (all, rest) e in
      let b = carry_ok (item before bytes) (λ found. give (added before found)) a.0 a.1 in
      items_step n before all bytes rest b.0.1 b.0.0 b.1 e (λ x h. items_take n (before ++ x ∷ []) all b.0.1 rest h)

  items_again : (n : ℕ) (before xs : List A) (part rest : List ℕ) → length part + length rest < n → Follows D before xs → InOrder (Each rows xs ∷ end) part (length rest)
      → until n (adding item) before (part ++ rest) ≡ Ok (before ++ xs, rest)
  unfolding until adding
  items_again zero before xs part rest lt k h = absurd (omega arith)
  items_again (suc n) before [] part rest lt k h =
      let same : part ≡ h.1 = h.2 ∙ ap (λ (x : List ℕ). x ++ h.1) h.3 in
      let one : item before (part ++ rest) ≡ Ok (None, rest) = (law before).again None tt part rest (subst (λ (x : List ℕ). InOrder end x (length rest)) (sym same) h.4) in
      let value : before ≡ before ++ [] = sym (append-nil before) in
      rw one (ap (λ v. done (v, rest)) value)
  items_again (suc n) before (x ∷ xs) part rest lt k h =
      let each = h.3 in
      let first : List ℕ = each.0 in
      let second : List ℕ = each.1 ++ h.1 in
      let whole : part ≡ first ++ second = h.2 ∙ ap (λ (y : List ℕ). y ++ h.1) each.2 ∙ append_assoc first each.1 h.1 in
      let size : length each.1 + (length h.1 + length rest) ≡ length (second ++ rest) = omega (arith, length-append second rest, length-append each.1 h.1) in
      let row : InOrder (rows x) first (length (second ++ rest)) = subst (λ (m : ℕ). InOrder (rows x) first m) size each.3 in
      let one : item before (first ++ (second ++ rest)) ≡ Ok (Some x, second ++ rest) = (law before).again (Some x) k.0 first (second ++ rest) row in
      let shorter : length second + length rest < n = omega (arith, some x first _ row, ap length whole, length-append first second) in
      let more = items_again n (before ++ x ∷ []) xs second rest shorter k.1 (each.1, h.1, refl, each.4, h.4) in
      let regrouped : part ++ rest ≡ first ++ (second ++ rest) = ap (λ (y : List ℕ). y ++ rest) whole ∙ append_assoc first second rest in
      let stepped : until (suc n) (adding item) before (first ++ (second ++ rest)) ≡ until n (adding item) (before ++ x ∷ []) (second ++ rest) = rw one refl in
      let value : (before ++ x ∷ []) ++ xs ≡ before ++ x ∷ xs = append_assoc before (x ∷ []) xs in
      ap (until (suc n) (adding item) before) regrouped ∙ stepped ∙ more ∙ ap (λ v. done (v, rest)) value

  pub reads_items : Reads (items item) (Follows D []) (λ xs. Each rows xs ∷ end)
  reads_items = record {
    takes = λ bytes y rest e.
        let l = items_take (length bytes + 1) [] y bytes rest e in
        let P = λ (v : List A). Follows D [] v × Takes (Each rows v ∷ end) bytes rest in
        subst P (sym l.all_is) (l.follows, l.takes);
    again = λ y k part rest h. items_again (length (part ++ rest) + 1) [] y part rest (omega (arith, length-append part rest)) k h;
  }
