-- A reader and the rows that it reads: what is read is in the rows, and what is in the rows is read, whatever follows it.
use Rattle.std.proofs.Common.{◌≡◌, ℕ, ◌+◌, ◌≤◌, Bool, true, false, cond, ltb, List, [], ◌∷◌, ◌++◌, length, take, drop, Result, Ok, Err, refl, sym, ap, subst, ◌∙◌, append_assoc, arith}
use Rattle.std.proofs.lemmas.List.{append-nil, length-append, length-take-le, take_at, drop_at, take-append-drop}
use Rattle.std.proofs.lemmas.Bool.{ltb-false, le-ltb}
use Rattle.vs_bytes.specs.Fields.{Big, number_of}
use Rattle.vs_ufile.specs.declared.fault.Fault.{Fault}
use Rattle.vs_ufile.specs.declared.reading.Links.{Links}
use Rattle.vs_ufile.specs.Reading.{◌>>=◌, Read, carry, give, links, number, run}
use Rattle.vs_ufile.specs.Format.{Row, InOrder, IsNumber, Is, links_rows}

-- ---- rows from the front of the bytes

pub record Takes (rows : List Row) (bytes rest : List ℕ) : Type 0 where
  pub part : List ℕ
  pub whole : bytes ≡ part ++ rest
  pub in_order : InOrder rows part (length rest)

takes_none : (bytes : List ℕ) → Takes [] bytes bytes
takes_none bytes = record { part = []; whole = refl; in_order = refl }

pub both_in_order : (Qs Ps : List Row) (a b : List ℕ) (following : ℕ) → InOrder Qs a (length b + following) → InOrder Ps b following → InOrder (Qs ++ Ps) (a ++ b) following
both_in_order [] Ps a b following q p = subst (λ (x : List ℕ). InOrder Ps x following) (sym (ap (λ (x : List ℕ). x ++ b) q)) p
both_in_order (row ∷ Qs) Ps a b following q p =
    let place : length q.1 + (length b + following) ≡ length (q.1 ++ b) + following = omega (arith, length-append {A = ℕ}) in
    (q.0, q.1 ++ b, ap (λ (x : List ℕ). x ++ b) q.2 ∙ append_assoc q.0 q.1 b, subst (λ (n : ℕ). row q.0 n) place q.3, both_in_order Qs Ps q.1 b following q.4 p)

pub takes_both : (Qs Ps : List Row) (bytes mid rest : List ℕ) → Takes Qs bytes mid → Takes Ps mid rest → Takes (Qs ++ Ps) bytes rest
takes_both Qs Ps bytes mid rest a b =
    let place : length mid ≡ length b.part + length rest = ap length b.whole ∙ length-append b.part rest in
    record {
      part = a.part ++ b.part;
      whole = a.whole ∙ ap (λ (x : List ℕ). a.part ++ x) b.whole ∙ sym (append_assoc a.part b.part rest);
      in_order = both_in_order Qs Ps a.part b.part (length rest) (subst (λ (n : ℕ). InOrder Qs a.part n) place a.in_order) b.in_order;
    }

pub record Splits (Qs Ps : List Row) (bytes : List ℕ) (following : ℕ) : Type 0 where
  pub first : List ℕ
  pub second : List ℕ
  pub whole : bytes ≡ first ++ second
  pub first_is : InOrder Qs first (length second + following)
  pub second_is : InOrder Ps second following

pub splits : (Qs Ps : List Row) (bytes : List ℕ) (following : ℕ) → InOrder (Qs ++ Ps) bytes following → Splits Qs Ps bytes following
splits [] Ps bytes following h = record { first = []; second = bytes; whole = refl; first_is = refl; second_is = h }
splits (row ∷ Qs) Ps bytes following h =
    let s = splits Qs Ps h.1 following h.4 in
    let place : length h.1 + following ≡ length s.first + (length s.second + following) = omega (arith, s.whole, ap length s.whole, length-append s.first s.second) in
    record {
      first = h.0 ++ s.first;
      second = s.second;
      whole = h.2 ∙ ap (λ (x : List ℕ). h.0 ++ x) s.whole ∙ sym (append_assoc h.0 s.first s.second);
      first_is = (h.0, s.first, refl, subst (λ (n : ℕ). row h.0 n) place h.3, s.first_is);
      second_is = s.second_is;
    }

-- ---- readers

pub record Reads {Y : Type 0} (r : Read Y) (C : Y → Type 0) (rows : Y → List Row) : Type 0 where
  pub takes : (bytes : List ℕ) (y : Y) (rest : List ℕ) → r bytes ≡ Ok (y, rest) → C y × Takes (rows y) bytes rest
  pub again : (y : Y) → C y → (part rest : List ℕ) → InOrder (rows y) part (length rest) → r (part ++ rest) ≡ Ok (y, rest)

abbrev pub Always : {Y : Type 0} → Y → Type 0
Always y = Unit {0}

pub carry_ok : {A B : Type 0} (r : Result (A × List ℕ) Fault) (f : A → Read B) (y : B × List ℕ) → carry r f ≡ Ok y → (x : A × List ℕ) × (r ≡ Ok x) × (f x.0 x.1 ≡ Ok y)
carry_ok (Ok x) f y e = (x, refl, e)
carry_ok (Err d) f y e = absurd cc

abbrev pub done : {A : Type 0} → A → Result A Fault
done x = Ok x

pub ok_is : {A : Type 0} (x y : A) → done x ≡ done y → x ≡ y
ok_is x y e = cc

pub reads_give : {Y : Type 0} (v : Y) (C : Y → Type 0) → C v → ((y : Y) → C y → v ≡ y) → Reads (give v) C (λ _. [])
reads_give v C now only = record {
  takes = λ bytes y rest e.
      let p : (v, bytes) ≡ (y, rest) = ok_is (v, bytes) (y, rest) e in
      let P = λ (x : _ × List ℕ). C x.0 × Takes [] bytes x.1 in
      subst P p (now, takes_none bytes);
  again = λ y k part rest h. ap (λ (x : List ℕ). done (v, x ++ rest)) h ∙ ap (λ x. done (x, rest)) (only y k);
}

pub reads_field : {A Y : Type 0} (r : Read A) (f : A → Read Y) (get : Y → A) (C : Y → Type 0) (Qs : A → List Row) (Ps : Y → List Row)
    → Reads r Always Qs → ((x : A) → Reads (f x) (λ y. (get y ≡ x) × C y) Ps) → Reads (r >>= f) C (λ y. Qs (get y) ++ Ps y)
reads_field r f get C Qs Ps first next = record {
  takes = λ bytes y rest e.
      let a = carry_ok (r bytes) f (y, rest) e in
      let head = first.takes bytes a.0.0 a.0.1 a.1 in
      let tail = (next a.0.0).takes a.0.1 y rest a.2 in
      let same : Takes (Qs (get y)) bytes a.0.1 = subst (λ x. Takes (Qs x) bytes a.0.1) (sym tail.0.0) head.1 in
      (tail.0.1, takes_both (Qs (get y)) (Ps y) bytes a.0.1 rest same tail.1);
  again = λ y k part rest h.
      let s = splits (Qs (get y)) (Ps y) part (length rest) h in
      let place : length s.second + length rest ≡ length (s.second ++ rest) = sym (length-append s.second rest) in
      let regrouped : part ++ rest ≡ s.first ++ (s.second ++ rest) = ap (λ (x : List ℕ). x ++ rest) s.whole ∙ append_assoc s.first s.second rest in
      ap (r >>= f) regrouped ∙ ap (λ q. carry q f) (first.again (get y) tt s.first (s.second ++ rest) (subst (λ (n : ℕ). InOrder (Qs (get y)) s.first n) place s.first_is))
      ∙ (next (get y)).again y (refl, k) s.second rest s.second_is;
}

-- a part whose value is not kept
pub reads_skip : {A Y : Type 0} (r : Read A) (f : A → Read Y) (C : Y → Type 0) (Qs : A → List Row) (Rs : List Row) (Ps : Y → List Row)
    → Reads r Always Qs
    → ((x : A) (part : List ℕ) (following : ℕ) → InOrder (Qs x) part following → InOrder Rs part following)
    → ((part : List ℕ) (following : ℕ) → InOrder Rs part following → (x : A) × InOrder (Qs x) part following)
    → ((x : A) → Reads (f x) C Ps) → Reads (r >>= f) C (λ y. Rs ++ Ps y)
reads_skip r f C Qs Rs Ps first to from next = record {
  takes = λ bytes y rest e.
      let a = carry_ok (r bytes) f (y, rest) e in
      let head = (first.takes bytes a.0.0 a.0.1 a.1).1 in
      let tail = (next a.0.0).takes a.0.1 y rest a.2 in
      let same : Takes Rs bytes a.0.1 = record { part = head.part; whole = head.whole; in_order = to a.0.0 head.part (length a.0.1) head.in_order } in
      (tail.0, takes_both Rs (Ps y) bytes a.0.1 rest same tail.1);
  again = λ y k part rest h.
      let s = splits Rs (Ps y) part (length rest) h in
      let place : length s.second + length rest ≡ length (s.second ++ rest) = sym (length-append s.second rest) in
      let regrouped : part ++ rest ≡ s.first ++ (s.second ++ rest) = ap (λ (x : List ℕ). x ++ rest) s.whole ∙ append_assoc s.first s.second rest in
      let x = from s.first (length (s.second ++ rest)) (subst (λ (n : ℕ). InOrder Rs s.first n) place s.first_is) in
      ap (r >>= f) regrouped ∙ ap (λ q. carry q f) (first.again x.0 tt s.first (s.second ++ rest) x.1)
      ∙ (next x.0).again y k s.second rest s.second_is;
}

-- ---- numbers and runs

-- the one row of the part
pub one_row : (row : Row) (part : List ℕ) (following : ℕ) → row part following → InOrder (row ∷ []) part following
one_row row part following h =
    let none : List ℕ = [] in
    let place : following ≡ length none + following = omega arith in
    (part, [], sym (append-nil part), subst (λ (n : ℕ). row part n) place h, refl)

pub row_one : (row : Row) (part : List ℕ) (following : ℕ) → InOrder (row ∷ []) part following → row part following
row_one row part following h =
    let whole : part ≡ h.0 = h.2 ∙ ap (λ (x : List ℕ). h.0 ++ x) h.4 ∙ append-nil h.0 in
    let none : length h.1 ≡ 0 = ap length h.4 in
    let at_end : length h.1 + following ≡ following = omega (arith, none) in
    let here : row h.0 following = subst (λ (n : ℕ). row h.0 n) at_end h.3 in
    subst (λ (x : List ℕ). row x following) (sym whole) here

guard_ok : {A : Type 0} (b : Bool) (d : Fault) (x y : A) → cond b (Err d) (Ok x) ≡ Ok y → (b ≡ false) × (x ≡ y)
guard_ok true d x y e = absurd cc
guard_ok false d x y e = (refl, cc)

pub reads_number : (width : ℕ) → Reads (number width) Always (λ n. IsNumber width n ∷ [])
reads_number width = record {
  takes = λ bytes n rest e.
      let g = guard_ok (ltb (length bytes) width) _ (number_of Big width (take width bytes), drop width bytes) (n, rest) e in
      let long : width ≤ length bytes = ltb-false _ _ g.0 in
      let wide : length (take width bytes) ≡ width = length-take-le width bytes long in
      let P = λ (x : ℕ × List ℕ). Always n × Takes (IsNumber width x.0 ∷ []) bytes x.1 in
      let now : Takes (IsNumber width (number_of Big width (take width bytes)) ∷ []) bytes (drop width bytes) =
      record { part = take width bytes; whole = sym (take-append-drop width bytes); in_order = one_row (IsNumber width (number_of Big width (take width bytes))) (take width bytes) (length (drop width bytes)) (record { wide = wide; value = refl }) } in
      subst P g.1 (tt, now);
  again = λ n k part rest h.
      let row = row_one (IsNumber width n) part (length rest) h in
      let long : ltb (length (part ++ rest)) width ≡ false = le-ltb _ _ (omega (arith, row.wide, length-append part rest)) in
      rw (long, take_at part rest width row.wide, drop_at part rest width row.wide, row.value) refl;
}

pub reads_run : (size : ℕ) → Reads (run size) (λ x. length x ≡ size) (λ x. Is x ∷ [])
reads_run size = record {
  takes = λ bytes n rest e.
      let g = guard_ok (ltb (length bytes) size) _ (take size bytes, drop size bytes) (n, rest) e in
      let long : size ≤ length bytes = ltb-false _ _ g.0 in
      let P = λ (x : List ℕ × List ℕ). (length x.0 ≡ size) × Takes (Is x.0 ∷ []) bytes x.1 in
      let now : Takes (Is (take size bytes) ∷ []) bytes (drop size bytes) =
      record { part = take size bytes; whole = sym (take-append-drop size bytes); in_order = one_row (Is (take size bytes)) (take size bytes) (length (drop size bytes)) (record { same = refl }) } in
      subst P g.1 (length-take-le size bytes long, now);
  again = λ n k part rest h.
      let row = row_one (Is n) part (length rest) h in
      let wide : length part ≡ size = ap length row.same ∙ k in
      let long : ltb (length (part ++ rest)) size ≡ false = le-ltb _ _ (omega (arith, wide, length-append part rest)) in
      rw (long, take_at part rest size wide, drop_at part rest size wide, row.same) refl;
}

-- ---- links

pub reads_links : Reads links Always links_rows
unfolding links
reads_links =
    reads_field (number 4) _ (λ (y : Links). y.next) Always (λ n. IsNumber 4 n ∷ []) _ (reads_number 4) (λ next.
    reads_field (number 4) _ (λ (y : Links). y.prev) _ (λ n. IsNumber 4 n ∷ []) _ (reads_number 4) (λ prev.
    reads_field (number 4) _ (λ (y : Links). y.alt_next) _ (λ n. IsNumber 4 n ∷ []) _ (reads_number 4) (λ alt_next.
    reads_field (number 4) _ (λ (y : Links). y.alt_prev) _ (λ n. IsNumber 4 n ∷ []) _ (reads_number 4) (λ alt_prev.
    reads_give _ _ (refl, (refl, (refl, (refl, tt)))) (λ y k. rw (← k.0, ← k.1.0, ← k.1.1.0, ← k.1.1.1.0) refl)))))
