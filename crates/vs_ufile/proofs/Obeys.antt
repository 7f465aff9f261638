-- A reader obeys a part of the format: what it takes is the part's bytes, and it refuses as the part does.
use Rattle.std.proofs.Common.{◌≡◌, ℕ, zero, suc, ◌+◌, ◌<◌, ◌⊎◌, inl, inr, Bool, true, false, cond, ltb, List, [], ◌∷◌, ◌++◌, length, take, drop, map, Option, Some, None, Result, Ok, Err, refl, sym, ap, subst, ◌∙◌, append_assoc, arith}
use Rattle.std.proofs.lemmas.List.{append-nil, length-append}
use Rattle.std.proofs.lemmas.Bool.{lt-ltb, ltb-true}
use Rattle.vs_bytes.specs.Fields.{Big, number_of}
use Rattle.vs_ufile.specs.declared.error.UfKind.{UfKind}
use Rattle.vs_ufile.specs.declared.error.UfKind.TheVariants.{Truncated}
use Rattle.vs_ufile.specs.declared.fault.Fault.{Fault}
use Rattle.vs_ufile.specs.Reading.{◌>>=◌, Read, added, adding, allowed, carry, checked, give, items, number, run, until}
use Rattle.vs_ufile.specs.Format.{Row, InOrder, Each, Follows, Any, Is, IsNumber}
use Rattle.vs_ufile.specs.Refusals.{IsCut, IsOfKind, Part, Past, RefusedAtOne, all_of, allowed_number, field, holding, some_of, up_to}
use Rattle.vs_ufile.proofs.Laws.{Reads, Takes, carry_ok, done, ok_is, one_row, row_one, reads_number, reads_run}
use Rattle.vs_ufile.proofs.Parts.{IfIs, end_or, reads_checked, reads_items}

-- ---- bytes of a row, and then the rest

pub record Front (row : Row) (bytes rest : List ℕ) : Type 0 where
  pub part : List ℕ
  pub whole : bytes ≡ part ++ rest
  pub is : row part (length rest)

pub front_of : (row : Row) (bytes rest : List ℕ) → Takes (row ∷ []) bytes rest → Front row bytes rest
front_of row bytes rest t = record { part = t.part; whole = t.whole; is = row_one row t.part (length rest) t.in_order }

front_none : (bytes : List ℕ) → Front (InOrder []) bytes bytes
front_none bytes = record { part = []; whole = refl; is = refl }

pub front_more : (row : Row) (rows : List Row) (bytes mid rest : List ℕ) → Front row bytes mid → Front (InOrder rows) mid rest → Front (InOrder (row ∷ rows)) bytes rest
front_more row rows bytes mid rest a b =
    let place : length mid ≡ length b.part + length rest = ap length b.whole ∙ length-append b.part rest in
    record {
      part = a.part ++ b.part;
      whole = a.whole ∙ ap (λ (x : List ℕ). a.part ++ x) b.whole ∙ sym (append_assoc a.part b.part rest);
      is = (a.part, b.part, refl, subst (λ (n : ℕ). row a.part n) place a.is, b.is);
    }

pub front_as : (row other : Row) (bytes rest : List ℕ) → ((part : List ℕ) (following : ℕ) → row part following → other part following) → Front row bytes rest → Front other bytes rest
front_as row other bytes rest to f = record { part = f.part; whole = f.whole; is = to f.part (length rest) f.is }

pub past_of : (row : Row) (holds : List ℕ → Type 0) (bytes rest : List ℕ) → Front row bytes rest → holds rest → Past row holds bytes
past_of row holds bytes rest f h = (f.part, rest, f.whole, f.is, h)

pub front_past : (row : Row) (holds : List ℕ → Type 0) (bytes : List ℕ) → (p : Past row holds bytes) → Front row bytes p.1
front_past row holds bytes p = record { part = p.0; whole = p.2; is = p.3 }

-- bytes of rows, up to the end of the first and from there on
pub record Halves (row : Row) (rows : List Row) (bytes rest : List ℕ) : Type 0 where
  pub mid : List ℕ
  pub first : Front row bytes mid
  pub second : Front (InOrder rows) mid rest

pub halves : (row : Row) (rows : List Row) (bytes rest : List ℕ) → Front (InOrder (row ∷ rows)) bytes rest → Halves row rows bytes rest
halves row rows bytes rest f =
    let h = f.is in
    let place : length h.1 + length rest ≡ length (h.1 ++ rest) = sym (length-append h.1 rest) in
    record {
      mid = h.1 ++ rest;
      first = record {
        part = h.0;
        whole = f.whole ∙ ap (λ (x : List ℕ). x ++ rest) h.2 ∙ append_assoc h.0 h.1 rest;
        is = subst (λ (n : ℕ). row h.0 n) place h.3;
      };
      second = record { part = h.1; whole = refl; is = h.4 };
    }

-- an item, and those after it
pub record Next {A : Type 0} (rows : A → List Row) (x : A) (xs : List A) (holds : List ℕ → Type 0) (bytes : List ℕ) : Type 0 where
  pub mid : List ℕ
  pub first : Front (InOrder (rows x)) bytes mid
  pub later : Past (Each rows xs) holds mid

pub past_next : {A : Type 0} (rows : A → List Row) (x : A) (xs : List A) (holds : List ℕ → Type 0) (bytes : List ℕ) → Past (Each rows (x ∷ xs)) holds bytes → Next rows x xs holds bytes
past_next rows x xs holds bytes p =
    let h = p.3 in
    let place : length h.1 + length p.1 ≡ length (h.1 ++ p.1) = sym (length-append h.1 p.1) in
    record {
      mid = h.1 ++ p.1;
      first = record {
        part = h.0;
        whole = p.2 ∙ ap (λ (y : List ℕ). y ++ p.1) h.2 ∙ append_assoc h.0 h.1 p.1;
        is = subst (λ (n : ℕ). InOrder (rows x) h.0 n) place h.3;
      };
      later = (h.1, p.1, refl, h.4, p.4);
    }

-- no item
pub past_none : {A : Type 0} (rows : A → List Row) (holds : List ℕ → Type 0) (bytes : List ℕ) → Past (Each rows []) holds bytes → holds bytes
past_none rows holds bytes p =
    let same : bytes ≡ p.1 = p.2 ∙ ap (λ (y : List ℕ). y ++ p.1) p.3 in
    subst holds (sym same) p.4

pub past_more : {A : Type 0} (rows : A → List Row) (x : A) (xs : List A) (holds : List ℕ → Type 0) (bytes mid : List ℕ) → Takes (rows x) bytes mid → Past (Each rows xs) holds mid
    → Past (Each rows (x ∷ xs)) holds bytes
past_more rows x xs holds bytes mid t p =
    let place : length mid ≡ length p.0 + length p.1 = ap length p.2 ∙ length-append p.0 p.1 in (
      t.part ++ p.0,
      p.1,
      t.whole ∙ ap (λ (y : List ℕ). t.part ++ y) p.2 ∙ sym (append_assoc t.part p.0 p.1),
      (t.part, p.0, refl, subst (λ (n : ℕ). InOrder (rows x) t.part n) place t.in_order, p.3),
      p.4,
    )

-- ---- readers

pub record Obeys {A : Type 0} (r : Read A) (p : Part) : Type 0 where
  pub takes : (bytes : List ℕ) (x : A) (rest : List ℕ) → r bytes ≡ Ok (x, rest) → Front p.row bytes rest
  pub refuses : (bytes : List ℕ) (fault : Fault) → r bytes ≡ Err fault → p.refusal bytes fault
  pub reads : (bytes rest : List ℕ) → Front p.row bytes rest → (x : A) × (r bytes ≡ Ok (x, rest))
  pub faults : (bytes : List ℕ) (fault : Fault) → p.refusal bytes fault → r bytes ≡ Err fault

-- the same of parts one after the other
pub record ObeysAll {A : Type 0} (r : Read A) (ps : List Part) : Type 0 where
  pub takes : (bytes : List ℕ) (x : A) (rest : List ℕ) → r bytes ≡ Ok (x, rest) → Front (all_of ps).row bytes rest
  pub refuses : (bytes : List ℕ) (fault : Fault) → r bytes ≡ Err fault → RefusedAtOne ps bytes fault
  pub reads : (bytes rest : List ℕ) → Front (all_of ps).row bytes rest → (x : A) × (r bytes ≡ Ok (x, rest))
  pub faults : (bytes : List ℕ) (fault : Fault) → RefusedAtOne ps bytes fault → r bytes ≡ Err fault

-- the same of the part for what is read
pub record ObeysSome {A B : Type 0} (r : Read A) (get : A → B) (p : B → Part) : Type 0 where
  pub takes : (bytes : List ℕ) (x : A) (rest : List ℕ) → r bytes ≡ Ok (x, rest) → Front (p (get x)).row bytes rest
  pub refuses : (bytes : List ℕ) (fault : Fault) → r bytes ≡ Err fault → (b : B) × (p b).refusal bytes fault
  pub reads : (b : B) (bytes rest : List ℕ) → Front (p b).row bytes rest → (x : A) × (get x ≡ b) × (r bytes ≡ Ok (x, rest))
  pub faults : (b : B) (bytes : List ℕ) (fault : Fault) → (p b).refusal bytes fault → r bytes ≡ Err fault

pub obeys_all : {A : Type 0} (r : Read A) (ps : List Part) → ObeysAll r ps → Obeys r (all_of ps)
obeys_all r ps law = record { takes = law.takes; refuses = law.refuses; reads = law.reads; faults = law.faults }

pub carry_err : {A B : Type 0} (q : Result (A × List ℕ) Fault) (f : A → Read B) (fault : Fault) → carry q f ≡ Err fault
    → (q ≡ Err fault) ⊎ ((x : A × List ℕ) × (q ≡ Ok x) × (f x.0 x.1 ≡ Err fault))
carry_err (Ok x) f fault e = inr (x, refl, e)
carry_err (Err d) f fault e = inl cc

pub obeys_end : {Y : Type 0} (y : Y) → ObeysAll (give y) []
obeys_end y = record {
  takes = λ bytes x rest e.
      let p : (y, bytes) ≡ (x, rest) = ok_is (y, bytes) (x, rest) e in
      subst (λ (v : _ × List ℕ). Front (InOrder []) bytes v.1) p (front_none bytes);
  refuses = λ bytes fault e. absurd cc;
  reads = λ bytes rest f. (y, ap (λ (v : List ℕ). done (y, v)) (f.whole ∙ ap (λ (v : List ℕ). v ++ rest) f.is));
  faults = λ bytes fault h. absurd h;
}

pub obeys_then : {A Y : Type 0} (r : Read A) (f : A → Read Y) (p : Part) (ps : List Part) → Obeys r p → ((x : A) → ObeysAll (f x) ps) → ObeysAll (r >>= f) (p ∷ ps)
obeys_then r f p ps first next = record {
  takes = λ bytes y rest e.
      let a = carry_ok (r bytes) f (y, rest) e in
      front_more p.row (map (λ q. q.row) ps) bytes a.0.1 rest (first.takes bytes a.0.0 a.0.1 a.1) ((next a.0.0).takes a.0.1 y rest a.2);
  refuses = λ bytes fault e. elim (carry_err (r bytes) f fault e) [
    | inl now ↦ inl (first.refuses bytes fault now)
    | inr w ↦ inr (past_of p.row (λ rest. RefusedAtOne ps rest fault) bytes w.0.1 (first.takes bytes w.0.0 w.0.1 w.1) ((next w.0.0).refuses w.0.1 fault w.2))
  ];
  reads = λ bytes rest t.
      let h = halves p.row (map (λ q. q.row) ps) bytes rest t in
      let x = first.reads bytes h.mid h.first in
      let y = (next x.0).reads h.mid rest h.second in
      (y.0, ap (λ q. carry q f) x.1 ∙ y.1);
  faults = λ bytes fault h. elim h [
    | inl now ↦ ap (λ q. carry q f) (first.faults bytes fault now)
    | inr w ↦
        let x = first.reads bytes w.1 (front_past p.row (λ rest. RefusedAtOne ps rest fault) bytes w) in
        ap (λ q. carry q f) x.1 ∙ (next x.0).faults w.1 fault w.4
  ];
}

-- a part whose value the parts after it depend on
pub obeys_some : {A B Y : Type 0} (r : Read A) (f : A → Read Y) (get : A → B) (p : B → Part) (ps : B → List Part) → ObeysSome r get p
    → ((x : A) → ObeysAll (f x) (ps (get x))) → Obeys (r >>= f) (some_of (λ b. all_of (p b ∷ ps b)))
obeys_some r f get p ps first next = record {
  takes = λ bytes y rest e.
      let a = carry_ok (r bytes) f (y, rest) e in
      let b = get a.0.0 in
      let all = front_more (p b).row (map (λ q. q.row) (ps b)) bytes a.0.1 rest (first.takes bytes a.0.0 a.0.1 a.1) ((next a.0.0).takes a.0.1 y rest a.2) in
      record { part = all.part; whole = all.whole; is = (b, all.is) };
  refuses = λ bytes fault e. elim (carry_err (r bytes) f fault e) [
    | inl now ↦ let w = first.refuses bytes fault now in (w.0, inl w.1)
    | inr w ↦
        let b = get w.0.0 in
        (b, inr (past_of (p b).row (λ rest. RefusedAtOne (ps b) rest fault) bytes w.0.1 (first.takes bytes w.0.0 w.0.1 w.1) ((next w.0.0).refuses w.0.1 fault w.2)))
  ];
  reads = λ bytes rest t.
      let b = t.is.0 in
      let h = halves (p b).row (map (λ q. q.row) (ps b)) bytes rest (record { part = t.part; whole = t.whole; is = t.is.1 }) in
      let x = first.reads b bytes h.mid h.first in
      let law : ObeysAll (f x.0) (ps b) = subst (λ c. ObeysAll (f x.0) (ps c)) x.1 (next x.0) in
      let y = law.reads h.mid rest h.second in
      (y.0, ap (λ q. carry q f) x.2 ∙ y.1);
  faults = λ bytes fault h. elim h.1 [
    | inl now ↦ ap (λ q. carry q f) (first.faults h.0 bytes fault now)
    | inr w ↦
        let x = first.reads h.0 bytes w.1 (front_past (p h.0).row (λ rest. RefusedAtOne (ps h.0) rest fault) bytes w) in
        let law : ObeysAll (f x.0) (ps h.0) = subst (λ c. ObeysAll (f x.0) (ps c)) x.1 (next x.0) in
        ap (λ q. carry q f) x.2 ∙ law.faults w.1 fault w.4
  ];
}

-- a part before parts that are those for some value
pub refused_past : {A B Y : Type 0} (r : Read A) (f : A → Read Y) (p : Part) (ps : B → List Part) (b : B) → Obeys r p
    → ((x : A) (mid : List ℕ) (fault : Fault) → f x mid ≡ Err fault → (b : B) × RefusedAtOne (ps b) mid fault)
    → (bytes : List ℕ) (fault : Fault) → (r >>= f) bytes ≡ Err fault → (b : B) × RefusedAtOne (p ∷ ps b) bytes fault
refused_past r f p ps b first next bytes fault e = elim (carry_err (r bytes) f fault e) [
  | inl now ↦ (b, inl (first.refuses bytes fault now))
  | inr w ↦
      let more = next w.0.0 w.0.1 fault w.2 in
      (more.0, inr (past_of p.row (λ rest. RefusedAtOne (ps more.0) rest fault) bytes w.0.1 (first.takes bytes w.0.0 w.0.1 w.1) more.1))
]

pub fault_past : {A Y : Type 0} (r : Read A) (f : A → Read Y) (p : Part) (ps : List Part) → Obeys r p → ((x : A) (mid : List ℕ) (fault : Fault) → RefusedAtOne ps mid fault → f x mid ≡ Err fault)
    → (bytes : List ℕ) (fault : Fault) → RefusedAtOne (p ∷ ps) bytes fault → (r >>= f) bytes ≡ Err fault
fault_past r f p ps first next bytes fault (inl now) = ap (λ q. carry q f) (first.faults bytes fault now)
fault_past r f p ps first next bytes fault (inr w) =
    let x = first.reads bytes w.1 (front_past p.row (λ rest. RefusedAtOne ps rest fault) bytes w) in
    ap (λ q. carry q f) x.1 ∙ next x.0 w.1 fault w.4

-- a reader that does the same
pub obeys_as : {A : Type 0} (r q : Read A) (ps : List Part) → ((bytes : List ℕ) → q bytes ≡ r bytes) → ObeysAll r ps → ObeysAll q ps
obeys_as r q ps same law = record {
  takes = λ bytes x rest e. law.takes bytes x rest (sym (same bytes) ∙ e);
  refuses = λ bytes fault e. law.refuses bytes fault (sym (same bytes) ∙ e);
  reads = λ bytes rest t. let x = law.reads bytes rest t in (x.0, same bytes ∙ x.1);
  faults = λ bytes fault h. same bytes ∙ law.faults bytes fault h;
}

pub obeys_map : {A Y : Type 0} (r : Read A) (g : A → Y) (p : Part) → Obeys r p → Obeys (r >>= λ x. give (g x)) p
obeys_map r g p law = record {
  takes = λ bytes y rest e.
      let a = carry_ok (r bytes) (λ x. give (g x)) (y, rest) e in
      let q : (g a.0.0, a.0.1) ≡ (y, rest) = ok_is (g a.0.0, a.0.1) (y, rest) a.2 in
      subst (λ (v : _ × List ℕ). Front p.row bytes v.1) q (law.takes bytes a.0.0 a.0.1 a.1);
  refuses = λ bytes fault e. elim (carry_err (r bytes) (λ x. give (g x)) fault e) [ inl now ↦ law.refuses bytes fault now | inr w ↦ absurd cc ];
  reads = λ bytes rest t. let x = law.reads bytes rest t in (g x.0, ap (λ q. carry q (λ v. give (g v))) x.1);
  faults = λ bytes fault h. ap (λ q. carry q (λ v. give (g v))) (law.faults bytes fault h);
}

pub obeys_last : {A : Type 0} (r : Read A) (p : Part) → Obeys r p → ObeysAll r (p ∷ [])
obeys_last r p law = record {
  takes = λ bytes x rest e. front_as p.row (InOrder (p.row ∷ [])) bytes rest (λ part following h. one_row p.row part following h) (law.takes bytes x rest e);
  refuses = λ bytes fault e. inl (law.refuses bytes fault e);
  reads = λ bytes rest t. law.reads bytes rest (front_as (InOrder (p.row ∷ [])) p.row bytes rest (λ part following h. row_one p.row part following h) t);
  faults = λ bytes fault h. elim h [ inl now ↦ law.faults bytes fault now | inr w ↦ absurd w.4 ];
}

-- ---- fields

guard_err : {A : Type 0} (b : Bool) (d : Fault) (x : A) (fault : Fault) → cond b (Err d) (done x) ≡ Err fault → (b ≡ true) × (fault ≡ d)
guard_err true d x fault e = (refl, cc)
guard_err false d x fault e = absurd cc

cut_by : {A : Type 0} (width : ℕ) (bytes : List ℕ) (x : A) (fault : Fault)
    → cond (ltb (length bytes) width) (Err (record { kind = Truncated; left = length bytes; found = 0 })) (done x) ≡ Err fault → IsCut width bytes fault
cut_by width bytes x fault e =
    let g = guard_err (ltb (length bytes) width) (record { kind = Truncated; left = length bytes; found = 0 }) x fault e in
    record { short = ltb-true (length bytes) width g.0; is = g.1 }

cut_fault : {A : Type 0} (width : ℕ) (bytes : List ℕ) (x : A) (fault : Fault) → IsCut width bytes fault
    → cond (ltb (length bytes) width) (Err (record { kind = Truncated; left = length bytes; found = 0 })) (done x) ≡ Err fault
cut_fault width bytes x fault h =
    ap (λ b. cond b (Err (record { kind = Truncated; left = length bytes; found = 0 })) (done x)) (lt-ltb (length bytes) width h.short) ∙ ap Err (sym h.is)

pub number_fault : (width : ℕ) (bytes : List ℕ) (fault : Fault) → IsCut width bytes fault → number width bytes ≡ Err fault
number_fault width bytes fault h = cut_fault width bytes (number_of Big width (take width bytes), drop width bytes) fault h

pub number_cut : (width : ℕ) (bytes : List ℕ) (fault : Fault) → number width bytes ≡ Err fault → IsCut width bytes fault
number_cut width bytes fault e = cut_by width bytes (number_of Big width (take width bytes), drop width bytes) fault e

pub number_takes : (width : ℕ) (bytes : List ℕ) (n : ℕ) (rest : List ℕ) → number width bytes ≡ Ok (n, rest) → Front (IsNumber width n) bytes rest
number_takes width bytes n rest e = front_of (IsNumber width n) bytes rest ((reads_number width).takes bytes n rest e).1

pub number_reads : (width n : ℕ) (bytes rest : List ℕ) → Front (IsNumber width n) bytes rest → number width bytes ≡ Ok (n, rest)
number_reads width n bytes rest f = ap (number width) f.whole ∙ (reads_number width).again n tt f.part rest (one_row (IsNumber width n) f.part (length rest) f.is)

-- a number that the parts after it depend on
pub some_number : (width : ℕ) → ObeysSome (number width) (λ n. n) (λ n. holding width n)
some_number width = record {
  takes = number_takes width;
  refuses = λ bytes fault e. (0, number_cut width bytes fault e);
  reads = λ n bytes rest f. (n, refl, number_reads width n bytes rest f);
  faults = λ n bytes fault h. number_fault width bytes fault h;
}

pub obeys_number : (width : ℕ) → Obeys (number width) (field width)
obeys_number width = record {
  takes = λ bytes n rest e. front_as (IsNumber width n) (Any width) bytes rest (λ part following h. record { wide = h.wide }) (number_takes width bytes n rest e);
  refuses = λ bytes fault e. number_cut width bytes fault e;
  reads = λ bytes rest f.
      let n = number_of Big width f.part in
      (n, number_reads width n bytes rest (record { part = f.part; whole = f.whole; is = record { wide = f.is.wide; value = refl } }));
  faults = λ bytes fault h. number_fault width bytes fault h;
}

pub obeys_run : (size : ℕ) → Obeys (run size) (field size)
obeys_run size = record {
  takes = λ bytes x rest e.
      let t = (reads_run size).takes bytes x rest e in
      front_as (Is x) (Any size) bytes rest (λ part following h. record { wide = ap length h.same ∙ t.0 }) (front_of (Is x) bytes rest t.1);
  refuses = λ bytes fault e. cut_by size bytes (take size bytes, drop size bytes) fault e;
  reads = λ bytes rest f.
      (f.part, ap (run size) f.whole ∙ (reads_run size).again f.part f.is.wide f.part rest (one_row (Is f.part) f.part (length rest) (record { same = refl })));
  faults = λ bytes fault h. cut_fault size bytes (take size bytes, drop size bytes) fault h;
}

allowed_err : (left n : ℕ) (o : Option UfKind) (rest : List ℕ) (fault : Fault) → allowed left n o rest ≡ Err fault → (fault.left ≡ left) × (fault.found ≡ n) × (o ≡ Some fault.kind)
allowed_err left n None rest fault e = absurd cc
allowed_err left n (Some kind) rest fault e =
    let same : record { kind = kind; left = left; found = n } ≡ fault = cc in
    (ap (λ (f : Fault). f.left) (sym same), ap (λ (f : Fault). f.found) (sym same), ap (λ (f : Fault). Some f.kind) same)

pub checked_refuses : (width : ℕ) (kind_of : ℕ → Option UfKind) (bytes : List ℕ) (fault : Fault) → checked width kind_of bytes ≡ Err fault
    → IsCut width bytes fault ⊎ IsOfKind width kind_of bytes fault
checked_refuses width kind_of bytes fault e = elim (carry_err (number width bytes) (λ n. allowed (length bytes) n (kind_of n)) fault e) [
  | inl now ↦ inl (number_cut width bytes fault now)
  | inr w ↦
      let a = allowed_err (length bytes) w.0.0 (kind_of w.0.0) w.0.1 fault w.2 in
      let there : Front (IsNumber width fault.found) bytes w.0.1 = subst (λ (n : ℕ). Front (IsNumber width n) bytes w.0.1) (sym a.1) (number_takes width bytes w.0.0 w.0.1 w.1) in
      inr (record { here = a.0; found = past_of (IsNumber width fault.found) (λ _. Unit {0}) bytes w.0.1 there tt; kind = ap kind_of a.1 ∙ a.2 })
]

pub checked_reads : (width : ℕ) (kind_of : ℕ → Option UfKind) (n : ℕ) → kind_of n ≡ None → (bytes rest : List ℕ) → Front (IsNumber width n) bytes rest → checked width kind_of bytes ≡ Ok (n, rest)
checked_reads width kind_of n k bytes rest f =
    ap (checked width kind_of) f.whole ∙ (reads_checked width kind_of).again n k f.part rest (one_row (IsNumber width n) f.part (length rest) f.is)

pub checked_faults : (width : ℕ) (kind_of : ℕ → Option UfKind) (bytes : List ℕ) (fault : Fault) → IsCut width bytes fault ⊎ IsOfKind width kind_of bytes fault
    → checked width kind_of bytes ≡ Err fault
checked_faults width kind_of bytes fault (inl cut) = ap (λ q. carry q (λ n. allowed (length bytes) n (kind_of n))) (number_fault width bytes fault cut)
checked_faults width kind_of bytes fault (inr h) =
    let there = front_past (IsNumber width fault.found) (λ _. Unit {0}) bytes h.found in
    ap (λ q. carry q (λ n. allowed (length bytes) n (kind_of n))) (number_reads width fault.found bytes h.found.1 there)
    ∙ ap (λ o. allowed (length bytes) fault.found o h.found.1) h.kind
    ∙ ap (λ left. Err (record { kind = fault.kind; left = left; found = fault.found })) (sym h.here)

pub obeys_checked : (width : ℕ) (kind_of : ℕ → Option UfKind) → Obeys (checked width kind_of) (allowed_number width kind_of)
obeys_checked width kind_of = record {
  takes = λ bytes n rest e.
      let t = (reads_checked width kind_of).takes bytes n rest e in
      front_as (IsNumber width n) (allowed_number width kind_of).row bytes rest (λ part following h. (n, t.0, h)) (front_of (IsNumber width n) bytes rest t.1);
  refuses = λ bytes fault e. checked_refuses width kind_of bytes fault e;
  reads = λ bytes rest f. (f.is.0, checked_reads width kind_of f.is.0 f.is.1 bytes rest (record { part = f.part; whole = f.whole; is = f.is.2 }));
  faults = λ bytes fault h. checked_faults width kind_of bytes fault h;
}

-- ---- items up to an end

module _ {A : Type 0} (item : List A → Read (Option A)) (D : List A → A → Type 0) (rows : A → List Row) (end : List Row) (part : List A → Part)
    (law : (before : List A) → Reads (item before) (IfIs (D before)) (end_or rows end))
    (some : (x : A) (bytes : List ℕ) (following : ℕ) → InOrder (rows x) bytes following → 0 < length bytes)
    (refuses : (before : List A) (bytes : List ℕ) (fault : Fault) → item before bytes ≡ Err fault → (part before).refusal bytes fault)
    (faults : (before : List A) (bytes : List ℕ) (fault : Fault) → (part before).refusal bytes fault → item before bytes ≡ Err fault) where
  -- items are taken after those before, and the next one is refused
  abbrev Stopped : List A → List ℕ → Fault → Type 0
  Stopped before bytes fault = (xs : List A) × Follows D before xs × Past (Each rows xs) (λ rest. (part (before ++ xs)).refusal rest fault) bytes

  stopped_now : (before : List A) (bytes : List ℕ) (fault : Fault) → (part before).refusal bytes fault → Stopped before bytes fault
  stopped_now before bytes fault h = ([], tt, ([], bytes, refl, refl, subst (λ (xs : List A). (part xs).refusal bytes fault) (sym (append-nil before)) h))

  stopped_later : (before : List A) (x : A) (bytes mid : List ℕ) (fault : Fault) → D before x → Takes (rows x) bytes mid → Stopped (before ++ x ∷ []) mid fault → Stopped before bytes fault
  stopped_later before x bytes mid fault d t s =
      let at_one = λ (ys : List A) (rest : List ℕ). (part ys).refusal rest fault in
      let same : (before ++ x ∷ []) ++ s.0 ≡ before ++ x ∷ s.0 = append_assoc before (x ∷ []) s.0 in
      let p : Past (Each rows s.0) (at_one (before ++ x ∷ s.0)) mid = subst (λ (ys : List A). Past (Each rows s.0) (at_one ys) mid) same s.2 in
      (x ∷ s.0, (d, s.1), past_more rows x s.0 (at_one (before ++ x ∷ s.0)) bytes mid t p)

  stopped_step : (n : ℕ) (before : List A) (bytes : List ℕ) (fault : Fault) (found : Option A) (mid : List ℕ) → item before bytes ≡ Ok (found, mid)
      → until (suc n) (adding item) before bytes ≡ Err fault
      → ((x : A) → found ≡ Some x → until n (adding item) (before ++ x ∷ []) mid ≡ Err fault → Stopped (before ++ x ∷ []) mid fault)
      → Stopped before bytes fault
  unfolding until adding
  stopped_step n before bytes fault None mid h e more =
      let one : until (suc n) (adding item) before bytes ≡ Ok (before, mid) = rw h refl in
      absurd cc
  stopped_step n before bytes fault (Some x) mid h e more =
      let one : until (suc n) (adding item) before bytes ≡ until n (adding item) (before ++ x ∷ []) mid = rw h refl in
      let t = (law before).takes bytes (Some x) mid h in
      stopped_later before x bytes mid fault t.0 t.1 (more x refl (sym one ∙ e))

  stopped : (n : ℕ) (before : List A) (bytes : List ℕ) (fault : Fault) → length bytes < n → until n (adding item) before bytes ≡ Err fault → Stopped before bytes fault
  unfolding until adding
  stopped zero before bytes fault lt e = absurd (omega (arith, lt))
  stopped (suc n) before bytes fault lt e =
      let f = λ (found : Option (List A)). elim found as (λ _. Read (List A)) [ None ↦ give before | Some next ↦ until n (adding item) next ] in
      elim (carry_err (adding item before bytes) f fault e) [
        | inl now ↦ elim (carry_err (item before bytes) (λ found. give (added before found)) fault now) [
          | inl here ↦ stopped_now before bytes fault (refuses before bytes fault here)
          | inr w ↦ absurd cc
        ]
        | inr w ↦
            let b = carry_ok (item before bytes) (λ found. give (added before found)) w.0 w.1 in
            stopped_step n before bytes fault b.0.0 b.0.1 b.1 e (λ x is later.
            let t = (law before).takes bytes (Some x) b.0.1 (b.1 ∙ ap (λ (o : Option A). done (o, b.0.1)) is) in
            let less : length b.0.1 < n = omega (arith, lt, ap length t.1.whole, length-append t.1.part b.0.1, some x t.1.part (length b.0.1) t.1.in_order) in
            stopped n (before ++ x ∷ []) b.0.1 fault less later)
      ]

  fault_now : (n : ℕ) (before : List A) (bytes : List ℕ) (fault : Fault) → item before bytes ≡ Err fault → until (suc n) (adding item) before bytes ≡ Err fault
  unfolding until adding
  fault_now n before bytes fault h = rw h refl

  next_one : (n : ℕ) (before : List A) (x : A) (bytes mid : List ℕ) → item before bytes ≡ Ok (Some x, mid) → until (suc n) (adding item) before bytes ≡ until n (adding item) (before ++ x ∷ []) mid
  unfolding until adding
  next_one n before x bytes mid h = rw h refl

  fault_at : (n : ℕ) (before xs : List A) (bytes : List ℕ) (fault : Fault) → length bytes < n → Follows D before xs
      → Past (Each rows xs) (λ rest. (part (before ++ xs)).refusal rest fault) bytes → until n (adding item) before bytes ≡ Err fault
  fault_at zero before xs bytes fault lt k p = absurd (omega (arith, lt))
  fault_at (suc n) before [] bytes fault lt k p =
      let now : (part (before ++ [])).refusal bytes fault = past_none rows (λ rest. (part (before ++ [])).refusal rest fault) bytes p in
      fault_now n before bytes fault (faults before bytes fault (subst (λ (xs : List A). (part xs).refusal bytes fault) (append-nil before) now))
  fault_at (suc n) before (x ∷ xs) bytes fault lt k p =
      let s = past_next rows x xs (λ rest. (part (before ++ x ∷ xs)).refusal rest fault) bytes p in
      let one : item before bytes ≡ Ok (Some x, s.mid) = ap (item before) s.first.whole ∙ (law before).again (Some x) k.0 s.first.part s.mid s.first.is in
      let less : length s.mid < n = omega (arith, lt, ap length s.first.whole, length-append s.first.part s.mid, some x s.first.part (length s.mid) s.first.is) in
      let same : before ++ x ∷ xs ≡ (before ++ x ∷ []) ++ xs = sym (append_assoc before (x ∷ []) xs) in
      let later = subst (λ (ys : List A). Past (Each rows xs) (λ rest. (part ys).refusal rest fault) s.mid) same s.later in
      next_one n before x bytes s.mid one ∙ fault_at n (before ++ x ∷ []) xs s.mid fault less k.1 later

  pub obeys_items : Obeys (items item) (up_to D rows end part)
  obeys_items = record {
    takes = λ bytes xs rest e.
        let t = (reads_items item D rows end law some).takes bytes xs rest e in
        record { part = t.1.part; whole = t.1.whole; is = (xs, t.0, t.1.in_order) };
    refuses = λ bytes fault e. stopped (length bytes + 1) [] bytes fault (omega arith) e;
    reads = λ bytes rest f. (f.is.0, ap (items item) f.whole ∙ (reads_items item D rows end law some).again f.is.0 f.is.1 f.part rest f.is.2);
    faults = λ bytes fault h. fault_at (length bytes + 1) [] h.0 bytes fault (omega arith) h.1 h.2;
  }
