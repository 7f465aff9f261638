-- What stands in front of a refusal begins bytes of the part that refuses: laws of parts, and of parts one after the other.
use Rattle.std.proofs.Common.{◌≡◌, ℕ, zero, suc, ◌+◌, ◌<◌, ◌^◌, inl, inr, List, [], ◌∷◌, ◌++◌, length, map, replicate, refl, sym, ap, ◌∙◌, append_assoc, arith}
use Rattle.std.proofs.lemmas.List.{length-append}
use Rattle.vs_ufile.specs.declared.fault.Fault.{Fault}
use Rattle.vs_ufile.specs.Completing.{AreBytes}
use Rattle.vs_ufile.specs.Format.{Row, InOrder}
use Rattle.vs_ufile.specs.Refusals.{Part, RefusedAtOne, all_of, some_of}

-- ---- bytes

pub both_bytes : (xs ys : List ℕ) → AreBytes xs → AreBytes ys → AreBytes (xs ++ ys)
both_bytes [] ys a b = b
both_bytes (x ∷ xs) ys a b = (a.0, both_bytes xs ys a.1 b)

pub zero_bytes : (n : ℕ) → AreBytes (replicate n 0)
zero_bytes zero = tt
zero_bytes (suc n) = (omega arith, zero_bytes n)

-- fewer bytes than as many changes take as there are numbers for them
unfoldable pub most : ℕ
most = 2 ^ 39

pub fewer : (bytes part rest : List ℕ) → bytes ≡ part ++ rest → length bytes < most → length rest < most
fewer bytes part rest whole few = omega (arith, few, ap length whole, length-append part rest)

-- ---- bytes that begin those of a row

-- bytes that come after these, so that they are those of the row
pub record Ending (row : Row) (before : List ℕ) (following : ℕ) : Type 0 where
  pub after : List ℕ
  pub are_bytes : AreBytes after
  pub is : row (before ++ after) following

-- the bytes up to where this many are left begin those of a row
pub record Begins (row : Row) (bytes : List ℕ) (left : ℕ) : Type 0 where
  pub before : List ℕ
  pub rest : List ℕ
  pub whole : bytes ≡ before ++ rest
  pub place : length rest ≡ left
  pub ends : (following : ℕ) → Ending row before following

pub ending_as : (row other : Row) (before : List ℕ) (following : ℕ) → ((bytes : List ℕ) → row bytes following → other bytes following) → Ending row before following → Ending other before following
ending_as row other before following to e = record { after = e.after; are_bytes = e.are_bytes; is = to (before ++ e.after) e.is }

pub begins_as : (row other : Row) (bytes : List ℕ) (left : ℕ) → ((part : List ℕ) (following : ℕ) → row part following → other part following) → Begins row bytes left → Begins other bytes left
begins_as row other bytes left to b = record {
  before = b.before;
  rest = b.rest;
  whole = b.whole;
  place = b.place;
  ends = λ following. ending_as row other b.before following (λ part is. to part following is) (b.ends following);
}

-- nothing stands in front of the place
pub begins_here : (row : Row) (bytes : List ℕ) (left : ℕ) → left ≡ length bytes → ((following : ℕ) → Ending row [] following) → Begins row bytes left
begins_here row bytes left here filled = record { before = []; rest = bytes; whole = refl; place = sym here; ends = filled }

pub ending_then : (row : Row) (rows : List Row) (before : List ℕ) → ((following : ℕ) → Ending row before following) → ((following : ℕ) → Ending (InOrder rows) [] following)
    → (following : ℕ) → Ending (InOrder (row ∷ rows)) before following
ending_then row rows before first next following =
    let b = next following in
    let a = first (length b.after + following) in
    record {
      after = a.after ++ b.after;
      are_bytes = both_bytes a.after b.after a.are_bytes b.are_bytes;
      is = (before ++ a.after, b.after, sym (append_assoc before a.after b.after), a.is, b.is);
    }

pub begins_then : (row : Row) (rows : List Row) (bytes : List ℕ) (left : ℕ) → Begins row bytes left → ((following : ℕ) → Ending (InOrder rows) [] following)
    → Begins (InOrder (row ∷ rows)) bytes left
begins_then row rows bytes left b filled =
    record { before = b.before; rest = b.rest; whole = b.whole; place = b.place; ends = ending_then row rows b.before b.ends filled }

pub begins_past : (row : Row) (rows : List Row) (bytes part rest : List ℕ) (left : ℕ) → bytes ≡ part ++ rest → ((following : ℕ) → row part following) → Begins (InOrder rows) rest left
    → Begins (InOrder (row ∷ rows)) bytes left
begins_past row rows bytes part rest left whole is b = record {
  before = part ++ b.before;
  rest = b.rest;
  whole = whole ∙ ap (λ (x : List ℕ). part ++ x) b.whole ∙ sym (append_assoc part b.before b.rest);
  place = b.place;
  ends = λ following.
      let e = b.ends following in
      record {
        after = e.after;
        are_bytes = e.are_bytes;
        is = (part, b.before ++ e.after, append_assoc part b.before e.after, is (length (b.before ++ e.after) + following), e.is);
      };
}

-- ---- parts

-- There are bytes of the part, they are so whatever follows them, and what stands in front of a refusal begins some.
pub record Completes (p : Part) : Type 0 where
  pub filled : (following : ℕ) → Ending p.row [] following
  pub moved : (part : List ℕ) (m n : ℕ) → p.row part m → p.row part n
  pub begins : (bytes : List ℕ) (fault : Fault) → length bytes < most → p.refusal bytes fault → Begins p.row bytes fault.left

-- The same of a part that depends on a value: where one value's part refuses, some value's begins.
pub record CompletesSome {A : Type 0} (p : A → Part) : Type 0 where
  pub value : A
  pub filled : (following : ℕ) → Ending (p value).row [] following
  pub moved : (x : A) (part : List ℕ) (m n : ℕ) → (p x).row part m → (p x).row part n
  pub begins : (x : A) (bytes : List ℕ) (fault : Fault) → length bytes < most → (p x).refusal bytes fault → (y : A) × Begins (p y).row bytes fault.left

abbrev pub AllComplete : List Part → Type 0
AllComplete [] = Unit {0}
AllComplete (p ∷ ps) = Completes p × AllComplete ps

abbrev pub rows_of : List Part → List Row
rows_of ps = map (λ p. p.row) ps

pub filled_all : (ps : List Part) → AllComplete ps → (following : ℕ) → Ending (InOrder (rows_of ps)) [] following
filled_all [] h following = record { after = []; are_bytes = tt; is = refl }
filled_all (p ∷ ps) h following = ending_then p.row (rows_of ps) [] h.0.filled (filled_all ps h.1) following

moved_all : (ps : List Part) → AllComplete ps → (part : List ℕ) (m n : ℕ) → InOrder (rows_of ps) part m → InOrder (rows_of ps) part n
moved_all [] h part m n is = is
moved_all (p ∷ ps) h part m n is = (is.0, is.1, is.2, h.0.moved is.0 (length is.1 + m) (length is.1 + n) is.3, moved_all ps h.1 is.1 m n is.4)

pub begins_all : (ps : List Part) → AllComplete ps → (bytes : List ℕ) (fault : Fault) → length bytes < most → RefusedAtOne ps bytes fault → Begins (InOrder (rows_of ps)) bytes fault.left
begins_all [] h bytes fault few r = absurd r
begins_all (p ∷ ps) h bytes fault few (inl now) = begins_then p.row (rows_of ps) bytes fault.left (h.0.begins bytes fault few now) (filled_all ps h.1)
begins_all (p ∷ ps) h bytes fault few (inr w) =
    begins_past p.row (rows_of ps) bytes w.0 w.1 fault.left w.2 (λ n. h.0.moved w.0 (length w.1) n w.3) (begins_all ps h.1 w.1 fault (fewer bytes w.0 w.1 w.2 few) w.4)

pub completes_all : (ps : List Part) → AllComplete ps → Completes (all_of ps)
completes_all ps h = record { filled = filled_all ps h; moved = moved_all ps h; begins = begins_all ps h }

-- a part that refuses where it begins
pub completes_here : (p : Part) → ((following : ℕ) → Ending p.row [] following) → ((part : List ℕ) (m n : ℕ) → p.row part m → p.row part n)
    → ((bytes : List ℕ) (fault : Fault) → p.refusal bytes fault → fault.left ≡ length bytes) → Completes p
completes_here p filled moved here =
    record { filled = filled; moved = moved; begins = λ bytes fault few r. begins_here p.row bytes fault.left (here bytes fault r) filled }

-- ---- parts that depend on a value

pub past_some : {A : Type 0} (q : Part) (ps : A → List Part) → Completes q → CompletesSome (λ x. all_of (ps x)) → CompletesSome (λ x. all_of (q ∷ ps x))
past_some q ps c s = record {
  value = s.value;
  filled = ending_then q.row (rows_of (ps s.value)) [] c.filled s.filled;
  moved = λ x part m n is. (is.0, is.1, is.2, c.moved is.0 (length is.1 + m) (length is.1 + n) is.3, s.moved x is.1 m n is.4);
  begins = λ x bytes fault few r. elim r [
    | inl now ↦ (s.value, begins_then q.row (rows_of (ps s.value)) bytes fault.left (c.begins bytes fault few now) s.filled)
    | inr w ↦
        let b = s.begins x w.1 fault (fewer bytes w.0 w.1 w.2 few) w.4 in
        (b.0, begins_past q.row (rows_of (ps b.0)) bytes w.0 w.1 fault.left w.2 (λ n. c.moved w.0 (length w.1) n w.3) b.1)
  ];
}

pub some_then : {A : Type 0} (q : A → Part) (ps : A → List Part) → CompletesSome q → ((x : A) → AllComplete (ps x)) → CompletesSome (λ x. all_of (q x ∷ ps x))
some_then q ps s all = record {
  value = s.value;
  filled = ending_then (q s.value).row (rows_of (ps s.value)) [] s.filled (filled_all (ps s.value) (all s.value));
  moved = λ x part m n is. (is.0, is.1, is.2, s.moved x is.0 (length is.1 + m) (length is.1 + n) is.3, moved_all (ps x) (all x) is.1 m n is.4);
  begins = λ x bytes fault few r. elim r [
    | inl now ↦
        let b = s.begins x bytes fault few now in
        (b.0, begins_then (q b.0).row (rows_of (ps b.0)) bytes fault.left b.1 (filled_all (ps b.0) (all b.0)))
    | inr w ↦ (
      x,
      begins_past (q x).row (rows_of (ps x)) bytes w.0 w.1 fault.left w.2 (λ n. s.moved x w.0 (length w.1) n w.3)
          (begins_all (ps x) (all x) w.1 fault (fewer bytes w.0 w.1 w.2 few) w.4),
    )
  ];
}

pub completes_some : {A : Type 0} (p : A → Part) → CompletesSome p → Completes (some_of p)
completes_some p s = record {
  filled = λ following. ending_as (p s.value).row (some_of p).row [] following (λ part is. (s.value, is)) (s.filled following);
  moved = λ part m n is. (is.0, s.moved is.0 part m n is.1);
  begins = λ bytes fault few r.
      let b = s.begins r.0 bytes fault few r.1 in
      begins_as (p b.0).row (some_of p).row bytes fault.left (λ part following is. (b.0, is)) b.1;
}
