-- Laws of what is written.
use Rattle.std.proofs.Common.{◌≡◌, ℕ, ◌+◌, ◌<◌, ◌^◌, ◌≤◌, List, [], ◌∷◌, ◌++◌, length, drop, refl, sym, ap, subst, ◌∙◌, append_assoc, arith}
use Rattle.std.proofs.lemmas.List.{append-nil, drop_all, length-append}
use Rattle.vs_bytes.specs.Fields.{Big, bytes_of, number_of, with_number}
use Rattle.vs_bytes.proofs.FieldLaws.{length-bytes_of, number_of-bytes_of}
use Rattle.vs_text.specs.Text.{plain_line, stored_line}
use Rattle.vs_ufile.specs.Format.{Row, Each, InOrder, Is, IsNumber, sized}
use Rattle.vs_ufile.specs.Writing.{IsStoredLine, Puts, PutsAll, line_written}
use Rattle.vs_ufile.proofs.Laws.{both_in_order}

pub puts_none : (bytes : List ℕ) → PutsAll [] bytes bytes
puts_none bytes = record { part = []; whole = sym (append-nil bytes); is = λ following. refl }

-- one row, and then the rows after it
pub puts_row : (row : Row) (rows : List Row) (a b c : List ℕ) → Puts row a b → PutsAll rows b c → PutsAll (row ∷ rows) a c
puts_row row rows a b c p q = record {
  part = p.part ++ q.part;
  whole = q.whole ∙ ap (λ (x : List ℕ). x ++ q.part) p.whole ∙ append_assoc a p.part q.part;
  is = λ following. (p.part, q.part, refl, p.is (length q.part + following), q.is following);
}

pub puts_both : (Qs Ps : List Row) (a b c : List ℕ) → PutsAll Qs a b → PutsAll Ps b c → PutsAll (Qs ++ Ps) a c
puts_both Qs Ps a b c p q = record {
  part = p.part ++ q.part;
  whole = q.whole ∙ ap (λ (x : List ℕ). x ++ q.part) p.whole ∙ append_assoc a p.part q.part;
  is = λ following. both_in_order Qs Ps p.part q.part following (p.is (length q.part + following)) (q.is following);
}

pub puts_last : (row : Row) (a b : List ℕ) → Puts row a b → PutsAll (row ∷ []) a b
puts_last row a b p = puts_row row [] a b b p (puts_none b)

-- the last row of the bytes is another
pub puts_as : (row other : Row) (a b : List ℕ) → Puts row a b → ((part : List ℕ) (following : ℕ) → row part following → other part following) → Puts other a b
puts_as row other a b p to = record { part = p.part; whole = p.whole; is = λ following. to p.part following (p.is following) }

-- a field that was zeros holds the number and nothing else
pub field_is : (width n : ℕ) (old : List ℕ) → length old ≡ width → with_number Big width old 0 n ≡ bytes_of Big width n
field_is width n old wide =
    let past : length old ≤ 0 + length (bytes_of Big width n) = omega (arith, wide, length-bytes_of Big width n) in
    let none : drop (0 + length (bytes_of Big width n)) old ≡ [] = drop_all (0 + length (bytes_of Big width n)) old past in
    rw none (append-nil (bytes_of Big width n))

pub puts_number : (width n : ℕ) (old new : List ℕ) → n < 256 ^ width → new ≡ old ++ bytes_of Big width n → Puts (IsNumber width n) old new
puts_number width n old new fits e = record {
  part = bytes_of Big width n;
  whole = e;
  is = λ following. record { wide = length-bytes_of Big width n; value = number_of-bytes_of Big width n fits };
}

pub puts_sized : (run a b c : List ℕ) → Puts (IsNumber 4 (length run)) a b → Puts (Is run) b c → PutsAll (sized run) a c
puts_sized run a b c p q = puts_row (IsNumber 4 (length run)) (Is run ∷ []) a b c p (puts_last (Is run) b c q)

-- the rows as one row
pub puts_inner : (rows : List Row) (a b : List ℕ) → PutsAll rows a b → Puts (InOrder rows) a b
puts_inner rows a b p = record { part = p.part; whole = p.whole; is = p.is }

pub puts_line : (line a b : List ℕ) → plain_line (stored_line line) ≡ line → PutsAll (sized (stored_line line)) a b → PutsAll (line_written line) a b
puts_line line a b e p = puts_last (IsStoredLine line) a b (record { part = p.part; whole = p.whole; is = λ following. record { stored = p.is following; way_back = e } })

pub each_more : {A : Type 0} (rows : A → List Row) (xs : List A) (x : A) (p q : List ℕ) (following : ℕ) → Each rows xs p (length q + following) → InOrder (rows x) q following → Each rows (xs ++ x ∷ []) (p ++ q) following
each_more rows [] x p q following h k =
    let none : List ℕ = [] in
    let place : following ≡ length none + following = omega arith in
    (q, [], ap (λ (y : List ℕ). y ++ q) h ∙ sym (append-nil q), subst (λ (n : ℕ). InOrder (rows x) q n) place k, refl)
each_more rows (y ∷ ys) x p q following h k =
    let place : length h.1 + (length q + following) ≡ length (h.1 ++ q) + following = omega (arith, length-append h.1 q) in
    (h.0, h.1 ++ q, ap (λ (z : List ℕ). z ++ q) h.2 ∙ append_assoc h.0 h.1 q, subst (λ (n : ℕ). InOrder (rows y) h.0 n) place h.3, each_more rows ys x h.1 q following h.4 k)

-- one item more
pub puts_more : {A : Type 0} (rows : A → List Row) (xs : List A) (x : A) (a b c : List ℕ) → Puts (Each rows xs) a b → PutsAll (rows x) b c → Puts (Each rows (xs ++ x ∷ [])) a c
puts_more rows xs x a b c p q = record {
  part = p.part ++ q.part;
  whole = q.whole ∙ ap (λ (y : List ℕ). y ++ q.part) p.whole ∙ append_assoc a p.part q.part;
  is = λ following. each_more rows xs x p.part q.part following (p.is (length q.part + following)) (q.is following);
}

pub byte_is : (n : ℕ) → number_of Big 1 (n ∷ []) ≡ n
unfolding number_of
byte_is n = grind arith
