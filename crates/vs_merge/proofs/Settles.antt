-- Trees that stand beside each other, opened and closed: one replacement beside another, a pointer block given back, one made over trees, and block 1 written over them.
use Rattle.std.proofs.Common.{◌≡◌, ℕ, suc, ◌+◌, ◌≤◌, List, [], ◌∷◌, ◌++◌, map, Some, refl, ap, ◌∙◌, inl, inr, arith}
use Rattle.std.specs.List.{AllByRecursion}
use Rattle.std.proofs.lemmas.Bool.{cases_eq}
use Rattle.vs_pages.specs.Maps.{Map, lacks, one, total, without}
use Rattle.vs_pages.proofs.MapsLemmas.{without-other, without-gone, lacks-most}
use Rattle.vs_tree_shape.specs.Trees.{Format, read_by, Tree, uses, entry_of, IsTree}
use Rattle.vs_tree_shape.specs.Changes.{Replaces, Stored, Added}
use Rattle.vs_tree_shape.proofs.Sums.{total-append}
use Rattle.vs_tree_shape.proofs.Shapes.{each-append, unused_each, each_kept, lacks_cases}
use Rattle.vs_tree_shape.proofs.Writes.{one_span}

-- One replacement beside another, of other pages.
pub replaces_beside : (c : Format) (m n1 n2 : Map) (d : ℕ) (old1 old2 : ℕ → ℕ) (us vs : List (Tree d)) → ((k : ℕ) → (old1 k + old2 k) + lacks (m k) ≤ 1) → Replaces c m n1 old1 d us → Replaces c n1 n2 old2 d vs
    → Replaces c m n2 (λ k. old1 k + old2 k) d (us ++ vs)
replaces_beside c m n1 n2 d old1 old2 us vs free r s =
    let sums : (k : ℕ) → total (λ u. uses d u k) (us ++ vs) ≡ total (λ u. uses d u k) us + total (λ u. uses d u k) vs = λ k. total-append (λ u. uses d u k) us vs in
    let stay : (k : ℕ) → 1 ≤ total (λ u. uses d u k) us → n2 k ≡ n1 k = λ k used. s.rest k (omega (arith, free k, r.fresh k, used))
    (elim (lacks_cases (n1 k)) [ inl there ↦ there | inr gone ↦ absurd (omega (arith, used, unused_each c d n1 us k r.each gone)) ]) in
    record {
      each = each-append (λ u. IsTree c d n2 u) us vs (each_kept c d n1 n2 us stay r.each) s.each;
      fresh = λ k. elim (lacks_cases (n1 k)) [
        | inl there ↦ omega (arith, sums k, r.fresh k, s.fresh k, there)
        | inr gone ↦ elim (cases_eq (old1 k + lacks (m k)) 0) [
          | inl none ↦ absurd (omega (arith, gone, ap lacks (r.rest k (omega arith) (omega arith)), none))
          | inr some ↦ omega (arith, sums k, unused_each c d n1 us k r.each gone, s.fresh k, gone, free k, lacks-most (m k))
        ]
      ];
      rest = λ k z there. let same : n1 k ≡ m k = r.rest k (omega (arith, z)) there in s.rest k (omega (arith, z)) (ap lacks same ∙ there) ∙ same;
      gone = λ k none some. elim (cases_eq (old2 k) 0) [
        | inl unused ↦ s.gone k (omega (arith, none, sums k)) (omega (arith, r.gone k (omega (arith, none, sums k)) (omega (arith, some, unused))))
        | inr used ↦ s.gone k (omega (arith, none, sums k)) (omega arith)
      ];
    }

-- nothing in place of nothing
pub replaces_nothing : (c : Format) (m : Map) (d : ℕ) → Replaces c m m (λ k. 0) d []
replaces_nothing c m d = record { each = tt; fresh = λ k. omega arith; rest = λ k z there. refl; gone = λ k none some. omega (arith, some, lacks-most (m k)) }

-- A pointer block was given back, and the trees below it stand in its place.
pub opened : (c : Format) (m n : Map) (d : ℕ) (t : Tree (suc d)) → IsTree c (suc d) m t → ((k : ℕ) → uses (suc d) t k + lacks (m k) ≤ 1) → n ≡ without m t.0 1 → Replaces c m n (λ k. uses (suc d) t k) d t.1
opened c m n d t is once gone_is =
    let other : (k : ℕ) → one t.0 k ≡ 0 → n k ≡ m k = λ k out. ap (λ (f : Map). f k) gone_is ∙ without-other m t.0 1 k (one_span t.0 k ∙ out) in
    record {
      each = each_kept c d m n t.1 (λ k used. other k (omega (arith, once k, used))) is.1;
      fresh = λ k. omega arith;
      rest = λ k z there. other k (omega (arith, z));
      gone = λ k none some. elim (cases_eq (one t.0 k) 0) [
        | inl out ↦ ap lacks (other k out) ∙ omega (arith, out, none, some, lacks-most (m k))
        | inr here ↦ ap (λ (f : Map). lacks (f k)) gone_is ∙ ap lacks (without-gone m t.0 1 k (omega (arith, one_span t.0 k)))
      ];
    }

-- A new pointer block was made over trees.
pub closed : (c : Format) (m n : Map) (d p : ℕ) (us : List (Tree d)) (bytes : List ℕ) → AllByRecursion (λ u. IsTree c d m u) us → Added m n p 1 bytes → c.entries bytes ≡ Some (map (λ u. entry_of d u) us)
    → Replaces c m n (λ k. total (λ u. uses d u k) us) (suc d) ((p, us) ∷ [])
closed c m n d p us bytes each a reads =
    let stay : (k : ℕ) → 1 ≤ total (λ u. uses d u k) us → n k ≡ m k = λ k used. a.rest k (elim (lacks_cases (m k)) [ inl there ↦ there | inr gone ↦ absurd (omega (arith, used, unused_each c d m us k each gone)) ]) in
    record {
      each = ((ap (λ o. read_by c.entries o) a.read ∙ reads, each_kept c d m n us stay each), tt);
      fresh = λ k. omega (arith, a.fresh k, one_span p k);
      rest = λ k z there. a.rest k there;
      gone = λ k none some. a.only k (omega (arith, none, one_span p k)) (omega (arith, none, some, lacks-most (m k)));
    }

-- Block 1 was written over the trees that stand in place of those that it led to.
pub root_over : (c : Format) (m n1 n2 : Map) (d : ℕ) (old : ℕ → ℕ) (us : List (Tree d)) (bytes : List ℕ) → ((k : ℕ) → (one 1 k + old k) + lacks (m k) ≤ 1) → Replaces c m n1 old d us → Stored n1 n2 1 1 bytes → c.entries bytes ≡ Some (map (λ u. entry_of d u) us)
    → Replaces c m n2 (λ k. one 1 k + old k) (suc d) ((1, us) ∷ [])
root_over c m n1 n2 d old us bytes free r s reads =
    let apart : (k : ℕ) → 1 ≤ total (λ u. uses d u k) us → one 1 k ≡ 0 = λ k used. omega (arith, used, free k, r.fresh k) in
    let stay : (k : ℕ) → 1 ≤ total (λ u. uses d u k) us → n2 k ≡ n1 k = λ k used. s.rest k (one_span 1 k ∙ apart k used) in
    record {
      each = ((ap (λ o. read_by c.entries o) s.read ∙ reads, each_kept c d n1 n2 us stay r.each), tt);
      fresh = λ k. omega (arith, r.fresh k);
      rest = λ k z there. s.rest k (one_span 1 k ∙ omega (arith, z)) ∙ r.rest k (omega (arith, z)) there;
      gone = λ k none some. ap lacks (s.rest k (one_span 1 k ∙ omega (arith, none))) ∙ r.gone k (omega (arith, none)) (omega (arith, none, some));
    }
