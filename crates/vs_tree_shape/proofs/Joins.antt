-- Two neighbouring pointer blocks joined, or their entries shared: what stands in their place, and in the block above them.
use Rattle.std.proofs.Common.{◌≡◌, ℕ, suc, ◌+◌, ◌-◌, ◌≤◌, List, [], ◌∷◌, ◌++◌, take, drop, map, Some, sym, refl, ap, subst, ◌∙◌, inl, inr, arith}
use Rattle.std.specs.List.{AllByRecursion}
use Rattle.std.proofs.lemmas.Bool.{cases_eq}
use Rattle.std.proofs.lemmas.List.{map-append}
use Rattle.vs_pages.specs.Maps.{Map, lacks, one, total, pages_at, without}
use Rattle.vs_pages.proofs.MapsLemmas.{one-same, one-other, without-other, without-gone, lacks-most}
use Rattle.vs_tree_shape.specs.declared.entries.Entry.{Entry}
use Rattle.vs_tree_shape.specs.Trees.{Format, read_by, Tree, uses, entry_of, IsTree}
use Rattle.vs_tree_shape.specs.Changes.{Replaces, Stored}
use Rattle.vs_tree_shape.specs.Keeps.{Neighbours, both_uses}
use Rattle.vs_tree_shape.proofs.Sums.{total-append, halves}
use Rattle.vs_tree_shape.proofs.Shapes.{each-append, each-front, each-back, unused_each, each_kept, pages_kept, lacks_cases}
use Rattle.vs_tree_shape.proofs.Writes.{map_take, map_drop, one_span, replaces_as}

-- One replacement after another, of what the first left.
pub replaces_then : (c : Format) (m n1 n2 : Map) (old : ℕ → ℕ) (d e : ℕ) (us : List (Tree d)) (vs : List (Tree e)) → Replaces c m n1 old d us → Replaces c n1 n2 (λ k. total (λ u. uses d u k) us) e vs → Replaces c m n2 old e vs
replaces_then c m n1 n2 old d e us vs r s = record {
  each = s.each;
  fresh = λ k. elim (lacks_cases (n1 k)) [
    | inl there ↦ omega (arith, s.fresh k, r.fresh k, there)
    | inr gone ↦ elim (cases_eq (old k + lacks (m k)) 0) [
      | inl none ↦ absurd (omega (arith, gone, ap lacks (r.rest k (omega arith) (omega arith)), none))
      | inr some ↦ omega (arith, s.fresh k, unused_each c d n1 us k r.each gone, gone)
    ]
  ];
  rest = λ k z there.
      let same : n1 k ≡ m k = r.rest k z there in
      s.rest k (omega (arith, r.fresh k, z, there)) (ap lacks same ∙ there) ∙ same;
  gone = λ k none some. elim (cases_eq (total (λ u. uses d u k) us) 0) [
    | inl unused ↦ s.gone k none (omega (arith, r.gone k (omega (arith, none, unused)) some))
    | inr used ↦ s.gone k none (omega arith)
  ];
}

sum_both : (e : ℕ) (ka kb : List (Tree e)) (k : ℕ) → total (λ u. uses e u k) (ka ++ kb) ≡ total (λ u. uses e u k) ka + total (λ u. uses e u k) kb
sum_both e ka kb k = total-append (λ u. uses e u k) ka kb

kids_kept : (c : Format) (m n : Map) (e pa pb : ℕ) (ka kb : List (Tree e)) → Neighbours c m e pa pb ka kb → ((k : ℕ) → one pa k ≡ 0 → one pb k ≡ 0 → n k ≡ m k) → AllByRecursion (λ u. IsTree c e n u) (ka ++ kb)
kids_kept c m n e pa pb ka kb two same = each_kept c e m n (ka ++ kb) (λ k used. same k (omega (arith, two.once k, sum_both e ka kb k, used)) (omega (arith, two.once k, sum_both e ka kb k, used))) two.each

-- The first takes the entries of both, and the second is given back.
pub joined_two : (c : Format) (m n1 n2 : Map) (e pa pb : ℕ) (ka kb : List (Tree e)) (es : List Entry) (bytes : List ℕ) → Neighbours c m e pa pb ka kb → es ≡ map (λ u. entry_of e u) (ka ++ kb)
    → Stored m n1 pa 1 bytes → c.entries bytes ≡ Some es → n2 ≡ without n1 pb 1
    → Replaces c m n2 (both_uses e pa pb ka kb) (suc e) ((pa, ka ++ kb) ∷ [])
joined_two c m n1 n2 e pa pb ka kb es bytes two es_are s reads is =
    let other : (k : ℕ) → one pb k ≡ 0 → n2 k ≡ n1 k = λ k out. ap (λ (f : Map). f k) is ∙ without-other n1 pb 1 k (one_span pb k ∙ out) in
    let same : (k : ℕ) → one pa k ≡ 0 → one pb k ≡ 0 → n2 k ≡ m k = λ k a b. other k b ∙ s.rest k (one_span pa k ∙ a) in
    let apart : one pb pa ≡ 0 = omega (arith, two.once pa, one-same pa) in
    let read : pages_at n2 pa 1 ≡ Some bytes = pages_kept n1 n2 pa 1 (λ k used. other k (elim (cases_eq k pa) [ inl x ↦ ap (λ j. one pb j) x ∙ apart | inr ne ↦ absurd (omega (arith, used, one_span pa k, one-other pa k ne)) ])) ∙ s.read in
    record {
      each = ((ap (λ o. read_by c.entries o) read ∙ reads ∙ ap (λ xs. Some xs) es_are, kids_kept c m n2 e pa pb ka kb two same), tt);
      fresh = λ k. omega (arith, sum_both e ka kb k);
      rest = λ k z there. same k (omega (arith, z)) (omega (arith, z));
      gone = λ k none some. elim (cases_eq (one pb k) 0) [
        | inl out ↦ ap lacks (same k (omega (arith, none)) out) ∙ omega (arith, none, some, out, sum_both e ka kb k, lacks-most (m k))
        | inr here ↦ ap (λ (f : Map). lacks (f k)) is ∙ ap lacks (without-gone n1 pb 1 k (omega (arith, one_span pb k)))
      ];
    }

-- The entries of both are cut in another place.
pub shared_two : (c : Format) (m n1 n2 : Map) (e pa pb i : ℕ) (ka kb : List (Tree e)) (es : List Entry) (first second : List ℕ) → Neighbours c m e pa pb ka kb → es ≡ map (λ u. entry_of e u) (ka ++ kb)
    → Stored m n1 pa 1 first → c.entries first ≡ Some (take i es) → Stored n1 n2 pb 1 second → c.entries second ≡ Some (drop i es)
    → Replaces c m n2 (both_uses e pa pb ka kb) (suc e) ((pa, take i (ka ++ kb)) ∷ (pb, drop i (ka ++ kb)) ∷ [])
shared_two c m n1 n2 e pa pb i ka kb es first second two es_are s reads t reads_second =
    let ks : List (Tree e) = ka ++ kb in
    let f : Tree e → Entry = λ u. entry_of e u in
    let front : take i es ≡ map f (take i ks) = ap (λ xs. take i xs) es_are ∙ map_take f i ks in
    let back : drop i es ≡ map f (drop i ks) = ap (λ xs. drop i xs) es_are ∙ map_drop f i ks in
    let same : (k : ℕ) → one pa k ≡ 0 → one pb k ≡ 0 → n2 k ≡ m k = λ k a b. t.rest k (one_span pb k ∙ b) ∙ s.rest k (one_span pa k ∙ a) in
    let apart : one pb pa ≡ 0 = omega (arith, two.once pa, one-same pa) in
    let read : pages_at n2 pa 1 ≡ Some first = pages_kept n1 n2 pa 1 (λ k used. t.rest k (one_span pb k ∙ elim (cases_eq k pa) [ inl x ↦ ap (λ j. one pb j) x ∙ apart | inr ne ↦ absurd (omega (arith, used, one_span pa k, one-other pa k ne)) ])) ∙ s.read in
    let P : List (Tree e) → Type 0 = λ us. AllByRecursion (λ u. IsTree c e n2 u) us in
    let cut : AllByRecursion (λ u. IsTree c e n2 u) (take i ks ++ drop i ks) = subst P (sym (halves i ks)) (kids_kept c m n2 e pa pb ka kb two same) in
    let sums : (k : ℕ) → total (λ u. uses e u k) (take i ks) + total (λ u. uses e u k) (drop i ks) ≡ total (λ u. uses e u k) ka + total (λ u. uses e u k) kb =
    λ k. sym (total-append (λ u. uses e u k) (take i ks) (drop i ks)) ∙ ap (λ us. total (λ u. uses e u k) us) (halves i ks) ∙ sum_both e ka kb k in
    record {
      each = (
        (ap (λ o. read_by c.entries o) read ∙ reads ∙ ap (λ xs. Some xs) front, each-front (λ u. IsTree c e n2 u) (take i ks) (drop i ks) cut),
        ((ap (λ o. read_by c.entries o) t.read ∙ reads_second ∙ ap (λ xs. Some xs) back, each-back (λ u. IsTree c e n2 u) (take i ks) (drop i ks) cut), tt),
      );
      fresh = λ k. omega (arith, sums k);
      rest = λ k z there. same k (omega (arith, z)) (omega (arith, z));
      gone = λ k none some. ap lacks (same k (omega (arith, none)) (omega (arith, none))) ∙ omega (arith, none, some, sums k, lacks-most (m k));
    }

-- Some neighbouring trees below a block were replaced by others.
pub record Exchanged (c : Format) (m n : Map) (block d : ℕ) (kids now : List (Tree d)) : Type 0 where
  pub each : AllByRecursion (λ u. IsTree c d n u) now
  pub free : total (λ u. uses d u block) now ≡ 0
  pub same : n block ≡ m block
  pub fresh : (k : ℕ) → total (λ u. uses d u k) now ≤ total (λ u. uses d u k) kids + (lacks (m k) - one 0 k)
  pub rest : (k : ℕ) → total (λ u. uses d u k) kids ≡ 0 → lacks (m k) ≡ 0 → n k ≡ m k
  pub gone : (k : ℕ) → total (λ u. uses d u k) now + one 0 k ≡ 0 → 1 ≤ total (λ u. uses d u k) kids + lacks (m k) → lacks (n k) ≡ 1

pub exchanged_run : (c : Format) (m n : Map) (block d : ℕ) (kids before mids after us : List (Tree d)) → kids ≡ before ++ (mids ++ after)
    → AllByRecursion (λ u. IsTree c d m u) kids → ((k : ℕ) → (one block k + total (λ u. uses d u k) kids) + lacks (m k) ≤ 1)
    → Replaces c m n (λ k. total (λ u. uses d u k) mids) d us
    → Exchanged c m n block d kids (before ++ (us ++ after))
exchanged_run c m n block d kids before mids after us kids_are each free w =
    let P : List (Tree d) → Type 0 = λ vs. AllByRecursion (λ u. IsTree c d m u) vs in
    let cut : AllByRecursion (λ u. IsTree c d m u) (before ++ (mids ++ after)) = subst P kids_are each in
    let tail : AllByRecursion (λ u. IsTree c d m u) (mids ++ after) = each-back (λ u. IsTree c d m u) before (mids ++ after) cut in
    let sums : (k : ℕ) → total (λ u. uses d u k) kids ≡ total (λ u. uses d u k) before + (total (λ u. uses d u k) mids + total (λ u. uses d u k) after) =
    λ k. ap (λ vs. total (λ u. uses d u k) vs) kids_are ∙ total-append (λ u. uses d u k) before (mids ++ after) ∙ ap (λ x. total (λ u. uses d u k) before + x) (total-append (λ u. uses d u k) mids after) in
    let now_sums : (k : ℕ) → total (λ u. uses d u k) (before ++ (us ++ after)) ≡ total (λ u. uses d u k) before + (total (λ u. uses d u k) us + total (λ u. uses d u k) after) =
    λ k. total-append (λ u. uses d u k) before (us ++ after) ∙ ap (λ x. total (λ u. uses d u k) before + x) (total-append (λ u. uses d u k) us after) in
    let stay : (k : ℕ) → 1 ≤ total (λ u. uses d u k) before + total (λ u. uses d u k) after → n k ≡ m k = λ k used. w.rest k (omega (arith, free k, sums k, used)) (omega (arith, free k, sums k, used)) in
    record {
      each = each-append (λ u. IsTree c d n u) before (us ++ after)
          (each_kept c d m n before (λ k used. stay k (omega (arith, used))) (each-front (λ u. IsTree c d m u) before (mids ++ after) cut))
          (each-append (λ u. IsTree c d n u) us after w.each (each_kept c d m n after (λ k used. stay k (omega (arith, used))) (each-back (λ u. IsTree c d m u) mids after tail)));
      free = omega (arith, now_sums block, sums block, free block, one-same block, w.fresh block);
      same = w.rest block (omega (arith, sums block, free block, one-same block)) (omega (arith, free block, one-same block));
      fresh = λ k. omega (arith, now_sums k, sums k, w.fresh k);
      rest = λ k z there. w.rest k (omega (arith, sums k, z)) there;
      gone = λ k none some. w.gone k (omega (arith, none, now_sums k)) (omega (arith, none, some, sums k, now_sums k));
    }

-- the block above is written, or stays as it is: two steps as one
exchanged_then : (c : Format) (m n1 n2 : Map) (block d e : ℕ) (kids now : List (Tree d)) (us : List (Tree e)) → Exchanged c m n1 block d kids now
    → Replaces c n1 n2 (λ k. one block k + total (λ u. uses d u k) now) e us → Replaces c m n2 (λ k. one block k + total (λ u. uses d u k) kids) e us
exchanged_then c m n1 n2 block d e kids now us x w = record {
  each = w.each;
  fresh = λ k. elim (lacks_cases (n1 k)) [
    | inl there ↦ omega (arith, w.fresh k, x.fresh k, there)
    | inr gone ↦ elim (cases_eq (total (λ u. uses d u k) kids + lacks (m k)) 0) [
      | inl none ↦ absurd (omega (arith, gone, ap lacks (x.rest k (omega arith) (omega arith)), none))
      | inr some ↦ omega (arith, w.fresh k, unused_each c d n1 now k x.each gone, gone)
    ]
  ];
  rest = λ k z there.
      let same : n1 k ≡ m k = x.rest k (omega (arith, z)) there in
      w.rest k (omega (arith, z, x.fresh k, there)) (ap lacks same ∙ there) ∙ same;
  gone = λ k none some. elim (cases_eq (one block k + total (λ u. uses d u k) now) 0) [
    | inl unused ↦ w.gone k none (omega (arith, x.gone k (omega (arith, none, unused)) (omega (arith, some, unused))))
    | inr used ↦ w.gone k none (omega arith)
  ];
}

-- Neighbours below a block were exchanged, and the block was written.
pub exchanged_wrote : (c : Format) (m n1 n2 : Map) (block d : ℕ) (kids now : List (Tree d)) (bytes : List ℕ) → Exchanged c m n1 block d kids now → Stored n1 n2 block 1 bytes → c.entries bytes ≡ Some (map (λ u. entry_of d u) now)
    → Replaces c m n2 (λ k. one block k + total (λ u. uses d u k) kids) (suc d) ((block, now) ∷ [])
exchanged_wrote c m n1 n2 block d kids now bytes x s reads =
    let stay : (k : ℕ) → 1 ≤ total (λ u. uses d u k) now → n2 k ≡ n1 k = λ k used. s.rest k (one_span block k ∙ one-other block k (λ e. omega (arith, used, x.free, ap (λ j. total (λ u. uses d u j) now) e))) in
    exchanged_then c m n1 n2 block d (suc d) kids now ((block, now) ∷ []) x (record {
      each = ((ap (λ o. read_by c.entries o) s.read ∙ reads, each_kept c d n1 n2 now stay x.each), tt);
      fresh = λ k. omega arith;
      rest = λ k z there. s.rest k (omega (arith, z));
      gone = λ k none some. ap lacks (s.rest k (omega (arith, none))) ∙ omega (arith, none, some, lacks-most (n1 k));
    })

-- A change below a block that leaves its entries as they are leaves the block.
pub exchanged_left : (c : Format) (m n : Map) (block d : ℕ) (kids now : List (Tree d)) → Exchanged c m n block d kids now → read_by c.entries (pages_at n block 1) ≡ Some (map (λ u. entry_of d u) now)
    → Replaces c m n (λ k. one block k + total (λ u. uses d u k) kids) (suc d) ((block, now) ∷ [])
exchanged_left c m n block d kids now x reads = exchanged_then c m n n block d (suc d) kids now ((block, now) ∷ []) x (record {
  each = ((reads, x.each), tt);
  fresh = λ k. omega arith;
  rest = λ k z there. refl;
  gone = λ k none some. omega (arith, none, some, lacks-most (n k));
})

-- Two neighbours below a block were joined, or their entries shared, and then the block was written.
pub pair_step : (c : Format) (m n1 n2 : Map) (block e : ℕ) (kids before after us : List (Tree (suc e))) (a b : Tree (suc e)) (bytes : List ℕ) → kids ≡ before ++ (a ∷ b ∷ after)
    → AllByRecursion (λ u. IsTree c (suc e) m u) kids → ((k : ℕ) → (one block k + total (λ u. uses (suc e) u k) kids) + lacks (m k) ≤ 1)
    → Replaces c m n1 (both_uses e a.0 b.0 a.1 b.1) (suc e) us
    → Stored n1 n2 block 1 bytes → c.entries bytes ≡ Some (map (λ u. entry_of (suc e) u) (before ++ (us ++ after)))
    → Replaces c m n2 (λ k. one block k + total (λ u. uses (suc e) u k) kids) (suc (suc e)) ((block, before ++ (us ++ after)) ∷ [])
pair_step c m n1 n2 block e kids before after us a b bytes cut each free w s reads =
    let pair : List (Tree (suc e)) = a ∷ b ∷ [] in
    let whole : Replaces c m n1 (λ k. total (λ u. uses (suc e) u k) pair) (suc e) us = replaces_as c m n1 (suc e) (both_uses e a.0 b.0 a.1 b.1) (λ k. total (λ u. uses (suc e) u k) pair) us (λ k. omega arith) w in
    exchanged_wrote c m n1 n2 block (suc e) kids (before ++ (us ++ after)) bytes (exchanged_run c m n1 block (suc e) kids before pair after us cut each free whole) s reads

-- The two are neighbours that use no page twice.
pub pair_neighbours : (c : Format) (m : Map) (block e : ℕ) (kids before after : List (Tree (suc e))) (a b : Tree (suc e)) → kids ≡ before ++ (a ∷ b ∷ after)
    → AllByRecursion (λ u. IsTree c (suc e) m u) kids → ((k : ℕ) → (one block k + total (λ u. uses (suc e) u k) kids) + lacks (m k) ≤ 1) → Neighbours c m e a.0 b.0 a.1 b.1
pair_neighbours c m block e kids before after a b cut each free =
    let P : List (Tree (suc e)) → Type 0 = λ us. AllByRecursion (λ u. IsTree c (suc e) m u) us in
    let tail : AllByRecursion (λ u. IsTree c (suc e) m u) (a ∷ b ∷ after) = each-back (λ u. IsTree c (suc e) m u) before (a ∷ b ∷ after) (subst P cut each) in
    record {
      each = each-append (λ u. IsTree c e m u) a.1 b.1 tail.0.1 tail.1.0.1;
      once = λ k. omega (arith, free k, ap (λ us. total (λ u. uses (suc e) u k) us) cut, total-append (λ u. uses (suc e) u k) before (a ∷ b ∷ after));
    }

-- Below one child something was exchanged that left its entry as it is: the block above it stays as it is.
pub level_down : (c : Format) (m n : Map) (block d : ℕ) (kids before after : List (Tree d)) (child now : Tree d) → kids ≡ before ++ (child ∷ after)
    → AllByRecursion (λ u. IsTree c d m u) kids → ((k : ℕ) → (one block k + total (λ u. uses d u k) kids) + lacks (m k) ≤ 1)
    → read_by c.entries (pages_at m block 1) ≡ Some (map (λ u. entry_of d u) kids) → entry_of d now ≡ entry_of d child → Replaces c m n (λ k. uses d child k) d (now ∷ [])
    → Replaces c m n (λ k. one block k + total (λ u. uses d u k) kids) (suc d) ((block, before ++ (now ∷ after)) ∷ [])
level_down c m n block d kids before after child now cut each free reads entry w =
    let f : Tree d → Entry = λ u. entry_of d u in
    let alone : List (Tree d) = child ∷ [] in
    let whole : Replaces c m n (λ k. total (λ u. uses d u k) alone) d (now ∷ []) = replaces_as c m n d (λ k. uses d child k) (λ k. total (λ u. uses d u k) alone) (now ∷ []) (λ k. omega arith) w in
    let x : Exchanged c m n block d kids (before ++ (now ∷ after)) = exchanged_run c m n block d kids before alone after (now ∷ []) cut each free whole in
    let same : pages_at n block 1 ≡ pages_at m block 1 = pages_kept m n block 1 (λ k used. elim (cases_eq k block) [ inl e ↦ ap (λ j. n j) e ∙ x.same ∙ ap (λ j. m j) (sym e) | inr ne ↦ absurd (omega (arith, used, one_span block k, one-other block k ne)) ]) in
    let entries : map f kids ≡ map f (before ++ (now ∷ after)) = ap (λ us. map f us) cut ∙ map-append f before (child ∷ after) ∙ ap (λ (y : Entry). map f before ++ (y ∷ map f after)) (sym entry) ∙ sym (map-append f before (now ∷ after)) in
    exchanged_left c m n block d kids (before ++ (now ∷ after)) x (ap (λ o. read_by c.entries o) same ∙ reads ∙ ap (λ xs. Some xs) entries)
