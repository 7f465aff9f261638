-- Two neighbours among the trees below a block: they are there, apart, and beside the block.
use Rattle.std.proofs.Common.{◌≡◌, ℕ, suc, ◌+◌, ◌≤◌, List, [], ◌∷◌, ◌++◌, length, take, drop, map, Option, Some, None, IsSome, is_some, refl, sym, ap, subst, ◌∙◌, arith}
use Rattle.std.specs.List.{AllByRecursion}
use Rattle.std.proofs.lemmas.List.{append-nil, map-append, length-map}
use Rattle.vs_pages.specs.Maps.{Map, joined, lacks, one, total, pages_at}
use Rattle.vs_pages.proofs.MapsLemmas.{one-same}
use Rattle.vs_tree_shape.specs.declared.entries.Entry.{Entry}
use Rattle.vs_tree_shape.specs.Trees.{Format, Tree, uses, entry_of, IsTree}
use Rattle.vs_tree_shape.specs.Changes.{Stored}
use Rattle.vs_tree_shape.specs.Keeps.{Neighbours}
use Rattle.vs_tree_shape.proofs.Sums.{total-append}
use Rattle.vs_tree_shape.proofs.Shapes.{each-back, read_from}
use Rattle.vs_tree_shape.proofs.Splices.{take_past, drop_past}
use Rattle.vs_tree_shape.proofs.Joins.{pair_neighbours, pair_step}
use Rattle.vs_tree_blocks.specs.Blocks.{tree_format, points_in}
use Rattle.vs_merge.specs.declared.pair.Pair.{Pair}
use Rattle.vs_merge.specs.Evens.{HasPair, IsEvened, StandsForTwo, evened, with_pair}

where_some : (o : Option (List ℕ)) → lacks o ≡ 0 → IsSome (joined o (Some []))
where_some None there = absurd (omega (arith, there))
where_some (Some page) there = refl

-- a pointer block is there
pub tree_there : (c : Format) (d : ℕ) (m : Map) (t : Tree (suc d)) → IsTree c (suc d) m t → IsSome (pages_at m t.0 1)
tree_there c d m t is = let r = read_from c.entries (pages_at m t.0 1) (map (λ u. entry_of d u) t.1) is.0 in ap (λ (o : Option (List ℕ)). is_some o) r.1

pub both_there : (m : Map) (top e : ℕ) (kids : List (Tree (suc e))) (entries : List Entry) (pair : Pair) (all : List Entry) → HasPair m top e kids entries pair all → IsSome (pages_at m pair.one 1) × IsSome (pages_at m pair.two 1)
both_there m top e kids entries pair all p =
    let P : List (Tree (suc e)) → Type 0 = λ us. AllByRecursion (λ u. IsTree tree_format (suc e) m u) us in
    let tail : AllByRecursion (λ u. IsTree tree_format (suc e) m u) (p.first ∷ p.second ∷ p.after) = each-back (λ u. IsTree tree_format (suc e) m u) p.before (p.first ∷ p.second ∷ p.after) (subst P p.cut p.each) in (
      subst (λ (k : ℕ). IsSome (pages_at m k 1)) p.first_is (tree_there tree_format e m p.first tail.0),
      subst (λ (k : ℕ). IsSome (pages_at m k 1)) p.second_is (tree_there tree_format e m p.second tail.1.0),
    )

pub two_neighbours : (m : Map) (top e : ℕ) (kids : List (Tree (suc e))) (entries : List Entry) (pair : Pair) (all : List Entry) → (p : HasPair m top e kids entries pair all) → Neighbours tree_format m e pair.one pair.two p.first.1 p.second.1
two_neighbours m top e kids entries pair all p =
    let n : Neighbours tree_format m e p.first.0 p.second.0 p.first.1 p.second.1 = pair_neighbours tree_format m top e kids p.before p.after p.first p.second p.cut p.each p.once in
    subst (λ (k : ℕ). Neighbours tree_format m e pair.one k p.first.1 p.second.1) p.second_is (subst (λ (k : ℕ). Neighbours tree_format m e k p.second.0 p.first.1 p.second.1) p.first_is n)

-- the two are not one block
pub pair_apart : (m : Map) (top e : ℕ) (kids : List (Tree (suc e))) (es : List Entry) (pair : Pair) (all : List Entry) → HasPair m top e kids es pair all → pair.one ≡ pair.two → ⊥
pair_apart m top e kids es pair all p same =
    let n : Neighbours tree_format m e pair.one pair.two p.first.1 p.second.1 = two_neighbours m top e kids es pair all p in
    omega (arith, n.once pair.one, one-same pair.one, ap (λ (k : ℕ). one k pair.one) same)

-- what stands in the place of the two, by the numbers in their trees
by_trees : (m n : Map) (top e : ℕ) (kids : List (Tree (suc e))) (entries : List Entry) (pair : Pair) (all above : List Entry) → (p : HasPair m top e kids entries pair all)
    → StandsForTwo m n e pair.one pair.two p.first.1 p.second.1 above → StandsForTwo m n e p.first.0 p.second.0 p.first.1 p.second.1 above
by_trees m n top e kids entries pair all above p w =
    subst (λ (k : ℕ). StandsForTwo m n e p.first.0 k p.first.1 p.second.1 above) (sym p.second_is)
    (subst (λ (k : ℕ). StandsForTwo m n e k pair.two p.first.1 p.second.1 above) (sym p.first_is) w)

-- what stands in the place of the two leaves the block above them
pub top_there : (m n : Map) (top e : ℕ) (kids : List (Tree (suc e))) (entries : List Entry) (pair : Pair) (all above : List Entry) → (p : HasPair m top e kids entries pair all)
    → StandsForTwo m n e pair.one pair.two p.first.1 p.second.1 above → IsSome (pages_at n top 1)
unfolding by_trees
top_there m n top e kids entries pair all above p w =
    let v : StandsForTwo m n e p.first.0 p.second.0 p.first.1 p.second.1 above = by_trees m n top e kids entries pair all above p w in
    let sums = ap (λ us. total (λ u. uses (suc e) u top) us) p.cut ∙ total-append (λ u. uses (suc e) u top) p.before (p.first ∷ p.second ∷ p.after) in
    let there : lacks (m top) ≡ 0 = omega (arith, p.once top, one-same top) in
    let same : n top ≡ m top = v.replaces.rest top (omega (arith, p.once top, one-same top, sums)) there in
    where_some (n top) (ap lacks same ∙ there)

-- the entries after the two were exchanged
pair_entries : (m : Map) (top e : ℕ) (kids us : List (Tree (suc e))) (entries : List Entry) (pair : Pair) (all above now : List Entry) → (p : HasPair m top e kids entries pair all)
    → above ≡ map (λ u. entry_of (suc e) u) us → now ≡ with_pair entries pair.left above → now ≡ map (λ u. entry_of (suc e) u) (p.before ++ (us ++ p.after))
pair_entries m top e kids us entries pair all above now p above_is is =
    let f : Tree (suc e) → Entry = λ u. entry_of (suc e) u in
    let two : List Entry = f p.first ∷ f p.second ∷ map f p.after in
    let cut : entries ≡ map f p.before ++ two = p.entries_are ∙ ap (λ us. map f us) p.cut ∙ map-append f p.before (p.first ∷ p.second ∷ p.after) in
    let front : take pair.left entries ≡ map f p.before = ap (λ xs. take pair.left xs) cut ∙ take_past (map f p.before) two pair.left 0 (omega (arith, p.index, length-map p.before f)) ∙ append-nil (map f p.before) in
    let back : drop (pair.left + 2) entries ≡ map f p.after = ap (λ xs. drop (pair.left + 2) xs) cut ∙ drop_past (map f p.before) two (pair.left + 2) 2 (omega (arith, p.index, length-map p.before f)) in
    is ∙ ap (λ xs. xs ++ (above ++ drop (pair.left + 2) entries)) front ∙ ap (λ xs. map f p.before ++ (above ++ xs)) back ∙ ap (λ xs. map f p.before ++ (xs ++ map f p.after)) above_is
    ∙ ap (λ xs. map f p.before ++ xs) (sym (map-append f us p.after)) ∙ sym (map-append f p.before (us ++ p.after))

-- the block above was written
pub pair_evened : (m n1 n2 : Map) (top e : ℕ) (kids : List (Tree (suc e))) (entries : List Entry) (pair : Pair) (all above now : List Entry) (bytes : List ℕ) → (p : HasPair m top e kids entries pair all)
    → StandsForTwo m n1 e pair.one pair.two p.first.1 p.second.1 above → now ≡ with_pair entries pair.left above → Stored n1 n2 top 1 bytes → points_in bytes ≡ Some now → length all ≤ 254
    → IsEvened m n2 top e kids pair.left now
unfolding by_trees
pair_evened m n1 n2 top e kids entries pair all above now bytes p w now_is s reads few =
    let v : StandsForTwo m n1 e p.first.0 p.second.0 p.first.1 p.second.1 above = by_trees m n1 top e kids entries pair all above p w in
    let us : List (Tree (suc e)) = evened e p.first.0 p.second.0 (p.first.1 ++ p.second.1) in
    record {
      before = p.before;
      first = p.first;
      second = p.second;
      after = p.after;
      cut = p.cut;
      index = p.index;
      replaces = pair_step tree_format m n1 n2 top e kids p.before p.after us p.first p.second bytes p.cut p.each p.once v.replaces s
          (reads ∙ ap (λ xs. Some xs) (pair_entries m top e kids us entries pair all above now p v.entries_are now_is));
      few = omega (arith, few, ap length p.all_are, length-map (p.first.1 ++ p.second.1) (λ u. entry_of e u));
    }
