-- A step of a change, on the way back from a block to the block above it, cuts one data block and keeps the others: each stands on
-- pages that stay.
use Rattle.std.proofs.Common.{◌≡◌, ℕ, zero, suc, ◌+◌, ◌-◌, ◌≤◌, List, [], ◌∷◌, ◌++◌, length, take, drop, map, unwrap_or, Option, Some, sym, refl, ap, subst, ◌∙◌, inl, inr, arith, append-nil, append_assoc, length-append}
use Rattle.std.specs.List.{flat_map, AllByRecursion}
use Rattle.std.proofs.lemmas.Bool.{cases_eq}
use Rattle.std.proofs.lemmas.List.{map-append}
use Rattle.std.proofs.lemmas.List.Concat.{flat_map-append}
use Rattle.vs_pages.specs.Maps.{Map, lacks, one, total, pages_at}
use Rattle.vs_pages.proofs.MapsLemmas.{one-other}
use Rattle.vs_tree_shape.specs.declared.entries.Entry.{Entry}
use Rattle.vs_tree_shape.specs.declared.entries.Place.{Place}
use Rattle.vs_tree_shape.specs.Trees.{Format, read_by, Tree, root_of, width_of, lines_of, uses, entry_of, IsTree}
use Rattle.vs_tree_shape.specs.Changes.{Change, HasLineBelow, Below, ChangesBelow}
use Rattle.vs_tree_shape.specs.DataBlocks.{Cuts, as_block, blocks_below, lines_in_blocks, read_blocks}
use Rattle.vs_tree_shape.specs.Places.{IsPlace}
use Rattle.vs_tree_shape.proofs.Shapes.{each-front, each-back, each_kept, lacks_cases, unused_each}
use Rattle.vs_tree_shape.proofs.Steps.{Inside, beside_stays, inner_child, inside_child, less_promise}
use Rattle.vs_tree_shape.proofs.Sums.{total-append}
use Rattle.vs_tree_shape.proofs.Thins.{entries_cut, entry_is}
use Rattle.vs_tree_shape.proofs.Walks.{Child}

-- the data blocks of a tree
abbrev pub blocks_of : (d : ℕ) → Tree d → List (List (List ℕ))
blocks_of zero t = t.lines ∷ []
blocks_of (suc d) t = flat_map (λ u. blocks_of d u) t.1

read_each : (c : Format) (d : ℕ) (m : Map) → ((t : Tree d) → IsTree c d m t → read_blocks c d m (root_of d t) (width_of d t) ≡ blocks_of d t)
    → (us : List (Tree d)) → AllByRecursion (λ u. IsTree c d m u) us → blocks_below c d m (map (λ u. entry_of d u) us) ≡ flat_map (λ u. blocks_of d u) us
read_each c d m ih [] each = refl
read_each c d m ih (u ∷ us) each =
    ap (λ xs. xs ++ blocks_below c d m (map (λ u. entry_of d u) us)) (ih u each.0) ∙ ap (λ xs. blocks_of d u ++ xs) (read_each c d m ih us each.1)

-- what is read of a tree is its data blocks
pub read_tree_blocks : (c : Format) (d : ℕ) (m : Map) (t : Tree d) → IsTree c d m t → read_blocks c d m (root_of d t) (width_of d t) ≡ blocks_of d t
read_tree_blocks c zero m t is = ap as_block is.1
read_tree_blocks c (suc d) m t is =
    ap (λ (o : Option (List Entry)). blocks_below c d m (unwrap_or o [])) is.0 ∙ read_each c d m (λ u. read_tree_blocks c d m u) t.1 is.1

pub blocks_below_trees : (c : Format) (d : ℕ) (m : Map) (us : List (Tree d)) → AllByRecursion (λ u. IsTree c d m u) us
    → blocks_below c d m (map (λ u. entry_of d u) us) ≡ flat_map (λ u. blocks_of d u) us
blocks_below_trees c d m us each = read_each c d m (λ u. read_tree_blocks c d m u) us each

count_each : (d : ℕ) → ((t : Tree d) → lines_in_blocks (blocks_of d t) ≡ length (lines_of d t)) → (us : List (Tree d))
    → lines_in_blocks (flat_map (λ u. blocks_of d u) us) ≡ length (flat_map (λ u. lines_of d u) us)
count_each d ih [] = refl
count_each d ih (u ∷ us) =
    omega (
      arith,
      total-append (λ (ls : List (List ℕ)). length ls) (blocks_of d u) (flat_map (λ u. blocks_of d u) us),
      ih u,
      count_each d ih us,
      length-append (lines_of d u) (flat_map (λ u. lines_of d u) us),
    )

-- the data blocks have the lines of the tree
pub blocks_count : (d : ℕ) (t : Tree d) → lines_in_blocks (blocks_of d t) ≡ length (lines_of d t)
blocks_count zero t = omega arith
blocks_count (suc d) t = count_each d (λ u. blocks_count d u) t.1

-- a block is cut among others
pub cuts_within : (Into : List (List ℕ) → ℕ → List (List (List ℕ)) → Type 0) (front xs back all ys now : List (List (List ℕ))) (at rest : ℕ)
    → all ≡ front ++ (xs ++ back) → now ≡ front ++ (ys ++ back) → at ≡ lines_in_blocks front + rest → Cuts xs rest Into ys → Cuts all at Into now
cuts_within Into front xs back all ys now at rest all_is now_is sum k = record {
  front = front ++ k.front;
  here = k.here;
  back = k.back ++ back;
  rest = k.rest;
  parts = k.parts;
  all_are = all_is ∙ ap (λ bs. front ++ (bs ++ back)) k.all_are ∙ simp append_assoc;
  place = omega (arith, sum, k.place, total-append (λ (ls : List (List ℕ)). length ls) front k.front);
  inside = k.inside;
  into = k.into;
  after_are = now_is ∙ ap (λ bs. front ++ (bs ++ back)) k.after_are ∙ simp append_assoc;
}

-- trees whose pages stay have the same data blocks
blocks_kept : (c : Format) (d : ℕ) (m n : Map) (us : List (Tree d)) → ((k : ℕ) → 1 ≤ total (λ u. uses d u k) us → n k ≡ m k)
    → AllByRecursion (λ u. IsTree c d m u) us → blocks_below c d n (map (λ u. entry_of d u) us) ≡ blocks_below c d m (map (λ u. entry_of d u) us)
blocks_kept c d m n us same each = blocks_below_trees c d n us (each_kept c d m n us same each) ∙ sym (blocks_below_trees c d m us each)

-- a block is written over what a change left below it
blocks_over : (c : Format) (n1 n2 : Map) (block e : ℕ) (now : List (Tree e)) (mid : List Entry) → Below c n1 block e now mid
    → ((k : ℕ) → one block k ≡ 0 → lacks (n1 k) ≡ 0 → n2 k ≡ n1 k) → blocks_below c e n2 mid ≡ blocks_below c e n1 mid
blocks_over c n1 n2 block e now mid below others =
    ap (λ es. blocks_below c e n2 es) below.entries_are ∙ blocks_kept c e n1 n2 now (λ k used. elim (lacks_cases (n1 k)) [
      | inl there ↦ elim (cases_eq k block) [
        | inl same ↦ absurd (omega (arith, used, below.free, ap (λ j. total (λ u. uses e u j) now) same))
        | inr ne ↦ others k (one-other block k ne) there
      ]
      | inr gone ↦ absurd (omega (arith, used, unused_each c e n1 now k below.each gone))
    ]) below.each ∙ sym (ap (λ es. blocks_below c e n1 es) below.entries_are)

blocks_append : (c : Format) (e : ℕ) (m : Map) (front mid back : List Entry)
    → blocks_below c e m (front ++ (mid ++ back)) ≡ blocks_below c e m front ++ (blocks_below c e m mid ++ blocks_below c e m back)
blocks_append c e m front mid back =
    let f : Entry → List (List (List ℕ)) = λ (x : Entry). read_blocks c e m x.block x.pages in
    flat_map-append f front (mid ++ back) ∙ ap (λ bs. flat_map f front ++ bs) (flat_map-append f mid back)

cuts_child : (c : Format) (m n1 n2 : Map) (top : Entry) (at bytes : ℕ) (change : Change) (e : ℕ) (a : HasLineBelow c m top (suc e) at) (es es1 mid : List Entry) (place : Place)
    (Into : List (List ℕ) → ℕ → List (List (List ℕ)) → Type 0) → read_by c.entries (pages_at m top.block 1) ≡ Some es → IsPlace es at place
    → mid ≡ take place.index es ++ (es1 ++ drop (place.index + 1) es) → ChangesBelow c m n1 place.entry e place.rest bytes change es1
    → ((k : ℕ) → one top.block k ≡ 0 → lacks (n1 k) ≡ 0 → n2 k ≡ n1 k)
    → Cuts (read_blocks c e m place.entry.block place.entry.pages) place.rest Into (blocks_below c e n1 es1) → Cuts (blocks_below c e m es) at Into (blocks_below c e n2 mid)
cuts_child c m n1 n2 top at bytes change e a es es1 mid place Into has is mid_is promise others k =
    let both : (es ≡ map (λ u. entry_of e u) a.tree.1) × Child e a.tree.1 at place = inner_child c m top.block top.pages at e a.tree es place a.stands has is in
    let child : Child e a.tree.1 at place = both.1 in
    let stays = beside_stays c m n1 top at bytes change e a es1 place child promise in
    let i : Inside c m n1 top.block at bytes change e a.tree.1 mid = inside_child c m n1 top at bytes change e a es es1 mid place has is mid_is promise in
    let f : Tree e → Entry = λ u. entry_of e u in
    let P : List (Tree e) → Type 0 = λ us. AllByRecursion (λ u. IsTree c e m u) us in
    let cut_each : AllByRecursion (λ u. IsTree c e m u) (child.before ++ child.child ∷ child.after) = subst P child.cut a.stands.tree.1 in
    let each_before = each-front (λ u. IsTree c e m u) child.before (child.child ∷ child.after) cut_each in
    let each_after = (each-back (λ u. IsTree c e m u) child.before (child.child ∷ child.after) cut_each).1 in
    let parts = entries_cut f child.before child.child child.after es place.index (both.0 ∙ ap (λ us. map f us) child.cut) child.index in
    let front : List (List (List ℕ)) = blocks_below c e m (map f child.before) in
    let back : List (List (List ℕ)) = blocks_below c e m (map f child.after) in
    let front_kept : blocks_below c e n1 (take place.index es) ≡ front =
    ap (λ xs. blocks_below c e n1 xs) parts.0 ∙ blocks_kept c e m n1 child.before (λ k used. stays k (omega (arith, used))) each_before in
    let back_kept : blocks_below c e n1 (drop (place.index + 1) es) ≡ back =
    ap (λ xs. blocks_below c e n1 xs) parts.1 ∙ blocks_kept c e m n1 child.after (λ k used. stays k (omega (arith, used))) each_after in
    let one_is : entry_of e child.child ≡ place.entry = entry_is e a.tree.1 at place child in
    let before_is : es ≡ map f child.before ++ ((place.entry ∷ []) ++ map f child.after) =
    both.0 ∙ ap (λ us. map f us) child.cut ∙ map-append f child.before (child.child ∷ child.after) ∙ ap (λ (x : Entry). map f child.before ++ x ∷ map f child.after) one_is in
    let single : blocks_below c e m (place.entry ∷ []) ≡ read_blocks c e m place.entry.block place.entry.pages = append-nil (read_blocks c e m place.entry.block place.entry.pages) in
    cuts_within Into front (read_blocks c e m place.entry.block place.entry.pages) back (blocks_below c e m es) (blocks_below c e n1 es1) (blocks_below c e n2 mid) at place.rest
    (ap (λ xs. blocks_below c e m xs) before_is ∙ blocks_append c e m (map f child.before) (place.entry ∷ []) (map f child.after) ∙ ap (λ bs. front ++ (bs ++ back)) single)
    (blocks_over c n1 n2 top.block e i.now mid i.below others ∙ ap (λ xs. blocks_below c e n1 xs) mid_is ∙ blocks_append c e n1 (take place.index es) es1 (drop (place.index + 1) es)
    ∙ ap (λ bs. bs ++ (blocks_below c e n1 es1 ++ blocks_below c e n1 (drop (place.index + 1) es))) front_kept ∙ ap (λ bs. front ++ (blocks_below c e n1 es1 ++ bs)) back_kept)
    (omega (arith, child.sum, ap lines_in_blocks (blocks_below_trees c e m child.before each_before), count_each e (λ u. blocks_count e u) child.before))
    k

-- the data blocks below a pointer block are cut as those below its entry on the way were, after that entry was exchanged for others
-- and the block was written
pub cuts_inside : (c : Format) (m n1 n2 : Map) (top : Entry) (depth at bytes : ℕ) (change : Change) (es es1 mid : List Entry) (place : Place)
    (Into : List (List ℕ) → ℕ → List (List (List ℕ)) → Type 0) → (depth ≡ 0 → ⊥) → read_by c.entries (pages_at m top.block 1) ≡ Some es → IsPlace es at place
    → mid ≡ take place.index es ++ (es1 ++ drop (place.index + 1) es) → ChangesBelow c m n1 place.entry (depth - 1) place.rest bytes change es1 → HasLineBelow c m top depth at
    → ((k : ℕ) → one top.block k ≡ 0 → lacks (n1 k) ≡ 0 → n2 k ≡ n1 k)
    → Cuts (read_blocks c (depth - 1) m place.entry.block place.entry.pages) place.rest Into (blocks_below c (depth - 1) n1 es1)
    → Cuts (read_blocks c depth m top.block top.pages) at Into (blocks_below c (depth - 1) n2 mid)
cuts_inside c m n1 n2 top zero at bytes change es es1 mid place Into some has is mid_is promise a others k = absurd (some refl)
cuts_inside c m n1 n2 top (suc e) at bytes change es es1 mid place Into some has is mid_is promise a others k =
    let less : suc e - 1 ≡ e = omega arith in
    let P : ℕ → Type 0 = λ d. Cuts (read_blocks c d m place.entry.block place.entry.pages) place.rest Into (blocks_below c d n1 es1) in
    let here : Cuts (blocks_below c e m es) at Into (blocks_below c e n2 mid) =
    cuts_child c m n1 n2 top at bytes change e a es es1 mid place Into has is mid_is (less_promise c m n1 place.entry e place.rest bytes change es1 promise) others (subst P less k) in
    let reads : blocks_below c e m es ≡ read_blocks c (suc e) m top.block top.pages = sym (ap (λ (o : Option (List Entry)). blocks_below c e m (unwrap_or o [])) has) in
    let Q : List (List (List ℕ)) → Type 0 = λ bs. Cuts bs at Into (blocks_below c (suc e - 1) n2 mid) in
    subst Q reads (subst (λ (d : ℕ). Cuts (blocks_below c e m es) at Into (blocks_below c d n2 mid)) (sym less) here)
