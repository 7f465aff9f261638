-- Two neighbours among the entries of a block over pointer blocks, and one level of making blocks thick.
use Rattle.std.proofs.Common.{◌≡◌, ℕ, zero, suc, ◌+◌, ◌-◌, ◌<◌, ◌≤◌, inl, inr, List, [], ◌∷◌, ◌++◌, length, get_or, take, drop, map, Some, refl, sym, ap, subst, ◌∙◌, arith, append_assoc, length-append}
use Rattle.std.specs.List.{flat_map, AllByRecursion}
use Rattle.std.proofs.lemmas.Bool.{cases_lt}
use Rattle.std.proofs.lemmas.List.{append-nil, map-append, length-map}
use Rattle.std.proofs.lemmas.List.Concat.{flat_map-append}
use Rattle.vs_pages.specs.Maps.{Map, one, total}
use Rattle.vs_tree_shape.specs.declared.entries.Entry.{Entry}
use Rattle.vs_tree_shape.specs.declared.entries.Place.{Place}
use Rattle.vs_tree_shape.specs.Trees.{Tree, lines_of, uses, entry_of, IsTree, Stands}
use Rattle.vs_tree_shape.specs.Changes.{HasLineBelow, Replaces}
use Rattle.vs_tree_shape.specs.Places.{IsPlace, lines_below}
use Rattle.vs_tree_shape.specs.Filled.{Way}
use Rattle.vs_tree_shape.specs.Keeps.{KeepsBelow, IsReady, LeadsOn, spare}
use Rattle.vs_tree_shape.proofs.Steps.{above_down, above_entries}
use Rattle.vs_tree_shape.proofs.Sums.{halves, total-append}
use Rattle.vs_tree_shape.proofs.Shapes.{each-back, room}
use Rattle.vs_tree_shape.proofs.Splices.{take_past, drop_past}
use Rattle.vs_tree_shape.proofs.Walks.{Child, child_of, lines_below_kids}
use Rattle.vs_tree_shape.proofs.Towards.{Around, SameWay, around_two, cut_either, joined_leads, leads_on, one_way, same_cut, shared_leads}
use Rattle.vs_tree_blocks.specs.Blocks.{tree_format, entries_at, LeadsToPointers}
use Rattle.vs_tree_blocks.specs.Cuts.{half_of}
use Rattle.vs_merge.specs.Evens.{HasKids, HasPair, IsBoth, IsEvened, LeadsToEither, PutsPair, block_at, evened, no_entry}
use Rattle.vs_merge.proofs.Evening.{evened_joined, evened_shared, halves_many}

-- two neighbours of a list
pub record Two {X : Type 0} (xs : List X) (left : ℕ) : Type 0 where
  pub before : List X
  pub first : X
  pub second : X
  pub after : List X
  pub cut : xs ≡ before ++ (first ∷ second ∷ after)
  pub index : left ≡ length before

pub two_at : {X : Type 0} (xs : List X) (left : ℕ) → left + 2 ≤ length xs → Two xs left
two_at [] left le = absurd (omega (arith, le))
two_at (x ∷ []) left le = absurd (omega (arith, le))
two_at (x ∷ y ∷ xs) zero le = record { before = []; first = x; second = y; after = xs; cut = refl; index = refl }
two_at (x ∷ y ∷ xs) (suc left) le =
    let t : Two (y ∷ xs) left = two_at (y ∷ xs) left (omega (arith, le)) in
    record { before = x ∷ t.before; first = t.first; second = t.second; after = t.after; cut = ap (λ zs. x ∷ zs) t.cut; index = omega (arith, t.index) }

seam : {X : Type 0} (before : List X) (x : X) (after : List X) (d : X) → get_or (before ++ (x ∷ after)) (length before) d ≡ x
seam [] x after d = refl
seam (y ∷ before) x after d = seam before x after d

seam_next : {X : Type 0} (before : List X) (x y : X) (after : List X) (d : X) → get_or (before ++ (x ∷ y ∷ after)) (length before + 1) d ≡ y
seam_next [] x y after d = refl
seam_next (z ∷ before) x y after d = let e : suc (length before) + 1 ≡ suc (length before + 1) = omega arith in ap (λ k. get_or ((z ∷ before) ++ (x ∷ y ∷ after)) k d) e ∙ seam_next before x y after d

-- what was read at the place, and after it
pub got_first : {X : Type 0} (xs : List X) (left : ℕ) (x d : X) (t : Two xs left) → x ≡ get_or xs left d → x ≡ t.first
got_first xs left x d t is = is ∙ ap (λ ys. get_or ys left d) t.cut ∙ ap (λ k. get_or (t.before ++ (t.first ∷ t.second ∷ t.after)) k d) t.index ∙ seam t.before t.first (t.second ∷ t.after) d

pub got_second : {X : Type 0} (xs : List X) (left : ℕ) (x d : X) (t : Two xs left) → x ≡ get_or xs (left + 1) d → x ≡ t.second
got_second xs left x d t is = is ∙ ap (λ ys. get_or ys (left + 1) d) t.cut ∙ ap (λ k. get_or (t.before ++ (t.first ∷ t.second ∷ t.after)) (k + 1) d) t.index ∙ seam_next t.before t.first t.second t.after d

-- the two have no more lines than all
pub two_lines : (es : List Entry) (left : ℕ) (x y d : Entry) → left + 2 ≤ length es → x ≡ get_or es left d → y ≡ get_or es (left + 1) d → x.lines + y.lines ≤ lines_below es
two_lines es left x y d le a b =
    let t : Two es left = two_at es left le in
    omega (arith, ap (λ (e : Entry). e.lines) (got_first es left x d t a), ap (λ (e : Entry). e.lines) (got_second es left y d t b), ap lines_below t.cut, total-append (λ (e : Entry). e.lines) t.before (t.first ∷ t.second ∷ t.after))

-- the same neighbours among the trees
kids_at : (m : Map) (top e : ℕ) (es : List Entry) (left : ℕ) (h : HasKids m top e es) → left + 2 ≤ length es → Two h.tree.1 left
kids_at m top e es left h le = two_at h.tree.1 left (omega (arith, le, ap length h.entries_are, length-map h.tree.1 (λ u. entry_of (suc e) u)))

entries_two : (m : Map) (top e : ℕ) (es : List Entry) (left : ℕ) (h : HasKids m top e es) (t : Two h.tree.1 left) → Two es left
entries_two m top e es left h t = record {
  before = map (λ u. entry_of (suc e) u) t.before;
  first = entry_of (suc e) t.first;
  second = entry_of (suc e) t.second;
  after = map (λ u. entry_of (suc e) u) t.after;
  cut = h.entries_are ∙ ap (λ us. map (λ u. entry_of (suc e) u) us) t.cut ∙ map-append (λ u. entry_of (suc e) u) t.before (t.first ∷ t.second ∷ t.after);
  index = t.index ∙ sym (length-map t.before (λ u. entry_of (suc e) u));
}

leads : (e : ℕ) (m : Map) (u : Tree (suc e)) (x : Entry) → IsTree tree_format (suc e) m u → x ≡ entry_of (suc e) u → LeadsToPointers m x
leads e m u x is same = record {
  entries = map (λ v. entry_of e v) u.1;
  reads = ap (λ (y : Entry). entries_at m y.block) same ∙ is.0;
  lines = lines_below_kids e u.1 ∙ sym (ap (λ (y : Entry). y.lines) same);
  single = ap (λ (y : Entry). y.pages) same;
}

both_trees : (m : Map) (top e : ℕ) (es : List Entry) (left : ℕ) (h : HasKids m top e es) (t : Two h.tree.1 left) → IsTree tree_format (suc e) m t.first × IsTree tree_format (suc e) m t.second
both_trees m top e es left h t =
    let P : List (Tree (suc e)) → Type 0 = λ us. AllByRecursion (λ u. IsTree tree_format (suc e) m u) us in
    let tail : AllByRecursion (λ u. IsTree tree_format (suc e) m u) (t.first ∷ t.second ∷ t.after) = each-back (λ u. IsTree tree_format (suc e) m u) t.before (t.first ∷ t.second ∷ t.after) (subst P t.cut h.stands.tree.1) in
    (tail.0, tail.1.0)

pub leads_two : (m : Map) (top e : ℕ) (es : List Entry) (left : ℕ) (x y d : Entry) (h : HasKids m top e es) → left + 2 ≤ length es → x ≡ get_or es left d → y ≡ get_or es (left + 1) d → LeadsToPointers m x × LeadsToPointers m y
unfolding entries_two
leads_two m top e es left x y d h le a b =
    let t : Two h.tree.1 left = kids_at m top e es left h le in
    let u : Two es left = entries_two m top e es left h t in
    let both = both_trees m top e es left h t in
    (leads e m t.first x both.0 (got_first es left x d u a), leads e m t.second y both.1 (got_second es left y d u b))

same_list : (a : List Entry) (b : List Entry) → Some a ≡ Some b → a ≡ b
same_list a b e = cc

reads_kids : (e : ℕ) (m : Map) (u : Tree (suc e)) (x : Entry) (es : List Entry) → IsTree tree_format (suc e) m u → x ≡ entry_of (suc e) u → entries_at m x.block ≡ Some es → es ≡ map (λ v. entry_of e v) u.1
reads_kids e m u x es is same reads = same_list es (map (λ v. entry_of e v) u.1) (sym reads ∙ ap (λ (y : Entry). entries_at m y.block) same ∙ is.0)

pub has_pair : (m : Map) (top e : ℕ) (es : List Entry) (left : ℕ) (x y d : Entry) (all : List Entry) (h : HasKids m top e es) → left + 2 ≤ length es → x ≡ get_or es left d → y ≡ get_or es (left + 1) d → IsBoth m x.block y.block all → HasPair m top e h.tree.1 es record { left = left; one = x.block; two = y.block } all
unfolding entries_two
has_pair m top e es left x y d all h le a b is =
    let t : Two h.tree.1 left = kids_at m top e es left h le in
    let u : Two es left = entries_two m top e es left h t in
    let both = both_trees m top e es left h t in
    let one_is : x ≡ entry_of (suc e) t.first = got_first es left x d u a in
    let two_is : y ≡ entry_of (suc e) t.second = got_second es left y d u b in
    record {
      before = t.before;
      first = t.first;
      second = t.second;
      after = t.after;
      cut = t.cut;
      index = t.index;
      first_is = sym (ap (λ (z : Entry). z.block) one_is);
      second_is = sym (ap (λ (z : Entry). z.block) two_is);
      entries_are = h.entries_are;
      all_are = is.both ∙ ap (λ xs. xs ++ is.second) (reads_kids e m t.first x is.first both.0 one_is is.first_reads) ∙ ap (λ xs. map (λ v. entry_of e v) t.first.1 ++ xs) (reads_kids e m t.second y is.second both.1 two_is is.second_reads) ∙ sym (map-append (λ v. entry_of e v) t.first.1 t.second.1);
      each = h.stands.tree.1;
      once = λ k. omega (arith, room tree_format (suc (suc e)) m top 1 h.tree k h.stands, ap (λ b. one b k) h.stands.root);
    }

-- the tree above the line, with the entries of its block
pub has_kids : (m : Map) (top : Entry) (e at : ℕ) (es : List Entry) (a : HasLineBelow tree_format m top (suc (suc e)) at) → entries_at m top.block ≡ Some es → HasKids m top.block e es
has_kids m top e at es a reads = record {
  tree = a.tree;
  stands = subst (λ (i : ℕ). Stands tree_format m top.block i (suc (suc e)) a.tree) (sym a.stands.page_count) a.stands;
  entries_are = same_list es (map (λ u. entry_of (suc e) u) a.tree.1) (sym reads ∙ ap (λ (b : ℕ). entries_at m b) (sym a.stands.root) ∙ a.stands.tree.0);
}

-- the child on the way to the line leads to a pointer block
pub child_leads : (m : Map) (top : Entry) (e at : ℕ) (es : List Entry) (place : Place) (a : HasLineBelow tree_format m top (suc (suc e)) at) → entries_at m top.block ≡ Some es → IsPlace es at place → LeadsToPointers m place.entry
child_leads m top e at es place a reads is =
    let less : suc (suc e) - 1 ≡ suc e = omega arith in
    let b : HasLineBelow tree_format m place.entry (suc e) place.rest = subst (λ (i : ℕ). HasLineBelow tree_format m place.entry i place.rest) less (above_down tree_format m top (suc (suc e)) at es place (λ z. omega (arith, z)) reads is a) in
    let r = above_entries tree_format m place.entry (suc e) place.rest (λ z. omega (arith, z)) b in
    record { entries = r.0; reads = r.1; lines = r.2; single = r.3 }

-- where the line lies among the trees
child_at : (m : Map) (top : Entry) (e at : ℕ) (es : List Entry) (place : Place) (a : HasLineBelow tree_format m top (suc (suc e)) at) → entries_at m top.block ≡ Some es → IsPlace es at place → Child (suc e) a.tree.1 at place
child_at m top e at es place a reads is =
    let same : es ≡ map (λ u. entry_of (suc e) u) a.tree.1 = same_list es (map (λ u. entry_of (suc e) u) a.tree.1) (sym reads ∙ ap (λ (b : ℕ). entries_at m b) (sym a.stands.root) ∙ a.stands.tree.0) in
    child_of (suc e) a.tree.1 at place (subst (λ (xs : List Entry). IsPlace xs at place) same is)

way_of : (d : ℕ) (kids : List (Tree d)) (at : ℕ) (place : Place) → Child d kids at place → Way d kids at
way_of d kids at place child = record { before = child.before; child = child.child; after = child.after; rest = place.rest; cut = child.cut; sum = child.sum; inside = child.rest }

-- the block above has two entries at least
pub has_two : (m : Map) (need : ℕ) (top : Entry) (e at : ℕ) (es : List Entry) (a : HasLineBelow tree_format m top (suc (suc e)) at) → entries_at m top.block ≡ Some es → 1 ≤ need → IsReady need (suc (suc e)) a.tree at → 2 ≤ length es
has_two m need top e at es a reads some f =
    let same : es ≡ map (λ u. entry_of (suc e) u) a.tree.1 = same_list es (map (λ u. entry_of (suc e) u) a.tree.1) (sym reads ∙ ap (λ (b : ℕ). entries_at m b) (sym a.stands.root) ∙ a.stands.tree.0) in
    omega (arith, f.0, some, ap length same, length-map a.tree.1 (λ u. entry_of (suc e) u))

-- the block on the way has entries enough
pub enough : (m : Map) (need : ℕ) (top : Entry) (e at : ℕ) (es below : List Entry) (place : Place) (a : HasLineBelow tree_format m top (suc (suc e)) at) → entries_at m top.block ≡ Some es → IsPlace es at place
    → entries_at m place.entry.block ≡ Some below → 32 + spare (suc e) ≤ length below → IsReady need (suc (suc e)) a.tree at → LeadsOn need (suc e) a.tree at
unfolding way_of
enough m need top e at es below place a reads is child_reads many f =
    let child : Child (suc e) a.tree.1 at place = child_at m top e at es place a reads is in
    let v : Way (suc e) a.tree.1 at = way_of (suc e) a.tree.1 at place child in
    let one : SameWay (suc e) a.tree.1 at f.1.0 v = one_way (suc e) a.tree.1 at f.1.0 v in
    let P : List (Tree (suc e)) → Type 0 = λ us. AllByRecursion (λ u. IsTree tree_format (suc e) m u) us in
    let tail : AllByRecursion (λ u. IsTree tree_format (suc e) m u) (child.child ∷ child.after) = each-back (λ u. IsTree tree_format (suc e) m u) child.before (child.child ∷ child.after) (subst P child.cut a.stands.tree.1) in
    let same : below ≡ map (λ u. entry_of e u) child.child.1 = same_list below (map (λ u. entry_of e u) child.child.1) (sym child_reads ∙ ap (λ (b : ℕ). entries_at m b) (sym child.root) ∙ tail.0.0) in
    let Q : Tree (suc e) → Type 0 = λ u. 32 + spare (suc e) ≤ length u.1 in
    leads_on need e a.tree at f (subst Q (sym one.child) (omega (arith, many, ap length same, length-map child.child.1 (λ u. entry_of e u))))

evened_lines : (e p q : ℕ) (ks : List (Tree e)) → flat_map (λ u. lines_of (suc e) u) (evened e p q ks) ≡ flat_map (λ u. lines_of e u) ks
evened_lines e p q ks =
    let ls : Tree e → List (List ℕ) = λ u. lines_of e u in
    let i : ℕ = half_of (length ks) in
    elim (cases_lt 127 (length ks)) [
      | inl many ↦ ap (λ us. flat_map (λ u. lines_of (suc e) u) us) (evened_shared e p q ks many) ∙ ap (λ xs. flat_map ls (take i ks) ++ xs) (append-nil (flat_map ls (drop i ks))) ∙ sym (flat_map-append ls (take i ks) (drop i ks)) ∙ ap (λ us. flat_map ls us) (halves i ks)
      | inr few ↦ ap (λ us. flat_map (λ u. lines_of (suc e) u) us) (evened_joined e p q ks few) ∙ append-nil (flat_map ls ks)
    ]

kids_lines : (e p q : ℕ) (before after : List (Tree (suc e))) (a b : Tree (suc e)) → flat_map (λ u. lines_of (suc e) u) (before ++ (evened e p q (a.1 ++ b.1) ++ after)) ≡ flat_map (λ u. lines_of (suc e) u) (before ++ (a ∷ b ∷ after))
kids_lines e p q before after a b =
    let ls : Tree (suc e) → List (List ℕ) = λ u. lines_of (suc e) u in
    let us : List (Tree (suc e)) = evened e p q (a.1 ++ b.1) in
    let both : flat_map ls us ≡ ls a ++ ls b = evened_lines e p q (a.1 ++ b.1) ∙ flat_map-append (λ u. lines_of e u) a.1 b.1 in
    flat_map-append ls before (us ++ after) ∙ ap (λ xs. flat_map ls before ++ xs) (flat_map-append ls us after ∙ ap (λ xs. xs ++ flat_map ls after) both ∙ append_assoc (ls a) (ls b) (flat_map ls after)) ∙ sym (flat_map-append ls before (a ∷ b ∷ after))

evened_leads : (need e root p q at : ℕ) (before after : List (Tree (suc e))) (a b : Tree (suc e)) → need ≤ length before + (1 + length after) → Around e before after a.1 b.1 at
    → LeadsOn need (suc e) (root, before ++ (evened e p q (a.1 ++ b.1) ++ after)) at
evened_leads need e root p q at before after a b some x =
    let ks : List (Tree e) = a.1 ++ b.1 in
    let P : List (Tree (suc e)) → Type 0 = λ us. LeadsOn need (suc e) (root, before ++ (us ++ after)) at in
    elim (cases_lt 127 (length ks)) [
      | inl many ↦ let h = halves_many ks many in subst P (sym (evened_shared e p q ks many)) (shared_leads need e root p q (half_of (length ks)) before after a.1 b.1 at (omega (arith, some)) h.0 h.1 x)
      | inr few ↦ subst P (sym (evened_joined e p q ks few)) (joined_leads need e root p before after a.1 b.1 at some x)
    ]

-- two neighbours, of which one is on the way to the line, were evened out
pub evened_keeps : (m n : Map) (need : ℕ) (top : Entry) (e at : ℕ) (es now : List Entry) (place : Place) (left : ℕ) → entries_at m top.block ≡ Some es → IsPlace es at place → left ≤ place.index → place.index ≤ left + 1
    → ((h : HasKids m top.block e es) → IsEvened m n top.block e h.tree.1 left now) → KeepsBelow tree_format m n top (suc (suc e)) at (λ t. IsReady need (suc (suc e)) t at) (λ t. LeadsOn need (suc e) t at)
unfolding has_kids way_of
evened_keeps m n need top e at es now place left reads is low high evens a =
    let v : IsEvened m n top.block e a.tree.1 left now = evens (has_kids m top e at es a reads) in
    let us : List (Tree (suc e)) = evened e v.first.0 v.second.0 (v.first.1 ++ v.second.1) in
    let kids : List (Tree (suc e)) = v.before ++ (us ++ v.after) in
    let root : a.tree.0 ≡ top.block = a.stands.root in
    let ls : Tree (suc e) → List (List ℕ) = λ u. lines_of (suc e) u in
    let lines : flat_map ls kids ≡ flat_map ls a.tree.1 = kids_lines e v.first.0 v.second.0 v.before v.after v.first v.second ∙ ap (λ us. flat_map ls us) (sym v.cut) in
    let R : ℕ → Type 0 = λ i. Replaces tree_format m n (λ k. one i k + total (λ u. uses (suc e) u k) a.tree.1) (suc (suc e)) ((top.block, kids) ∷ []) in (
      record {
        tree = (top.block, kids);
        entry = ap (λ (i : ℕ). let x : Entry = record { block = top.block; pages = 1; lines = i } in x) (ap length lines) ∙ ap (λ (i : ℕ). let x : Entry = record { block = i; pages = 1; lines = length (flat_map ls a.tree.1) } in x) (sym root);
        lines = lines;
        replaces = subst R (sym root) v.replaces;
      },
      λ f.
          let child : Child (suc e) a.tree.1 at place = child_at m top e at es place a reads is in
          let w : Way (suc e) a.tree.1 at = way_of (suc e) a.tree.1 at place child in
          let same : SameWay (suc e) a.tree.1 at f.1.0 w = one_way (suc e) a.tree.1 at f.1.0 w in
          let index : length f.1.0.before ≡ place.index = ap length same.before ∙ sym child.index in
          let x : Around e v.before v.after v.first.1 v.second.1 at = around_two e a.tree.1 v.before v.after v.first v.second at v.cut f.1 (omega (arith, index, low, v.index)) (omega (arith, index, high, v.index)) in
          evened_leads need e top.block v.first.0 v.second.0 at v.before v.after v.first v.second (omega (arith, f.0, ap length v.cut, length-append v.before (v.first ∷ v.second ∷ v.after))) x,
    )

among : (P : Entry → Type 0) (xs ys zs before : List Entry) (e : Entry) (after : List Entry) (rest : ℕ) → xs ++ (ys ++ zs) ≡ before ++ e ∷ after → lines_below xs ≤ lines_below before + rest
    → lines_below before + rest < lines_below xs + lines_below ys → rest < e.lines → AllByRecursion P ys → P e
among P xs ys zs before e after rest cut low high inside each = elim (cut_either xs (ys ++ zs) before e after cut) [
  | inl m ↦ absurd (omega (arith, low, inside, ap lines_below m.1, total-append (λ (x : Entry). x.lines) before (e ∷ m.0)))
  | inr m ↦ elim (cut_either ys zs m.0 e after m.2) [
    | inl k ↦ let Q : List Entry → Type 0 = λ us. AllByRecursion P us in (each-back P m.0 (e ∷ k.0) (subst Q k.1 each)).0
    | inr k ↦ absurd (omega (arith, high, ap lines_below m.1, total-append (λ (x : Entry). x.lines) xs m.0, ap lines_below k.1, total-append (λ (x : Entry). x.lines) ys k.0))
  ]
]

-- where the line lies between the two
between : (es : List Entry) (at left : ℕ) (place : Place) (t : Two es left) → IsPlace es at place → left ≤ place.index → place.index ≤ left + 1
    → (lines_below t.before ≤ at) × (at < lines_below t.before + (t.first.lines + t.second.lines))
between es at left place t is low high = elim (cases_lt left place.index) [
  | inl more ↦
      let r = same_cut is.before (t.before ++ t.first ∷ []) (place.entry ∷ is.after) (t.second ∷ t.after) (omega (arith, is.index, t.index, more, high, length-append t.before (t.first ∷ []))) (sym is.cut ∙ t.cut ∙ sym (append_assoc t.before (t.first ∷ []) (t.second ∷ t.after))) in
      let heads : place.entry ∷ is.after ≡ t.second ∷ t.after = r.1 in
      let entry : place.entry ≡ t.second = cc in (
        omega (arith, is.sum, ap lines_below r.0, total-append (λ (x : Entry). x.lines) t.before (t.first ∷ [])),
        omega (arith, is.sum, is.rest, ap lines_below r.0, total-append (λ (x : Entry). x.lines) t.before (t.first ∷ []), ap (λ (x : Entry). x.lines) entry),
      )
  | inr same ↦
      let r = same_cut is.before t.before (place.entry ∷ is.after) (t.first ∷ t.second ∷ t.after) (omega (arith, is.index, t.index, same, low)) (sym is.cut ∙ t.cut) in
      let heads : place.entry ∷ is.after ≡ t.first ∷ (t.second ∷ t.after) = r.1 in
      let entry : place.entry ≡ t.first = cc in
      (omega (arith, is.sum, ap lines_below r.0), omega (arith, is.sum, is.rest, ap lines_below r.0, ap (λ (x : Entry). x.lines) entry))
]

-- the line lies below one of the two pages then
pub place_either : (es now : List Entry) (at left : ℕ) (was place : Place) → left + 2 ≤ length es → PutsPair es left now → IsPlace es at was → left ≤ was.index → was.index ≤ left + 1 → IsPlace now at place
    → LeadsToEither (block_at es left) (block_at es (left + 1)) place.entry
place_either es now at left was place fits puts is low high then =
    let t : Two es left = two_at es left fits in
    let b = between es at left was t is low high in
    let front : take left es ≡ t.before = ap (λ xs. take left xs) t.cut ∙ take_past t.before (t.first ∷ t.second ∷ t.after) left 0 (omega (arith, t.index)) ∙ append-nil t.before in
    let lines : lines_below puts.by ≡ t.first.lines + t.second.lines = puts.lines ∙ ap (λ (x : Entry). x.lines + (get_or es (left + 1) no_entry).lines) (got_first es left (get_or es left no_entry) no_entry t refl) ∙ ap (λ (x : Entry). t.first.lines + x.lines) (got_second es left (get_or es (left + 1) no_entry) no_entry t refl) in
    among (LeadsToEither (block_at es left) (block_at es (left + 1))) (take left es) puts.by (drop (left + 2) es) then.before place.entry then.after place.rest (sym puts.now_is ∙ then.cut)
    (omega (arith, b.0, ap lines_below front, then.sum)) (omega (arith, b.1, ap lines_below front, lines, then.sum)) then.rest puts.either

-- the two have no more lines than all
pub pair_lines : (es now : List Entry) (left : ℕ) → left + 2 ≤ length es → PutsPair es left now → lines_below now ≡ lines_below es
pair_lines es now left fits puts =
    let t : Two es left = two_at es left fits in
    let front : take left es ≡ t.before = ap (λ xs. take left xs) t.cut ∙ take_past t.before (t.first ∷ t.second ∷ t.after) left 0 (omega (arith, t.index)) ∙ append-nil t.before in
    let back : drop (left + 2) es ≡ t.after = ap (λ xs. drop (left + 2) xs) t.cut ∙ drop_past t.before (t.first ∷ t.second ∷ t.after) (left + 2) 2 (omega (arith, t.index)) in
    omega (
      arith,
      ap lines_below puts.now_is,
      total-append (λ (x : Entry). x.lines) (take left es) (puts.by ++ drop (left + 2) es),
      total-append (λ (x : Entry). x.lines) puts.by (drop (left + 2) es),
      ap lines_below front,
      ap lines_below back,
      puts.lines,
      ap (λ (x : Entry). x.lines) (got_first es left (get_or es left no_entry) no_entry t refl),
      ap (λ (x : Entry). x.lines) (got_second es left (get_or es (left + 1) no_entry) no_entry t refl),
      ap lines_below t.cut,
      total-append (λ (x : Entry). x.lines) t.before (t.first ∷ t.second ∷ t.after),
    )
