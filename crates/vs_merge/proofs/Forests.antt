-- Trees beside each other, exchanged one after the other for those below them, or some at a time for one above them.
use Rattle.std.proofs.Common.{◌≡◌, ℕ, zero, suc, ◌+◌, ◌-◌, ◌<◌, ◌≤◌, List, [], ◌∷◌, ◌++◌, length, get_or, take, drop, map, Option, Some, None, IsSome, is_some, refl, sym, ap, subst, ◌∙◌, inl, inr, arith, append_assoc, length-append}
use Rattle.std.proofs.lemmas.Option.{same_Some}
use Rattle.std.specs.List.{flat_map, AllByRecursion}
use Rattle.std.proofs.lemmas.Bool.{cases_lt}
use Rattle.std.proofs.lemmas.List.{append-nil, map-append, length-map}
use Rattle.std.proofs.lemmas.List.Concat.{flat_map-append}
use Rattle.vs_pages.specs.Maps.{Map, joined, lacks, one, total, pages_at, without}
use Rattle.vs_pages.proofs.MapsLemmas.{one-same}
use Rattle.vs_tree_shape.specs.declared.entries.Entry.{Entry}
use Rattle.vs_tree_shape.specs.Places.{lines_below}
use Rattle.vs_tree_shape.specs.Trees.{Leaf, Tree, entry_of, lines_of, uses, IsTree, HasLines}
use Rattle.vs_tree_shape.specs.Changes.{Replaces, Added, Stored, pointer_entry}
use Rattle.vs_tree_shape.specs.Filled.{IsFilled, IsFilledRoot, root_least}
use Rattle.vs_tree_shape.proofs.Sums.{halves, total-append}
use Rattle.vs_tree_shape.proofs.Shapes.{each-append, each-back, each-front, kept, lacks_cases, read_from, room, unused, unused_each, each_kept}
use Rattle.vs_tree_shape.proofs.Walks.{lines_below_kids, root_bytes}
use Rattle.vs_tree_shape.proofs.Writes.{entry_lines, freed, left_alone, map_drop, map_take, replaces_as}
use Rattle.vs_tree_shape.proofs.Joins.{replaces_then}
use Rattle.vs_tree_shape.proofs.Lowers.{replaced_has}
use Rattle.vs_tree_blocks.specs.Blocks.{tree_format, entries_at, points_in, LeadsToPointers}
use Rattle.vs_merge.specs.Evens.{no_entry}
use Rattle.vs_merge.specs.Forests.{Exchanges, HasForest}
use Rattle.vs_merge.proofs.Settles.{closed, opened, replaces_beside, replaces_nothing, root_over}

-- an element of a list with those before it
pub record Nth {X : Type 0} (xs : List X) (i : ℕ) : Type 0 where
  pub item : X
  pub after : List X
  pub cut : xs ≡ take i xs ++ item ∷ after
  pub more : take (i + 1) xs ≡ take i xs ++ item ∷ []

pub nth : {X : Type 0} (xs : List X) (i : ℕ) → i < length xs → Nth xs i
nth [] i lt = absurd (omega (arith, lt))
nth (x ∷ xs) zero lt = record { item = x; after = xs; cut = refl; more = refl }
nth (x ∷ xs) (suc i) lt =
    let r : Nth xs i = nth xs i (omega (arith, lt)) in
    let e : suc i + 1 ≡ suc (i + 1) = omega arith in
    record { item = r.item; after = r.after; cut = ap (λ ys. x ∷ ys) r.cut; more = ap (λ k. take k (x ∷ xs)) e ∙ ap (λ ys. x ∷ ys) r.more }

got_past : {X : Type 0} (xs : List X) (x : X) (ys : List X) (i : ℕ) (d : X) → i ≡ length xs → get_or (xs ++ x ∷ ys) i d ≡ x
got_past [] x ys i d is = ap (λ k. get_or (x ∷ ys) k d) is
got_past (z ∷ xs) x ys zero d is = absurd (omega (arith, is))
got_past (z ∷ xs) x ys (suc i) d is = got_past xs x ys i d (omega (arith, is))

taken_size : {X : Type 0} (xs : List X) (i : ℕ) → i ≤ length xs → length (take i xs) ≡ i
taken_size xs zero le = refl
taken_size [] (suc i) le = absurd (omega (arith, le))
taken_size (x ∷ xs) (suc i) le = omega (arith, taken_size xs i (omega (arith, le)))

pub nth_entry : (d : ℕ) (us : List (Tree d)) (es : List Entry) (i : ℕ) (r : Nth us i) → i < length us → es ≡ map (λ u. entry_of d u) us → get_or es i no_entry ≡ entry_of d r.item
nth_entry d us es i r lt is =
    let f : Tree d → Entry = λ u. entry_of d u in
    ap (λ xs. get_or xs i no_entry) (is ∙ ap (λ vs. map f vs) r.cut ∙ map-append f (take i us) (r.item ∷ r.after))
    ∙ got_past (map f (take i us)) (f r.item) (map f r.after) i no_entry (omega (arith, length-map (take i us) f, taken_size us i (omega (arith, lt))))

take_all : {X : Type 0} (xs : List X) → take (length xs) xs ≡ xs
take_all [] = refl
take_all (x ∷ xs) = ap (λ ys. x ∷ ys) (take_all xs)

-- the trees of a forest that are exchanged already, and the others
pub forest_size : (m : Map) (d : ℕ) (es : List Entry) (f : HasForest m d es) → length f.trees ≡ length es
forest_size m d es f = sym (ap length f.entries_are ∙ length-map f.trees (λ u. entry_of d u))

room_left : (m : Map) (d : ℕ) (es : List Entry) (f : HasForest m d es) (i k : ℕ) (r : Nth f.trees i) → (total (λ u. uses d u k) (take i f.trees) + uses d r.item k) + lacks (m k) ≤ 1
room_left m d es f i k r = omega (arith, f.once k, ap (λ us. total (λ u. uses d u k) us) r.cut, total-append (λ u. uses d u k) (take i f.trees) (r.item ∷ r.after))

-- the next tree stands as before
pub next_there : (m n : Map) (d e : ℕ) (es now : List Entry) (f : HasForest m d es) (i : ℕ) (r : Nth f.trees i) → Exchanges m n d e (take i f.trees) now → IsTree tree_format d n r.item
next_there m n d e es now f i r x =
    let P : List (Tree d) → Type 0 = λ us. AllByRecursion (λ u. IsTree tree_format d m u) us in
    let is : IsTree tree_format d m r.item = (each-back (λ u. IsTree tree_format d m u) (take i f.trees) (r.item ∷ r.after) (subst P r.cut f.each)).0 in
    kept tree_format d m n r.item (λ k used. x.replaces.rest k (omega (arith, room_left m d es f i k r, used)) (omega (arith, room_left m d es f i k r, used))) is

next_once : (m n : Map) (d e : ℕ) (es now : List Entry) (f : HasForest m d es) (i k : ℕ) (r : Nth f.trees i) → Exchanges m n d e (take i f.trees) now → uses d r.item k + lacks (n k) ≤ 1
next_once m n d e es now f i k r x = elim (lacks_cases (n k)) [
  | inl there ↦ omega (arith, room_left m d es f i k r, there)
  | inr gone ↦ omega (arith, unused tree_format d n r.item k (next_there m n d e es now f i r x) gone, gone)
]

-- nothing is exchanged yet
pub exchanges_none : (m n : Map) (d e : ℕ) → n ≡ m → Exchanges m n d e [] []
exchanges_none m n d e same = subst (λ (f : Map). Exchanges m f d e [] []) (sym same) (record { trees = []; entries_are = refl; replaces = replaces_nothing tree_format m e; lines = refl; filled = λ each. tt })

-- the next trees exchanged for some
exchanges_run : (m n1 n2 : Map) (d e : ℕ) (es now more : List Entry) (f : HasForest m d es) (i j : ℕ) (mids after : List (Tree d)) (us : List (Tree e)) → f.trees ≡ take i f.trees ++ (mids ++ after) → take j f.trees ≡ take i f.trees ++ mids
    → Exchanges m n1 d e (take i f.trees) now → Replaces tree_format n1 n2 (λ k. total (λ u. uses d u k) mids) e us → more ≡ map (λ u. entry_of e u) us → flat_map (λ u. lines_of e u) us ≡ flat_map (λ u. lines_of d u) mids
    → (AllByRecursion (λ u. IsFilled 32 d u) mids → AllByRecursion (λ u. IsFilled 32 e u) us) → Exchanges m n2 d e (take j f.trees) (now ++ more)
exchanges_run m n1 n2 d e es now more f i j mids after us cut next x w more_is lines filled =
    let done : List (Tree d) = take i f.trees in
    let old : ℕ → ℕ = λ k. total (λ u. uses d u k) done + total (λ u. uses d u k) mids in
    let counts : (k : ℕ) → old k ≡ total (λ u. uses d u k) (take j f.trees) = λ k. omega (arith, ap (λ vs. total (λ u. uses d u k) vs) next, total-append (λ u. uses d u k) done mids) in
    let room : (k : ℕ) → old k + lacks (m k) ≤ 1 = λ k. omega (arith, f.once k, ap (λ vs. total (λ u. uses d u k) vs) cut, total-append (λ u. uses d u k) done (mids ++ after), total-append (λ u. uses d u k) mids after) in
    let g : Tree e → Entry = λ u. entry_of e u in
    let ls : Tree d → List (List ℕ) = λ u. lines_of d u in
    let ks : Tree e → List (List ℕ) = λ u. lines_of e u in
    let P : List (Tree d) → Type 0 = λ vs. AllByRecursion (λ u. IsFilled 32 d u) vs in
    record {
      trees = x.trees ++ us;
      entries_are = ap (λ xs. xs ++ more) x.entries_are ∙ ap (λ xs. map g x.trees ++ xs) more_is ∙ sym (map-append g x.trees us);
      replaces = replaces_as tree_format m n2 e old (λ k. total (λ u. uses d u k) (take j f.trees)) (x.trees ++ us) counts
          (replaces_beside tree_format m n1 n2 e (λ k. total (λ u. uses d u k) done) (λ k. total (λ u. uses d u k) mids) x.trees us room x.replaces w);
      lines = flat_map-append ks x.trees us ∙ ap (λ xs. xs ++ flat_map ks us) x.lines ∙ ap (λ xs. flat_map ls done ++ xs) lines ∙ sym (flat_map-append ls done mids) ∙ ap (λ vs. flat_map ls vs) (sym next);
      filled = λ each.
          let both : AllByRecursion (λ u. IsFilled 32 d u) (done ++ mids) = subst P next each in
          each-append (λ u. IsFilled 32 e u) x.trees us (x.filled (each-front (λ u. IsFilled 32 d u) done mids both)) (filled (each-back (λ u. IsFilled 32 d u) done mids both));
    }

-- the next tree exchanged for some
exchanges_more : (m n1 n2 : Map) (d e : ℕ) (es now more : List Entry) (f : HasForest m d es) (i : ℕ) (r : Nth f.trees i) (us : List (Tree e)) → Exchanges m n1 d e (take i f.trees) now
    → Replaces tree_format n1 n2 (λ k. uses d r.item k) e us → more ≡ map (λ u. entry_of e u) us → flat_map (λ u. lines_of e u) us ≡ lines_of d r.item → (IsFilled 32 d r.item → AllByRecursion (λ u. IsFilled 32 e u) us)
    → Exchanges m n2 d e (take (i + 1) f.trees) (now ++ more)
exchanges_more m n1 n2 d e es now more f i r us x w more_is lines filled =
    exchanges_run m n1 n2 d e es now more f i (i + 1) (r.item ∷ []) r.after us r.cut r.more x
    (replaces_as tree_format n1 n2 e (λ k. uses d r.item k) (λ k. uses d r.item k + 0) us (λ k. omega arith) w) more_is (lines ∙ sym (append-nil (lines_of d r.item))) (λ each. filled each.0)

-- the next pointer block can be read
pub next_leads : (m n : Map) (d : ℕ) (es now : List Entry) (f : HasForest m (suc d) es) (i : ℕ) (entry : Entry) → i < length es → entry ≡ get_or es i no_entry → Exchanges m n (suc d) d (take i f.trees) now → LeadsToPointers n entry
next_leads m n d es now f i entry lt is x =
    let r : Nth f.trees i = nth f.trees i (omega (arith, lt, forest_size m (suc d) es f)) in
    let same : entry ≡ entry_of (suc d) r.item = is ∙ nth_entry (suc d) f.trees es i r (omega (arith, lt, forest_size m (suc d) es f)) f.entries_are in
    let tree : IsTree tree_format (suc d) n r.item = next_there m n (suc d) d es now f i r x in
    record {
      entries = map (λ u. entry_of d u) r.item.1;
      reads = ap (λ (y : Entry). entries_at n y.block) same ∙ tree.0;
      lines = lines_below_kids d r.item.1 ∙ sym (ap (λ (y : Entry). y.lines) same);
      single = ap (λ (y : Entry). y.pages) same;
    }

-- it was given back
pub opens_more : (m n1 n2 : Map) (d : ℕ) (es now more : List Entry) (f : HasForest m (suc d) es) (i : ℕ) (entry : Entry) → i < length es → entry ≡ get_or es i no_entry → Exchanges m n1 (suc d) d (take i f.trees) now
    → entries_at n1 entry.block ≡ Some more → n2 ≡ without n1 entry.block 1 → Exchanges m n2 (suc d) d (take (i + 1) f.trees) (now ++ more)
opens_more m n1 n2 d es now more f i entry lt is x reads gone =
    let r : Nth f.trees i = nth f.trees i (omega (arith, lt, forest_size m (suc d) es f)) in
    let same : entry ≡ entry_of (suc d) r.item = is ∙ nth_entry (suc d) f.trees es i r (omega (arith, lt, forest_size m (suc d) es f)) f.entries_are in
    let block : entry.block ≡ r.item.0 = ap (λ (y : Entry). y.block) same in
    let tree : IsTree tree_format (suc d) n1 r.item = next_there m n1 (suc d) d es now f i r x in
    let more_is : more ≡ map (λ u. entry_of d u) r.item.1 = same_Some more (map (λ u. entry_of d u) r.item.1) (sym reads ∙ ap (λ (b : ℕ). entries_at n1 b) block ∙ tree.0) in
    exchanges_more m n1 n2 (suc d) d es now more f i r r.item.1 x
    (opened tree_format n1 n2 d r.item tree (λ k. next_once m n1 (suc d) d es now f i k r x) (gone ∙ ap (λ (b : ℕ). without n1 b 1) block)) more_is refl (λ filled. filled.1)

-- the next data block, which has no lines
no_lines : (ls : List (List ℕ)) → length ls ≡ 0 → ls ≡ []
no_lines [] none = refl
no_lines (l ∷ ls) none = absurd (omega (arith, none))

pub next_block : (m n : Map) (es now : List Entry) (f : HasForest m 0 es) (i : ℕ) (entry : Entry) → i < length es → entry ≡ get_or es i no_entry → Exchanges m n 0 0 (take i f.trees) now → IsSome (pages_at n entry.block entry.pages)
next_block m n es now f i entry lt is x =
    let r : Nth f.trees i = nth f.trees i (omega (arith, lt, forest_size m 0 es f)) in
    let same : entry ≡ entry_of 0 r.item = is ∙ nth_entry 0 f.trees es i r (omega (arith, lt, forest_size m 0 es f)) f.entries_are in
    let bytes = root_bytes tree_format 0 n r.item (next_there m n 0 0 es now f i r x) in
    ap (λ (y : Entry). is_some (pages_at n y.block y.pages)) same ∙ ap (λ o. is_some o) bytes.1

pub drops_more : (m n1 n2 : Map) (es now : List Entry) (f : HasForest m 0 es) (i : ℕ) (entry : Entry) → i < length es → entry ≡ get_or es i no_entry → Exchanges m n1 0 0 (take i f.trees) now → entry.lines ≡ 0
    → n2 ≡ without n1 entry.block entry.pages → Exchanges m n2 0 0 (take (i + 1) f.trees) now
drops_more m n1 n2 es now f i entry lt is x none gone =
    let r : Nth f.trees i = nth f.trees i (omega (arith, lt, forest_size m 0 es f)) in
    let leaf : Leaf = r.item in
    let same : entry ≡ entry_of 0 r.item = is ∙ nth_entry 0 f.trees es i r (omega (arith, lt, forest_size m 0 es f)) f.entries_are in
    let empty : leaf.lines ≡ [] = no_lines leaf.lines (sym (ap (λ (y : Entry). y.lines) same) ∙ none) in
    subst (λ xs. Exchanges m n2 0 0 (take (i + 1) f.trees) xs) (append-nil now)
    (exchanges_more m n1 n2 0 0 es now [] f i r [] x (freed tree_format n1 n2 leaf.page leaf.pages 0 (λ k. uses 0 r.item k) (gone ∙ ap (λ (y : Entry). without n1 y.block y.pages) same) (λ k. refl)) refl (sym empty)
    (λ filled. absurd (omega (arith, filled, ap length empty))))

-- the next data block, which stays
pub keeps_more : (m n : Map) (es now : List Entry) (f : HasForest m 0 es) (i : ℕ) (entry : Entry) → i < length es → entry ≡ get_or es i no_entry → Exchanges m n 0 0 (take i f.trees) now → Exchanges m n 0 0 (take (i + 1) f.trees) (now ++ entry ∷ [])
keeps_more m n es now f i entry lt is x =
    let r : Nth f.trees i = nth f.trees i (omega (arith, lt, forest_size m 0 es f)) in
    let same : entry ≡ entry_of 0 r.item = is ∙ nth_entry 0 f.trees es i r (omega (arith, lt, forest_size m 0 es f)) f.entries_are in
    exchanges_more m n n 0 0 es now (entry ∷ []) f i r (r.item ∷ []) x
    (replaces_as tree_format n n 0 (λ k. uses 0 r.item k + 0) (λ k. uses 0 r.item k) (r.item ∷ []) (λ k. omega arith) (left_alone tree_format n 0 (r.item ∷ []) (next_there m n 0 0 es now f i r x, tt)))
    (ap (λ (y : Entry). y ∷ []) same) (append-nil (lines_of 0 r.item)) (λ filled. (filled, tt))

-- what came of all of them
pub exchanged_all : (m n : Map) (d e : ℕ) (es now : List Entry) (f : HasForest m d es) (i : ℕ) → i ≡ length es → Exchanges m n d e (take i f.trees) now → Exchanges m n d e f.trees now
exchanged_all m n d e es now f i all x =
    subst (λ us. Exchanges m n d e us now) (ap (λ k. take k f.trees) (all ∙ sym (forest_size m d es f)) ∙ take_all f.trees) x

pub forest_after : (m n : Map) (d e : ℕ) (es now : List Entry) (f : HasForest m d es) → Exchanges m n d e f.trees now → HasForest n e now
forest_after m n d e es now f x = record {
  trees = x.trees;
  entries_are = x.entries_are;
  each = x.replaces.each;
  once = λ k. elim (lacks_cases (n k)) [
    | inl there ↦ omega (arith, x.replaces.fresh k, f.once k, there)
    | inr gone ↦ omega (arith, unused_each tree_format e n x.trees k x.replaces.each gone, gone)
  ];
}

pub exchanges_then : (m n1 n2 : Map) (d e h : ℕ) (es now then : List Entry) (f : HasForest m d es) → Exchanges m n1 d e f.trees now → ((g : HasForest n1 e now) → Exchanges n1 n2 e h g.trees then) → Exchanges m n2 d h f.trees then
unfolding forest_after
exchanges_then m n1 n2 d e h es now then f x next =
    let y : Exchanges n1 n2 e h x.trees then = next (forest_after m n1 d e es now f x) in
    record {
      trees = y.trees;
      entries_are = y.entries_are;
      replaces = replaces_then tree_format m n1 n2 (λ k. total (λ u. uses d u k) f.trees) e h x.trees y.trees x.replaces y.replaces;
      lines = y.lines ∙ x.lines;
      filled = λ each. y.filled (x.filled each);
    }

-- a run of so many elements after some
none_taken : {X : Type 0} (xs : List X) (n : ℕ) → xs ≡ [] → take n xs ≡ []
none_taken [] zero is = refl
none_taken [] (suc n) is = refl
none_taken (x ∷ xs) n is = absurd (omega (arith, ap length is))

pub take_run : {X : Type 0} (xs : List X) (i n : ℕ) → take (i + n) xs ≡ take i xs ++ take n (drop i xs)
take_run xs zero n = let e : 0 + n ≡ n = omega arith in ap (λ k. take k xs) e
take_run [] (suc i) n = none_taken [] (suc i + n) refl ∙ sym (none_taken [] n refl)
take_run (x ∷ xs) (suc i) n = let e : suc i + n ≡ suc (i + n) = omega arith in ap (λ k. take k (x ∷ xs)) e ∙ ap (λ ys. x ∷ ys) (take_run xs i n)

run_size : {X : Type 0} (xs : List X) (i n : ℕ) → i + n ≤ length xs → length (take n (drop i xs)) ≡ n
run_size xs i n le = taken_size (drop i xs) n (omega (arith, le, ap length (halves i xs), length-append (take i xs) (drop i xs), taken_size xs i (omega (arith, le))))

-- a new block over the next trees
pub closes_more : (m n1 n2 : Map) (d block at count : ℕ) (es now part : List Entry) (entry : Entry) (bytes : List ℕ) (f : HasForest m d es) → at + count ≤ length es → 33 ≤ count → Exchanges m n1 d (suc d) (take at f.trees) now
    → part ≡ take count (drop at es) → Added n1 n2 block 1 bytes → points_in bytes ≡ Some part → entry ≡ pointer_entry block (lines_below part) → Exchanges m n2 d (suc d) (take (at + count) f.trees) (now ++ entry ∷ [])
closes_more m n1 n2 d block at count es now part entry bytes f le many x part_is a reads entry_is =
    let done : List (Tree d) = take at f.trees in
    let mids : List (Tree d) = take count (drop at f.trees) in
    let after : List (Tree d) = drop (at + count) f.trees in
    let g : Tree d → Entry = λ u. entry_of d u in
    let next : take (at + count) f.trees ≡ done ++ mids = take_run f.trees at count in
    let cut : f.trees ≡ done ++ (mids ++ after) = sym (halves (at + count) f.trees) ∙ ap (λ vs. vs ++ after) next ∙ append_assoc done mids after in
    let same : part ≡ map g mids = part_is ∙ ap (λ xs. take count (drop at xs)) f.entries_are ∙ ap (λ xs. take count xs) (map_drop g at f.trees) ∙ map_take g count (drop at f.trees) in
    let size : length mids ≡ count = run_size f.trees at count (omega (arith, le, forest_size m d es f)) in
    let P : List (Tree d) → Type 0 = λ vs. AllByRecursion (λ u. IsTree tree_format d m u) vs in
    let was : AllByRecursion (λ u. IsTree tree_format d m u) mids = each-front (λ u. IsTree tree_format d m u) mids after (each-back (λ u. IsTree tree_format d m u) done (mids ++ after) (subst P cut f.each)) in
    let room : (k : ℕ) → (total (λ u. uses d u k) done + total (λ u. uses d u k) mids) + lacks (m k) ≤ 1 = λ k. omega (arith, f.once k, ap (λ vs. total (λ u. uses d u k) vs) cut, total-append (λ u. uses d u k) done (mids ++ after), total-append (λ u. uses d u k) mids after) in
    let each : AllByRecursion (λ u. IsTree tree_format d n1 u) mids = each_kept tree_format d m n1 mids (λ k used. x.replaces.rest k (omega (arith, room k, used)) (omega (arith, room k, used))) was in
    exchanges_run m n1 n2 d (suc d) es now (entry ∷ []) f at (at + count) mids after ((block, mids) ∷ []) cut next x
    (closed tree_format n1 n2 d block mids bytes each a (reads ∙ ap (λ xs. Some xs) same)) (ap (λ (y : Entry). y ∷ []) (entry_is ∙ ap (λ (i : ℕ). pointer_entry block i) (entry_lines d mids part same)))
    (append-nil (flat_map (λ u. lines_of d u) mids)) (λ filled. ((omega (arith, many, size), filled), tt))

-- from block 1 on

pub root_forest : (m : Map) (d : ℕ) (list : List (List ℕ)) (es : List Entry) (has : HasLines tree_format m (suc d) list) → entries_at m 1 ≡ Some es → HasForest m d es
root_forest m d list es has reads = record {
  trees = has.tree.1;
  entries_are = same_Some es (map (λ u. entry_of d u) has.tree.1) (sym reads ∙ ap (λ (b : ℕ). entries_at m b) (sym has.stands.root) ∙ has.stands.tree.0);
  each = has.stands.tree.1;
  once = λ k. omega (arith, room tree_format (suc d) m 1 1 has.tree k has.stands);
}

filled_leaves : (us : List Leaf) (es : List Entry) → es ≡ map (λ u. entry_of 0 u) us → AllByRecursion (λ (e : Entry). 1 ≤ e.lines) es → AllByRecursion (λ u. IsFilled 32 0 u) us
filled_leaves [] es is each = tt
filled_leaves (u ∷ us) [] is each = absurd (cc)
filled_leaves (u ∷ us) (x ∷ es) is each =
    let head : x ≡ entry_of 0 u = cc in
    let tail : es ≡ map (λ u. entry_of 0 u) us = cc in
    (omega (arith, each.0, ap (λ (e : Entry). e.lines) head), filled_leaves us es tail each.1)

some_trees : (e : ℕ) (us : List (Tree e)) (list : List (List ℕ)) → flat_map (λ u. lines_of e u) us ≡ list → 1 ≤ length list → 1 ≤ length us
some_trees e [] list same some = absurd (omega (arith, some, ap length same))
some_trees e (u ∷ us) list same some = omega arith

tops_many : (levels : ℕ) (us : List (Tree levels)) → (1 ≤ levels → 2 ≤ length us) → 1 ≤ length us → root_least (suc levels) ≤ length us
tops_many zero us two some = some
tops_many (suc levels) us two some = two (omega arith)

-- the data blocks of a tree with all blocks above them made anew
pub built : (m n1 n2 n3 : Map) (d levels : ℕ) (list : List (List ℕ)) (es leaves tops : List Entry) (bytes : List ℕ) (has : HasLines tree_format m (suc d) list) (reads : entries_at m 1 ≡ Some es) → 1 ≤ length list
    → ((f : HasForest m d es) → Exchanges m n1 d 0 f.trees leaves) → AllByRecursion (λ (e : Entry). 1 ≤ e.lines) leaves → ((d : ℕ) (f : HasForest n1 d leaves) → Exchanges n1 n2 d (levels + d) f.trees tops)
    → Stored n2 n3 1 1 bytes → points_in bytes ≡ Some tops → (1 ≤ levels → 2 ≤ length tops) → (done : HasLines tree_format n3 (levels + 1) list) × IsFilledRoot 32 (levels + 1) done.tree
unfolding forest_after root_forest
built m n1 n2 n3 d levels list es leaves tops bytes has reads some opens each closes s points two =
    let f : HasForest m d es = root_forest m d list es has reads in
    let x : Exchanges m n1 d 0 f.trees leaves = opens f in
    let g : HasForest n1 0 leaves = forest_after m n1 d 0 es leaves f x in
    let less : levels + 0 ≡ levels = omega arith in
    let Y : ℕ → Type 0 = λ e. Exchanges n1 n2 0 e g.trees tops in
    let y : Exchanges n1 n2 0 levels g.trees tops = subst Y less (closes 0 g) in
    let all : Replaces tree_format m n2 (λ k. total (λ u. uses d u k) f.trees) levels y.trees = replaces_then tree_format m n1 n2 (λ k. total (λ u. uses d u k) f.trees) 0 levels x.trees y.trees x.replaces y.replaces in
    let root : ℕ → ℕ = λ k. one 1 k + total (λ u. uses d u k) f.trees in
    let counts : (k : ℕ) → root k ≡ uses (suc d) has.tree k = λ k. omega (arith, ap (λ b. one b k) has.stands.root) in
    let over : Replaces tree_format m n3 root (suc levels) ((1, y.trees) ∷ []) = root_over tree_format m n2 n3 levels (λ k. total (λ u. uses d u k) f.trees) y.trees bytes
    (λ k. omega (arith, counts k, room tree_format (suc d) m 1 1 has.tree k has.stands)) all s (points ∙ ap (λ xs. Some xs) y.entries_are) in
    let same : flat_map (λ u. lines_of levels u) y.trees ≡ list = y.lines ∙ x.lines ∙ has.lines_are in
    let r = replaced_has tree_format m n3 (suc d) (suc levels) list has (1, y.trees) (omega arith) refl refl same (replaces_as tree_format m n3 (suc levels) root (λ k. uses (suc d) has.tree k) ((1, y.trees) ∷ []) counts over) in
    let filled : AllByRecursion (λ u. IsFilled 32 levels u) y.trees = y.filled (filled_leaves x.trees leaves x.entries_are each) in
    let size : length tops ≡ length y.trees = ap length y.entries_are ∙ length-map y.trees (λ u. entry_of levels u) in
    let thick : IsFilledRoot 32 (suc levels) (1, y.trees) = (tops_many levels y.trees (λ deep. omega (arith, two deep, size)) (some_trees levels y.trees list same some), filled) in
    let e : suc levels ≡ levels + 1 = omega arith in
    let Q : ℕ → Type 0 = λ k. (done : HasLines tree_format n3 k list) × IsFilledRoot 32 k done.tree in
    subst Q e (r.0, subst (λ (t : Tree (suc levels)). IsFilledRoot 32 (suc levels) t) (sym r.1) thick)

-- the same by the height

pub forest_at : (m : Map) (height depth : ℕ) (list : List (List ℕ)) (es : List Entry) (has : HasLines tree_format m height list) → depth ≡ height - 1 → entries_at m 1 ≡ Some es → HasForest m depth es
forest_at m zero depth list es has is reads = absurd (omega (arith, has.deep))
forest_at m (suc d) depth list es has is reads = let less : d ≡ depth = omega (arith, is) in subst (λ (k : ℕ). HasForest m k es) less (root_forest m d list es has reads)

where_some : (o : Option (List ℕ)) → lacks o ≡ 0 → IsSome (joined o (Some []))
where_some None there = absurd (omega (arith, there))
where_some (Some page) there = refl

-- block 1 stays while the trees below it are exchanged
pub root_stays : (m n : Map) (height depth e : ℕ) (list : List (List ℕ)) (es now : List Entry) (has : HasLines tree_format m height list) → depth ≡ height - 1 → entries_at m 1 ≡ Some es
    → ((f : HasForest m depth es) → Exchanges m n depth e f.trees now) → IsSome (pages_at n 1 1)
unfolding root_forest
root_stays m n zero depth e list es now has is reads exchanges = absurd (omega (arith, has.deep))
root_stays m n (suc d) depth e list es now has is reads exchanges =
    let less : depth ≡ d = omega (arith, is) in
    let P : ℕ → Type 0 = λ k. (f : HasForest m k es) → Exchanges m n k e f.trees now in
    let f : HasForest m d es = root_forest m d list es has reads in
    let x : Exchanges m n d e f.trees now = subst P less exchanges f in
    let root : one has.tree.0 1 ≡ one 1 1 = ap (λ b. one b 1) has.stands.root in
    let free : (one has.tree.0 1 + total (λ u. uses d u 1) has.tree.1) + lacks (m 1) ≤ 1 = room tree_format (suc d) m 1 1 has.tree 1 has.stands in
    let there : lacks (m 1) ≡ 0 = omega (arith, free, root, one-same 1) in
    let same : n 1 ≡ m 1 = x.replaces.rest 1 (omega (arith, free, root, one-same 1)) there in
    where_some (n 1) (ap lacks same ∙ there)

pub built_at : (m n1 n2 n3 : Map) (height depth levels : ℕ) (list : List (List ℕ)) (es leaves tops : List Entry) (bytes : List ℕ) (has : HasLines tree_format m height list) → depth ≡ height - 1 → entries_at m 1 ≡ Some es → 1 ≤ length list
    → ((f : HasForest m depth es) → Exchanges m n1 depth 0 f.trees leaves) → AllByRecursion (λ (e : Entry). 1 ≤ e.lines) leaves → ((d : ℕ) (f : HasForest n1 d leaves) → Exchanges n1 n2 d (levels + d) f.trees tops)
    → Stored n2 n3 1 1 bytes → points_in bytes ≡ Some tops → (1 ≤ levels → 2 ≤ length tops) → (done : HasLines tree_format n3 (levels + 1) list) × IsFilledRoot 32 (levels + 1) done.tree
built_at m n1 n2 n3 zero depth levels list es leaves tops bytes has is reads some opens each closes s points two = absurd (omega (arith, has.deep))
built_at m n1 n2 n3 (suc d) depth levels list es leaves tops bytes has is reads some opens each closes s points two =
    let less : depth ≡ d = omega (arith, is) in
    let P : ℕ → Type 0 = λ k. (f : HasForest m k es) → Exchanges m n1 k 0 f.trees leaves in
    built m n1 n2 n3 d levels list es leaves tops bytes has reads some (subst P less opens) each closes s points two

-- the levels of pointer blocks, one by one

pub opens_down : (m n1 n2 : Map) (depth : ℕ) (es below leaves : List Entry) → (depth ≡ 0 → ⊥) → ((d : ℕ) (f : HasForest m (suc d) es) → Exchanges m n1 (suc d) d f.trees below)
    → ((f : HasForest n1 (depth - 1) below) → Exchanges n1 n2 (depth - 1) 0 f.trees leaves) → (f : HasForest m depth es) → Exchanges m n2 depth 0 f.trees leaves
opens_down m n1 n2 zero es below leaves deep level rest f = absurd (deep refl)
opens_down m n1 n2 (suc d) es below leaves deep level rest f =
    let less : suc d - 1 ≡ d = omega arith in
    let P : ℕ → Type 0 = λ k. (g : HasForest n1 k below) → Exchanges n1 n2 k 0 g.trees leaves in
    exchanges_then m n1 n2 (suc d) d 0 es below leaves f (level d f) (subst P less rest)

pub forest_down : (m n : Map) (depth : ℕ) (es below : List Entry) → (depth ≡ 0 → ⊥) → ((d : ℕ) (f : HasForest m (suc d) es) → Exchanges m n (suc d) d f.trees below) → HasForest m depth es → HasForest n (depth - 1) below
forest_down m n zero es below deep level f = absurd (deep refl)
forest_down m n (suc d) es below deep level f = let less : d ≡ suc d - 1 = omega arith in subst (λ (k : ℕ). HasForest n k below) less (forest_after m n (suc d) d es below f (level d f))

pub forest_deep : (m : Map) (depth : ℕ) (es : List Entry) → (depth ≡ 0 → ⊥) → HasForest m depth es → (d : ℕ) × HasForest m (suc d) es
forest_deep m zero es deep f = absurd (deep refl)
forest_deep m (suc d) es deep f = (d, f)

pub closes_up : (m n1 n2 : Map) (d levels : ℕ) (es above tops : List Entry) (f : HasForest m d es) → Exchanges m n1 d (suc d) f.trees above → ((e : ℕ) (g : HasForest n1 e above) → Exchanges n1 n2 e (levels + e) g.trees tops)
    → Exchanges m n2 d (levels + 1 + d) f.trees tops
closes_up m n1 n2 d levels es above tops f level rest =
    let up : levels + suc d ≡ levels + 1 + d = omega arith in
    subst (λ (k : ℕ). Exchanges m n2 d k f.trees tops) up (exchanges_then m n1 n2 d (suc d) (levels + suc d) es above tops f level (λ g. rest (suc d) g))

-- no level at all
pub closes_none : (m n : Map) (d : ℕ) (es : List Entry) (f : HasForest m d es) → n ≡ m → Exchanges m n d (0 + d) f.trees es
closes_none m n d es f same =
    let here : Exchanges m m d d f.trees es = record {
      trees = f.trees;
      entries_are = f.entries_are;
      replaces = left_alone tree_format m d f.trees f.each;
      lines = refl;
      filled = λ each. each;
    } in
    let e : d ≡ 0 + d = omega arith in
    subst (λ (k : ℕ). Exchanges m n d k f.trees es) e (subst (λ (g : Map). Exchanges m g d d f.trees es) (sym same) here)

-- a pointer block that can be read is there
pub leads_there : (m : Map) (entry : Entry) → LeadsToPointers m entry → IsSome (pages_at m entry.block 1)
leads_there m entry leads = let r = read_from points_in (pages_at m entry.block 1) leads.entries leads.reads in ap (λ (o : Option (List ℕ)). is_some o) r.1

-- small things of lists

pub each_at : (P : Entry → Type 0) (xs : List Entry) (i : ℕ) (d : Entry) → i < length xs → AllByRecursion P xs → P (get_or xs i d)
each_at P [] i d lt each = absurd (omega (arith, lt))
each_at P (x ∷ xs) zero d lt each = each.0
each_at P (x ∷ xs) (suc i) d lt each = each_at P xs i d (omega (arith, lt)) each.1

pub run_lines : (xs : List Entry) (i n : ℕ) → lines_below (take n (drop i xs)) ≤ lines_below xs
run_lines xs i n = omega (arith, ap lines_below (halves (i + n) xs), total-append (λ (e : Entry). e.lines) (take (i + n) xs) (drop (i + n) xs), ap lines_below (take_run xs i n), total-append (λ (e : Entry). e.lines) (take i xs) (take n (drop i xs)))

pub part_left : (left p : ℕ) → (left ≤ 127 → p ≡ left) → (127 < left → p ≡ 95) → p < left → p + 33 ≤ left
part_left left p all part less = elim (cases_lt 127 left) [ inl more ↦ omega (arith, more, part more) | inr few ↦ absurd (omega (arith, few, all few, less)) ]

pub two_tops : (levels count : ℕ) → (count ≤ 127 → levels ≡ 0) → 1 ≤ levels → 2 ≤ count
two_tops levels count flat some = elim (cases_lt 127 count) [ inl more ↦ omega (arith, more) | inr few ↦ absurd (omega (arith, some, flat few)) ]
