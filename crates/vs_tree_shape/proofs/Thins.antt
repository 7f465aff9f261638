-- Trees that are filled but for the way to a line: read from the pages, and where the pages stay.
use Rattle.std.proofs.Common.{◌≡◌, ℕ, zero, suc, ◌+◌, ◌-◌, ◌<◌, ◌≤◌, inl, inr, List, [], ◌∷◌, ◌++◌, length, take, drop, map, Some, sym, refl, ap, subst, ◌∙◌, arith}
use Rattle.std.specs.List.{AllByRecursion}
use Rattle.std.proofs.lemmas.Bool.{cases_lt}
use Rattle.std.proofs.lemmas.Bool.Decides.{nat_tests}
use Rattle.std.proofs.lemmas.List.{length-map, map-append, append-nil}
use Rattle.vs_pages.specs.Maps.{Map, total, pages_at}
use Rattle.vs_tree_shape.specs.declared.entries.Entry.{Entry}
use Rattle.vs_tree_shape.specs.declared.entries.Place.{Place}
use Rattle.vs_tree_shape.specs.Trees.{Format, read_by, Tree, root_of, width_of, lines_of, uses, entry_of, IsTree, HasLines}
use Rattle.vs_tree_shape.specs.Changes.{HasLineBelow}
use Rattle.vs_tree_shape.specs.Filled.{IsFilled, Way, IsFilledBut, HasFilledBut, HasFilledBelow, AllFilledBelow, HasFilledBelowBut, AllFilledBut, HasFilledRootBut, steps_back}
use Rattle.vs_tree_shape.specs.Paths.{IsWalk}
use Rattle.vs_tree_shape.specs.Places.{IsPlace, lines_below}
use Rattle.vs_tree_shape.proofs.Sums.{total-append}
use Rattle.vs_tree_shape.proofs.Shapes.{each-front, each-back, kept}
use Rattle.vs_tree_shape.proofs.Splices.{take_past, drop_past}
use Rattle.vs_tree_shape.proofs.Walks.{Child, child_of}
use Rattle.vs_tree_shape.proofs.Fills.{each_filled, filled_kept, filled_tree, many}

-- the entries of a cut list before and after one of them
pub entries_cut : {X : Type 0} (f : X → Entry) (before : List X) (mid : X) (after : List X) (es : List Entry) (i : ℕ) → es ≡ map f (before ++ mid ∷ after) → i ≡ length before → (take i es ≡ map f before) × (drop (i + 1) es ≡ map f after)
entries_cut f before mid after es i is index =
    let cut : es ≡ map f before ++ f mid ∷ map f after = is ∙ map-append f before (mid ∷ after) in
    let place_is : i ≡ length (map f before) + 0 = omega (arith, index, length-map before f) in (
      ap (λ xs. take i xs) cut ∙ take_past (map f before) (f mid ∷ map f after) i 0 place_is ∙ append-nil (map f before),
      ap (λ xs. drop (i + 1) xs) cut ∙ drop_past (map f before) (f mid ∷ map f after) (i + 1) 1 (omega arith),
    )

pub entry_is : (d : ℕ) (kids : List (Tree d)) (at : ℕ) (place : Place) (child : Child d kids at place) → entry_of d child.child ≡ place.entry
entry_is d kids at place child =
    let blocks : ℕ → Entry = λ b. record { block = b; pages = width_of d child.child; lines = length (lines_of d child.child) } in
    let widths : ℕ → Entry = λ p. record { block = place.entry.block; pages = p; lines = length (lines_of d child.child) } in
    let counts : ℕ → Entry = λ l. record { block = place.entry.block; pages = place.entry.pages; lines = l } in
    ap blocks child.root ∙ ap widths child.page_count ∙ ap counts child.count

-- where the pages of trees stay, what lies below their entries does
kids_but : (c : Format) (m n : Map) (least d : ℕ) → ((t : Tree d) (at : ℕ) → ((k : ℕ) → 1 ≤ uses d t k → n k ≡ m k) → IsTree c d m t → HasFilledBelowBut c m least d (entry_of d t) at → HasFilledBelowBut c n least d (entry_of d t) at)
    → (us : List (Tree d)) (at : ℕ) → ((k : ℕ) → 1 ≤ total (λ u. uses d u k) us → n k ≡ m k) → AllByRecursion (λ u. IsTree c d m u) us → AllFilledBut c m least d (map (λ u. entry_of d u) us) at → AllFilledBut c n least d (map (λ u. entry_of d u) us) at
kids_but c m n least d ih us at same each f =
    let place : Place = f.0 in
    let child : Child d us at place = child_of d us at place f.1 in
    let e : Tree d → Entry = λ u. entry_of d u in
    let P : List (Tree d) → Type 0 = λ xs. AllByRecursion (λ u. IsTree c d m u) xs in
    let cut : AllByRecursion (λ u. IsTree c d m u) (child.before ++ child.child ∷ child.after) = subst P child.cut each in
    let sums : (k : ℕ) → total (λ u. uses d u k) us ≡ total (λ u. uses d u k) child.before + (uses d child.child k + total (λ u. uses d u k) child.after)
    = λ k. ap (λ xs. total (λ u. uses d u k) xs) child.cut ∙ total-append (λ u. uses d u k) child.before (child.child ∷ child.after) in
    let parts = entries_cut e child.before child.child child.after (map e us) place.index (ap (λ xs. map e xs) child.cut) child.index in
    let Q : List Entry → Type 0 = λ xs. AllFilledBelow c m least d xs in
    let R : List Entry → Type 0 = λ xs. AllFilledBelow c n least d xs in
    let one : entry_of d child.child ≡ place.entry = entry_is d us at place child in (
      place,
      f.1,
      subst R (sym parts.0) (filled_kept c m n least d child.before (λ k used. same k (omega (arith, used, sums k))) (each-front (λ u. IsTree c d m u) child.before (child.child ∷ child.after) cut) (subst Q parts.0 f.2)),
      subst R (sym parts.1) (filled_kept c m n least d child.after (λ k used. same k (omega (arith, used, sums k))) (each-back (λ u. IsTree c d m u) child.before (child.child ∷ child.after) cut).1 (subst Q parts.1 f.3)),
      subst (λ (x : Entry). HasFilledBelowBut c n least d x place.rest) one
          (ih child.child place.rest (λ k used. same k (omega (arith, used, sums k))) (each-back (λ u. IsTree c d m u) child.before (child.child ∷ child.after) cut).0 (subst (λ (x : Entry). HasFilledBelowBut c m least d x place.rest) (sym one) f.4)),
    )

but_kept : (c : Format) (m n : Map) (least d : ℕ) (t : Tree d) (at : ℕ) → ((k : ℕ) → 1 ≤ uses d t k → n k ≡ m k) → IsTree c d m t → HasFilledBelowBut c m least d (entry_of d t) at → HasFilledBelowBut c n least d (entry_of d t) at
but_kept c m n least zero t at same is f = tt
but_kept c m n least (suc d) t at same is f =
    let now : IsTree c (suc d) n t = kept c (suc d) m n t same is in
    let both : Some f.0 ≡ Some (map (λ u. entry_of d u) t.1) = sym f.1 ∙ is.0 in
    let one : f.0 ≡ map (λ u. entry_of d u) t.1 = cc in
    let below : AllFilledBut c m least d f.0 at = (f.2, f.3, f.4, f.5, f.6) in
    let there : AllFilledBut c n least d (map (λ u. entry_of d u) t.1) at =
    kids_but c m n least d (λ u i s tree g. but_kept c m n least d u i s tree g) t.1 at (λ k used. same k (omega arith)) is.1 (subst (λ (es : List Entry). AllFilledBut c m least d es at) one below) in
    (map (λ u. entry_of d u) t.1, now.0, there.0, there.1, there.2, there.3, there.4)

pub but_kids : (c : Format) (m n : Map) (least d : ℕ) (us : List (Tree d)) (at : ℕ) → ((k : ℕ) → 1 ≤ total (λ u. uses d u k) us → n k ≡ m k) → AllByRecursion (λ u. IsTree c d m u) us → AllFilledBut c m least d (map (λ u. entry_of d u) us) at
    → AllFilledBut c n least d (map (λ u. entry_of d u) us) at
but_kids c m n least d us at same each f = kids_but c m n least d (λ u i s tree g. but_kept c m n least d u i s tree g) us at same each f

-- the tree that is read so

record Ways (least d : ℕ) (kids : List (Tree d)) (at : ℕ) : Type 0 where
  way : Way d kids at
  front : AllByRecursion (λ u. IsFilled least d u) way.before
  back : AllByRecursion (λ u. IsFilled least d u) way.after
  deep : IsFilledBut least d way.child way.rest

ways : (c : Format) (m : Map) (least d : ℕ) → ((t : Tree d) (at : ℕ) → IsTree c d m t → at < length (lines_of d t) → HasFilledBelowBut c m least d (entry_of d t) at → IsFilledBut least d t at)
    → (us : List (Tree d)) (at : ℕ) → AllByRecursion (λ u. IsTree c d m u) us → AllFilledBut c m least d (map (λ u. entry_of d u) us) at → Ways least d us at
ways c m least d ih us at each f =
    let place : Place = f.0 in
    let child : Child d us at place = child_of d us at place f.1 in
    let e : Tree d → Entry = λ u. entry_of d u in
    let P : List (Tree d) → Type 0 = λ xs. AllByRecursion (λ u. IsTree c d m u) xs in
    let cut : AllByRecursion (λ u. IsTree c d m u) (child.before ++ child.child ∷ child.after) = subst P child.cut each in
    let parts = entries_cut e child.before child.child child.after (map e us) place.index (ap (λ xs. map e xs) child.cut) child.index in
    let Q : List Entry → Type 0 = λ xs. AllFilledBelow c m least d xs in
    let one : entry_of d child.child ≡ place.entry = entry_is d us at place child in
    let whole : (t : Tree d) → IsTree c d m t → HasFilledBelow c m least d (entry_of d t) → IsFilled least d t = λ t is g. filled_tree c m least d t is g in
    record {
      way = record { before = child.before; child = child.child; after = child.after; rest = place.rest; cut = child.cut; sum = child.sum; inside = child.rest };
      front = each_filled c m least d whole child.before (each-front (λ u. IsTree c d m u) child.before (child.child ∷ child.after) cut) (subst Q parts.0 f.2);
      back = each_filled c m least d whole child.after (each-back (λ u. IsTree c d m u) child.before (child.child ∷ child.after) cut).1 (subst Q parts.1 f.3);
      deep = ih child.child place.rest (each-back (λ u. IsTree c d m u) child.before (child.child ∷ child.after) cut).0 child.rest (subst (λ (x : Entry). HasFilledBelowBut c m least d x place.rest) (sym one) f.4);
    }

but_tree : (c : Format) (m : Map) (least d : ℕ) (t : Tree d) (at : ℕ) → IsTree c d m t → at < length (lines_of d t) → HasFilledBelowBut c m least d (entry_of d t) at → IsFilledBut least d t at
but_tree c m least zero t at is inside f = inside
but_tree c m least (suc d) t at is inside f =
    let both : Some f.0 ≡ Some (map (λ u. entry_of d u) t.1) = sym f.1 ∙ is.0 in
    let one : f.0 ≡ map (λ u. entry_of d u) t.1 = cc in
    let below : AllFilledBut c m least d f.0 at = (f.2, f.3, f.4, f.5, f.6) in
    let w : Ways least d t.1 at = ways c m least d (λ u i tree within g. but_tree c m least d u i tree within g) t.1 at is.1 (subst (λ (es : List Entry). AllFilledBut c m least d es at) one below) in
    (w.way, w.front, w.back, w.deep)

root_but : (c : Format) (m : Map) (least depth : ℕ) (t : Tree depth) (at : ℕ) → 1 ≤ depth → IsTree c depth m t → root_of depth t ≡ 1 → HasFilledRootBut c m least depth at → IsFilledBut least depth t at
root_but c m least zero t at deep is root f = absurd (omega (arith, deep))
root_but c m least (suc d) t at deep is root f =
    let less : suc d - 1 ≡ d = omega arith in
    let both : Some f.0 ≡ Some (map (λ u. entry_of d u) t.1) = sym f.1 ∙ ap (λ p. read_by c.entries (pages_at m p 1)) (sym root) ∙ is.0 in
    let one : f.0 ≡ map (λ u. entry_of d u) t.1 = cc in
    let here : AllFilledBut c m least d f.0 at = subst (λ (e : ℕ). AllFilledBut c m least e f.0 at) less f.2 in
    let w : Ways least d t.1 at = ways c m least d (λ u i tree within g. but_tree c m least d u i tree within g) t.1 at is.1 (subst (λ (es : List Entry). AllFilledBut c m least d es at) one here) in
    (w.way, w.front, w.back, w.deep)

-- pages with these lines have a tree that is filled but for a way, where what is read of them is so
pub has_filled_but : (c : Format) (m : Map) (depth at : ℕ) (lines : List (List ℕ)) → HasLines c m depth lines → HasFilledRootBut c m 32 depth at → HasFilledBut c m depth at
has_filled_but c m depth at lines has f = record { lines = lines; has = has; filled = root_but c m 32 depth has.tree at has.deep has.stands.tree has.stands.root f }

-- places

record Placed (es : List Entry) (at : ℕ) : Type 0 where
  place : Place
  is : IsPlace es at place

place_there : (es : List Entry) (at : ℕ) → at < lines_below es → Placed es at
place_there [] at within = absurd (omega (arith, within))
place_there (e ∷ es) at within = elim (cases_lt at e.lines) [
  | inl here ↦ record { place = record { index = 0; entry = e; rest = at }; is = record { before = []; after = es; cut = refl; index = refl; rest = here; sum = omega arith } }
  | inr past ↦
      let p : Placed es (at - e.lines) = place_there es (at - e.lines) (omega (arith, within, past)) in
      record {
        place = record { index = p.place.index + 1; entry = p.place.entry; rest = p.place.rest };
        is = record { before = e ∷ p.is.before; after = p.is.after; cut = ap (λ xs. e ∷ xs) p.is.cut; index = omega (arith, p.is.index); rest = p.is.rest; sum = omega (arith, p.is.sum, past) };
      }
]

-- above data blocks that have lines each there is a way to each line
pub thin_leaves : (c : Format) (m : Map) (least at : ℕ) (es : List Entry) → AllFilledBelow c m least 0 es → at < lines_below es → AllFilledBut c m least 0 es at
thin_leaves c m least at es all within =
    let p : Placed es at = place_there es at within in
    let P : Entry → Type 0 = λ x. HasFilledBelow c m least 0 x in
    (p.place, p.is, Rattle.vs_tree_shape.proofs.Shapes.each-take P p.place.index es all, Rattle.vs_tree_shape.proofs.Shapes.each-drop P (p.place.index + 1) es all, tt)

-- a line has one place
same_place : (xs ys cs bs : List Entry) (p q : Place) (at : ℕ) → xs ++ p.entry ∷ cs ≡ ys ++ q.entry ∷ bs → at ≡ lines_below xs + p.rest → at ≡ lines_below ys + q.rest → p.rest < p.entry.lines → q.rest < q.entry.lines → (p.entry ≡ q.entry) × (p.rest ≡ q.rest)
same_place [] [] cs bs p q at e i j x y = (let h : p.entry ≡ q.entry = cc in h, omega (arith, i, j))
same_place [] (b ∷ ys) cs bs p q at e i j x y =
    let h : p.entry ≡ b = cc in
    absurd (omega (arith, i, j, x, ap (λ (v : Entry). v.lines) h))
same_place (a ∷ xs) [] cs bs p q at e i j x y =
    let h : a ≡ q.entry = cc in
    absurd (omega (arith, i, j, y, ap (λ (v : Entry). v.lines) h))
same_place (a ∷ xs) (b ∷ ys) cs bs p q at e i j x y =
    let h : a ≡ b = cc in
    let rest : xs ++ p.entry ∷ cs ≡ ys ++ q.entry ∷ bs = cc in
    same_place xs ys cs bs p q (at - a.lines) rest (omega (arith, i)) (omega (arith, j, ap (λ (v : Entry). v.lines) h)) x y

pub walk_next : (c : Format) (m : Map) (levels : ℕ) (top : Entry) (at : ℕ) (es : List Entry) (place : Place) (entry : Entry) (rest : ℕ) → (levels ≡ 0 → ⊥) → read_by c.entries (pages_at m top.block 1) ≡ Some es → IsPlace es at place → IsWalk c m levels top at entry rest → IsWalk c m (levels - 1) place.entry place.rest entry rest
walk_next c m zero top at es place entry rest some reads is walk = absurd (some refl)
walk_next c m (suc levels) top at es place entry rest some reads is walk =
    let both : Some walk.0 ≡ Some es = sym walk.2 ∙ reads in
    let one : walk.0 ≡ es = cc in
    let other : IsPlace walk.0 at walk.1 = walk.3 in
    let same = same_place other.before is.before other.after is.after walk.1 place at (sym other.cut ∙ one ∙ is.cut) other.sum is.sum other.rest is.rest in
    let less : levels ≡ suc levels - 1 = omega arith in
    let here : IsWalk c m levels place.entry walk.1.rest entry rest = subst (λ (x : Entry). IsWalk c m levels x walk.1.rest entry rest) same.0 walk.4 in
    subst (λ (i : ℕ). IsWalk c m i place.entry place.rest entry rest) less (subst (λ (r : ℕ). IsWalk c m levels place.entry r entry rest) same.1 here)

pub walk_none : (c : Format) (m : Map) (levels : ℕ) (top : Entry) (at : ℕ) (entry : Entry) (rest : ℕ) → levels ≡ 0 → IsWalk c m levels top at entry rest → (entry ≡ top) × (rest ≡ at)
walk_none c m zero top at entry rest none walk = walk
walk_none c m (suc levels) top at entry rest none walk = absurd (omega (arith, none))

-- a walk goes on by one block
pub walk_more : (c : Format) (m : Map) (levels : ℕ) (top : Entry) (at : ℕ) (entry : Entry) (rest : ℕ) (es : List Entry) (place : Place) → IsWalk c m levels top at entry rest → read_by c.entries (pages_at m entry.block 1) ≡ Some es → IsPlace es rest place
    → IsWalk c m (suc levels) top at place.entry place.rest
walk_more c m zero top at entry rest es place walk reads is =
    let P : Entry → Type 0 = λ x. read_by c.entries (pages_at m x.block 1) ≡ Some es in
    let Q : ℕ → Type 0 = λ r. IsPlace es r place in
    (es, place, subst P walk.0 reads, subst Q walk.1 is, (refl, refl))
walk_more c m (suc levels) top at entry rest es place walk reads is = (walk.0, walk.1, walk.2, walk.3, walk_more c m levels walk.1.entry walk.1.rest entry rest es place walk.4 reads is)

pub back_cases : (entry : Entry) (rest : ℕ) → rest < entry.lines → 2 ≤ entry.lines → (steps_back entry rest ≤ rest) × (rest - steps_back entry rest + 1 < entry.lines)
back_cases entry rest within two = elim (cases_lt (rest + 1) entry.lines) [
  | inl before ↦ let none : steps_back entry rest ≡ 0 = grind (arith, nat_tests) in (omega (arith, none), omega (arith, none, before))
  | inr last ↦ let one : steps_back entry rest ≡ 1 = grind (arith, nat_tests) in (omega (arith, one, last, two), omega (arith, one, last, within, two))
]

-- a filled tree has lines, and two where block 1 of it is a pointer block
some_lines : (least d : ℕ) (t : Tree d) → 1 ≤ least → IsFilled least d t → 1 ≤ length (lines_of d t)
some_lines least zero t some f = f
some_lines least (suc d) t some f = omega (arith, f.0, some, many d 1 (λ u. IsFilled least d u) t.1 (λ u g. some_lines least d u some g) f.1)

pub two_lines : (c : Format) (m : Map) (least depth at : ℕ) (top : Entry) → 2 ≤ least → 1 ≤ depth → HasLineBelow c m top depth at → HasFilledBelow c m least depth top → 2 ≤ top.lines
two_lines c m least zero at top two deep a f = absurd (omega (arith, deep))
two_lines c m least (suc d) at top two deep a f =
    let g : HasFilledBelow c m least (suc d) (entry_of (suc d) a.tree) = (f.0, ap (λ p. read_by c.entries (pages_at m p 1)) a.stands.root ∙ f.1, f.2, f.3) in
    let t : IsFilled least (suc d) a.tree = filled_tree c m least (suc d) a.tree a.stands.tree g in
    omega (arith, a.lines, t.0, two, many d 1 (λ u. IsFilled least d u) a.tree.1 (λ u h. some_lines least d u (omega (arith, two)) h) t.1)
