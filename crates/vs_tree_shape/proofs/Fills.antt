-- How many lines a filled tree has, and that pages have one tree at most.
use Rattle.std.proofs.Common.{◌≡◌, ℕ, zero, suc, ◌+◌, ◌-◌, ◌*◌, ◌^◌, ◌<◌, ◌≤◌, inl, inr, List, [], ◌∷◌, length, map, Some, sym, refl, ap, subst, ◌∙◌, arith, length-append}
use Rattle.std.specs.List.{flat_map, AllByRecursion}
use Rattle.std.proofs.lemmas.Bool.{cases_lt}
use Rattle.std.proofs.lemmas.List.{length-map}
use Rattle.std.proofs.lemmas.Nat.{mul-le}
use Rattle.std.proofs.Math.Nat.{pow-suc, pow-le-pow_right}
use native.Mathlib.Nat.{add-mul}
use Rattle.vs_pages.specs.Maps.{Map, total, pages_at}
use Rattle.vs_tree_shape.specs.declared.entries.Entry.{Entry}
use Rattle.vs_tree_shape.specs.declared.entries.Place.{Place}
use Rattle.vs_tree_shape.specs.Places.{IsPlace}
use Rattle.vs_tree_shape.specs.Trees.{Format, read_by, leaf, Tree, root_of, width_of, lines_of, uses, entry_of, IsTree, HasLines}
use Rattle.vs_tree_shape.proofs.Shapes.{each-back, each_kept}
use Rattle.vs_tree_shape.specs.Sames.{one_list}
use Rattle.vs_tree_shape.specs.Filled.{IsFilled, IsFilledRoot, HasFilled, IsLowWhereFilled, HasFilledBelow, AllFilledBelow, HasFilledRoot}

times_more : (j n : ℕ) → suc j * n ≡ j * n + n
times_more j n = let e : suc j ≡ j + 1 = omega arith in ap (λ k. k * n) e ∙ add-mul j 1 n ∙ omega arith

-- trees that have at least so many lines each
pub many : (d n : ℕ) (P : Tree d → Type 0) (us : List (Tree d)) → ((u : Tree d) → P u → n ≤ length (lines_of d u)) → AllByRecursion P us → length us * n ≤ length (flat_map (λ u. lines_of d u) us)
many d n P [] each all = omega arith
many d n P (u ∷ us) each all =
    omega (arith, times_more (length us) n, each u all.0, many d n P us each all.1, length-append (lines_of d u) (flat_map (λ u. lines_of d u) us))

-- a filled tree below block 1
pub filled_lines : (d : ℕ) (t : Tree d) → IsFilled 32 d t → 32 ^ d ≤ length (lines_of d t)
filled_lines zero t f = omega (arith, f)
filled_lines (suc d) t f =
    omega (arith, pow-suc 32 d, mul-le 32 (32 ^ d) (length t.1) (32 ^ d) f.0 (omega arith), many d (32 ^ d) (λ u. IsFilled 32 d u) t.1 (λ u g. filled_lines d u g) f.1)

-- a filled tree has at least 2 * 32 ^ (depth - 1) lines, where block 1 leads to pointer blocks
pub root_lines : (d : ℕ) (t : Tree d) → 2 ≤ d → IsFilledRoot 32 d t → 2 * 32 ^ (d - 1) ≤ length (lines_of d t)
root_lines zero t deep f = absurd (omega arith)
root_lines (suc zero) t deep f = absurd (omega arith)
root_lines (suc (suc d)) t deep f =
    let less : suc (suc d) - 1 ≡ suc d = omega arith in
    omega (arith, ap (λ k. 2 * 32 ^ k) less, mul-le 2 (32 ^ suc d) (length t.1) (32 ^ suc d) f.0 (omega arith), many (suc d) (32 ^ suc d) (λ u. IsFilled 32 (suc d) u) t.1 (λ u g. filled_lines (suc d) u g) f.1)

-- such a tree of 4,000,000 lines is at most 5 blocks high
pub height_few : (d : ℕ) (t : Tree d) → IsFilledRoot 32 d t → length (lines_of d t) ≤ 4000000 → d ≤ 5
height_few d t f few = elim (cases_lt 5 d) [
  | inl high ↦
      let above : 5 ≤ d - 1 = omega arith in
      let some : 0 < 32 = omega arith in
      let more : 32 ^ 5 ≤ 32 ^ (d - 1) = pow-le-pow_right some above in
      absurd (omega (arith, more, root_lines d t (omega arith) f, few))
  | inr low ↦ low
]

pub filled_many : (c : Format) (m : Map) (depth : ℕ) (lines : List (List ℕ)) → HasFilled c m depth → HasLines c m depth lines → 2 ≤ depth → 2 * 32 ^ (depth - 1) ≤ length lines
filled_many c m depth lines filled has deep =
    let same : filled.lines ≡ lines = one_list c m depth filled.lines lines filled.has has in
    omega (arith, root_lines depth filled.has.tree deep filled.filled, ap length filled.has.lines_are, ap length same)

pub filled_height : (c : Format) (m : Map) (depth : ℕ) (lines : List (List ℕ)) → HasFilled c m depth → HasLines c m depth lines → length lines ≤ 4000000 → depth ≤ 5
filled_height c m depth lines filled has few =
    let same : filled.lines ≡ lines = one_list c m depth filled.lines lines filled.has has in
    height_few depth filled.has.tree filled.filled (omega (arith, few, ap length filled.has.lines_are, ap length same))

pub low_filled : (c : Format) → IsLowWhereFilled c
low_filled c = λ m depth lines f has. (λ deep. filled_many c m depth lines f has deep, λ few. filled_height c m depth lines f has few)

-- a filled tree of fewer than 64 lines has data blocks below block 1 alone
pub filled_flat : (c : Format) (m : Map) (depth : ℕ) (lines : List (List ℕ)) → HasFilled c m depth → HasLines c m depth lines → length lines < 64 → depth ≡ 1
filled_flat c m depth lines filled has few = elim (cases_lt 1 depth) [
  | inl high ↦
      let above : 1 ≤ depth - 1 = omega arith in
      let some : 0 < 32 = omega arith in
      let more : 32 ^ 1 ≤ 32 ^ (depth - 1) = pow-le-pow_right some above in
      absurd (omega (arith, more, filled_many c m depth lines filled has (omega arith), few))
  | inr low ↦ omega (arith, has.deep)
]

one_each : (c : Format) (d : ℕ) (m : Map) → ((t u : Tree d) → IsTree c d m t → IsTree c d m u → root_of d t ≡ root_of d u → width_of d t ≡ width_of d u → t ≡ u) → (ts us : List (Tree d))
    → map (λ t. entry_of d t) ts ≡ map (λ u. entry_of d u) us → AllByRecursion (λ t. IsTree c d m t) ts → AllByRecursion (λ u. IsTree c d m u) us → ts ≡ us
one_each c d m ih [] [] h a b = refl
one_each c d m ih [] (u ∷ us) h a b = absurd (cc)
one_each c d m ih (t ∷ ts) [] h a b = absurd (cc)
one_each c d m ih (t ∷ ts) (u ∷ us) h a b =
    let heads : entry_of d t ≡ entry_of d u = cc in
    let tails : map (λ t. entry_of d t) ts ≡ map (λ u. entry_of d u) us = cc in
    ap (λ x. x ∷ ts) (ih t u a.0 b.0 (ap (λ (x : Entry). x.block) heads) (ap (λ (x : Entry). x.pages) heads)) ∙ ap (λ xs. u ∷ xs) (one_each c d m ih ts us tails a.1 b.1)

-- pages have one tree at most below a block
pub one_tree : (c : Format) (d : ℕ) (m : Map) (t u : Tree d) → IsTree c d m t → IsTree c d m u → root_of d t ≡ root_of d u → width_of d t ≡ width_of d u → t ≡ u
one_tree c zero m t u a b root page_count =
    let h : Some t.lines ≡ Some u.lines = sym a.1 ∙ ap (λ n. read_by (c.lines n) (pages_at m t.page n)) page_count ∙ ap (λ p. read_by (c.lines u.pages) (pages_at m p u.pages)) root ∙ b.1 in
    let lines : t.lines ≡ u.lines = cc in
    ap (λ (p : ℕ). leaf p t.pages t.lines) root ∙ ap (λ (n : ℕ). leaf u.page n t.lines) page_count ∙ ap (λ (ls : List (List ℕ)). leaf u.page u.pages ls) lines
one_tree c (suc d) m t u a b root page_count =
    let h : Some (map (λ v. entry_of d v) t.1) ≡ Some (map (λ v. entry_of d v) u.1) = sym a.0 ∙ ap (λ p. read_by c.entries (pages_at m p 1)) root ∙ b.0 in
    let entries : map (λ v. entry_of d v) t.1 ≡ map (λ v. entry_of d v) u.1 = cc in
    let kids : t.1 ≡ u.1 = one_each c d m (λ x y. one_tree c d m x y) t.1 u.1 entries a.1 b.1 in
    let with_root : ℕ → Tree (suc d) = λ p. (p, t.1) in
    let with_kids : List (Tree d) → Tree (suc d) = λ us. (u.0, us) in
    ap with_root root ∙ ap with_kids kids

-- What is filled is read from the pages, and what is read so is filled.

pub each_filled : (c : Format) (m : Map) (least d : ℕ) → ((t : Tree d) → IsTree c d m t → HasFilledBelow c m least d (entry_of d t) → IsFilled least d t) → (us : List (Tree d)) → AllByRecursion (λ u. IsTree c d m u) us
    → AllFilledBelow c m least d (map (λ u. entry_of d u) us) → AllByRecursion (λ u. IsFilled least d u) us
each_filled c m least d ih [] each all = tt
each_filled c m least d ih (u ∷ us) each all = (ih u each.0 all.0, each_filled c m least d ih us each.1 all.1)

-- the tree at an entry below which the pages are filled
pub filled_tree : (c : Format) (m : Map) (least d : ℕ) (t : Tree d) → IsTree c d m t → HasFilledBelow c m least d (entry_of d t) → IsFilled least d t
filled_tree c m least zero t is f =
    let both : Some t.lines ≡ Some f.0 = sym is.1 ∙ f.1 in
    let same : t.lines ≡ f.0 = cc in
    omega (arith, f.2, ap length same)
filled_tree c m least (suc d) t is f =
    let both : Some f.0 ≡ Some (map (λ u. entry_of d u) t.1) = sym f.1 ∙ is.0 in
    let same : f.0 ≡ map (λ u. entry_of d u) t.1 = cc in
    (omega (arith, f.2, ap length same, length-map t.1 (λ u. entry_of d u)), each_filled c m least d (λ u. filled_tree c m least d u) t.1 is.1 (subst (λ (es : List Entry). AllFilledBelow c m least d es) same f.3))

pub each_below : (c : Format) (m : Map) (least d : ℕ) → ((t : Tree d) → IsTree c d m t → IsFilled least d t → HasFilledBelow c m least d (entry_of d t)) → (us : List (Tree d)) → AllByRecursion (λ u. IsTree c d m u) us
    → AllByRecursion (λ u. IsFilled least d u) us → AllFilledBelow c m least d (map (λ u. entry_of d u) us)
each_below c m least d ih [] each all = tt
each_below c m least d ih (u ∷ us) each all = (ih u each.0 all.0, each_below c m least d ih us each.1 all.1)

pub filled_below : (c : Format) (m : Map) (least d : ℕ) (t : Tree d) → IsTree c d m t → IsFilled least d t → HasFilledBelow c m least d (entry_of d t)
filled_below c m least zero t is f = (t.lines, is.1, f)
filled_below c m least (suc d) t is f =
    (map (λ u. entry_of d u) t.1, is.0, omega (arith, f.0, length-map t.1 (λ u. entry_of d u)), each_below c m least d (λ u. filled_below c m least d u) t.1 is.1 f.1)

-- trees that are filled are so where their pages stay
pub filled_kept : (c : Format) (m n : Map) (least d : ℕ) (us : List (Tree d)) → ((k : ℕ) → 1 ≤ total (λ u. uses d u k) us → n k ≡ m k) → AllByRecursion (λ u. IsTree c d m u) us
    → AllFilledBelow c m least d (map (λ u. entry_of d u) us) → AllFilledBelow c n least d (map (λ u. entry_of d u) us)
filled_kept c m n least d us same each all =
    each_below c n least d (λ t is f. filled_below c n least d t is f) us (each_kept c d m n us same each) (each_filled c m least d (λ t is f. filled_tree c m least d t is f) us each all)

-- fewer entries are enough where more are there
pub filled_less : (c : Format) (m : Map) (more less d : ℕ) (es : List Entry) → less ≤ more → AllFilledBelow c m more d es → AllFilledBelow c m less d es
filled_less c m more less d [] le all = tt
filled_less c m more less zero (e ∷ es) le all = (all.0, filled_less c m more less zero es le all.1)
filled_less c m more less (suc d) (e ∷ es) le all =
    let f : HasFilledBelow c m more (suc d) e = all.0 in
    ((f.0, f.1, omega (arith, f.2, le), filled_less c m more less d f.0 le f.3), filled_less c m more less (suc d) es le all.1)

from_root : (c : Format) (m : Map) (least depth : ℕ) (t : Tree depth) → 1 ≤ depth → IsTree c depth m t → root_of depth t ≡ 1 → IsFilledRoot least depth t → HasFilledRoot c m least depth
from_root c m least zero t deep is root f = absurd (omega (arith, deep))
from_root c m least (suc d) t deep is root f =
    let less : d ≡ suc d - 1 = omega arith in
    let all : AllFilledBelow c m least d (map (λ u. entry_of d u) t.1) = each_below c m least d (λ u. filled_below c m least d u) t.1 is.1 f.1 in (
      map (λ u. entry_of d u) t.1,
      ap (λ p. read_by c.entries (pages_at m p 1)) (sym root) ∙ is.0,
      omega (arith, f.0, length-map t.1 (λ u. entry_of d u)),
      subst (λ (e : ℕ). AllFilledBelow c m least e (map (λ u. entry_of d u) t.1)) less all,
    )

-- a filled tree from block 1 on
pub root_below : (c : Format) (m : Map) (least depth : ℕ) (lines : List (List ℕ)) (has : HasLines c m depth lines) → IsFilledRoot least depth has.tree → HasFilledRoot c m least depth
root_below c m least depth lines has f = from_root c m least depth has.tree has.deep has.stands.tree has.stands.root f

to_root : (c : Format) (m : Map) (least depth : ℕ) (t : Tree depth) → 1 ≤ depth → IsTree c depth m t → root_of depth t ≡ 1 → HasFilledRoot c m least depth → IsFilledRoot least depth t
to_root c m least zero t deep is root f = absurd (omega (arith, deep))
to_root c m least (suc d) t deep is root f =
    let less : suc d - 1 ≡ d = omega arith in
    let both : Some f.0 ≡ Some (map (λ u. entry_of d u) t.1) = sym f.1 ∙ ap (λ p. read_by c.entries (pages_at m p 1)) (sym root) ∙ is.0 in
    let same : f.0 ≡ map (λ u. entry_of d u) t.1 = cc in
    let all : AllFilledBelow c m least d f.0 = subst (λ (e : ℕ). AllFilledBelow c m least e f.0) less f.3 in
    (omega (arith, f.2, ap length same, length-map t.1 (λ u. entry_of d u)), each_filled c m least d (λ u. filled_tree c m least d u) t.1 is.1 (subst (λ (es : List Entry). AllFilledBelow c m least d es) same all))

-- pages with these lines have a filled tree where what is read of them is filled
pub has_filled : (c : Format) (m : Map) (depth : ℕ) (lines : List (List ℕ)) → HasLines c m depth lines → HasFilledRoot c m 32 depth → HasFilled c m depth
has_filled c m depth lines has f = record { lines = lines; has = has; filled = to_root c m 32 depth has.tree has.deep has.stands.tree has.stands.root f }

pub filled_root : (c : Format) (m : Map) (depth : ℕ) → HasFilled c m depth → HasFilledRoot c m 32 depth
filled_root c m depth f = root_below c m 32 depth f.lines f.has f.filled

-- one step down

pub filled_entries : (c : Format) (m : Map) (least depth : ℕ) (top : Entry) (es : List Entry) → (depth ≡ 0 → ⊥) → read_by c.entries (pages_at m top.block 1) ≡ Some es → HasFilledBelow c m least depth top → (least ≤ length es) × AllFilledBelow c m least (depth - 1) es
filled_entries c m least zero top es some reads f = absurd (some refl)
filled_entries c m least (suc d) top es some reads f =
    let both : Some f.0 ≡ Some es = sym f.1 ∙ reads in
    let same : f.0 ≡ es = cc in
    let less : d ≡ suc d - 1 = omega arith in
    (omega (arith, f.2, ap length same), subst (λ (e : ℕ). AllFilledBelow c m least e es) less (subst (λ (xs : List Entry). AllFilledBelow c m least d xs) same f.3))

pub filled_at : (c : Format) (m : Map) (least d : ℕ) (es : List Entry) (at : ℕ) (place : Place) → IsPlace es at place → AllFilledBelow c m least d es → HasFilledBelow c m least d place.entry
filled_at c m least d es at place is all =
    (each-back (λ (e : Entry). HasFilledBelow c m least d e) is.before (place.entry ∷ is.after) (subst (λ (xs : List Entry). AllFilledBelow c m least d xs) is.cut all)).0

pub place_within : (es : List Entry) (at : ℕ) (place : Place) → IsPlace es at place → place.index < length es
place_within es at place is = omega (arith, is.index, ap length is.cut, length-append is.before (place.entry ∷ is.after))

-- how many entries pointer blocks have does not matter where data blocks lie below block 1
pub any_least : (c : Format) (m : Map) (some other : ℕ) (es : List Entry) → AllFilledBelow c m some 0 es → AllFilledBelow c m other 0 es
any_least c m some other [] all = tt
any_least c m some other (e ∷ es) all = (all.0, any_least c m some other es all.1)

pub any_root : (c : Format) (m : Map) (some other depth : ℕ) → depth ≡ 1 → HasFilledRoot c m some depth → HasFilledRoot c m other depth
any_root c m some other depth flat f =
    let none : depth - 1 ≡ 0 = omega (arith, flat) in
    (f.0, f.1, f.2, subst (λ (e : ℕ). AllFilledBelow c m other e f.0) (sym none) (any_least c m some other f.0 (subst (λ (e : ℕ). AllFilledBelow c m some e f.0) none f.3)))
