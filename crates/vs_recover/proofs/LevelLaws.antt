-- From one level of a tree to the next, both ways.
use Rattle.std.proofs.Common.{◌≡◌, ℕ, zero, suc, ◌+◌, ◌≤◌, ◌⊎◌, List, [], ◌∷◌, ◌++◌, length, map, Option, Some, None, sym, refl, ap, subst, ◌∙◌, inl, inr, arith, length-append, true, false, Bool}
use Rattle.std.proofs.lemmas.List.Concat.{flat_map-append}
use Rattle.std.specs.List.{flat_map, AllByRecursion}
use Rattle.std.proofs.lemmas.Bool.{cases_eq, cases_Bool}
use Rattle.std.proofs.lemmas.Bool.Decides.{nat_tests}
use Rattle.std.proofs.lemmas.Grind.{common_steps}
use Rattle.vs_pages.specs.Maps.{Map, total, span, pages_at}
use Rattle.vs_tree_shape.specs.declared.entries.Entry.{Entry}
use Rattle.vs_tree_shape.specs.Places.{lines_below}
use Rattle.vs_tree_shape.specs.Trees.{Format, read_by, Tree, root_of, width_of, lines_of, uses, entry_of, IsTree}
use Rattle.vs_tree_shape.proofs.Shapes.{each-append, each-front, each-back}
use Rattle.vs_tree_shape.proofs.Sums.{total-append}
use Rattle.vs_recover.specs.Levels.{below, taken, Level, chained, are_wide, fitting_points, fitting_lines, points_at, lines_at, opened, gathered}

-- ---- pages

pub uses_root : (d : ℕ) (t : Tree d) (k : ℕ) → uses d t k ≡ span (root_of d t) (width_of d t) k + below d t k
uses_root zero t k = omega arith
uses_root (suc d) t k = omega arith

pub uses_roots : (d : ℕ) (us : List (Tree d)) (k : ℕ) → total (λ u. uses d u k) us ≡ taken (map (λ u. entry_of d u) us) k + total (λ u. below d u k) us
uses_roots d [] k = refl
uses_roots d (u ∷ us) k = omega (arith, uses_root d u k, uses_roots d us k)

-- the pages of all blocks two levels down
pub below_parts : (d : ℕ) (us : List (Tree (suc d))) (k : ℕ) → total (λ u. below (suc d) u k) us ≡ total (λ v. uses d v k) (flat_map (λ u. u.1) us)
below_parts d [] k = refl
below_parts d (u ∷ us) k = omega (arith, below_parts d us k, total-append (λ v. uses d v k) u.1 (flat_map (λ u. u.1) us))

pub no_below : (us : List (Tree zero)) (k : ℕ) → total (λ u. below zero u k) us ≡ 0
no_below [] k = refl
no_below (u ∷ us) k = omega (arith, no_below us k)

-- ---- lines

pub lines_parts : (d : ℕ) (us : List (Tree (suc d))) → flat_map (λ u. lines_of (suc d) u) us ≡ flat_map (λ v. lines_of d v) (flat_map (λ u. u.1) us)
lines_parts d [] = refl
lines_parts d (u ∷ us) = ap (λ xs. flat_map (λ v. lines_of d v) u.1 ++ xs) (lines_parts d us) ∙ sym (flat_map-append (λ v. lines_of d v) u.1 (flat_map (λ u. u.1) us))

pub lines_counted : (d : ℕ) (vs : List (Tree d)) → lines_below (map (λ v. entry_of d v) vs) ≡ length (flat_map (λ v. lines_of d v) vs)
lines_counted d [] = refl
lines_counted d (v ∷ vs) = omega (arith, lines_counted d vs, length-append (lines_of d v) (flat_map (λ v. lines_of d v) vs))

-- ---- a level of pointer blocks

pub points_fit : (e : Entry) (es : List Entry) → e.pages ≡ 1 → lines_below es ≡ e.lines → are_wide es ≡ true → fitting_points e (Some es) ≡ Some es
points_fit e es a b w = grind (arith, nat_tests)

width-least : (c : Format) (m : Map) (d : ℕ) (t : Tree d) → IsTree c d m t → 1 ≤ width_of d t
width-least c m zero t is = is.0
width-least c m (suc d) t is = omega arith

pub trees_wide : (c : Format) (m : Map) (d : ℕ) (vs : List (Tree d)) → AllByRecursion (λ v. IsTree c d m v) vs → are_wide (map (λ v. entry_of d v) vs) ≡ true
trees_wide c m d [] each = refl
trees_wide c m d (v ∷ vs) each = let w : 1 ≤ width_of d v = width-least c m d v each.0 in let rest = trees_wide c m d vs each.1 in grind (arith, nat_tests)

pub points_fitted : (e : Entry) (o : Option (List Entry)) (es : List Entry) → fitting_points e o ≡ Some es → (o ≡ Some es) × (e.pages ≡ 1) × (lines_below es ≡ e.lines) × (are_wide es ≡ true)
points_fitted e None es h = absurd (cc)
points_fitted e (Some found) es h = elim (cases_eq e.pages 1) [
  | inl a ↦ elim (cases_eq (lines_below found) e.lines) [
    | inl b ↦ elim (cases_Bool (are_wide found)) [
      | inl w ↦ let same : Some found ≡ Some es = sym (points_fit e found a b w) ∙ h in let equal : es ≡ found = cc in (same, a, ap (λ zs. lines_below zs) equal ∙ b, ap (λ zs. are_wide zs) equal ∙ w)
      | inr n ↦ absurd (grind (arith, nat_tests))
    ]
    | inr n ↦ absurd (grind (arith, nat_tests))
  ]
  | inr n ↦ absurd (grind (arith, nat_tests))
]

pub chained_some : {X : Type 0} (a b : Option (List X)) (c : List X) → chained a b ≡ Some c → (x : List X) × (y : List X) × (a ≡ Some x) × (b ≡ Some y) × (c ≡ x ++ y)
chained_some None b c h = absurd (cc)
chained_some (Some x) None c h = absurd (cc)
chained_some (Some x) (Some y) c h = (x, y, refl, refl, cc)

map_append : {X Y : Type 0} (f : X → Y) (xs ys : List X) → map f (xs ++ ys) ≡ map f xs ++ map f ys
map_append f [] ys = refl
map_append f (x ∷ xs) ys = ap (λ zs. f x ∷ zs) (map_append f xs ys)

-- where this level stands, the next one is read
pub level_opens : (c : Format) (m : Map) (d : ℕ) (us : List (Tree (suc d))) → AllByRecursion (λ u. IsTree c (suc d) m u) us
    → opened c m (map (λ u. entry_of (suc d) u) us) ≡ Some (map (λ v. entry_of d v) (flat_map (λ u. u.1) us))
level_opens c m d [] each = refl
level_opens c m d (u ∷ us) each =
    let e : Entry = entry_of (suc d) u in
    let es : List Entry = map (λ v. entry_of d v) u.1 in
    let here : points_at c m e ≡ Some es = ap (λ o. fitting_points e o) each.0.0 ∙ points_fit e es refl (lines_counted d u.1) (trees_wide c m d u.1 each.0.1) in
    let rest = level_opens c m d us each.1 in
    ap (λ o. chained o (opened c m (map (λ u. entry_of (suc d) u) us))) here ∙ ap (λ o. chained (Some es) o) rest
    ∙ ap (λ (xs : List Entry). Some xs) (sym (map_append (λ v. entry_of d v) u.1 (flat_map (λ u. u.1) us)))

-- the elements that a list of images in two parts comes from
pub map_cut : {X Y : Type 0} (f : X → Y) (xs : List X) (a b : List Y) → map f xs ≡ a ++ b → (p : List X) × (q : List X) × (xs ≡ p ++ q) × (map f p ≡ a) × (map f q ≡ b)
map_cut f xs [] b h = ([], xs, refl, refl, h)
map_cut f [] (y ∷ a) b h = absurd (cc)
map_cut f (x ∷ xs) (y ∷ a) b h =
    let head : f x ≡ y = cc in
    let tail : map f xs ≡ a ++ b = cc in
    let rest = map_cut f xs a b tail in
    (x ∷ rest.0, rest.1, ap (λ zs. x ∷ zs) rest.2, ap (λ z. z ∷ map f rest.0) head ∙ ap (λ zs. y ∷ zs) rest.3, rest.4)

-- the trees of pointer blocks whose parts these are
record Raised (c : Format) (m : Map) (d : ℕ) (entries : List Entry) (vs : List (Tree d)) : Type 0 where
  us : List (Tree (suc d))
  each : AllByRecursion (λ u. IsTree c (suc d) m u) us
  entries_are : map (λ u. entry_of (suc d) u) us ≡ entries
  parts : flat_map (λ u. u.1) us ≡ vs

abbrev entry_with : ℕ → ℕ → ℕ → Entry
entry_with block pages lines = record { block = block; pages = pages; lines = lines }

same_entry : (e : Entry) (block pages lines : ℕ) → block ≡ e.block → pages ≡ e.pages → lines ≡ e.lines → entry_with block pages lines ≡ e
same_entry e block pages lines a b c =
    let x : Entry = record { block = e.block; pages = pages; lines = lines } in
    let first : record { block = block; pages = pages; lines = lines } ≡ x = ap (λ n. record { block = n; pages = pages; lines = lines }) a in
    let second : x ≡ record { block = e.block; pages = e.pages; lines = lines } = ap (λ n. record { block = e.block; pages = n; lines = lines }) b in
    let third : record { block = e.block; pages = e.pages; lines = lines } ≡ e = ap (λ n. record { block = e.block; pages = e.pages; lines = n }) c in
    first ∙ (second ∙ third)

raise : (c : Format) (m : Map) (d : ℕ) (entries next : List Entry) (vs : List (Tree d)) → opened c m entries ≡ Some next → AllByRecursion (λ v. IsTree c d m v) vs → map (λ v. entry_of d v) vs ≡ next → Raised c m d entries vs
raise c m d [] next [] is each same = record { us = []; each = tt; entries_are = refl; parts = refl }
raise c m d [] next (v ∷ vs) is each same = absurd (cc)
raise c m d (e ∷ es) next vs is each same =
    let cut = chained_some (points_at c m e) (opened c m es) next is in
    let two = map_cut (λ v. entry_of d v) vs cut.0 cut.1 (same ∙ cut.4) in
    let both : AllByRecursion (λ v. IsTree c d m v) (two.0 ++ two.1) = subst (λ zs. AllByRecursion (λ v. IsTree c d m v) zs) two.2 each in
    let rest = raise c m d es cut.1 two.1 cut.3 (each-back (λ v. IsTree c d m v) two.0 two.1 both) two.4 in
    let fits = points_fitted e (read_by c.entries (pages_at m e.block 1)) cut.0 cut.2 in
    let here : Tree (suc d) = (e.block, two.0) in
    record {
      us = here ∷ rest.us;
      each = ((fits.0 ∙ ap (λ (zs : List Entry). Some zs) (sym two.3), each-front (λ v. IsTree c d m v) two.0 two.1 both), rest.each);
      entries_are = ap (λ x. x ∷ map (λ u. entry_of (suc d) u) rest.us) (same_entry e e.block 1 (length (flat_map (λ v. lines_of d v) two.0)) refl (sym fits.1) (sym (lines_counted d two.0) ∙ (ap (λ zs. lines_below zs) two.3 ∙ fits.2)))
          ∙ ap (λ zs. e ∷ zs) rest.entries_are;
      parts = ap (λ zs. two.0 ++ zs) rest.parts ∙ sym two.2;
    }

each_parts : (c : Format) (m : Map) (d : ℕ) (us : List (Tree (suc d))) → AllByRecursion (λ u. IsTree c (suc d) m u) us → AllByRecursion (λ v. IsTree c d m v) (flat_map (λ u. u.1) us)
each_parts c m d [] each = tt
each_parts c m d (u ∷ us) each = each-append (λ v. IsTree c d m v) u.1 (flat_map (λ u. u.1) us) each.0.1 (each_parts c m d us each.1)

-- What stands at a level of pointer blocks stands at the next level.
pub goes_down : (c : Format) (m : Map) (used : ℕ → ℕ) (d : ℕ) (entries : List Entry) (lines : List (List ℕ)) → Level c m used (suc d) entries lines
    → (next : List Entry) × (opened c m entries ≡ Some next) × Level c m (λ k. used k + taken next k) d next lines
goes_down c m used d entries lines level =
    let vs : List (Tree d) = flat_map (λ u. u.1) level.trees in (
      map (λ v. entry_of d v) vs,
      ap (λ es. opened c m es) (sym level.entries_are) ∙ level_opens c m d level.trees level.each,
      record {
        trees = vs;
        each = each_parts c m d level.trees level.each;
        entries_are = refl;
        once = λ k. omega (arith, level.once k, below_parts d level.trees k, uses_roots d vs k);
        lines_are = sym (lines_parts d level.trees) ∙ level.lines_are;
      },
    )

-- What stands at the next level stands at this one.
pub goes_up : (c : Format) (m : Map) (used : ℕ → ℕ) (d : ℕ) (entries next : List Entry) (lines : List (List ℕ)) → opened c m entries ≡ Some next → Level c m (λ k. used k + taken next k) d next lines → Level c m used (suc d) entries lines
goes_up c m used d entries next lines is level =
    let up = raise c m d entries next level.trees is level.each level.entries_are in
    record {
      trees = up.us;
      each = up.each;
      entries_are = up.entries_are;
      once = λ k. omega (arith, level.once k, below_parts d up.us k, ap (λ vs. total (λ v. uses d v k) vs) up.parts, uses_roots d level.trees k, ap (λ es. taken es k) level.entries_are);
      lines_are = lines_parts d up.us ∙ (ap (λ vs. flat_map (λ v. lines_of d v) vs) up.parts ∙ level.lines_are);
    }

-- ---- a level of data blocks

lines_fit : (e : Entry) (ls : List (List ℕ)) → 1 ≤ e.pages → length ls ≡ e.lines → fitting_lines e (Some ls) ≡ Some ls
lines_fit e ls a b = grind (arith, nat_tests)

lines_fitted : (e : Entry) (o : Option (List (List ℕ))) (ls : List (List ℕ)) → fitting_lines e o ≡ Some ls → (o ≡ Some ls) × (1 ≤ e.pages) × (length ls ≡ e.lines)
lines_fitted e None ls h = absurd (cc)
lines_fitted e (Some found) ls h = elim (cases_eq e.pages 0) [
  | inl n ↦ absurd (grind (arith, nat_tests))
  | inr a ↦ elim (cases_eq (length found) e.lines) [
    | inl b ↦ let same : Some found ≡ Some ls = sym (lines_fit e found (omega arith) b) ∙ h in let equal : found ≡ ls = cc in (same, omega arith, ap length (sym equal) ∙ b)
    | inr n ↦ absurd (grind (arith, nat_tests))
  ]
]

-- the lines of data blocks that stand are read
pub level_gathers : (c : Format) (m : Map) (us : List (Tree zero)) → AllByRecursion (λ u. IsTree c zero m u) us → gathered c m (map (λ u. entry_of zero u) us) ≡ Some (flat_map (λ u. lines_of zero u) us)
level_gathers c m [] each = refl
level_gathers c m (u ∷ us) each =
    let e : Entry = entry_of zero u in
    let here : lines_at c m e ≡ Some u.lines = ap (λ o. fitting_lines e o) each.0.1 ∙ lines_fit e u.lines each.0.0 refl in
    ap (λ o. chained o (gathered c m (map (λ u. entry_of zero u) us))) here ∙ ap (λ o. chained (Some u.lines) o) (level_gathers c m us each.1)

record Leaves (c : Format) (m : Map) (entries : List Entry) (lines : List (List ℕ)) : Type 0 where
  us : List (Tree zero)
  each : AllByRecursion (λ u. IsTree c zero m u) us
  entries_are : map (λ u. entry_of zero u) us ≡ entries
  lines_are : flat_map (λ u. lines_of zero u) us ≡ lines

leaves : (c : Format) (m : Map) (entries : List Entry) (lines : List (List ℕ)) → gathered c m entries ≡ Some lines → Leaves c m entries lines
leaves c m [] lines is = record { us = []; each = tt; entries_are = refl; lines_are = cc }
leaves c m (e ∷ es) lines is =
    let cut = chained_some (lines_at c m e) (gathered c m es) lines is in
    let rest = leaves c m es cut.1 cut.3 in
    let fits = lines_fitted e (read_by (c.lines e.pages) (pages_at m e.block e.pages)) cut.0 cut.2 in
    let here : Tree zero = record { page = e.block; pages = e.pages; lines = cut.0 } in
    record {
      us = here ∷ rest.us;
      each = ((fits.1, fits.0), rest.each);
      entries_are = ap (λ x. x ∷ map (λ u. entry_of zero u) rest.us) (same_entry e e.block e.pages (length cut.0) refl refl fits.2) ∙ ap (λ zs. e ∷ zs) rest.entries_are;
      lines_are = ap (λ zs. cut.0 ++ zs) rest.lines_are ∙ sym cut.4;
    }

-- The lines of a level of data blocks are those that are read.
pub gathers : (c : Format) (m : Map) (used : ℕ → ℕ) (entries : List Entry) (lines : List (List ℕ)) → Level c m used zero entries lines → gathered c m entries ≡ Some lines
gathers c m used entries lines level = ap (λ es. gathered c m es) (sym level.entries_are) ∙ (level_gathers c m level.trees level.each ∙ ap (λ (zs : List (List ℕ)). Some zs) level.lines_are)

pub is_gathered : (c : Format) (m : Map) (used : ℕ → ℕ) (entries : List Entry) (lines : List (List ℕ)) → ((k : ℕ) → used k ≤ 1) → gathered c m entries ≡ Some lines → Level c m used zero entries lines
is_gathered c m used entries lines once is =
    let found = leaves c m entries lines is in
    record { trees = found.us; each = found.each; entries_are = found.entries_are; once = λ k. omega (arith, once k, no_below found.us k); lines_are = found.lines_are }
