-- One tree from block 1 on in place of another, and block 1 with the entries of the only block below it.
use Rattle.std.proofs.Common.{◌≡◌, ℕ, zero, suc, ◌+◌, ◌-◌, ◌≤◌, List, [], ◌∷◌, length, map, Some, sym, refl, ap, subst, ◌∙◌, inl, inr, arith, length-append}
use Rattle.std.specs.List.{flat_map, AllByRecursion}
use Rattle.std.proofs.lemmas.Bool.{cases_eq}
use Rattle.std.proofs.lemmas.List.{append-nil}
use Rattle.vs_pages.specs.Maps.{Map, lacks, one, total, without}
use Rattle.vs_pages.proofs.MapsLemmas.{one-same}
use Rattle.vs_tree_shape.specs.declared.entries.Entry.{Entry}
use Rattle.vs_tree_shape.specs.Trees.{Format, Tree, root_of, width_of, lines_of, uses, entry_of, IsTree, HasLines}
use Rattle.vs_tree_shape.specs.Changes.{Replaces, Stored}
use Rattle.vs_tree_shape.specs.Filled.{IsFilled, IsFilledBut, IsFilledRoot, Way}
use Rattle.vs_tree_shape.specs.Keeps.{IsReady, IsThick, KeepsTree, Neighbours, both_uses}
use Rattle.vs_tree_shape.proofs.Shapes.{room}
use Rattle.vs_tree_shape.proofs.Writes.{replaces_as}
use Rattle.vs_tree_shape.proofs.Joins.{joined_two}
use Rattle.vs_tree_shape.proofs.Towards.{same_cut, some_kids}

-- one tree in place of another, from block 1 on
pub replaced_has : (c : Format) (m n : Map) (depth now : ℕ) (lines : List (List ℕ)) (has : HasLines c m depth lines) (u : Tree now) → 1 ≤ now → root_of now u ≡ 1 → width_of now u ≡ 1 → lines_of now u ≡ lines
    → Replaces c m n (λ k. uses depth has.tree k) now (u ∷ []) → (then : HasLines c n now lines) × (then.tree ≡ u)
replaced_has c m n depth now lines has u deep root width same r =
    let fresh : (k : ℕ) → uses now u k ≤ uses depth has.tree k + (lacks (m k) - one 0 k) = λ k. omega (arith, r.fresh k) in (
      record {
        tree = u;
        stands = record { tree = r.each.0; root = root; page_count = width; once = λ k. omega (arith, fresh k, room c depth m 1 1 has.tree k has.stands) };
        deep = deep;
        zero_free = omega (arith, fresh 0, has.zero_free, one-same 0, room c depth m 1 1 has.tree 0 has.stands);
        all = λ k. elim (cases_eq (uses now u k + one 0 k) 0) [
          | inl none ↦ omega (arith, r.gone k (omega (arith, none)) (omega (arith, has.all k, none)))
          | inr used ↦ omega arith
        ];
        lines_are = same;
      },
      refl,
    )

-- the same tree but for its blocks
pub keeps_has : (c : Format) (m n : Map) (depth : ℕ) (lines : List (List ℕ)) (has : HasLines c m depth lines) (w : KeepsTree c m n depth has.tree) → (then : HasLines c n depth lines) × (then.tree ≡ w.tree)
keeps_has c m n depth lines has w =
    replaced_has c m n depth depth lines has w.tree has.deep (ap (λ (e : Entry). e.block) w.entry ∙ has.stands.root) (ap (λ (e : Entry). e.pages) w.entry ∙ has.stands.page_count) (w.lines ∙ has.lines_are) w.replaces

-- block 1 took over the entries of the only block below it
pub took_over : (c : Format) (m n1 n2 : Map) (d p : ℕ) (kids : List (Tree d)) (lines : List (List ℕ)) (bytes : List ℕ) (has : HasLines c m (suc (suc d)) lines) → has.tree.1 ≡ (p, kids) ∷ [] → Stored m n1 1 1 bytes
    → c.entries bytes ≡ Some (map (λ u. entry_of d u) kids) → n2 ≡ without n1 p 1 → (low : HasLines c n2 (suc d) lines) × (low.tree ≡ (1, kids))
took_over c m n1 n2 d p kids lines bytes has only s reads is =
    let t : Tree (suc (suc d)) = has.tree in
    let P : List (Tree (suc d)) → Type 0 = λ us. AllByRecursion (λ u. IsTree c (suc d) m u) us in
    let each : AllByRecursion (λ u. IsTree c (suc d) m u) ((p, kids) ∷ []) = subst P only has.stands.tree.1 in
    let counts : (k : ℕ) → both_uses d 1 p [] kids k ≡ uses (suc (suc d)) t k = λ k. omega (arith, ap (λ b. one b k) has.stands.root, ap (λ us. total (λ u. uses (suc d) u k) us) only) in
    let two : Neighbours c m d 1 p [] kids = record { each = each.0.1; once = λ k. omega (arith, counts k, room c (suc (suc d)) m 1 1 t k has.stands) } in
    let r : Replaces c m n2 (both_uses d 1 p [] kids) (suc d) ((1, kids) ∷ []) = joined_two c m n1 n2 d 1 p [] kids (map (λ u. entry_of d u) kids) bytes two refl s reads is in
    let same : flat_map (λ u. lines_of d u) kids ≡ lines = sym (append-nil (flat_map (λ u. lines_of d u) kids)) ∙ sym (ap (λ us. flat_map (λ u. lines_of (suc d) u) us) only) ∙ has.lines_are in
    replaced_has c m n2 (suc (suc d)) (suc d) lines has (1, kids) (omega arith) refl refl same (replaces_as c m n2 (suc d) (both_uses d 1 p [] kids) (λ k. uses (suc (suc d)) t k) ((1, kids) ∷ []) counts r)

-- its own block is as ready as the one below it was
pub lowered_but : (d p root at : ℕ) (kids : List (Tree d)) (t : Tree (suc (suc d))) → t.1 ≡ (p, kids) ∷ [] → IsFilledBut 32 (suc (suc d)) t at → IsFilledBut 32 (suc d) (root, kids) at
lowered_but d p root at kids t only f =
    let w : Way (suc d) t.1 at = f.0 in
    let some : Way (suc d) t.1 at → length w.before ≡ 0 = λ v. omega (arith, ap length w.cut, ap length only, length-append w.before (w.child ∷ w.after)) in
    let r = same_cut w.before [] (w.child ∷ w.after) ((p, kids) ∷ []) (some w) (sym w.cut ∙ only) in
    let heads : w.child ∷ w.after ≡ (p, kids) ∷ [] = r.1 in
    let child : w.child ≡ (p, kids) = cc in
    let rest : w.rest ≡ at = omega (arith, w.sum, ap (λ us. length (flat_map (λ u. lines_of (suc d) u) us)) r.0) in
    subst (λ (i : ℕ). IsFilledBut 32 (suc d) (root, kids) i) rest (subst (λ (u : Tree (suc d)). IsFilledBut 32 (suc d) u w.rest) child f.3)

-- the only block below is filled, and so block 1 is then
pub lowered_thick : (need d p root : ℕ) (kids : List (Tree d)) (t : Tree (suc (suc d))) → t.1 ≡ (p, kids) ∷ [] → IsThick need (suc (suc d)) t → IsThick 32 (suc d) (root, kids)
lowered_thick need d p root kids t only f =
    let P : List (Tree (suc d)) → Type 0 = λ us. AllByRecursion (λ u. IsFilled 32 (suc d) u) us in
    let each : AllByRecursion (λ u. IsFilled 32 (suc d) u) ((p, kids) ∷ []) = subst P only f.1 in
    each.0

pub thick_root : (d : ℕ) (t : Tree d) → IsThick 2 d t → IsFilledRoot 32 d t
thick_root zero t f = f
thick_root (suc zero) t f = (omega (arith, f.0), f.1)
thick_root (suc (suc d)) t f = f

pub thick_more : (need less d : ℕ) (t : Tree d) → less ≤ need → IsThick need d t → IsThick less d t
thick_more need less zero t le f = f
thick_more need less (suc d) t le f = (omega (arith, le, f.0), f.1)

-- block 1 of a tree with one level of blocks below it, or with two entries
pub root_ready : (d : ℕ) (t : Tree (suc d)) (at : ℕ) → (1 ≤ d → 2 ≤ length t.1) → IsFilledBut 32 (suc d) t at → IsReady 1 (suc d) t at
root_ready zero t at two f = (omega (arith, some_kids zero t.1 at f.0), f)
root_ready (suc d) t at two f = (omega (arith, two (omega arith)), f)
