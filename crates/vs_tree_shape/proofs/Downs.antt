-- What is changed below a block without a change of its lines and of its entry: steps one after the other, and steps below a child.
use Rattle.std.proofs.Common.{◌≡◌, ℕ, zero, suc, ◌+◌, ◌-◌, ◌≤◌, List, [], ◌∷◌, ◌++◌, length, map, Some, refl, sym, ap, subst, ◌∙◌, arith, length-append}
use Rattle.std.specs.List.{flat_map, AllByRecursion}
use Rattle.vs_pages.specs.Maps.{Map, total, pages_at}
use Rattle.vs_tree_shape.specs.declared.entries.Entry.{Entry}
use Rattle.vs_tree_shape.specs.declared.entries.Place.{Place}
use Rattle.vs_tree_shape.specs.Trees.{Format, read_by, Tree, lines_of, uses, entry_of, IsTree}
use Rattle.vs_tree_shape.specs.Changes.{HasLineBelow}
use Rattle.vs_tree_shape.specs.Places.{IsPlace}
use Rattle.vs_tree_shape.specs.Filled.{Way}
use Rattle.vs_tree_shape.specs.Keeps.{KeepsTree, KeepsBelow, IsReady, IsThick, LeadsOn}
use Rattle.vs_tree_shape.proofs.Sums.{total-append}
use Rattle.vs_tree_shape.proofs.Shapes.{each-back, room}
use Rattle.vs_tree_shape.proofs.Walks.{Child, child_of, lines_cut}
use Rattle.vs_tree_shape.proofs.Writes.{left_alone, replaces_as}
use Rattle.vs_tree_shape.proofs.Joins.{level_down, replaces_then}
use Rattle.vs_tree_shape.proofs.Towards.{SameWay, leads_thick, one_way}

-- the line is still below the block
pub keeps_there : (c : Format) (m n : Map) (top : Entry) (d at : ℕ) (a : HasLineBelow c m top d at) → KeepsTree c m n d a.tree → HasLineBelow c n top d at
keeps_there c m n top d at a w =
    let lines : length (lines_of d w.tree) ≡ length (lines_of d a.tree) = ap length w.lines in
    record {
      tree = w.tree;
      stands = record {
        tree = w.replaces.each.0;
        root = ap (λ (e : Entry). e.block) w.entry ∙ a.stands.root;
        page_count = ap (λ (e : Entry). e.pages) w.entry ∙ a.stands.page_count;
        once = λ k. omega (arith, w.replaces.fresh k, room c d m top.block top.pages a.tree k a.stands);
      };
      lines = lines ∙ a.lines;
      within = omega (arith, lines, a.within);
      small = omega (arith, lines, a.small);
    }

-- one step after another
pub keeps_then : (c : Format) (m n1 n2 : Map) (top : Entry) (d at : ℕ) (P Q R : Tree d → Type 0) → KeepsBelow c m n1 top d at P Q → KeepsBelow c n1 n2 top d at Q R → KeepsBelow c m n2 top d at P R
unfolding keeps_there
keeps_then c m n1 n2 top d at P Q R first second a =
    let w = first a in
    let b : HasLineBelow c n1 top d at = keeps_there c m n1 top d at a w.0 in
    let v = second b in (
      record {
        tree = v.0.tree;
        entry = v.0.entry ∙ w.0.entry;
        lines = v.0.lines ∙ w.0.lines;
        replaces = replaces_then c m n1 n2 (λ k. uses d a.tree k) d d (w.0.tree ∷ []) (v.0.tree ∷ []) w.0.replaces
            (replaces_as c n1 n2 d (λ k. uses d w.0.tree k) (λ k. total (λ u. uses d u k) (w.0.tree ∷ [])) (v.0.tree ∷ []) (λ k. omega arith) v.0.replaces);
      },
      λ p. v.1 (w.1 p),
    )

lines_around : (e : ℕ) (before after : List (Tree e)) (a b : Tree e) → lines_of e a ≡ lines_of e b → flat_map (λ u. lines_of e u) (before ++ (a ∷ after)) ≡ flat_map (λ u. lines_of e u) (before ++ (b ∷ after))
lines_around e before after a b same =
    lines_cut e before a after ∙ ap (λ ls. flat_map (λ u. lines_of e u) before ++ (ls ++ flat_map (λ u. lines_of e u) after)) same ∙ sym (lines_cut e before b after)

-- a step below the child on the way to the line
pub keeps_down : (c : Format) (m n : Map) (need : ℕ) (top : Entry) (e at : ℕ) (es : List Entry) (place : Place) → read_by c.entries (pages_at m top.block 1) ≡ Some es → IsPlace es at place
    → KeepsBelow c m n place.entry e place.rest (λ u. IsReady 32 e u place.rest) (λ u. IsThick 32 e u)
    → KeepsBelow c m n top (suc e) at (λ t. LeadsOn need e t at) (λ t. IsThick need (suc e) t)
keeps_down c m n need top e at es place reads is below a =
    let kids : List (Tree e) = a.tree.1 in
    let root : a.tree.0 ≡ top.block = a.stands.root in
    let both : Some es ≡ Some (map (λ u. entry_of e u) kids) = sym reads ∙ ap (λ b. read_by c.entries (pages_at m b 1)) (sym root) ∙ a.stands.tree.0 in
    let same : es ≡ map (λ u. entry_of e u) kids = cc in
    let child : Child e kids at place = child_of e kids at place (subst (λ (xs : List Entry). IsPlace xs at place) same is) in
    let P : List (Tree e) → Type 0 = λ us. AllByRecursion (λ u. IsTree c e m u) us in
    let tail : AllByRecursion (λ u. IsTree c e m u) (child.child ∷ child.after) = each-back (λ u. IsTree c e m u) child.before (child.child ∷ child.after) (subst P child.cut a.stands.tree.1) in
    let all : lines_of (suc e) a.tree ≡ flat_map (λ u. lines_of e u) child.before ++ (lines_of e child.child ++ flat_map (λ u. lines_of e u) child.after) = ap (λ us. flat_map (λ u. lines_of e u) us) child.cut ∙ lines_cut e child.before child.child child.after in
    let sums : (k : ℕ) → total (λ u. uses e u k) kids ≡ total (λ u. uses e u k) child.before + (uses e child.child k + total (λ u. uses e u k) child.after) = λ k. ap (λ us. total (λ u. uses e u k) us) child.cut ∙ total-append (λ u. uses e u k) child.before (child.child ∷ child.after) in
    let b : HasLineBelow c m place.entry e place.rest = record {
      tree = child.child;
      stands = record { tree = tail.0; root = child.root; page_count = child.page_count; once = λ k. omega (arith, a.stands.once k, sums k) };
      lines = child.count;
      within = child.rest;
      small = omega (arith, a.small, ap length all, length-append (flat_map (λ u. lines_of e u) child.before) (lines_of e child.child ++ flat_map (λ u. lines_of e u) child.after), length-append (lines_of e child.child) (flat_map (λ u. lines_of e u) child.after));
    } in
    let w = below b in
    let now : List (Tree e) = child.before ++ (w.0.tree ∷ child.after) in
    let lines : flat_map (λ u. lines_of e u) now ≡ flat_map (λ u. lines_of e u) kids = lines_around e child.before child.after w.0.tree child.child w.0.lines ∙ ap (λ us. flat_map (λ u. lines_of e u) us) (sym child.cut) in (
      record {
        tree = (a.tree.0, now);
        entry = ap (λ (i : ℕ). let x : Entry = record { block = a.tree.0; pages = 1; lines = i } in x) (ap length lines);
        lines = lines;
        replaces = level_down c m n a.tree.0 e kids child.before child.after child.child w.0.tree child.cut a.stands.tree.1 (λ k. room c (suc e) m top.block top.pages a.tree k a.stands) a.stands.tree.0 w.0.entry w.0.replaces;
      },
      λ f.
          let v : Way e kids at = record { before = child.before; child = child.child; after = child.after; rest = place.rest; cut = child.cut; sum = child.sum; inside = child.rest } in
          let one : SameWay e kids at f.1.0 v = one_way e kids at f.1.0 v in
          let thick : IsThick 32 e w.0.tree = w.1 (subst (λ (i : ℕ). IsReady 32 e child.child i) one.rest (subst (λ (u : Tree e). IsReady 32 e u f.1.0.rest) one.child f.1.3)) in
          let Q : List (Tree e) → Type 0 = λ us. IsThick need (suc e) (a.tree.0, us) in
          subst Q (ap (λ us. us ++ (w.0.tree ∷ f.1.0.after)) one.before ∙ ap (λ us. child.before ++ (w.0.tree ∷ us)) one.after) (leads_thick need e a.tree.0 a.tree at w.0.tree f thick),
    )

-- nothing was changed
pub keeps_same : (c : Format) (m n : Map) (top : Entry) (d at : ℕ) (P Q : Tree d → Type 0) → n ≡ m → ((a : HasLineBelow c m top d at) → P a.tree → Q a.tree) → KeepsBelow c m n top d at P Q
keeps_same c m n top d at P Q same holds a =
    let u : Tree d = a.tree in
    let w : KeepsTree c m m d u = record {
      tree = u;
      entry = refl;
      lines = refl;
      replaces = replaces_as c m m d (λ k. uses d u k + 0) (λ k. uses d u k) (u ∷ []) (λ k. omega arith) (left_alone c m d (u ∷ []) (a.stands.tree, tt));
    } in
    let R : Map → Type 0 = λ f. (kept : KeepsTree c m f d u) × (P u → Q kept.tree) in
    subst R (sym same) (w, λ p. holds a p)

pub deep_two : (c : Format) (m : Map) (top : Entry) (d at : ℕ) → 2 ≤ d → HasLineBelow c m top d at → (e : ℕ) × HasLineBelow c m top (suc (suc e)) at
deep_two c m top zero at le a = absurd (omega (arith, le))
deep_two c m top (suc zero) at le a = absurd (omega (arith, le))
deep_two c m top (suc (suc e)) at le a = (e, a)

-- a step at the block, and then steps below its child
pub keeps_level : (c : Format) (m n1 n2 : Map) (need : ℕ) (top : Entry) (d at : ℕ) (es : List Entry) (place : Place) → 2 ≤ d → read_by c.entries (pages_at n1 top.block 1) ≡ Some es → IsPlace es at place
    → ((e : ℕ) → d ≡ suc (suc e) → KeepsBelow c m n1 top (suc (suc e)) at (λ t. IsReady need (suc (suc e)) t at) (λ t. LeadsOn need (suc e) t at))
    → KeepsBelow c n1 n2 place.entry (d - 1) place.rest (λ u. IsReady 32 (d - 1) u place.rest) (λ u. IsThick 32 (d - 1) u)
    → KeepsBelow c m n2 top d at (λ t. IsReady need d t at) (λ t. IsThick need d t)
keeps_level c m n1 n2 need top zero at es place le reads is first below = absurd (omega (arith, le))
keeps_level c m n1 n2 need top (suc zero) at es place le reads is first below = absurd (omega (arith, le))
keeps_level c m n1 n2 need top (suc (suc e)) at es place le reads is first below =
    let less : suc (suc e) - 1 ≡ suc e = omega arith in
    let b : KeepsBelow c n1 n2 place.entry (suc e) place.rest (λ u. IsReady 32 (suc e) u place.rest) (λ u. IsThick 32 (suc e) u) =
    subst (λ (i : ℕ). KeepsBelow c n1 n2 place.entry i place.rest (λ u. IsReady 32 i u place.rest) (λ u. IsThick 32 i u)) less below in
    keeps_then c m n1 n2 top (suc (suc e)) at (λ t. IsReady need (suc (suc e)) t at) (λ t. LeadsOn need (suc e) t at) (λ t. IsThick need (suc (suc e)) t)
    (first e refl) (keeps_down c n1 n2 need top (suc e) at es place reads is b)
