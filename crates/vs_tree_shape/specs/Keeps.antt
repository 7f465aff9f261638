-- Changes below a block that keep its lines and its entry.
use Rattle.std.specs.Prelude.{◌≡◌, ℕ, zero, suc, ◌+◌, ◌≤◌, List, [], ◌∷◌, ◌++◌, length}
use Rattle.std.specs.List.{AllByRecursion}
use Rattle.vs_pages.specs.Maps.{Map, lacks, one, total}
use Rattle.vs_tree_shape.specs.declared.entries.Entry.{Entry}
use Rattle.vs_tree_shape.specs.Trees.{Format, Tree, lines_of, entry_of, uses, IsTree}
use Rattle.vs_tree_shape.specs.Changes.{HasLineBelow, Replaces}
use Rattle.vs_tree_shape.specs.Filled.{IsFilled, IsFilledBut, Way}

-- In place of a tree one stands with the same lines, to which the same entry leads.
pub record KeepsTree (c : Format) (m n : Map) (d : ℕ) (t : Tree d) : Type 0 where
  pub tree : Tree d
  pub entry : entry_of d tree ≡ entry_of d t
  pub lines : lines_of d tree ≡ lines_of d t
  pub replaces : Replaces c m n (λ k. uses d t k) d (tree ∷ [])

-- The lines below the block and its entry stay. Where the one holds of the tree below it, the other holds of the tree that stands there then.
abbrev pub KeepsBelow : Format → Map → Map → Entry → (d : ℕ) → ℕ → (Tree d → Type 0) → (Tree d → Type 0) → Type 0
KeepsBelow c m n top d at Before After = (a : HasLineBelow c m top d at) → (kept : KeepsTree c m n d a.tree) × (Before a.tree → After kept.tree)

-- This holds of the tree below which the line lies, and of the line's number in it. The trees beside it are filled.
abbrev pub Toward : (d : ℕ) → (Tree d → ℕ → Type 0) → List (Tree d) → ℕ → Type 0
Toward d Holds kids at =
    (w : Way d kids at) × AllByRecursion (λ u. IsFilled 32 d u) w.before × AllByRecursion (λ u. IsFilled 32 d u) w.after × Holds w.child w.rest

-- how many entries a pointer block on the way may lose: one where it leads to pointer blocks, of which two may be joined
abbrev pub spare : ℕ → ℕ
spare zero = 0
spare (suc zero) = 0
spare (suc (suc d)) = 1

-- The blocks below are filled but for those on the way to the line, and the block has so many entries also where it loses one.
abbrev pub IsReady : ℕ → (d : ℕ) → Tree d → ℕ → Type 0
IsReady need zero t at = IsFilledBut 32 zero t at
IsReady need (suc d) t at = (need + spare (suc d) ≤ length t.1) × IsFilledBut 32 (suc d) t at

-- The block has so many entries, and the block below it on the way to the line is ready.
abbrev pub LeadsOn : ℕ → (d : ℕ) → Tree (suc d) → ℕ → Type 0
LeadsOn need d t at = (need ≤ length t.1) × Toward d (λ u r. IsReady 32 d u r) t.1 at

-- The block has so many entries, and the blocks below it are filled. A data block has lines.
abbrev pub IsThick : ℕ → (d : ℕ) → Tree d → Type 0
IsThick need zero t = 1 ≤ length t.lines
IsThick need (suc d) t = (need ≤ length t.1) × AllByRecursion (λ u. IsFilled 32 d u) t.1

-- what two pointer blocks over these trees use
abbrev pub both_uses : (e : ℕ) → ℕ → ℕ → List (Tree e) → List (Tree e) → ℕ → ℕ
both_uses e pa pb ka kb k = (one pa k + total (λ u. uses e u k) ka) + (one pb k + total (λ u. uses e u k) kb)

-- two pointer blocks over these trees, that use no page twice
pub record Neighbours (c : Format) (m : Map) (e pa pb : ℕ) (ka kb : List (Tree e)) : Type 0 where
  pub each : AllByRecursion (λ u. IsTree c e m u) (ka ++ kb)
  pub once : (k : ℕ) → both_uses e pa pb ka kb k + lacks (m k) ≤ 1
