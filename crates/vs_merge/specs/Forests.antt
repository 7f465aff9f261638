-- Trees that stand beside each other, and others in their place.
use Rattle.std.specs.Prelude.{◌≡◌, ℕ, suc, ◌+◌, ◌≤◌, IsTrue, List, map}
use Rattle.std.specs.List.{flat_map, AllByRecursion}
use Rattle.vs_pages.specs.Maps.{Map, lacks, total}
use Rattle.vs_pages.specs.declared.pages.Pages.{Ghosts}
use Rattle.vs_tree_shape.specs.declared.entries.Entry.{Entry}
use Rattle.vs_tree_shape.specs.Trees.{Tree, entry_of, lines_of, uses, IsTree}
use Rattle.vs_tree_shape.specs.Changes.{Replaces}
use Rattle.vs_tree_shape.specs.Filled.{IsFilled}
use Rattle.vs_tree_blocks.specs.Blocks.{tree_format}

-- The entries lead to trees of this depth, which use no page twice.
pub record HasForest (m : Map) (d : ℕ) (entries : List Entry) : Type 0 where
  pub trees : List (Tree d)
  pub entries_are : entries ≡ map (λ u. entry_of d u) trees
  pub each : AllByRecursion (λ u. IsTree tree_format d m u) trees
  pub once : (k : ℕ) → total (λ u. uses d u k) trees + lacks (m k) ≤ 1

-- In place of trees others stand, to which these entries lead, with the same lines. They are filled where those were.
pub record Exchanges (m n : Map) (d e : ℕ) (us : List (Tree d)) (entries : List Entry) : Type 0 where
  pub trees : List (Tree e)
  pub entries_are : entries ≡ map (λ u. entry_of e u) trees
  pub replaces : Replaces tree_format m n (λ k. total (λ u. uses d u k) us) e trees
  pub lines : flat_map (λ u. lines_of e u) trees ≡ flat_map (λ u. lines_of d u) us
  pub filled : AllByRecursion (λ u. IsFilled 32 d u) us → AllByRecursion (λ u. IsFilled 32 e u) trees

-- All pointer blocks to which the entries lead are gone, and the entries that they had lead to the trees below them.
abbrev pub Opens : {P : Type 0} → Ghosts P → P → P → List Entry → List Entry → Type 0
Opens g old new entries below =
    IsTrue g.tells → (d : ℕ) (f : HasForest (g.shows old).present (suc d) entries)
    → Exchanges (g.shows old).present (g.shows new).present (suc d) d f.trees below

-- The data blocks below trees of this depth, to which the entries led, are those to which the others lead.
abbrev pub OpensAll : {P : Type 0} → Ghosts P → P → P → ℕ → List Entry → List Entry → Type 0
OpensAll g old new depth entries leaves =
    IsTrue g.tells → (f : HasForest (g.shows old).present depth entries) → Exchanges (g.shows old).present (g.shows new).present depth 0 f.trees leaves

-- New pointer blocks stand over the trees to which the entries lead.
abbrev pub Closes : {P : Type 0} → Ghosts P → P → P → List Entry → List Entry → Type 0
Closes g old new entries above =
    IsTrue g.tells → (d : ℕ) (f : HasForest (g.shows old).present d entries) → Exchanges (g.shows old).present (g.shows new).present d (suc d) f.trees above

-- The same so many levels up.
abbrev pub ClosesAll : {P : Type 0} → Ghosts P → P → P → List Entry → ℕ → List Entry → Type 0
ClosesAll g old new entries levels tops =
    IsTrue g.tells → (d : ℕ) (f : HasForest (g.shows old).present d entries) → Exchanges (g.shows old).present (g.shows new).present d (levels + d) f.trees tops
