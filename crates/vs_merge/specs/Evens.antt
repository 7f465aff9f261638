-- What stands in the place of two neighbouring pointer blocks.
use Rattle.std.specs.Prelude.{◌≡◌, ℕ, suc, ◌+◌, ◌≤◌, ◌⊎◌, IsTrue, nat_le, if◌then◌else◌, List, [], ◌∷◌, ◌++◌, length, take, drop, get_or, map, Some}
use Rattle.std.specs.List.{AllByRecursion}
use Rattle.vs_pages.specs.Maps.{Map, lacks, one, total}
use Rattle.vs_pages.specs.declared.pages.Pages.{Ghosts}
use Rattle.vs_tree_shape.specs.declared.entries.Entry.{Entry}
use Rattle.vs_tree_shape.specs.Trees.{Tree, entry_of, uses, IsTree, Stands}
use Rattle.vs_tree_shape.specs.Changes.{Replaces}
use Rattle.vs_tree_shape.specs.Places.{lines_below}
use Rattle.vs_tree_shape.specs.Keeps.{Neighbours, both_uses}
use Rattle.vs_tree_shape.specs.Works.{WorksOnly}
use Rattle.vs_tree_blocks.specs.Blocks.{tree_format, entries_at}
use Rattle.vs_tree_blocks.specs.Cuts.{half_of}
use Rattle.vs_merge.specs.declared.pair.Pair.{Pair}

-- Two pointer blocks over all these trees: the first alone where it has room for all, else each over one half.
abbrev pub evened : (e : ℕ) → ℕ → ℕ → List (Tree e) → List (Tree (suc e))
evened e one two trees =
    if nat_le (length trees) 127 then (one, trees) ∷ []
    else (one, take (half_of (length trees)) trees) ∷ (two, drop (half_of (length trees)) trees) ∷ []

-- In the place of two neighbouring pointer blocks these entries lead to pointer blocks over the same trees.
pub record StandsForTwo (m n : Map) (e one two : ℕ) (ka kb : List (Tree e)) (above : List Entry) : Type 0 where
  pub replaces : Replaces tree_format m n (both_uses e one two ka kb) (suc e) (evened e one two (ka ++ kb))
  pub entries_are : above ≡ map (λ u. entry_of (suc e) u) (evened e one two (ka ++ kb))

-- the same over a store, for two blocks that have these entries together
abbrev pub EvensTwo : {P : Type 0} → Ghosts P → P → P → ℕ → ℕ → List Entry → List Entry → Type 0
EvensTwo g old new one two entries above =
    IsTrue g.tells → (e : ℕ) (ka kb : List (Tree e)) → Neighbours tree_format (g.shows old).present e one two ka kb
    → entries ≡ map (λ u. entry_of e u) (ka ++ kb) → StandsForTwo (g.shows old).present (g.shows new).present e one two ka kb above

-- the entry leads to one of two pages
abbrev pub LeadsToEither : ℕ → ℕ → Entry → Type 0
LeadsToEither one two entry = (entry.block ≡ one) ⊎ (entry.block ≡ two)

-- only pages with these numbers were worked, where the store tells its pages
abbrev pub TouchesOnly : {P : Type 0} → Ghosts P → P → P → List ℕ → Type 0
TouchesOnly g old new names = IsTrue g.tells → WorksOnly (g.shows old).worked (g.shows new).worked names

-- Two neighbours among trees over pointer blocks: those of the pair, which have so many entries together.
pub record HasPair (m : Map) (top e : ℕ) (kids : List (Tree (suc e))) (entries : List Entry) (pair : Pair) (all : List Entry) : Type 0 where
  pub before : List (Tree (suc e))
  pub first : Tree (suc e)
  pub second : Tree (suc e)
  pub after : List (Tree (suc e))
  pub cut : kids ≡ before ++ (first ∷ second ∷ after)
  pub index : pair.left ≡ length before
  pub first_is : first.0 ≡ pair.one
  pub second_is : second.0 ≡ pair.two
  pub entries_are : entries ≡ map (λ u. entry_of (suc e) u) kids
  pub all_are : all ≡ map (λ u. entry_of e u) (first.1 ++ second.1)
  pub each : AllByRecursion (λ u. IsTree tree_format (suc e) m u) kids
  pub once : (k : ℕ) → (one top k + total (λ u. uses (suc e) u k) kids) + lacks (m k) ≤ 1

-- the entries with others in the place of two neighbours
abbrev pub with_pair : List Entry → ℕ → List Entry → List Entry
with_pair entries left by = take left entries ++ (by ++ drop (left + 2) entries)

-- The two trees at a place and after it were evened out, and the block above has these entries then.
pub record IsEvened (m n : Map) (top e : ℕ) (kids : List (Tree (suc e))) (left : ℕ) (now : List Entry) : Type 0 where
  pub before : List (Tree (suc e))
  pub first : Tree (suc e)
  pub second : Tree (suc e)
  pub after : List (Tree (suc e))
  pub cut : kids ≡ before ++ (first ∷ second ∷ after)
  pub index : left ≡ length before
  pub replaces : Replaces tree_format m n (λ k. one top k + total (λ u. uses (suc e) u k) kids) (suc (suc e))
      ((top, before ++ (evened e first.0 second.0 (first.1 ++ second.1) ++ after)) ∷ [])
  pub few : length (first.1 ++ second.1) ≤ 254

-- the same over a store, for a pair that is given
abbrev pub EvensPair : {P : Type 0} → Ghosts P → P → P → ℕ → List Entry → Pair → List Entry → List Entry → Type 0
EvensPair g old new top entries pair all now =
    IsTrue g.tells → (e : ℕ) (kids : List (Tree (suc e))) → HasPair (g.shows old).present top e kids entries pair all
    → IsEvened (g.shows old).present (g.shows new).present top e kids pair.left now

-- A tree stands below a pointer block over pointer blocks, which has these entries.
pub record HasKids (m : Map) (top e : ℕ) (entries : List Entry) : Type 0 where
  pub tree : Tree (suc (suc e))
  pub stands : Stands tree_format m top 1 (suc (suc e)) tree
  pub entries_are : entries ≡ map (λ u. entry_of (suc e) u) tree.1

-- the same over a store, for the entries at a place and after it
abbrev pub EvensAt : {P : Type 0} → Ghosts P → P → P → ℕ → List Entry → ℕ → List Entry → Type 0
EvensAt g old new top entries left now =
    IsTrue g.tells → (e : ℕ) (h : HasKids (g.shows old).present top e entries)
    → IsEvened (g.shows old).present (g.shows new).present top e h.tree.1 left now

-- the entry that stands for none
abbrev pub no_entry : Entry
no_entry = record { block = 0; pages = 0; lines = 0 }

-- the page to which an entry leads
abbrev pub block_at : List Entry → ℕ → ℕ
block_at entries index = (get_or entries index no_entry).block

-- In the place of two entries others stand, which lead to the same pages, with as many lines below them.
pub record PutsPair (entries : List Entry) (left : ℕ) (now : List Entry) : Type 0 where
  pub by : List Entry
  pub now_is : now ≡ with_pair entries left by
  pub either : AllByRecursion (LeadsToEither (block_at entries left) (block_at entries (left + 1))) by
  pub lines : lines_below by ≡ (get_or entries left no_entry).lines + (get_or entries (left + 1) no_entry).lines

-- These are the entries of two pointer blocks, one after the other.
pub record IsBoth (m : Map) (a b : ℕ) (all : List Entry) : Type 0 where
  pub first : List Entry
  pub second : List Entry
  pub first_reads : entries_at m a ≡ Some first
  pub second_reads : entries_at m b ≡ Some second
  pub both : all ≡ first ++ second
