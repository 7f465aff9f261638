-- A walk over the levels of a tree, from block 1 to the data blocks.
use Rattle.std.proofs.Common.{◌≡◌, ℕ, zero, suc, ◌+◌, ◌<◌, ◌≤◌, ◌/◌, List, [], ◌∷◌, length, map, Option, Some, None, true, false, sym, refl, ap, subst, ◌∙◌, inl, inr, ◌⊎◌, arith}
use Rattle.std.specs.List.{flat_map, AllByRecursion}
use Rattle.std.proofs.lemmas.Bool.{cases_eq, cases_lt}
use Rattle.std.proofs.lemmas.Bool.Decides.{nat_tests}
use Rattle.vs_text.specs.Documents.{Document}
use Rattle.vs_pages.specs.Maps.{Map, one, total, pages_at}
use Rattle.vs_tree_shape.specs.declared.entries.Entry.{Entry}
use Rattle.vs_tree_shape.specs.Trees.{Format, read_by, Tree, lines_of, uses, entry_of, IsTree}
use Rattle.vs_tree_shape.specs.Depths.{AreApart}
use Rattle.vs_tree_shape.proofs.Shapes.{unused}
use Rattle.vs_swap.specs.Entries.{swap_points}
use Rattle.vs_swap.specs.Files.{swap_format, pages_in, GivesLines}
use Rattle.vs_swap.proofs.Standing.{apart}
use Rattle.vs_recover.specs.Files.{plain, Walked}
use Rattle.vs_recover.specs.Levels.{taken, are_wide, Level, points_at, opened, gathered, first_used, Reaches, AtLevel, Stage, Clashes}
use Rattle.vs_recover.proofs.PageLaws.{lacks_past}
use Rattle.vs_recover.proofs.LevelLaws.{uses_roots, chained_some, points_fitted, trees_wide, goes_down, goes_up, gathers, is_gathered}

-- ---- pointer blocks and data blocks

read_apart : (c : Format) → AreApart c → (o : Option (List ℕ)) (lines : List (List ℕ)) (entries : List Entry) → read_by (c.lines 1) o ≡ Some lines → read_by c.entries o ≡ Some entries → ⊥
read_apart c apart None lines entries a b = absurd (cc)
read_apart c apart (Some bytes) lines entries a b = apart bytes lines entries a b

-- a level of data blocks is no level of pointer blocks, unless it is empty
not_opened : (c : Format) → AreApart c → (m : Map) (us : List (Tree zero)) (next : List Entry) → AllByRecursion (λ u. IsTree c zero m u) us → opened c m (map (λ u. entry_of zero u) us) ≡ Some next → (us ≡ []) × (next ≡ [])
not_opened c apart m [] next each is = (refl, cc)
not_opened c apart m (u ∷ us) next each is =
    let e : Entry = entry_of zero u in
    let cut = chained_some (points_at c m e) (opened c m (map (λ u. entry_of zero u) us)) next is in
    let fits = points_fitted e (read_by c.entries (pages_at m e.block 1)) cut.0 cut.2 in
    let here : read_by (c.lines 1) (pages_at m u.page 1) ≡ Some u.lines = sym (ap (λ n. read_by (c.lines n) (pages_at m u.page n)) fits.1) ∙ each.0.1 in
    absurd (read_apart c apart (pages_at m u.page 1) u.lines cut.0 here fits.0)

-- ---- the first level

first_cases : (n k : ℕ) → ((k ≡ 0) × (first_used n k ≡ 1)) ⊎ (((k ≡ 1) × (first_used n k ≡ 1)) ⊎ (((n ≤ k) × (first_used n k ≡ 1)) ⊎ ((1 < k) × (first_used n k ≡ 0))))
first_cases n k = elim (cases_eq k 0) [
  | inl e ↦ inl (e, grind (arith, nat_tests))
  | inr ne ↦ elim (cases_eq k 1) [
    | inl e ↦ inr (inl (e, grind (arith, nat_tests)))
    | inr two ↦ elim (cases_lt k n) [ inl lt ↦ inr (inr (inr (omega arith, grind (arith, nat_tests)))) | inr le ↦ inr (inr (inl (omega arith, grind (arith, nat_tests)))) ]
  ]
]

one_at : (k : ℕ) → k ≡ 1 → one 1 k ≡ 1
one_at k e = grind (arith, nat_tests)

one_not : (k : ℕ) → (k ≡ 1 → ⊥) → one 1 k ≡ 0
one_not k ne = grind (arith, nat_tests)

-- below block 1 no page is used that is in use from the start
room_first : (n k own rest : ℕ) → own ≡ one 1 k → own + rest ≤ 1 → (k ≡ 0 → own + rest ≡ 0) → (n ≤ k → own + rest ≡ 0) → first_used n k + rest ≤ 1
room_first n k own rest own_is once nought past = elim (first_cases n k) [
  | inl a ↦ omega (arith, a.0, a.1, nought a.0)
  | inr b ↦ elim b [
    | inl c ↦ omega (arith, c.0, c.1, one_at k c.0)
    | inr d ↦ elim d [ inl e ↦ omega (arith, e.0, e.1, past e.0) | inr f ↦ omega (arith, f.0, f.1) ]
  ]
]

first_least : (n k : ℕ) → one 1 k ≤ first_used n k
first_least n k = elim (cases_eq k 1) [ inl e ↦ grind (arith, nat_tests) | inr ne ↦ omega (arith, one_not k ne) ]

first_zero : (n : ℕ) → first_used n 0 ≡ 1
first_zero n = grind (arith, nat_tests)

begins_down : (file : List ℕ) (n : ℕ) (used : ℕ → ℕ) (entries : List Entry) (lines : List (List ℕ)) (depth : ℕ) → n ≡ length file / 4096 → read_by swap_format.entries (pages_at (pages_in file) 1 1) ≡ Some entries
    → ((k : ℕ) → used k ≡ first_used n k + taken entries k) → GivesLines (pages_in file) depth lines → AtLevel (pages_in file) used entries lines
begins_down file n used entries lines zero size reads marks has = absurd (omega (arith, has.deep))
begins_down file n used entries lines (suc d) size reads marks has =
    let t : Tree (suc d) = has.tree in
    let us : List (Tree d) = t.1 in
    let root : t.0 ≡ 1 = has.stands.root in
    let same : Some (map (λ u. entry_of d u) us) ≡ Some entries = sym has.stands.tree.0 ∙ ap (λ p. read_by swap_format.entries (pages_at (pages_in file) p 1)) root ∙ reads in
    let entries_are : map (λ u. entry_of d u) us ≡ entries = cc in (
      d,
      record {
        trees = us;
        each = has.stands.tree.1;
        entries_are = entries_are;
        once = λ k. omega (
          arith,
          marks k,
          uses_roots d us k,
          ap (λ es. taken es k) entries_are,
          room_first n k (one t.0 k) (total (λ u. uses d u k) us) (ap (λ p. one p k) root) (has.stands.once k) (λ e. ap (λ j. uses (suc d) t j) e ∙ has.zero_free) (λ past. unused swap_format (suc d) (pages_in file) t k has.stands.tree (lacks_past file n k size past)),
        );
        lines_are = has.lines_are;
      },
    )

begins_up : (file : List ℕ) (n : ℕ) (used : ℕ → ℕ) (entries : List Entry) (lines : List (List ℕ)) (d : ℕ) → read_by swap_format.entries (pages_at (pages_in file) 1 1) ≡ Some entries
    → ((k : ℕ) → used k ≡ first_used n k + taken entries k) → Level swap_format (pages_in file) used d entries lines → GivesLines (pages_in file) (suc d) lines
begins_up file n used entries lines d reads marks level =
    let us : List (Tree d) = level.trees in
    let all : (k : ℕ) → first_used n k + total (λ u. uses d u k) us ≤ 1 = λ k. omega (arith, level.once k, marks k, uses_roots d us k, ap (λ es. taken es k) level.entries_are) in
    record {
      tree = (1, us);
      stands = record {
        tree = (reads ∙ ap (λ (es : List Entry). Some es) (sym level.entries_are), level.each);
        root = refl;
        page_count = refl;
        once = λ k. omega (arith, all k, first_least n k);
      };
      deep = omega arith;
      zero_free = omega (arith, all 0, first_zero n);
      lines_are = level.lines_are;
    }

-- The walk has read block 1, and the pages of its entries are in use.
pub stage_begins : (file : List ℕ) (n : ℕ) (used : ℕ → ℕ) (entries : List Entry) → n ≡ length file / 4096 → read_by swap_format.entries (pages_at (pages_in file) 1 1) ≡ Some entries
    → ((k : ℕ) → used k ≡ first_used n k + taken entries k) → Stage (pages_in file) used entries
stage_begins file n used entries size reads marks = record {
  down = λ lines reached. begins_down file n used entries lines reached.0 size reads marks reached.1;
  up = λ lines level. (suc level.0, begins_up file n used entries lines level.0 reads marks level.1);
}

-- ---- the levels after it

level_used : (c : Format) (m : Map) (a b : ℕ → ℕ) (d : ℕ) (entries : List Entry) (lines : List (List ℕ)) → ((k : ℕ) → b k ≡ a k) → Level c m a d entries lines → Level c m b d entries lines
level_used c m a b d entries lines same level = record { trees = level.trees; each = level.each; entries_are = level.entries_are; once = λ k. omega (arith, same k, level.once k); lines_are = level.lines_are }

next_down : (m : Map) (used now : ℕ → ℕ) (entries next : List Entry) (lines : List (List ℕ)) (d : ℕ) → ((k : ℕ) → now k ≡ used k + taken next k) → opened swap_format m entries ≡ Some next → Level swap_format m used d entries lines → AtLevel m now next lines
next_down m used now entries next lines zero marks is level =
    let none = not_opened swap_format apart m level.trees next level.each (ap (λ es. opened swap_format m es) level.entries_are ∙ is) in (
      zero,
      record {
        trees = [];
        each = tt;
        entries_are = sym none.1;
        once = λ k. omega (arith, marks k, level.once k, ap (λ es. taken es k) none.1);
        lines_are = ap (λ us. flat_map (λ u. lines_of zero u) us) (sym none.0) ∙ level.lines_are;
      },
    )
next_down m used now entries next lines (suc d) marks is level =
    let found = goes_down swap_format m used d entries lines level in
    let both : Some found.0 ≡ Some next = sym found.1 ∙ is in
    let same : found.0 ≡ next = cc in
    let here : Level swap_format m (λ k. used k + taken next k) d next lines = subst (λ es. Level swap_format m (λ k. used k + taken es k) d es lines) same found.2 in
    (d, level_used swap_format m (λ k. used k + taken next k) now d next lines marks here)

-- The walk has read a level of pointer blocks, and the pages of the next one are in use.
pub stage_next : (m : Map) (used now : ℕ → ℕ) (entries next : List Entry) → ((k : ℕ) → now k ≡ used k + taken next k) → opened swap_format m entries ≡ Some next → Stage m used entries → Stage m now next
stage_next m used now entries next marks is stage = record {
  down = λ lines reached. let level = stage.down lines reached in next_down m used now entries next lines level.0 marks is level.1;
  up = λ lines level. stage.up lines (suc level.0, goes_up swap_format m used level.0 entries next lines is (level_used swap_format m now (λ k. used k + taken next k) level.0 next lines (λ k. sym (marks k)) level.1));
}

-- ---- the end of a walk

no_level : (c : Format) (m : Map) (used : ℕ → ℕ) (entries : List Entry) (lines : List (List ℕ)) (d : ℕ) → Clashes used (opened c m entries) → gathered c m entries ≡ None → Level c m used d entries lines → ⊥
no_level c m used entries lines zero clash none level = let is = gathers c m used entries lines level in absurd (cc)
no_level c m used entries lines (suc d) clash none level =
    let found = goes_down c m used d entries lines level in
    let k = clash found.0 found.1 in
    absurd (omega (arith, k.1, found.2.once k.0))

-- a level that has no lines, and no next level, has no tree above it
pub stage_stops : (m : Map) (used : ℕ → ℕ) (entries : List Entry) → Clashes used (opened swap_format m entries) → gathered swap_format m entries ≡ None → Stage m used entries → Walked m None
stage_stops m used entries clash none stage = λ lines reached. let level = stage.down lines reached in no_level swap_format m used entries lines level.0 clash none level.1

lines_end : (m : Map) (used : ℕ → ℕ) (entries : List Entry) (o : Option (List (List ℕ))) (found : Document) → ((k : ℕ) → used k ≤ 1) → Stage m used entries → gathered swap_format m entries ≡ o → plain o ≡ Some found.text → Walked m (Some found)
lines_end m used entries None found once stage is gives = absurd (cc)
lines_end m used entries (Some lines) found once stage is gives = (lines, stage.up lines (zero, is_gathered swap_format m used entries lines once is), cc)

-- the lines of a level of data blocks are those of the tree
pub stage_ends : (m : Map) (used : ℕ → ℕ) (entries : List Entry) (found : Document) → ((k : ℕ) → used k ≤ 1) → Stage m used entries → plain (gathered swap_format m entries) ≡ Some found.text → Walked m (Some found)
stage_ends m used entries found once stage gives = lines_end m used entries (gathered swap_format m entries) found once stage refl gives

pub stage_empty : (m : Map) (used : ℕ → ℕ) (entries : List Entry) (found : Document) → ((k : ℕ) → used k ≤ 1) → entries ≡ [] → found.text ≡ [] → Stage m used entries → Walked m (Some found)
stage_empty m used entries found once none is stage =
    ([], stage.up [] (zero, is_gathered swap_format m used entries [] once (ap (λ es. gathered swap_format m es) none)), is)

-- ---- files without a tree

root_there : (m : Map) (lines : List (List ℕ)) (depth : ℕ) → read_by swap_points (pages_at m 1 1) ≡ None → GivesLines m depth lines → ⊥
root_there m lines zero none has = absurd (omega (arith, has.deep))
root_there m lines (suc d) none has =
    let root : has.tree.0 ≡ 1 = has.stands.root in
    let is : Some (map (λ u. entry_of d u) has.tree.1) ≡ None = sym has.stands.tree.0 ∙ ap (λ p. read_by swap_points (pages_at m p 1)) root ∙ none in
    absurd (cc)

pub no_root : (m : Map) (lines : List (List ℕ)) → read_by swap_points (pages_at m 1 1) ≡ None → Reaches m lines → ⊥
no_root m lines none reached = root_there m lines reached.0 none reached.1

root_wide : (m : Map) (lines : List (List ℕ)) (entries : List Entry) (depth : ℕ) → read_by swap_points (pages_at m 1 1) ≡ Some entries → are_wide entries ≡ false → GivesLines m depth lines → ⊥
root_wide m lines entries zero reads narrow has = absurd (omega (arith, has.deep))
root_wide m lines entries (suc d) reads narrow has =
    let root : has.tree.0 ≡ 1 = has.stands.root in
    let is : Some (map (λ u. entry_of d u) has.tree.1) ≡ Some entries = sym has.stands.tree.0 ∙ ap (λ p. read_by swap_points (pages_at m p 1)) root ∙ reads in
    let same : map (λ u. entry_of d u) has.tree.1 ≡ entries = cc in
    let wide : are_wide entries ≡ true = ap (λ es. are_wide es) (sym same) ∙ trees_wide swap_format m d has.tree.1 has.stands.tree.1 in
    absurd (cc)

pub no_wide_root : (m : Map) (lines : List (List ℕ)) (entries : List Entry) → read_by swap_points (pages_at m 1 1) ≡ Some entries → are_wide entries ≡ false → Reaches m lines → ⊥
no_wide_root m lines entries reads narrow reached = root_wide m lines entries reached.0 reads narrow reached.1

-- a page of the first level is in use already, or twice
pub no_first : (file : List ℕ) (n : ℕ) (entries : List Entry) (lines : List (List ℕ)) → n ≡ length file / 4096 → read_by swap_points (pages_at (pages_in file) 1 1) ≡ Some entries → (k : ℕ) × (2 ≤ first_used n k + taken entries k) → Reaches (pages_in file) lines → ⊥
no_first file n entries lines size reads clash reached =
    let level = (stage_begins file n (λ k. first_used n k + taken entries k) entries size reads (λ k. refl)).down lines reached in
    absurd (omega (arith, clash.1, level.1.once clash.0))
