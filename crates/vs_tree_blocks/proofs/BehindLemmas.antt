-- Runs that are put into data blocks of their own, one after the other, stand behind what stood before.
use Rattle.std.proofs.Common.{◌≡◌, ℕ, ◌+◌, ◌<◌, ◌≤◌, List, [], ◌∷◌, ◌++◌, length, map, take, drop, get_or, true, Some, refl, sym, ap, subst, ◌∙◌, arith, length-append}
use Rattle.std.proofs.lemmas.Grind.{common_steps}
use Rattle.std.specs.List.{AllByRecursion}
use Rattle.std.proofs.lemmas.Bool.Decides.{nat_tests}
use Rattle.std.proofs.lemmas.List.{map-append}
use Rattle.vs_pages.specs.Maps.{Map, pages_at, span}
use Rattle.vs_data.specs.Blocks.{is_as_written, lines_in}
use Rattle.vs_tree_shape.specs.declared.entries.Entry.{Entry}
use Rattle.vs_tree_shape.specs.Places.{lines_below}
use Rattle.vs_tree_shape.specs.Trees.{Leaf, entry_of, leaf}
use Rattle.vs_tree_shape.specs.Changes.{Added, ReplacedBy, Replaces, Stored, splice}
use Rattle.vs_tree_shape.proofs.Shapes.{each-append}
use Rattle.vs_tree_shape.proofs.Sums.{halves}
use Rattle.vs_tree_shape.proofs.Writes.{kept_leaf, left_alone, new_leaf, put_leaf, replaces_behind}
use Rattle.vs_tree_blocks.specs.Blocks.{tree_format, lines_at, may_lead, FitsFields, LeadsToData}
use Rattle.vs_tree_blocks.specs.Cuts.{all_lines, spread}
use Rattle.vs_tree_blocks.specs.Writes.{HasBlocks}
use Rattle.vs_tree_blocks.proofs.CutsLemmas.{all_both, spread_last, spread_lines, spread_mid}
use Rattle.vs_tree_blocks.proofs.DataLemmas.{entry_with, own_page, page_read, replaced_by}
use Rattle.vs_tree_blocks.proofs.RunsLemmas.{within_is}
use Rattle.vs_tree_blocks.specs.Runs.{lines_within}

pub next_run : (runs : List (List (List ℕ))) (i : ℕ) (run : List (List ℕ)) → i < length runs → run ≡ get_or runs i [] → take (i + 1) runs ≡ take i runs ++ run ∷ []
next_run runs i run lt is = rw is (grind (arith, common_steps))

pub count_both : (front back : List (List (List ℕ))) → length (all_lines (front ++ back)) ≡ length (all_lines front) + length (all_lines back)
count_both front back = ap length (all_both front back) ∙ length-append (all_lines front) (all_lines back)

pub count_one : (run : List (List ℕ)) → length (all_lines (run ∷ [])) ≡ length run
count_one run = omega (arith, length-append run [])

-- the lines of one run more
pub count_more : (runs : List (List (List ℕ))) (i : ℕ) (run : List (List ℕ)) → i < length runs → run ≡ get_or runs i [] → length (all_lines (take (i + 1) runs)) ≡ length (all_lines (take i runs)) + length run
count_more runs i run lt is = omega (arith, ap (λ (rs : List (List (List ℕ))). length (all_lines rs)) (next_run runs i run lt is), count_both (take i runs) (run ∷ []), count_one run)

pub count_within : (runs : List (List (List ℕ))) (i : ℕ) → length (all_lines (take i runs)) ≤ length (all_lines runs)
count_within runs i = omega (arith, count_both (take i runs) (drop i runs), ap (λ (rs : List (List (List ℕ))). length (all_lines rs)) (halves i runs))

pub below_both : (front back : List Entry) → lines_below (front ++ back) ≡ lines_below front + lines_below back
below_both [] back = omega arith
below_both (entry ∷ front) back = omega (arith, below_both front back)

pub blocks_behind : (m n1 n2 : Map) (old : ℕ → ℕ) (front back : List (List (List ℕ))) (es fs : List Entry) → HasBlocks m n1 old front es → HasBlocks n1 n2 (λ k. 0) back fs → HasBlocks m n2 old (front ++ back) (es ++ fs)
blocks_behind m n1 n2 old front back es fs h i = record {
  leaves = h.leaves ++ i.leaves;
  entries_are = ap (λ (xs : List Entry). xs ++ fs) h.entries_are ∙ ap (λ (xs : List Entry). map (λ (u : Leaf). entry_of 0 u) h.leaves ++ xs) i.entries_are ∙ sym (map-append (λ (u : Leaf). entry_of 0 u) h.leaves i.leaves);
  replaces = replaces_behind tree_format m n1 n2 0 old h.leaves i.leaves h.replaces i.replaces;
  blocks_are = map-append (λ (u : Leaf). u.lines) h.leaves i.leaves ∙ ap (λ (bs : List (List (List ℕ))). bs ++ map (λ (u : Leaf). u.lines) i.leaves) h.blocks_are ∙ ap (λ (bs : List (List (List ℕ))). front ++ bs) i.blocks_are;
}

pub no_blocks : (m : Map) → HasBlocks m m (λ k. 0) [] []
no_blocks m = record { leaves = []; entries_are = refl; replaces = left_alone tree_format m 0 [] tt; blocks_are = refl }

-- a run in a new block
pub one_block : (m n : Map) (run : List (List ℕ)) (new : Entry) → Replaces tree_format m n (λ k. 0) 0 (leaf new.block new.pages run ∷ []) → new.lines ≡ length run → HasBlocks m n (λ k. 0) (run ∷ []) (new ∷ [])
one_block m n run new added count = record {
  leaves = leaf new.block new.pages run ∷ [];
  entries_are = ap (λ (k : ℕ). entry_with new.block new.pages k ∷ []) count;
  replaces = added;
  blocks_are = refl;
}

-- a block that is left alone
pub kept_block : (m : Map) (block pages : ℕ) (lines : List (List ℕ)) → lines_at m block pages ≡ Some lines → 1 ≤ pages → HasBlocks m m (λ k. span block pages k) (lines ∷ []) (entry_with block pages (length lines) ∷ [])
kept_block m block pages lines reads some = record { leaves = leaf block pages lines ∷ []; entries_are = refl; replaces = kept_leaf tree_format m block pages lines reads some; blocks_are = refl }

-- one part of a block in its place
pub first_block : (m n : Map) (block : ℕ) (bytes : List ℕ) (lines : List (List ℕ)) → Stored m n block 1 bytes → lines_in bytes ≡ Some lines → is_as_written bytes ≡ true → HasBlocks m n (λ k. span block 1 k) (lines ∷ []) (entry_with block 1 (length lines) ∷ [])
first_block m n block bytes lines stored reads own = record {
  leaves = leaf block 1 lines ∷ [];
  entries_are = refl;
  replaces = put_leaf tree_format m n block 1 bytes lines stored (omega arith) (own_page bytes lines own reads);
  blocks_are = refl;
}

-- the other part in a new block
pub last_block : (m n : Map) (block : ℕ) (bytes : List ℕ) (lines : List (List ℕ)) → Added m n block 1 bytes → lines_in bytes ≡ Some lines → is_as_written bytes ≡ true → HasBlocks m n (λ k. 0) (lines ∷ []) (entry_with block 1 (length lines) ∷ [])
last_block m n block bytes lines added reads own = record {
  leaves = leaf block 1 lines ∷ [];
  entries_are = refl;
  replaces = new_leaf tree_format m n block 1 bytes lines added (omega arith) (own_page bytes lines own reads);
  blocks_are = refl;
}

some_pages : (entry : Entry) → FitsFields entry → 1 ≤ entry.pages
some_pages entry fields = let leads : may_lead entry.pages entry.lines ≡ true = fields.leads in grind (arith, nat_tests)

-- runs behind a block that is left alone
pub behind_written : (m n : Map) (entry : Entry) (lines : List (List ℕ)) (runs : List (List (List ℕ))) (new entries : List Entry) → FitsFields entry → LeadsToData m entry → lines_at m entry.block entry.pages ≡ Some lines → HasBlocks m n (λ k. 0) runs new
    → entries ≡ (entry ∷ []) ++ new → HasBlocks m n (λ k. span entry.block entry.pages k) (lines ∷ runs) entries
behind_written m n entry lines runs new entries fields there reads added is =
    let first : lines_at m entry.block entry.pages ≡ Some there.lines = there.reads in
    let same : there.lines ≡ lines = cc in
    let count : entry.lines ≡ length lines = sym there.count ∙ ap length same in
    subst (λ (es : List Entry). HasBlocks m n (λ k. span entry.block entry.pages k) (lines ∷ runs) es) (sym (is ∙ ap (λ (k : ℕ). (entry_with entry.block entry.pages k ∷ []) ++ new) count))
    (blocks_behind m m n (λ k. span entry.block entry.pages k) (lines ∷ []) runs (entry_with entry.block entry.pages (length lines) ∷ []) new (kept_block m entry.block entry.pages lines reads (some_pages entry fields)) added)

pub behind_fits : (entry : Entry) (new entries : List Entry) → FitsFields entry → AllByRecursion FitsFields new → entries ≡ (entry ∷ []) ++ new → AllByRecursion FitsFields entries
behind_fits entry new entries fields each is = subst (λ (es : List Entry). AllByRecursion FitsFields es) (sym is) (each-append FitsFields (entry ∷ []) new (fields, tt) each)

pub behind_count : (entry : Entry) (new entries : List Entry) → entries ≡ (entry ∷ []) ++ new → (length entries ≡ length new + 1) × (lines_below entries ≡ entry.lines + lines_below new)
behind_count entry new entries is = (omega (arith, ap length is, length-append (entry ∷ []) new), omega (arith, ap lines_below is, below_both (entry ∷ []) new))

-- runs between the two parts of a block
pub among_written : (m n1 n2 n3 : Map) (block other : ℕ) (first second : List ℕ) (a b : List (List ℕ)) (runs : List (List (List ℕ))) (one two : Entry) (new entries : List Entry) → Stored m n1 block 1 first → lines_in first ≡ Some a → is_as_written first ≡ true → HasBlocks n1 n2 (λ k. 0) runs new
    → Added n2 n3 other 1 second → lines_in second ≡ Some b → is_as_written second ≡ true → one ≡ entry_with block 1 (length a) → two ≡ entry_with other 1 (length b) → entries ≡ ((one ∷ []) ++ new) ++ two ∷ [] → HasBlocks m n3 (λ k. span block 1 k) (a ∷ (runs ++ b ∷ [])) entries
among_written m n1 n2 n3 block other first second a b runs one two new entries stored reads own put added reads2 own2 one_is two_is is =
    let left : Entry = entry_with block 1 (length a) in
    let right : Entry = entry_with other 1 (length b) in
    let front = blocks_behind m n1 n2 (λ k. span block 1 k) (a ∷ []) runs (left ∷ []) new (first_block m n1 block first a stored reads own) put in
    let whole = blocks_behind m n2 n3 (λ k. span block 1 k) ((a ∷ []) ++ runs) (b ∷ []) ((left ∷ []) ++ new) (right ∷ []) front (last_block n2 n3 other second b added reads2 own2) in
    subst (λ (es : List Entry). HasBlocks m n3 (λ k. span block 1 k) (a ∷ (runs ++ b ∷ [])) es)
    (sym (is ∙ ap (λ (e : Entry). ((e ∷ []) ++ new) ++ two ∷ []) one_is ∙ ap (λ (e : Entry). ((left ∷ []) ++ new) ++ e ∷ []) two_is)) whole

pub among_fits : (one two : Entry) (new entries : List Entry) → FitsFields one → FitsFields two → AllByRecursion FitsFields new → entries ≡ ((one ∷ []) ++ new) ++ two ∷ [] → AllByRecursion FitsFields entries
among_fits one two new entries first last each is =
    subst (λ (es : List Entry). AllByRecursion FitsFields es) (sym is) (each-append FitsFields ((one ∷ []) ++ new) (two ∷ []) (each-append FitsFields (one ∷ []) new (first, tt) each) (last, tt))

pub among_count : (a b : List (List ℕ)) (runs : List (List (List ℕ))) (one two : Entry) (new entries : List Entry) → one.lines ≡ length a → two.lines ≡ length b → lines_below new ≡ length (all_lines runs) → entries ≡ ((one ∷ []) ++ new) ++ two ∷ []
    → (length entries ≡ length new + 2) × (lines_below entries ≡ length (all_lines (a ∷ (runs ++ b ∷ []))))
among_count a b runs one two new entries one_is two_is count is = (
  omega (arith, ap length is, length-append ((one ∷ []) ++ new) (two ∷ []), length-append (one ∷ []) new),
  omega (arith, ap lines_below is, below_both ((one ∷ []) ++ new) (two ∷ []), below_both (one ∷ []) new, one_is, two_is, count, length-append a (all_lines (runs ++ b ∷ [])), count_both runs (b ∷ []), count_one b),
)

-- runs after a line of a block of one page

pub page_leads : (m : Map) (entry : Entry) (bytes : List ℕ) (lines : List (List ℕ)) → entry.pages ≡ 1 → pages_at m entry.block 1 ≡ Some bytes → is_as_written bytes ≡ true → lines_in bytes ≡ Some lines → length lines ≡ entry.lines → LeadsToData m entry
page_leads m entry bytes lines one loaded own reads count = record { lines = lines; reads = ap (λ (p : ℕ). lines_at m entry.block p) one ∙ page_read m entry.block bytes lines loaded own reads; count = count }

pub spread_behind : (m n : Map) (entry : Entry) (at : ℕ) (bytes : List ℕ) (lines : List (List ℕ)) (runs : List (List (List ℕ))) (entries : List Entry) → entry.pages ≡ 1 → pages_at m entry.block 1 ≡ Some bytes → is_as_written bytes ≡ true → lines_in bytes ≡ Some lines → at ≡ length lines → 0 < length lines
    → ((ls : List (List ℕ)) → lines_at m entry.block entry.pages ≡ Some ls → HasBlocks m n (λ k. span entry.block entry.pages k) (ls ∷ runs) entries) → HasBlocks m n (λ k. span entry.block 1 k) (spread lines at runs) entries
spread_behind m n entry at bytes lines runs entries one loaded own reads all some stand =
    let there : lines_at m entry.block entry.pages ≡ Some lines = ap (λ (p : ℕ). lines_at m entry.block p) one ∙ page_read m entry.block bytes lines loaded own reads in
    subst (λ (p : ℕ). HasBlocks m n (λ k. span entry.block p k) (spread lines at runs) entries) one
    (subst (λ (bs : List (List (List ℕ))). HasBlocks m n (λ k. span entry.block entry.pages k) bs entries) (spread_last lines at runs all some) (stand lines there))

pub around_is : (lines first second : List (List ℕ)) (at : ℕ) (runs : List (List (List ℕ))) → 0 < at → at < length lines → first ≡ take at lines → second ≡ drop at lines → first ∷ (runs ++ second ∷ []) ≡ spread lines at runs
around_is lines first second at runs some less first_is second_is =
    ap (λ (xs : List (List ℕ)). xs ∷ (runs ++ second ∷ [])) first_is ∙ ap (λ (xs : List (List ℕ)). take at lines ∷ (runs ++ xs ∷ [])) second_is ∙ spread_mid lines at runs some less

pub spread_put : (m n : Map) (block at : ℕ) (bytes : List ℕ) (lines : List (List ℕ)) (runs : List (List (List ℕ))) (entries : List Entry) → lines_in bytes ≡ Some lines → HasBlocks m n (λ k. span block 1 k) (spread (lines_within bytes) at runs) entries
    → ReplacedBy tree_format m n (λ k. span block 1 k) 0 (splice lines at 0 (all_lines runs)) entries
spread_put m n block at bytes lines runs entries is h =
    replaced_by m n (λ k. span block 1 k) (spread (lines_within bytes) at runs) entries (splice lines at 0 (all_lines runs)) h
    (spread_lines (lines_within bytes) at runs ∙ ap (λ (ls : List (List ℕ)). splice ls at 0 (all_lines runs)) (within_is bytes lines is))
