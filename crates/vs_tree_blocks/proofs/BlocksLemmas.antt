-- The data blocks below entries: those of the leaves that an edit of a data block leaves, and below pointer blocks those of their
-- entries, in whichever halves they stand.
use Rattle.std.proofs.Common.{◌≡◌, ℕ, zero, suc, ◌+◌, ◌-◌, ◌≤◌, inl, inr, List, [], ◌∷◌, ◌++◌, length, map, take, drop, unwrap_or, Option, Some, refl, sym, ap, ◌∙◌, arith, append-nil}
use Rattle.std.specs.List.{flat_map}
use Rattle.std.proofs.lemmas.Bool.{cases_lt}
use Rattle.std.proofs.lemmas.List.Concat.{flat_map-append}
use Rattle.vs_pages.specs.Maps.{Map, pages_at}
use Rattle.vs_tree_shape.specs.declared.entries.Entry.{Entry}
use Rattle.vs_tree_shape.specs.Trees.{Leaf, read_by}
use Rattle.vs_tree_shape.specs.Changes.{HasLineBelow}
use Rattle.vs_tree_shape.specs.DataBlocks.{Cuts, blocks_below, as_block, read_blocks}
use Rattle.vs_tree_shape.proofs.Blocks.{blocks_below_trees}
use Rattle.vs_tree_shape.proofs.Sums.{halves}
use Rattle.vs_tree_shape.proofs.Walks.{above_lines}
use Rattle.vs_tree_blocks.specs.Blocks.{data_blocks, data_lines, entries_at, tree_format}
use Rattle.vs_tree_blocks.specs.Cuts.{half_of}
use Rattle.vs_tree_blocks.specs.Edits.{IsEditedInto, blocks_after}
use Rattle.vs_tree_blocks.specs.Pointers.{HasRoot, LeadTo, halves_of, pointer_blocks}
use Rattle.vs_tree_blocks.specs.Writes.{HasBlocks}
use Rattle.vs_tree_blocks.specs.declared.edit.Edit.{Edit}
use Rattle.vs_tree_blocks.specs.Runs.{lines_within}
use Rattle.vs_tree_blocks.proofs.DataLemmas.{only_same, read_own}
use Rattle.vs_tree_blocks.proofs.FillLemmas.{pointer_two}
use Rattle.vs_tree_blocks.proofs.PointersLemmas.{pointer_one}
use Rattle.vs_tree_blocks.proofs.RunsLemmas.{within_is}

leaf_blocks : (us : List Leaf) → flat_map (λ (u : Leaf). u.lines ∷ []) us ≡ map (λ (u : Leaf). u.lines) us
leaf_blocks [] = refl
leaf_blocks (u ∷ us) = ap (λ bs. u.lines ∷ bs) (leaf_blocks us)

-- an edit of a data block leaves the blocks that stand in its place
pub edited_block : (m n : Map) (old : ℕ → ℕ) (top : Entry) (at gone : ℕ) (edit : Edit) (bytes : List ℕ) (entries : List Entry) → pages_at m top.block top.pages ≡ Some bytes
    → HasLineBelow tree_format m top 0 at → HasBlocks m n old (blocks_after top.pages bytes at edit gone) entries
    → Cuts (read_blocks tree_format 0 m top.block top.pages) at (IsEditedInto edit gone) (blocks_below tree_format 0 n entries)
edited_block m n old top at gone edit bytes entries there a has =
    let parts : List (List (List ℕ)) = blocks_after top.pages bytes at edit gone in
    let reads : read_by (data_lines top.pages) (pages_at m top.block top.pages) ≡ Some a.tree.lines = (above_lines tree_format m top at a).0 in
    let now : blocks_below tree_format 0 n entries ≡ parts =
    ap (λ es. blocks_below tree_format 0 n es) has.entries_are ∙ blocks_below_trees tree_format 0 n has.leaves has.replaces.each ∙ leaf_blocks has.leaves ∙ has.blocks_are in
    record {
      front = [];
      here = a.tree.lines;
      back = [];
      rest = at;
      parts = parts;
      all_are = ap as_block reads;
      place = omega arith;
      inside = a.within;
      into = (top.pages, bytes, sym (ap (λ (o : Option (List ℕ)). read_by (data_lines top.pages) o) there) ∙ reads, refl);
      after_are = now ∙ sym (append-nil parts);
    }

-- pointer blocks lead to what their entries lead to
leads_blocks : (n : Map) (d : ℕ) (above : List Entry) (blocks : List (List Entry)) → LeadTo n above blocks
    → blocks_below tree_format (suc d) n above ≡ flat_map (λ es. blocks_below tree_format d n es) blocks
leads_blocks n d [] [] lead = refl
leads_blocks n d [] (b ∷ blocks) lead = absurd (cc)
leads_blocks n d (e ∷ above) [] lead = absurd (cc)
leads_blocks n d (e ∷ above) (b ∷ blocks) lead =
    let head : entries_at n e.block ≡ Some b = cc in
    let tail : LeadTo n above blocks = cc in
    ap (λ (o : Option (List Entry)). blocks_below tree_format d n (unwrap_or o []) ++ blocks_below tree_format (suc d) n above) head
    ∙ ap (λ bs. blocks_below tree_format d n b ++ bs) (leads_blocks n d above blocks tail)

halves_blocks : (n : Map) (d : ℕ) (es : List Entry) → flat_map (λ xs. blocks_below tree_format d n xs) (halves_of es) ≡ blocks_below tree_format d n es
halves_blocks n d es =
    let f : Entry → List (List (List ℕ)) = λ (x : Entry). read_blocks tree_format d n x.block x.pages in
    let i : ℕ = half_of (length es) in
    ap (λ bs. blocks_below tree_format d n (take i es) ++ bs) (append-nil (blocks_below tree_format d n (drop i es)))
    ∙ sym (flat_map-append f (take i es) (drop i es)) ∙ ap (λ xs. blocks_below tree_format d n xs) (halves i es)

each_blocks : (n : Map) (d : ℕ) (es : List Entry) → flat_map (λ xs. blocks_below tree_format d n xs) (pointer_blocks es) ≡ blocks_below tree_format d n es
each_blocks n d [] = refl
each_blocks n d (e ∷ es) = elim (cases_lt 127 (length (e ∷ es))) [
  | inl many ↦ ap (λ bs. flat_map (λ xs. blocks_below tree_format d n xs) bs) (sym (pointer_two (e ∷ es) many)) ∙ halves_blocks n d (e ∷ es)
  | inr few ↦ ap (λ bs. flat_map (λ xs. blocks_below tree_format d n xs) bs) (sym (pointer_one (e ∷ es) (omega arith) few)) ∙ append-nil (blocks_below tree_format d n (e ∷ es))
]

-- the pointer blocks of entries have the data blocks below these
pub pointers_blocks : (n : Map) (d : ℕ) (above es : List Entry) → LeadTo n above (pointer_blocks es) → blocks_below tree_format (suc d) n above ≡ blocks_below tree_format d n es
pointers_blocks n d above es lead = leads_blocks n d above (pointer_blocks es) lead ∙ each_blocks n d es

-- so has block 1, in place or one level higher
pub root_blocks : (n : Map) (height more : ℕ) (es : List Entry) → 1 ≤ height → more ≤ 1 → HasRoot n es more → data_blocks n (height + more) ≡ blocks_below tree_format (height - 1) n es
root_blocks n zero more es deep few has = absurd (omega (arith, deep))
root_blocks n (suc d) zero es deep few has =
    let level : suc d + 0 ≡ suc d = omega arith in
    let less : d ≡ suc d - 1 = omega arith in
    ap (λ h. data_blocks n h) level ∙ ap (λ (o : Option (List Entry)). blocks_below tree_format d n (unwrap_or o [])) has ∙ ap (λ e. blocks_below tree_format e n es) less
root_blocks n (suc d) (suc more) es deep few has =
    let level : suc d + suc more ≡ suc (suc d) = omega (arith, few) in
    let less : d ≡ suc d - 1 = omega arith in
    ap (λ h. data_blocks n h) level ∙ ap (λ (o : Option (List Entry)). blocks_below tree_format (suc d) n (unwrap_or o [])) has.reads
    ∙ leads_blocks n d has.above (halves_of es) has.halves ∙ halves_blocks n d es ∙ ap (λ e. blocks_below tree_format e n es) less

-- what is said of a cut, said otherwise
pub cuts_as : (A B : List (List ℕ) → ℕ → List (List (List ℕ)) → Type 0) (all now : List (List (List ℕ))) (at : ℕ)
    → ((lines : List (List ℕ)) (rest : ℕ) (parts : List (List (List ℕ))) → A lines rest parts → B lines rest parts) → Cuts all at A now → Cuts all at B now
cuts_as A B all now at follows k = record {
  front = k.front;
  here = k.here;
  back = k.back;
  rest = k.rest;
  parts = k.parts;
  all_are = k.all_are;
  place = k.place;
  inside = k.inside;
  into = follows k.here k.rest k.parts k.into;
  after_are = k.after_are;
}

-- a block with these lines has them as they are read
pub block_lines : (bytes : List ℕ) (pages : ℕ) (lines : List (List ℕ)) → data_lines pages bytes ≡ Some lines → lines_within bytes ≡ lines
block_lines bytes pages lines is = within_is bytes lines (only_same bytes pages lines (read_own bytes pages lines is).1)
