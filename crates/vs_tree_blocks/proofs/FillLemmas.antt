-- Blocks are filled where each has its share of what is cut into them.
use Rattle.std.proofs.Common.{◌≡◌, ℕ, zero, suc, ◌+◌, ◌-◌, ◌<◌, ◌≤◌, Bool, true, false, if◌then◌else◌, List, [], ◌∷◌, ◌++◌, length, map, take, drop, Option, Some, None, refl, sym, ap, subst, inl, inr, arith, length-append, length-take-le, length-drop}
use Rattle.std.specs.List.{AllByRecursion}
use Rattle.std.proofs.lemmas.Bool.{cases_lt}
use Rattle.std.proofs.lemmas.Bool.Decides.{nat_tests}
use Rattle.std.proofs.lemmas.List.{length-map}
use Rattle.vs_pages.specs.Maps.{Map}
use Rattle.vs_tree_shape.specs.declared.entries.Entry.{Entry}
use Rattle.vs_tree_shape.specs.Trees.{Leaf}
use Rattle.vs_tree_shape.specs.Changes.{splice}
use Rattle.vs_tree_shape.specs.Filled.{IsFilled, HasFilledBelow, AllFilledBelow, HasFilledRoot, root_least}
use Rattle.vs_tree_shape.proofs.Fills.{each_below, filled_below}
use Rattle.vs_tree_shape.proofs.Shapes.{each-append, each-take, each-drop}
use Rattle.vs_tree_blocks.specs.Blocks.{tree_format, entries_at}
use Rattle.vs_tree_blocks.specs.Cuts.{part, parted, spread, cut_at, split_with, blocks_with, half_for, half_of, has_room, front_of, back_of, room_in}
use Rattle.vs_tree_blocks.specs.Edits.{blocks_after, blocks_put}
use Rattle.vs_tree_blocks.specs.Fills.{AllHaveLines, RunsHaveLines}
use Rattle.vs_tree_blocks.specs.Pointers.{LeadTo, HasRoot, halves_of, levels_more, pointer_blocks}
use Rattle.vs_tree_blocks.specs.Runs.{lines_within}
use Rattle.vs_tree_blocks.specs.Writes.{HasBlocks}
use Rattle.vs_tree_blocks.specs.declared.edit.Edit.{Edit}
use Rattle.vs_tree_blocks.specs.declared.edit.Edit.TheVariants.{Before, After, Behind, Remove}
use Rattle.vs_tree_blocks.specs.declared.split.Half.{Half}
use Rattle.vs_tree_blocks.proofs.PointersLemmas.{pointer_one}

-- data blocks

pub either : {X : Type 0} (P : X → Type 0) (b : Bool) (x y : X) → P x → P y → P (if b then x else y)
either P true x y a b = a
either P false x y a b = b

part_full : (lines : List (List ℕ)) → AllHaveLines (part lines)
part_full [] = tt
part_full (line ∷ lines) = (omega arith, tt)

spread_full : (lines : List (List ℕ)) (at : ℕ) (runs : List (List (List ℕ))) → AllHaveLines runs → AllHaveLines (spread lines at runs)
spread_full lines at runs full =
    let P : List (List ℕ) → Type 0 = λ run. 1 ≤ length run in
    each-append P (part (take at lines)) (runs ++ part (drop at lines)) (part_full (take at lines)) (each-append P runs (part (drop at lines)) full (part_full (drop at lines)))

parted_full : (lines : List (List ℕ)) (at : ℕ) (run : List (List ℕ)) → 1 ≤ length run → AllHaveLines (parted lines at run)
parted_full lines at run some =
    let P : List (List ℕ) → Type 0 = λ run. 1 ≤ length run in
    each-append P (part (take at lines)) (run ∷ part (drop at lines)) (part_full (take at lines)) (some, part_full (drop at lines))

cut_full : (side : Option Half) (half : ℕ) (lines : List (List ℕ)) (at : ℕ) (run : List (List ℕ)) → 1 ≤ length run → AllHaveLines (cut_at side half lines at run)
cut_full None half lines at run some = parted_full lines at run some
cut_full (Some side) half lines at run some =
    let P : List (List ℕ) → Type 0 = λ run. 1 ≤ length run in
    each-append P (part (front_of side half lines at run)) (part (back_of side half lines at run)) (part_full (front_of side half lines at run)) (part_full (back_of side half lines at run))

with_full : (room : ℕ) (lines : List (List ℕ)) (at : ℕ) (run : List (List ℕ)) → 1 ≤ length run → AllHaveLines (blocks_with room lines at run)
with_full room lines at run some =
    let is : splice lines at 0 run ≡ (take at lines ++ run) ++ drop (at + 0) lines = refl in
    let whole : 1 ≤ length (splice lines at 0 run) = omega (arith, some, ap length is, length-append (take at lines ++ run) (drop (at + 0) lines), length-append (take at lines) run) in
    either (λ (bs : List (List (List ℕ))). AllHaveLines bs) (has_room room lines run) (splice lines at 0 run ∷ []) (split_with room lines at run) (whole, tt)
    (cut_full (half_for room (half_of (length lines)) lines at run) (half_of (length lines)) lines at run some)

put_full : (pages : ℕ) (bytes : List ℕ) (at : ℕ) (run : List (List ℕ)) → 1 ≤ length run → AllHaveLines (blocks_put pages bytes at run)
put_full pages bytes at run some =
    either (λ (bs : List (List (List ℕ))). AllHaveLines bs) (Rattle.std.specs.Prelude.nat_le pages 1) (blocks_with (room_in bytes) (lines_within bytes) at run) (parted (lines_within bytes) at run)
    (with_full (room_in bytes) (lines_within bytes) at run some) (parted_full (lines_within bytes) at run some)

-- each block in place of a data block has lines
pub after_full : (pages : ℕ) (bytes : List ℕ) (at : ℕ) (edit : Edit) (gone : ℕ) → RunsHaveLines edit → AllHaveLines (blocks_after pages bytes at edit gone)
after_full pages bytes at (Before run) gone full = put_full pages bytes at run.now full
after_full pages bytes at (After run) gone full = put_full pages bytes (at + 1) run.now full
after_full pages bytes at (Behind runs) gone full = spread_full (lines_within bytes) (at + 1) runs.now full
after_full pages bytes at (Remove most) gone full = part_full (splice (lines_within bytes) at gone [])

leaves_filled : (least : ℕ) (us : List Leaf) (blocks : List (List (List ℕ))) → map (λ (u : Leaf). u.lines) us ≡ blocks → AllHaveLines blocks → AllByRecursion (λ (u : Leaf). IsFilled least zero u) us
leaves_filled least [] blocks is full = tt
leaves_filled least (u ∷ us) [] is full = absurd (cc)
leaves_filled least (u ∷ us) (b ∷ blocks) is full =
    let head : u.lines ≡ b = cc in
    let tail : map (λ (u : Leaf). u.lines) us ≡ blocks = cc in
    (omega (arith, full.0, ap length head), leaves_filled least us blocks tail full.1)

pub blocks_filled : (m n : Map) (old : ℕ → ℕ) (least : ℕ) (blocks : List (List (List ℕ))) (entries : List Entry) → HasBlocks m n old blocks entries → AllHaveLines blocks → AllFilledBelow tree_format n least 0 entries
blocks_filled m n old least blocks entries has full =
    subst (λ (es : List Entry). AllFilledBelow tree_format n least 0 es) (sym has.entries_are)
    (each_below tree_format n least 0 (λ t is f. filled_below tree_format n least 0 t is f) has.leaves has.replaces.each (leaves_filled least has.leaves blocks has.blocks_are full))

-- pointer blocks

-- a pointer block with its share of entries, below which all is filled
abbrev IsShare : Map → ℕ → ℕ → List Entry → Type 0
IsShare n least d es = (least ≤ length es) × AllFilledBelow tree_format n least d es

leads_filled : (n : Map) (least d : ℕ) (above : List Entry) (blocks : List (List Entry)) → LeadTo n above blocks → AllByRecursion (λ (es : List Entry). IsShare n least d es) blocks → AllFilledBelow tree_format n least (suc d) above
leads_filled n least d [] blocks lead all = tt
leads_filled n least d (e ∷ above) [] lead all = absurd (cc)
leads_filled n least d (e ∷ above) (b ∷ blocks) lead all =
    let head : entries_at n e.block ≡ Some b = cc in
    let tail : LeadTo n above blocks = cc in
    ((b, head, all.0.0, all.0.1), leads_filled n least d above blocks tail all.1)

pub pointer_two : (es : List Entry) → 127 < length es → halves_of es ≡ pointer_blocks es
pointer_two [] many = absurd (omega arith)
pointer_two (e ∷ es) many = grind (arith, nat_tests)

halves_share : (n : Map) (least d : ℕ) (es : List Entry) → least ≤ 64 → 127 < length es → AllFilledBelow tree_format n least d es → AllByRecursion (λ (xs : List Entry). IsShare n least d xs) (halves_of es)
halves_share n least d es half many all =
    let P : Entry → Type 0 = λ x. HasFilledBelow tree_format n least d x in
    let i : ℕ = half_of (length es) in
    let front : 64 ≤ half_of (length es) = omega arith in
    let inside : half_of (length es) ≤ length es = omega arith in
    let back : half_of (length es) + 64 ≤ length es + 1 = omega arith in (
      (omega (arith, front, half, length-take-le (half_of (length es)) es inside), each-take P (half_of (length es)) es all),
      ((omega (arith, half, many, length-drop (half_of (length es)) es), each-drop P (half_of (length es)) es all), tt),
    )

blocks_share : (n : Map) (least d : ℕ) (es : List Entry) → 1 ≤ least → least ≤ 64 → least ≤ length es → AllFilledBelow tree_format n least d es → AllByRecursion (λ (xs : List Entry). IsShare n least d xs) (pointer_blocks es)
blocks_share n least d es some half enough all = elim (cases_lt 127 (length es)) [
  | inl many ↦ subst (λ (bs : List (List Entry)). AllByRecursion (λ (xs : List Entry). IsShare n least d xs) bs) (pointer_two es many) (halves_share n least d es half many all)
  | inr few ↦ subst (λ (bs : List (List Entry)). AllByRecursion (λ (xs : List Entry). IsShare n least d xs) bs) (pointer_one es (omega (arith, some, enough)) few) ((enough, all), tt)
]

blocks_some : (es : List Entry) → 1 ≤ length es → 1 ≤ length (pointer_blocks es)
blocks_some es some = elim (cases_lt 127 (length es)) [
  | inl many ↦ omega (arith, ap length (pointer_two es many))
  | inr few ↦ omega (arith, ap length (pointer_one es (omega (arith, some)) few))
]

-- the entries above lead to filled blocks, and to one at least
pub pointers_filled : (n : Map) (least d : ℕ) (above es : List Entry) → 1 ≤ least → least ≤ 64 → least ≤ length es → LeadTo n above (pointer_blocks es) → AllFilledBelow tree_format n least d es
    → AllFilledBelow tree_format n least (suc d) above × (1 ≤ length above)
pointers_filled n least d above es some half enough lead all = (
  leads_filled n least d above (pointer_blocks es) lead (blocks_share n least d es some half enough all),
  omega (arith, blocks_some es (omega (arith, some, enough)), ap length lead, length-map above (λ (e : Entry). entries_at n e.block), length-map (pointer_blocks es) (λ (xs : List Entry). Some xs)),
)

-- the root is filled, in place or one level higher
pub root_filled : (n : Map) (least height more : ℕ) (es : List Entry) → 1 ≤ height → least ≤ 64 → root_least height ≤ length es → more ≡ levels_more es → HasRoot n es more → AllFilledBelow tree_format n least (height - 1) es → HasFilledRoot tree_format n least (height + more)
root_filled n least height zero es deep half enough deeper has all =
    subst (λ (h : ℕ). HasFilledRoot tree_format n least h) (omega arith) (es, has, enough, all)
root_filled n least zero (suc more) es deep half enough deeper has all = absurd (omega (arith, deep))
root_filled n least (suc d) (suc more) es deep half enough deeper has all =
    let many : 127 < length es = elim (cases_lt 127 (length es)) [ inl m ↦ m | inr few ↦ absurd (grind (arith, nat_tests)) ] in
    let one : suc more ≡ 1 = grind (arith, nat_tests) in
    let below : suc d - 1 ≡ d = omega arith in
    let here : AllFilledBelow tree_format n least d es = subst (λ (k : ℕ). AllFilledBelow tree_format n least k es) below all in
    let up : AllFilledBelow tree_format n least (suc d) has.above = leads_filled n least d has.above (halves_of es) has.halves (halves_share n least d es half many here) in
    let two : 2 ≤ length has.above = omega (arith, ap length has.halves, length-map has.above (λ (e : Entry). entries_at n e.block)) in
    let less : suc d ≡ suc (suc d) - 1 = omega arith in
    let higher : HasFilledRoot tree_format n least (suc (suc d)) = (has.above, has.reads, two, subst (λ (k : ℕ). AllFilledBelow tree_format n least k has.above) less up) in
    subst (λ (h : ℕ). HasFilledRoot tree_format n least h) (omega (arith, one)) higher

-- one entry leads to one block, which has all entries
pub lead_single : (n : Map) (e : Entry) (es : List Entry) → 1 ≤ length es → LeadTo n (e ∷ []) (pointer_blocks es) → entries_at n e.block ≡ Some es
lead_single n e es some lead = elim (cases_lt 127 (length es)) [
  | inl many ↦
      let two : LeadTo n (e ∷ []) (halves_of es) = subst (λ (bs : List (List Entry)). LeadTo n (e ∷ []) bs) (sym (pointer_two es many)) lead in
      absurd (omega (arith, ap length two))
  | inr few ↦
      let one : LeadTo n (e ∷ []) (es ∷ []) = subst (λ (bs : List (List Entry)). LeadTo n (e ∷ []) bs) (sym (pointer_one es (omega (arith, some)) few)) lead in
      cc
]
