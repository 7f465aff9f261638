-- A run that is put at a line stands in one of the blocks that come, and lines that are taken out leave those before them in their block.
use Rattle.std.proofs.Common.{◌≡◌, ℕ, ◌+◌, ◌-◌, ◌<◌, ◌≤◌, List, [], ◌∷◌, ◌++◌, length, take, drop, nat_le, Option, Some, None, refl, sym, ap, subst, ◌∙◌, arith, append-nil, append_assoc, length-append, length-take, length-drop}
use Rattle.vs_tree_shape.specs.Changes.{splice}
use Rattle.vs_tree_shape.specs.DataBlocks.{Cuts, lines_in_blocks}
use Rattle.vs_tree_shape.proofs.Splices.{drop_past, take_past}
use Rattle.vs_tree_blocks.specs.Blocks.{data_lines}
use Rattle.vs_tree_blocks.specs.Cuts.{blocks_with, cut_at, half_for, half_of, has_room, part, parted, room_in, split_with}
use Rattle.vs_tree_blocks.specs.Edits.{IsEditedInto, blocks_put}
use Rattle.vs_tree_blocks.specs.Runs.{lines_within}
use Rattle.vs_tree_blocks.specs.declared.edit.Edit.TheVariants.{Remove}
use Rattle.vs_tree_blocks.specs.declared.split.Half.{Half}
use Rattle.vs_tree_blocks.specs.declared.split.Half.TheVariants.{First, Second}
use Rattle.vs_tree_blocks.proofs.BlocksLemmas.{block_lines}
use Rattle.vs_tree_blocks.proofs.CutsLemmas.{half_first, half_second, part_count, part_some}
use Rattle.vs_tree_blocks.proofs.FillLemmas.{either}
use Rattle.vs_tree.specs.DataBlocks.{KeepsStart}
use Rattle.vs_tree.specs.Packed.{StandInRow}
use Rattle.vs_tree.proofs.OwnBlocks.{Blocks, count_both}

-- one block has the run between other lines
row_at : (all front back : Blocks) (before run behind : List (List ℕ)) (at : ℕ) → all ≡ front ++ (before ++ (run ++ behind)) ∷ back → at ≡ lines_in_blocks front + length before → StandInRow all at run []
row_at all front back before run behind at is place =
    record { front = front; before = before; behind = behind; back = back; all_are = is; place = place; ends = λ some. absurd (omega (arith, some)) }

-- lines into which the run was put
put_in : (lines : List (List ℕ)) (at : ℕ) (run : List (List ℕ)) → splice lines at 0 run ≡ take at lines ++ (run ++ drop (at + 0) lines)
put_in lines at run = append_assoc (take at lines) run (drop (at + 0) lines)

parted_row : (lines : List (List ℕ)) (at : ℕ) (run : List (List ℕ)) → at ≤ length lines → StandInRow (parted lines at run) at run []
parted_row lines at run le =
    row_at (parted lines at run) (part (take at lines)) (part (drop at lines)) [] run [] at (ap (λ ls. part (take at lines) ++ ls ∷ part (drop at lines)) (sym (append-nil run)))
    (omega (arith, le, part_count (take at lines), length-take at lines))

-- the part with the run is a block
part_row : (front back : Blocks) (lines : List (List ℕ)) (at place : ℕ) (run : List (List ℕ)) → 1 ≤ length run → at ≤ length lines → place ≡ lines_in_blocks front + at
    → StandInRow (front ++ (part (splice lines at 0 run) ++ back)) place run []
part_row front back lines at place run some le place_is =
    let is : splice lines at 0 run ≡ take at lines ++ (run ++ drop (at + 0) lines) = put_in lines at run in
    let there : 0 < length (splice lines at 0 run) = omega (arith, some, ap length is, length-append (take at lines) (run ++ drop (at + 0) lines), length-append run (drop (at + 0) lines)) in
    row_at (front ++ (part (splice lines at 0 run) ++ back)) front back (take at lines) run (drop (at + 0) lines) place
    (ap (λ bs. front ++ (bs ++ back)) (part_some (splice lines at 0 run) there) ∙ ap (λ ls. front ++ ls ∷ back) is)
    (omega (arith, le, place_is, length-take at lines))

cut_row : (room half : ℕ) (lines : List (List ℕ)) (at : ℕ) (run : List (List ℕ)) (o : Option Half) → half_for room half lines at run ≡ o → half ≤ length lines → 1 ≤ length run → at ≤ length lines
    → StandInRow (cut_at o half lines at run) at run []
cut_row room half lines at run None is within some le = parted_row lines at run le
cut_row room half lines at run (Some First) is within some le =
    let h = half_first room half lines at run is in
    part_row [] (part (drop half lines)) (take half lines) at at run some (omega (arith, h.0, within, length-take half lines)) (omega arith)
cut_row room half lines at run (Some Second) is within some le =
    let h = half_second room half lines at run is in
    subst (λ bs. StandInRow bs at run []) (ap (λ bs. part (take half lines) ++ bs) (append-nil (part (splice (drop half lines) (at - half) 0 run))))
    (part_row (part (take half lines)) [] (drop half lines) (at - half) at run some (omega (arith, le, length-drop half lines))
    (omega (arith, h.0, within, part_count (take half lines), length-take half lines)))

with_row : (room : ℕ) (lines : List (List ℕ)) (at : ℕ) (run : List (List ℕ)) → 1 ≤ length run → at ≤ length lines → StandInRow (blocks_with room lines at run) at run []
with_row room lines at run some le =
    either (λ bs. StandInRow bs at run []) (has_room room lines run) (splice lines at 0 run ∷ []) (split_with room lines at run)
    (row_at (splice lines at 0 run ∷ []) [] [] (take at lines) run (drop (at + 0) lines) at (ap (λ ls. ls ∷ []) (put_in lines at run)) (omega (arith, le, length-take at lines)))
    (cut_row room (half_of (length lines)) lines at run (half_for room (half_of (length lines)) lines at run) refl (omega arith) some le)

-- the run stands in one of the blocks in place of a data block
put_row : (pages : ℕ) (bytes : List ℕ) (at : ℕ) (run : List (List ℕ)) → 1 ≤ length run → at ≤ length (lines_within bytes) → StandInRow (blocks_put pages bytes at run) at run []
put_row pages bytes at run some le =
    either (λ bs. StandInRow bs at run []) (nat_le pages 1) (blocks_with (room_in bytes) (lines_within bytes) at run) (parted (lines_within bytes) at run)
    (with_row (room_in bytes) (lines_within bytes) at run some le) (parted_row (lines_within bytes) at run le)

-- so it does among all blocks
among : (Into : List (List ℕ) → ℕ → Blocks → Type 0) (all now : Blocks) (at place skip : ℕ) (run : List (List ℕ)) → Cuts all at Into now
    → ((lines : List (List ℕ)) (rest : ℕ) (parts : Blocks) → rest < length lines → Into lines rest parts → StandInRow parts (rest + skip) run []) → place ≡ at + skip → StandInRow now place run []
among Into all now at place skip run k each place_is =
    let row = each k.here k.rest k.parts k.inside k.into in
    row_at now (k.front ++ row.front) (row.back ++ k.back) row.before run row.behind place
    (k.after_are ∙ ap (λ bs. k.front ++ (bs ++ k.back)) row.all_are ∙ simp append_assoc)
    (omega (arith, place_is, k.place, row.place, count_both k.front row.front))

-- how a run that is put at a place in a block cuts it
abbrev pub PutsAt : (ℕ → ℕ) → List (List ℕ) → List (List ℕ) → ℕ → Blocks → Type 0
PutsAt place run lines rest parts = (pages : ℕ) × (bytes : List ℕ) × (data_lines pages bytes ≡ Some lines) × (parts ≡ blocks_put pages bytes (place rest) run)

pub run_row : (place : ℕ → ℕ) (skip : ℕ) (all now : Blocks) (at to : ℕ) (run : List (List ℕ)) → ((rest : ℕ) → place rest ≡ rest + skip) → skip ≤ 1 → 1 ≤ length run → to ≡ at + skip
    → Cuts all at (PutsAt place run) now → StandInRow now to run []
run_row place skip all now at to run is one some to_is k =
    among (PutsAt place run) all now at to skip run k
    (λ lines rest parts inside into.
    let same = block_lines into.1 into.0 lines into.2 in
    subst (λ n. StandInRow parts n run []) (is rest)
    (subst (λ bs. StandInRow bs (place rest) run []) (sym into.3) (put_row into.0 into.1 (place rest) run some (omega (arith, one, is rest, inside, ap length same)))))
    to_is

-- lines that are taken out

-- the block with the lines that go begins with those before them
start_left : (start others : List (List ℕ)) (rest gone : ℕ) → 1 ≤ length start → length start ≤ rest
    → (behind : List (List ℕ)) × (part (splice (start ++ others) rest gone []) ≡ (start ++ behind) ∷ []) × (length behind ≤ length others)
start_left start others rest gone some le =
    let at : ℕ = rest - length start in
    let place : rest ≡ length start + at = omega (arith, le) in
    let behind : List (List ℕ) = splice others at gone [] in
    let front : take rest (start ++ others) ≡ start ++ take at others = take_past start others rest at place in
    let back : drop (rest + gone) (start ++ others) ≡ drop (at + gone) others = drop_past start others (rest + gone) (at + gone) (omega (arith, le)) in
    let is : splice (start ++ others) rest gone [] ≡ start ++ behind = rw (front, back) (simp append_assoc) in (
      behind,
      ap part is ∙ part_some (start ++ behind) (omega (arith, some, length-append start behind)),
      omega (arith, length-append (take at others ++ []) (drop (at + gone) others), length-append (take at others) [], length-take at others, length-drop (at + gone) others),
    )

stays : (f g b c : Blocks) (h : List (List ℕ)) (parts : Blocks) (start others : List (List ℕ)) (rest gone : ℕ) → f ++ h ∷ b ≡ g ++ (start ++ others) ∷ c → rest < length h → 1 ≤ length start
    → lines_in_blocks g + length start ≤ lines_in_blocks f + rest → parts ≡ part (splice h rest gone []) → KeepsStart (f ++ (parts ++ b)) g start others
stays [] [] b c h parts start others rest gone is inside some le parts_are =
    let head : h ≡ start ++ others = cc in
    let left = start_left start others rest gone some (omega (arith, le)) in
    record {
      behind = left.0;
      back = b;
      all_are = ap (λ bs. bs ++ b) (parts_are ∙ ap (λ ls. part (splice ls rest gone [])) head ∙ left.1);
      less = left.2;
    }
stays [] (z ∷ g) b c h parts start others rest gone is inside some le parts_are =
    let head : h ≡ z = cc in
    absurd (omega (arith, ap length head, inside, le))
stays (w ∷ f) [] b c h parts start others rest gone is inside some le parts_are =
    let head : w ≡ start ++ others = cc in
    record { behind = others; back = f ++ (parts ++ b); all_are = ap (λ ls. ls ∷ (f ++ (parts ++ b))) head; less = omega arith }
stays (w ∷ f) (z ∷ g) b c h parts start others rest gone is inside some le parts_are =
    let head : w ≡ z = cc in
    let tail : f ++ h ∷ b ≡ g ++ (start ++ others) ∷ c = cc in
    let below = stays f g b c h parts start others rest gone tail inside some (omega (arith, ap length head, le)) parts_are in
    record { behind = below.behind; back = below.back; all_are = ap (λ bs. w ∷ bs) below.all_are ∙ ap (λ ls. ls ∷ (g ++ (start ++ below.behind) ∷ below.back)) head; less = below.less }

pub taken_start : (all now : Blocks) (at most gone : ℕ) (front back : Blocks) (start others : List (List ℕ)) → Cuts all at (IsEditedInto (Remove most) gone) now
    → all ≡ front ++ (start ++ others) ∷ back → 1 ≤ length start → lines_in_blocks front + length start ≤ at → KeepsStart now front start others
taken_start all now at most gone front back start others k is some le =
    let same = block_lines k.into.1 k.into.0 k.here k.into.2 in
    subst (λ bs. KeepsStart bs front start others) (sym k.after_are)
    (stays k.front front k.back back k.here k.parts start others k.rest gone (sym k.all_are ∙ is) k.inside some (omega (arith, le, k.place))
    (k.into.3 ∙ ap (λ ls. part (splice ls k.rest gone [])) same))

pub keeps_on : (all front : Blocks) (start others fewer : List (List ℕ)) → KeepsStart all front start fewer → length fewer ≤ length others → KeepsStart all front start others
keeps_on all front start others fewer k less = record { behind = k.behind; back = k.back; all_are = k.all_are; less = omega (arith, k.less, less) }
