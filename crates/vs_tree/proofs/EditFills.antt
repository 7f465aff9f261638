-- How many entries a block has after one of them was exchanged by an edit below it.
use Rattle.std.proofs.Common.{◌≡◌, ℕ, zero, suc, ◌+◌, ◌-◌, ◌<◌, ◌≤◌, inl, inr, List, [], ◌∷◌, ◌++◌, length, take, drop, arith, length-append, length-take-le, length-drop}
use Rattle.std.proofs.lemmas.Bool.{cases_eq}
use Rattle.vs_tree_shape.specs.declared.entries.Entry.{Entry}
use Rattle.vs_tree_shape.specs.Filled.{root_least}
use Rattle.vs_tree_shape.specs.Places.{lines_below, replaced}
use Rattle.vs_tree_blocks.specs.Edits.{MayTake, added_by}
use Rattle.vs_tree_blocks.specs.Fills.{KeepsFilled, entries_lost}
use Rattle.vs_tree_blocks.specs.declared.edit.Edit.{Edit}
use Rattle.vs_tree_blocks.specs.declared.edit.Edit.TheVariants.{Before, After, Behind, Remove}

pub some_entries : (es : List Entry) → 1 ≤ lines_below es → 1 ≤ length es
some_entries [] some = absurd (omega (arith, some))
some_entries (e ∷ es) some = omega arith

pub replaced_count : (es by : List Entry) (i : ℕ) → i < length es → length (replaced es i by) + 1 ≡ length es + length by
replaced_count es by i within =
    let inside : i ≤ length es = omega (arith, within) in
    omega (arith, within, length-append (take i es) (by ++ drop (i + 1) es), length-append by (drop (i + 1) es), length-take-le i es inside, length-drop (i + 1) es)

-- where lines come in place of some, an entry does
some_left : (edit : Edit) (gone lines : ℕ) (by : List Entry) → MayTake edit gone → entries_lost edit ≡ 0 → lines_below by + gone ≡ lines + added_by edit → 1 ≤ lines → 1 ≤ length by
some_left (Before run) gone lines by may none sum some = some_entries by (omega (arith, may, sum, some))
some_left (After run) gone lines by may none sum some = some_entries by (omega (arith, may, sum, some))
some_left (Behind runs) gone lines by may none sum some = some_entries by (omega (arith, may, sum, some))
some_left (Remove most) gone lines by may none sum some = absurd (omega (arith, none))

lost_most : (edit : Edit) → entries_lost edit ≤ 1
lost_most (Before run) = omega arith
lost_most (After run) = omega arith
lost_most (Behind runs) = omega arith
lost_most (Remove most) = omega arith

-- the block has as many entries as it must
pub entries_enough : (edit : Edit) (before after gone lines i : ℕ) (es by : List Entry) → KeepsFilled edit before after → MayTake edit gone → i < length es → before ≤ length es → lines_below by + gone ≡ lines + added_by edit → 1 ≤ lines → after ≤ length (replaced es i by)
entries_enough edit before after gone lines i es by keeps may within enough sum some = elim (cases_eq (entries_lost edit) 0) [
  | inl none ↦ omega (arith, none, keeps.sum, enough, replaced_count es by i within, some_left edit gone lines by may none sum some)
  | inr lost ↦ omega (arith, lost, lost_most edit, keeps.sum, enough, replaced_count es by i within)
]

-- block 1 has as many entries as it must, where a line is left
pub root_enough : (edit : Edit) (height gone lines i : ℕ) (es by : List Entry) → MayTake edit gone → i < length es → root_least height ≤ length es → lines_below by + gone ≡ lines + added_by edit → 1 ≤ lines → 1 ≤ lines_below (replaced es i by) → (1 ≤ height - 1 → 1 ≤ length by) → root_least height ≤ length (replaced es i by)
root_enough edit zero gone lines i es by may within enough sum some left deep = some_entries (replaced es i by) left
root_enough edit (suc zero) gone lines i es by may within enough sum some left deep = some_entries (replaced es i by) left
root_enough edit (suc (suc d)) gone lines i es by may within enough sum some left deep =
    omega (arith, enough, replaced_count es by i within, deep (omega arith))
