-- One line is taken out below a block: what stays filled but for a way, one block up.
use Rattle.std.proofs.Common.{◌≡◌, ℕ, zero, suc, ◌+◌, ◌-◌, ◌<◌, ◌≤◌, inl, inr, List, [], ◌∷◌, length, Some, refl, sym, ap, subst, ◌∙◌, arith}
use Rattle.std.proofs.lemmas.Bool.{cases_eq}
use Rattle.vs_pages.specs.Maps.{Map, lacks, one}
use Rattle.vs_tree_shape.specs.declared.entries.Entry.{Entry}
use Rattle.vs_tree_shape.specs.declared.entries.Place.{Place}
use Rattle.vs_tree_shape.specs.Changes.{Change, ChangesBelow, HasLineBelow}
use Rattle.vs_tree_shape.specs.Filled.{HasFilledBelow, AllFilledBelow, HasFilledBelowBut, AllFilledBut, steps_back}
use Rattle.vs_tree_shape.specs.Paths.{IsWalk}
use Rattle.vs_tree_shape.specs.Places.{IsPlace, lines_below, replaced}
use Rattle.vs_tree_shape.proofs.Sums.{total-append}
use Rattle.vs_tree_shape.proofs.Fills.{any_least, filled_at}
use Rattle.vs_tree_shape.proofs.Steps.{above_down, above_entries, filled_inside, thin_inside}
use Rattle.vs_tree_shape.proofs.Thins.{back_cases, thin_leaves, two_lines, walk_next, walk_none}
use Rattle.vs_tree_blocks.specs.Blocks.{tree_format, entries_at}
use Rattle.vs_tree_blocks.specs.Edits.{added_by, most_entries}
use Rattle.vs_tree_blocks.specs.Fills.{RunsHaveLines, IsThinned, entries_lost}
use Rattle.vs_tree_blocks.specs.declared.edit.Edit.{Edit}
use Rattle.vs_tree_blocks.specs.declared.edit.Edit.TheVariants.{Before, After, Behind, Remove}

-- an edit below which an entry may go takes lines out
pub lost_full : (edit : Edit) → entries_lost edit ≡ 1 → RunsHaveLines edit
lost_full (Before run) lost = absurd (omega (arith, lost))
lost_full (After run) lost = absurd (omega (arith, lost))
lost_full (Behind runs) lost = absurd (omega (arith, lost))
lost_full (Remove most) lost = tt

pub lost_added : (edit : Edit) → entries_lost edit ≡ 1 → added_by edit ≡ 0
lost_added (Before run) lost = absurd (omega (arith, lost))
lost_added (After run) lost = absurd (omega (arith, lost))
lost_added (Behind runs) lost = absurd (omega (arith, lost))
lost_added (Remove most) lost = refl

pub lost_single : (edit : Edit) → entries_lost edit ≡ 1 → most_entries edit ≤ 1
lost_single (Before run) lost = absurd (omega (arith, lost))
lost_single (After run) lost = absurd (omega (arith, lost))
lost_single (Behind runs) lost = absurd (omega (arith, lost))
lost_single (Remove most) lost = omega arith

pub single_entry : (es : List Entry) → length es ≤ 1 → 1 ≤ lines_below es → (e : Entry) × (es ≡ e ∷ [])
single_entry [] few some = absurd (omega (arith, some))
single_entry (e ∷ []) few some = (e, refl)
single_entry (e ∷ x ∷ es) few some = absurd (omega (arith, few))

any_flat : (n : Map) (some other d : ℕ) (es : List Entry) → d ≡ 0 → AllFilledBelow tree_format n some d es → AllFilledBelow tree_format n other d es
any_flat n some other zero es flat all = any_least tree_format n some other es all
any_flat n some other (suc d) es flat all = absurd (omega (arith, flat))

flat_leaves : (n : Map) (d at : ℕ) (es : List Entry) → d ≡ 0 → AllFilledBelow tree_format n 32 d es → at < lines_below es → AllFilledBut tree_format n 32 d es at
flat_leaves n zero at es flat all within = thin_leaves tree_format n 32 at es all within
flat_leaves n (suc d) at es flat all within = absurd (omega (arith, flat))

flat_bounds : (top entry : Entry) (at rest : ℕ) → entry ≡ top → rest ≡ at → at < top.lines → 2 ≤ top.lines → (steps_back entry rest ≤ at) × (at - steps_back entry rest + 1 < top.lines)
flat_bounds top entry at rest same place within two =
    let lines : entry.lines ≡ top.lines = ap (λ (e : Entry). e.lines) same in
    let b = back_cases entry rest (omega (arith, within, place, lines)) (omega (arith, two, lines)) in
    (omega (arith, b.0, place), omega (arith, b.1, place, lines))

deep_bounds : (es : List Entry) (at back lines : ℕ) (place : Place) → IsPlace es at place → back ≤ place.rest → place.rest - back < lines → lines + 1 ≡ place.entry.lines → (back ≤ at) × (at - back + 1 < lines_below es)
deep_bounds es at back lines place is le inside less =
    let sum : lines_below es ≡ lines_below is.before + (place.entry.lines + lines_below is.after) = ap lines_below is.cut ∙ total-append (λ (e : Entry). e.lines) is.before (place.entry ∷ is.after) in
    (omega (arith, is.sum, le), omega (arith, is.sum, le, inside, less, sum))

-- below the block all is filled but the way to a line so many before this one
pub record IsThinAbove (n : Map) (d at back lines : ℕ) (es : List Entry) : Type 0 where
  pub before : back ≤ at
  pub within : at - back + 1 < lines
  pub filled : AllFilledBut tree_format n 32 d es (at - back)

pub thin_step : (m n1 n2 : Map) (top : Entry) (depth at bytes : ℕ) (change : Change) (es es1 mid : List Entry) (place : Place) (entry : Entry) (rest : ℕ) → (depth ≡ 0 → ⊥) → entries_at m top.block ≡ Some es → IsPlace es at place → mid ≡ replaced es place.index es1
    → ChangesBelow tree_format m n1 place.entry (depth - 1) place.rest bytes change es1 → HasLineBelow tree_format m top depth at → ((k : ℕ) → one top.block k ≡ 0 → lacks (n1 k) ≡ 0 → n2 k ≡ n1 k)
    → AllFilledBelow tree_format m 32 (depth - 1) es → 2 ≤ top.lines → lines_below es1 + 1 ≡ place.entry.lines → lines_below mid + 1 ≡ top.lines → IsWalk tree_format m (depth - 1) top at entry rest → AllFilledBelow tree_format n1 31 (depth - 1) es1
    → (HasFilledBelow tree_format m 32 (depth - 1) place.entry → 1 ≤ depth - 1 → 2 ≤ place.entry.lines → IsWalk tree_format m (depth - 1 - 1) place.entry place.rest entry rest → IsThinned n1 (depth - 1) place.rest (steps_back entry rest) es1)
    → IsThinAbove n2 (depth - 1) at (steps_back entry rest) top.lines mid
thin_step m n1 n2 top depth at bytes change es es1 mid place entry rest some reads is mid_is promise a others all two less left walk new ih =
    let back : ℕ = steps_back entry rest in
    let child : HasFilledBelow tree_format m 32 (depth - 1) place.entry = filled_at tree_format m 32 (depth - 1) es at place is all in
    let found = above_entries tree_format m top depth at some a in
    let both : Some found.0 ≡ Some es = sym found.1 ∙ reads in
    let one_list : found.0 ≡ es = cc in
    let sum : lines_below es ≡ top.lines = ap lines_below (sym one_list) ∙ found.2 in
    let within : at < top.lines = omega (arith, a.within, a.lines) in
    elim (cases_eq (depth - 1) 0) [
      | inl flat ↦
          let w = walk_none tree_format m (depth - 1) top at entry rest flat walk in
          let b = flat_bounds top entry at rest w.0 w.1 within two in
          let inside = filled_inside tree_format m n1 n2 top depth 32 at bytes change es es1 mid place some reads is mid_is promise a others all (any_flat n1 31 32 (depth - 1) es1 flat new) in
          record { before = b.0; within = b.1; filled = flat_leaves n2 (depth - 1) (at - back) mid flat inside (omega (arith, b.1, left)) }
      | inr higher ↦
          let here : HasLineBelow tree_format m place.entry (depth - 1) place.rest = above_down tree_format m top depth at es place some reads is a in
          let t = ih child (omega (arith, higher)) (two_lines tree_format m 32 (depth - 1) place.rest place.entry (omega arith) (omega (arith, higher)) here child) (walk_next tree_format m (depth - 1) top at es place entry rest higher reads is walk) in
          let count : t.entry.lines + 1 ≡ place.entry.lines = omega (arith, less, ap lines_below t.alone) in
          let b = deep_bounds es at back t.entry.lines place is t.before t.within count in
          record {
            before = b.0;
            within = omega (arith, b.1, sum);
            filled = thin_inside tree_format m n1 n2 top depth 32 at bytes back change es es1 mid place t.entry some reads is mid_is promise a others all t.alone t.before t.within t.filled;
          }
    ]

-- the tree below the entry of the block
pub thin_entry : (n : Map) (depth at back : ℕ) (es : List Entry) (entry : Entry) → (depth ≡ 0 → ⊥) → entries_at n entry.block ≡ Some es → AllFilledBut tree_format n 32 (depth - 1) es (at - back) → HasFilledBelowBut tree_format n 32 depth entry (at - back)
thin_entry n zero at back es entry some reads f = absurd (some refl)
thin_entry n (suc d) at back es entry some reads f =
    let less : suc d - 1 ≡ d = omega arith in
    let g : AllFilledBut tree_format n 32 d es (at - back) = subst (λ (e : ℕ). AllFilledBut tree_format n 32 e es (at - back)) less f in
    (es, reads, g.0, g.1, g.2, g.3, g.4)
