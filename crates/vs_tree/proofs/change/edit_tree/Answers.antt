use Rattle.vs_tree.proofs.change.edit_tree.Goals as goal
use Rattle.std.proofs.Common.{◌≡◌, ℕ, ◌+◌, ◌-◌, ◌≤◌, List, Some, refl, arith, sym, ap, subst, ◌∙◌, length}
use Rattle.vs_pages.specs.Maps.{Map}
use Rattle.vs_pages.proofs.Steps.{Continues-trans, OnlyReads-continues}
use Rattle.vs_tree_shape.specs.declared.entries.Entry.{Entry}
use Rattle.vs_tree_shape.specs.Changes.{HasLineBelow, pointer_entry}
use Rattle.vs_tree_shape.specs.Places.{lines_below, replaced}
use Rattle.vs_tree_shape.proofs.Roots.{first_above, depth_short, not_flat, lines_edited}
use Rattle.vs_tree_shape.specs.Filled.{HasFilledBelow, AllFilledBelow}
use Rattle.vs_tree_shape.proofs.Fills.{filled_at, filled_less, place_within}
use Rattle.vs_tree_shape.proofs.Steps.{above_down, above_entries, filled_inside, pointers_there}
use Rattle.vs_tree_blocks.proofs.ExchangeLemmas.{replaced_below}
use Rattle.vs_tree_blocks.proofs.FillLemmas.{root_filled}
use Rattle.vs_tree_shape.specs.Filled.{HasFilledRootBut, steps_back}
use Rattle.vs_tree_shape.specs.Paths.{IsWalk}
use Rattle.vs_tree_blocks.specs.Fills.{KeepsFilled, IsThinned}
use Rattle.vs_tree_blocks.specs.Pointers.{HasRoot}
use Rattle.vs_tree.proofs.ThinEdits.{IsThinAbove, lost_added, lost_full, lost_single, thin_step}
use Rattle.vs_tree.proofs.EditFills.{root_enough}
use Rattle.vs_tree_shape.specs.DataBlocks.{Cuts, blocks_below, read_blocks}
use Rattle.vs_tree_shape.proofs.Blocks.{cuts_inside}
use Rattle.vs_tree_blocks.proofs.BlocksLemmas.{root_blocks}
use Rattle.vs_tree_blocks.specs.Blocks.{data_blocks, tree_format, entries_at, LeadsToPointers}
use Rattle.vs_tree_blocks.specs.Edits.{IsEditedInto, change_of, most_in_tree}
use Rattle.vs_tree_blocks.specs.Pointers.{HasEntry}
use Rattle.vs_tree.proofs.Bounds.{few_below, few_lines, go_below, go_lines, root_work}
use Rattle.vs_tree.proofs.ChangeLemmas.{entries_kept, has_entry, place_got, promised, few_added}

pub damaged-requires-clause-silent : goal.damaged-requires-clause-silent
damaged-requires-clause-silent g c = λ told. let r = c.requires.there told in
    omega (arith, depth_short _ _ _ _ _ r.1.lines_are (omega (arith, c.requires.within, r.1.count)) (c.count.ensures told), c.if-count-root.true)

pub find_below-requires-clause-there : goal.find_below-requires-clause-there
find_below-requires-clause-there g c = λ told. let r = c.requires.there told in
    let e = above_entries _ _ (pointer_entry 1 c.args.root.lines) c.args.root.height _ (not_flat _ _ _ _ r.1.lines_are) (first_above _ _ _ c.args.at _ _ r.1.lines_are r.1.count c.requires.within c.requires.small) in
    let P : Entry → Type 0 = λ x. LeadsToPointers (g.P.Pages.shows c.args.pages.now).present x in
    subst P (sym c.entry-top.ensures) (record { entries = e.0; reads = e.1; lines = e.2; single = e.3 })

pub edit_below-requires-clause-there : goal.edit_below-requires-clause-there
edit_below-requires-clause-there g c = λ told. let r = c.requires.there told in
    let of = c.in_ok-place.ensures.place told in
    let place = c.in_ok-place.place in
    let reads = sym (ap (λ (e : Entry). entries_at (g.P.Pages.shows c.args.pages.now).present e.block) c.entry-top.ensures) ∙ of.reads in
    let here = above_down _ _ (pointer_entry 1 c.args.root.lines) c.args.root.height _ of.entries place (not_flat _ _ _ _ r.1.lines_are) reads of.is (first_above _ _ _ c.args.at _ _ r.1.lines_are r.1.count c.requires.within c.requires.small) in
    let less : c.args.root.height - 1 ≡ c.saturating_sub.result = sym c.saturating_sub.ensures in
    let P : Map → Type 0 = λ m. HasLineBelow tree_format m place.entry (c.args.root.height - 1) place.rest in
    let Q : ℕ → Type 0 = λ d. HasLineBelow tree_format (g.P.Pages.shows c.find_below.new.pages).present place.entry d place.rest in
    subst Q less (subst P (sym (c.find_below.ensures.kept.present told)) here)

pub edit_below-requires-clause-small : goal.edit_below-requires-clause-small
edit_below-requires-clause-small g c = omega (arith, c.in_ok-place.ensures.inside, ap (λ (e : Entry). e.lines) c.entry-top.ensures, c.requires.small)

pub exchange_in_root-requires-clause-there : goal.exchange_in_root-requires-clause-there
exchange_in_root-requires-clause-there g c = λ told. let r = c.requires.there told in
    let of = c.in_ok-place.ensures.place told in
    let top : Entry = pointer_entry 1 c.args.root.lines in
    let all : List Entry = replaced of.entries c.in_ok-place.place.index c.in_ok-below.below.entries.items in
    let reads = sym (ap (λ (e : Entry). entries_at (g.P.Pages.shows c.args.pages.now).present e.block) c.entry-top.ensures) ∙ of.reads in
    let promise = promised _ _ _ _ _ _ _ _ _ _ (c.find_below.ensures.kept.present told) c.saturating_sub.ensures (c.in_ok-below.ensures.wrote told) in
    let above = first_above _ _ _ c.args.at _ _ r.1.lines_are r.1.count c.requires.within c.requires.small in
    let same = pointers_there _ _ (g.P.Pages.shows c.edit_below.new.pages).present top c.args.root.height _ c.in_ok-below.below.removed.bytes (change_of c.args.edit c.in_ok-below.below.removed.lines) of.entries c.in_ok-below.below.entries.items all c.in_ok-place.place (not_flat _ _ _ _ r.1.lines_are) reads of.is refl promise above in
    let e = above_entries _ _ top c.args.root.height _ (not_flat _ _ _ _ r.1.lines_are) above in
    let P : Entry → Type 0 = λ x. HasEntry (g.P.Pages.shows c.edit_below.new.pages).present x c.in_ok-place.place in
    subst P (sym c.entry-top.ensures) (has_entry (g.P.Pages.shows c.args.pages.now).present (g.P.Pages.shows c.edit_below.new.pages).present top c.args.at c.in_ok-place.place of.entries (record { entries = e.0; reads = e.1; lines = e.2; single = e.3 }) reads of.is same)

pub exchange_in_root-requires-clause-small : goal.exchange_in_root-requires-clause-small
exchange_in_root-requires-clause-small g c =
    omega (arith, ap lines_below c.deref.ensures.value, c.in_ok-below.ensures.lines, ap (λ (e : Entry). e.lines) c.entry-top.ensures, c.requires.small, few_added c.args.edit c.requires.edit)

pub overflow_add-result-2 : goal.overflow_add-result-2
overflow_add-result-2 g c = omega (arith, c.requires.small, c.added.ensures, few_added c.args.edit c.requires.edit)

pub overflow_sub-result : goal.overflow_sub-result
overflow_sub-result g c = omega (arith, c.in_ok-place.ensures.inside, c.in_ok-below.ensures.lines, ap (λ (e : Entry). e.lines) c.entry-top.ensures, c.added.ensures)

pub returns-clause-lines : goal.returns-clause-lines
returns-clause-lines g c = omega (arith, c.in_ok-place.ensures.inside, c.in_ok-below.ensures.lines, ap (λ (e : Entry). e.lines) c.entry-top.ensures, c.added.ensures)

pub returns-clause-edited : goal.returns-clause-edited
returns-clause-edited g c = λ told lines has.
    let of = c.in_ok-place.ensures.place told in
    let top : Entry = pointer_entry 1 c.args.root.lines in
    let all : List Entry = replaced of.entries c.in_ok-place.place.index c.deref.result.now in
    let mid = ap (λ by. replaced of.entries c.in_ok-place.place.index by) c.deref.ensures.value in
    let reads = sym (ap (λ (e : Entry). entries_at (g.P.Pages.shows c.args.pages.now).present e.block) c.entry-top.ensures) ∙ of.reads in
    let promise = promised _ _ _ _ _ _ _ _ _ _ (c.find_below.ensures.kept.present told) c.saturating_sub.ensures (c.in_ok-below.ensures.wrote told) in
    let above = first_above _ _ _ c.args.at _ _ has.lines_are has.count c.requires.within c.requires.small in
    let same = pointers_there _ _ (g.P.Pages.shows c.edit_below.new.pages).present top c.args.root.height _ c.in_ok-below.below.removed.bytes (change_of c.args.edit c.in_ok-below.below.removed.lines) of.entries c.in_ok-below.below.entries.items all c.in_ok-place.place (not_flat _ _ _ _ has.lines_are) reads of.is mid promise above in
    let now = entries_kept (g.P.Pages.shows c.args.pages.now).present (g.P.Pages.shows c.edit_below.new.pages).present 1 of.entries same reads in
    lines_edited _ _ _ _ c.args.root.height c.in_ok-more.more c.args.at c.in_ok-below.below.removed.bytes c.args.root.lines (change_of c.args.edit c.in_ok-below.below.removed.lines) lines of.entries c.in_ok-below.below.entries.items all c.in_ok-place.place has.lines_are has.count c.requires.within c.requires.small reads of.is mid promise (c.in_ok-more.ensures.wrote told of.entries now told)

pub returns-clause-works : goal.returns-clause-works
returns-clause-works g c = λ told lines has slight.
    let of = c.in_ok-place.ensures.place told in
    let reads = sym (ap (λ (e : Entry). entries_at (g.P.Pages.shows c.args.pages.now).present e.block) c.entry-top.ensures) ∙ of.reads in
    let up = root_work c.args.edit c.args.root.height (length c.deref.result.now) _ _ (not_flat _ _ _ _ has.lines_are) (omega (arith, ap length c.deref.ensures.value, c.in_ok-below.ensures.single)) (c.in_ok-more.ensures.works told) (λ few. c.in_ok-more.ensures.one few told) in
    few_lines _ _ _ c.args.root c.args.at (most_in_tree c.args.edit c.args.root.height) c.args.edit lines has c.requires.within c.requires.small slight
    (few_below _ _ _ _ _ _ (pointer_entry 1 c.args.root.lines) _ c.args.root.height c.args.at up.0 (most_in_tree c.args.edit c.args.root.height) c.args.edit of.entries c.in_ok-place.place (not_flat _ _ _ _ has.lines_are) reads of.is (c.find_below.ensures.kept.present told) (c.find_below.ensures.kept.still.worked told) c.saturating_sub.ensures up.1 (c.in_ok-below.ensures.works told) up.2)

pub returns-clause-level : goal.returns-clause-level
returns-clause-level g c = λ few. omega (arith, c.in_ok-more.ensures.level (omega (arith, ap length c.deref.ensures.value, c.in_ok-below.ensures.single, few)))

pub returns-clause-kept : goal.returns-clause-kept
returns-clause-kept g c =
    let on = g.met.P.Pages.stays_on in
    Continues-trans on (Continues-trans on (OnlyReads-continues c.find_below.ensures.kept) c.edit_below.ensures.kept) c.exchange_in_root.ensures.kept

pub returns-in_err-below-clause-kept : goal.returns-in_err-below-clause-kept
returns-in_err-below-clause-kept g c = Continues-trans g.met.P.Pages.stays_on (OnlyReads-continues c.find_below.ensures.kept) c.edit_below.ensures.kept

pub returns-in_err-more-clause-kept : goal.returns-in_err-more-clause-kept
returns-in_err-more-clause-kept g c = Continues-trans g.met.P.Pages.stays_on (Continues-trans g.met.P.Pages.stays_on (OnlyReads-continues c.find_below.ensures.kept) c.edit_below.ensures.kept) c.exchange_in_root.ensures.kept

pub returns-in_err-place-clause-kept : goal.returns-in_err-place-clause-kept
returns-in_err-place-clause-kept g c = OnlyReads-continues c.find_below.ensures.kept

pub returns-clause-filled : goal.returns-clause-filled
returns-clause-filled g c = λ most least keeps left told filled.
    let r = c.requires.there told in
    let has = r.1 in
    let m : Map = (g.P.Pages.shows c.args.pages.now).present in
    let n : Map = (g.P.Pages.shows c.exchange_in_root.new.pages).present in
    let height : ℕ = c.args.root.height in
    let of = c.in_ok-place.ensures.place told in
    let place = c.in_ok-place.place in
    let top : Entry = pointer_entry 1 c.args.root.lines in
    let all : List Entry = replaced of.entries place.index c.deref.result.now in
    let mid = ap (λ by. replaced of.entries place.index by) c.deref.ensures.value in
    let change = change_of c.args.edit c.in_ok-below.below.removed.lines in
    let reads = sym (ap (λ (e : Entry). entries_at m e.block) c.entry-top.ensures) ∙ of.reads in
    let promise = promised _ _ _ _ _ _ _ _ _ _ (c.find_below.ensures.kept.present told) c.saturating_sub.ensures (c.in_ok-below.ensures.wrote told) in
    let flat = not_flat _ _ _ _ has.lines_are in
    let above = first_above _ _ _ c.args.at _ _ has.lines_are has.count c.requires.within c.requires.small in
    let same = pointers_there _ _ (g.P.Pages.shows c.edit_below.new.pages).present top height _ c.in_ok-below.below.removed.bytes change of.entries c.in_ok-below.below.entries.items all place flat reads of.is mid promise above in
    let now = entries_kept m (g.P.Pages.shows c.edit_below.new.pages).present 1 of.entries same reads in
    let both : Some filled.0 ≡ Some of.entries = sym filled.1 ∙ reads in
    let one : filled.0 ≡ of.entries = cc in
    let old : AllFilledBelow tree_format m most (height - 1) of.entries = subst (λ (es : List Entry). AllFilledBelow tree_format m most (height - 1) es) one filled.3 in
    let child = filled_at tree_format m most (height - 1) of.entries c.args.at place of.is old in
    let below = c.in_ok-below.ensures.filled told most least keeps (subst (λ (d : ℕ). HasFilledBelow tree_format (g.P.Pages.shows c.find_below.new.pages).present most d place.entry) (sym c.saturating_sub.ensures)
    (subst (λ (f : Map). HasFilledBelow tree_format f most (height - 1) place.entry) (sym (c.find_below.ensures.kept.present told)) child)) in
    let new : AllFilledBelow tree_format (g.P.Pages.shows c.edit_below.new.pages).present least (height - 1) c.in_ok-below.below.entries.items =
    subst (λ (d : ℕ). AllFilledBelow tree_format (g.P.Pages.shows c.edit_below.new.pages).present least d c.in_ok-below.below.entries.items) c.saturating_sub.ensures below.0 in
    let inside = filled_inside tree_format m _ n top height least c.args.at c.in_ok-below.below.removed.bytes change of.entries c.in_ok-below.below.entries.items all place flat reads of.is mid promise above
    (c.in_ok-more.ensures.others told) (filled_less tree_format m most least (height - 1) of.entries (omega (arith, keeps.sum)) old) new in
    let e = above_entries _ _ top height _ flat above in
    let listed : Some e.0 ≡ Some of.entries = sym e.1 ∙ reads in
    let those : e.0 ≡ of.entries = cc in
    let sum : lines_below of.entries ≡ c.args.root.lines = ap lines_below (sym those) ∙ e.2 in
    let some : 1 ≤ lines_below all = omega (arith, left, sum, replaced_below of.entries c.deref.result.now place.index place.entry (place_got of.entries c.args.at place of.is), ap lines_below c.deref.ensures.value, c.in_ok-below.ensures.lines, c.in_ok-place.ensures.inside, ap (λ (x : Entry). x.lines) c.entry-top.ensures, c.added.ensures) in
    let enough = root_enough c.args.edit height c.in_ok-below.below.removed.lines place.entry.lines place.index of.entries c.deref.result.now c.in_ok-below.ensures.may_take (place_within of.entries c.args.at place of.is) (omega (arith, filled.2, ap length one))
    (omega (arith, ap lines_below c.deref.ensures.value, c.in_ok-below.ensures.lines)) (omega (arith, c.in_ok-place.ensures.within)) some (λ deep. omega (arith, ap length c.deref.ensures.value, below.1 (omega (arith, deep, c.saturating_sub.ensures)))) in
    root_filled n least height c.in_ok-more.more all (omega (arith, has.lines_are.deep)) keeps.half enough (c.in_ok-more.ensures.deeper told of.entries now) (c.in_ok-more.ensures.blocks told of.entries now) inside

pub returns-clause-thins : goal.returns-clause-thins
returns-clause-thins g c = λ takes told filled two entry rest walk.
    let r = c.requires.there told in
    let has = r.1 in
    let m : Map = (g.P.Pages.shows c.args.pages.now).present in
    let m1 : Map = (g.P.Pages.shows c.find_below.new.pages).present in
    let n1 : Map = (g.P.Pages.shows c.edit_below.new.pages).present in
    let n : Map = (g.P.Pages.shows c.exchange_in_root.new.pages).present in
    let height : ℕ = c.args.root.height in
    let back : ℕ = steps_back entry rest in
    let of = c.in_ok-place.ensures.place told in
    let place = c.in_ok-place.place in
    let top : Entry = pointer_entry 1 c.args.root.lines in
    let new : List Entry = c.in_ok-below.below.entries.items in
    let all : List Entry = replaced of.entries place.index c.deref.result.now in
    let mid = ap (λ by. replaced of.entries place.index by) c.deref.ensures.value in
    let change = change_of c.args.edit c.in_ok-below.below.removed.lines in
    let reads = sym (ap (λ (e : Entry). entries_at m e.block) c.entry-top.ensures) ∙ of.reads in
    let promise = promised _ _ _ _ _ _ _ _ _ _ (c.find_below.ensures.kept.present told) c.saturating_sub.ensures (c.in_ok-below.ensures.wrote told) in
    let flat = not_flat _ _ _ _ has.lines_are in
    let above = first_above _ _ _ c.args.at _ _ has.lines_are has.count c.requires.within c.requires.small in
    let same = pointers_there _ _ n1 top height _ c.in_ok-below.below.removed.bytes change of.entries new all place flat reads of.is mid promise above in
    let now = entries_kept m n1 1 of.entries same reads in
    let both : Some filled.0 ≡ Some of.entries = sym filled.1 ∙ reads in
    let one : filled.0 ≡ of.entries = cc in
    let old : AllFilledBelow tree_format m 32 (height - 1) of.entries = subst (λ (es : List Entry). AllFilledBelow tree_format m 32 (height - 1) es) one filled.3 in
    let e = above_entries _ _ top height _ flat above in
    let listed : Some e.0 ≡ Some of.entries = sym e.1 ∙ reads in
    let those : e.0 ≡ of.entries = cc in
    let sum : lines_below of.entries ≡ c.args.root.lines = ap lines_below (sym those) ∙ e.2 in
    let none = lost_added c.args.edit takes.0 in
    let less : lines_below new + 1 ≡ place.entry.lines = omega (arith, c.in_ok-below.ensures.lines, takes.1, none) in
    let left : lines_below all + 1 ≡ c.args.root.lines =
    omega (arith, less, sum, ap lines_below c.deref.ensures.value, replaced_below of.entries c.deref.result.now place.index place.entry (place_got of.entries c.args.at place of.is)) in
    let keeps : KeepsFilled c.args.edit 32 31 = record { lines = lost_full c.args.edit takes.0; some = omega arith; half = omega arith; sum = omega (arith, takes.0) } in
    let to_child : HasFilledBelow tree_format m 32 (height - 1) place.entry → HasFilledBelow tree_format m1 32 c.saturating_sub.result place.entry =
    λ kid. subst (λ (d : ℕ). HasFilledBelow tree_format m1 32 d place.entry) (sym c.saturating_sub.ensures) (subst (λ (f : Map). HasFilledBelow tree_format f 32 (height - 1) place.entry) (sym (c.find_below.ensures.kept.present told)) kid) in
    let child = filled_at tree_format m 32 (height - 1) of.entries c.args.at place of.is old in
    let below = c.in_ok-below.ensures.filled told 32 31 keeps (to_child child) in
    let spare : AllFilledBelow tree_format n1 31 (height - 1) new = subst (λ (d : ℕ). AllFilledBelow tree_format n1 31 d new) c.saturating_sub.ensures below.0 in
    let thin : IsThinAbove n (height - 1) c.args.at back c.args.root.lines all =
    thin_step m n1 n top height c.args.at c.in_ok-below.below.removed.bytes change of.entries new all place entry rest flat reads of.is mid promise above (c.in_ok-more.ensures.others told) old two less left walk spare
    (λ kid higher some down. subst (λ (d : ℕ). IsThinned n1 d place.rest back new) c.saturating_sub.ensures
    (c.in_ok-below.ensures.thins told takes (to_child kid) (omega (arith, higher, c.saturating_sub.ensures)) some entry rest
    (subst (λ (d : ℕ). IsWalk tree_format m1 (d - 1) place.entry place.rest entry rest) (sym c.saturating_sub.ensures) (subst (λ (f : Map). IsWalk tree_format f (height - 1 - 1) place.entry place.rest entry rest) (sym (c.find_below.ensures.kept.present told)) down)))) in
    let few : length c.deref.result.now ≤ 1 = omega (arith, ap length c.deref.ensures.value, c.in_ok-below.ensures.single, lost_single c.args.edit takes.0) in
    let level : c.in_ok-more.more ≡ 0 = c.in_ok-more.ensures.level few in
    let root : HasRoot n all 0 = subst (λ (k : ℕ). HasRoot n all k) level (c.in_ok-more.ensures.blocks told of.entries now) in
    let there : HasFilledRootBut tree_format n 32 height (c.args.at - back) = (all, root, thin.filled) in
    subst (λ (h : ℕ). HasFilledRootBut tree_format n 32 h (c.args.at - back)) (omega (arith, level)) there

pub returns-clause-only : goal.returns-clause-only
returns-clause-only g c = λ out told lines has slight.
    let of = c.in_ok-place.ensures.place told in
    let reads = sym (ap (λ (e : Entry). entries_at (g.P.Pages.shows c.args.pages.now).present e.block) c.entry-top.ensures) ∙ of.reads in
    go_lines _ _ _ c.args.root c.args.at c.args.edit lines has c.requires.within c.requires.small slight
    (go_below _ _ _ _ _ _ (pointer_entry 1 c.args.root.lines) _ c.args.root.height c.args.at c.args.edit of.entries c.in_ok-place.place (not_flat _ _ _ _ has.lines_are) reads of.is (c.find_below.ensures.kept.present told) (c.find_below.ensures.kept.still.worked told)
    c.saturating_sub.ensures (c.in_ok-below.ensures.only told out) (c.in_ok-more.ensures.one (omega (arith, ap length c.deref.ensures.value, c.in_ok-below.ensures.single, out)) told))

pub returns-clause-cuts : goal.returns-clause-cuts
returns-clause-cuts g c = λ told.
    let r = c.requires.there told in
    let has = r.1 in
    let m : Map = (g.P.Pages.shows c.args.pages.now).present in
    let n1 : Map = (g.P.Pages.shows c.edit_below.new.pages).present in
    let n : Map = (g.P.Pages.shows c.exchange_in_root.new.pages).present in
    let height : ℕ = c.args.root.height in
    let of = c.in_ok-place.ensures.place told in
    let place = c.in_ok-place.place in
    let top : Entry = pointer_entry 1 c.args.root.lines in
    let new : List Entry = c.in_ok-below.below.entries.items in
    let all : List Entry = replaced of.entries place.index c.deref.result.now in
    let mid = ap (λ by. replaced of.entries place.index by) c.deref.ensures.value in
    let gone : ℕ = c.in_ok-below.below.removed.lines in
    let change = change_of c.args.edit gone in
    let reads = sym (ap (λ (e : Entry). entries_at m e.block) c.entry-top.ensures) ∙ of.reads in
    let promise = promised _ _ _ _ _ _ _ _ _ _ (c.find_below.ensures.kept.present told) c.saturating_sub.ensures (c.in_ok-below.ensures.wrote told) in
    let flat = not_flat _ _ _ _ has.lines_are in
    let above = first_above _ _ _ c.args.at _ _ has.lines_are has.count c.requires.within c.requires.small in
    let same = pointers_there _ _ n1 top height _ c.in_ok-below.below.removed.bytes change of.entries new all place flat reads of.is mid promise above in
    let now = entries_kept m n1 1 of.entries same reads in
    let Into = IsEditedInto c.args.edit gone in
    let Q : ℕ → Map → Type 0 = λ d f. Cuts (read_blocks tree_format d f place.entry.block place.entry.pages) place.rest Into (blocks_below tree_format d n1 new) in
    let inside = cuts_inside tree_format m n1 n top height c.args.at c.in_ok-below.below.removed.bytes change of.entries new all place Into flat reads of.is mid promise above (c.in_ok-more.ensures.others told)
    (subst (λ (d : ℕ). Q d m) c.saturating_sub.ensures (subst (λ (f : Map). Q c.saturating_sub.result f) (c.find_below.ensures.kept.present told) (c.in_ok-below.ensures.cuts told))) in
    let up = root_blocks n height c.in_ok-more.more all (omega (arith, has.lines_are.deep)) c.in_ok-more.ensures.more (c.in_ok-more.ensures.blocks told of.entries now) in
    subst (λ (bs : List (List (List ℕ))). Cuts (data_blocks m height) c.args.at Into bs) (sym up) inside
