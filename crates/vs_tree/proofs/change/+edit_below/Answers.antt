-- The blocks below change first, and the clauses on the store are those of the calls before.
use Rattle.vs_tree.proofs.change.+edit_below.Goals as goal
use Rattle.std.proofs.Common.{◌≡◌, ℕ, suc, ◌+◌, ◌-◌, List, [], ◌∷◌, Some, IsTrue, IfOk, arith, refl, rules, sym, ap, subst, ◌≤◌, length, ◌∙◌}
use Rattle.vs_pages.proofs.Steps.{Continues-trans, OnlyReads-continues}
use Rattle.std.proofs.lemmas.Result.{IfOk-weaker, on_ok_weaker}
use Rattle.vs_pages.specs.Maps.{Map}
use Rattle.vs_tree_shape.specs.declared.entries.Entry.{Entry}
use Rattle.vs_tree_shape.specs.Changes.{HasLineBelow, ChangesBelow}
use Rattle.vs_tree_shape.proofs.Walks.{above_there}
use Rattle.vs_tree_shape.specs.Places.{lines_below, replaced}
use Rattle.vs_tree_shape.specs.Filled.{HasFilledBelow, AllFilledBelow}
use Rattle.vs_tree_shape.proofs.Fills.{filled_at, filled_entries, filled_less, place_within}
use Rattle.vs_tree_blocks.specs.Pointers.{LeadTo, pointer_blocks}
use Rattle.vs_tree.proofs.EditFills.{some_entries}
use Rattle.vs_tree_shape.proofs.Steps.{above_down, above_entries, edited_pointers, filled_inside, pointers_there}
use Rattle.vs_tree_blocks.specs.Blocks.{tree_format}
use Rattle.vs_tree_shape.specs.DataBlocks.{Cuts, blocks_below, read_blocks}
use Rattle.vs_tree_shape.proofs.Blocks.{cuts_inside}
use Rattle.vs_tree_blocks.proofs.BlocksLemmas.{edited_block, pointers_blocks}
use Rattle.vs_tree_blocks.specs.Edits.{IsEditedInto, change_of, WorksBelow, most_entries, most_worked}
use Rattle.vs_tree_blocks.specs.declared.edit.Edit.{Edit}
use Rattle.vs_tree_blocks.specs.declared.edit.Edit.TheVariants.{Before, After, Behind, Remove}
use Rattle.vs_tree_blocks.specs.declared.edit.Edited.{Edited}
use Rattle.vs_tree_blocks.specs.Fills.{KeepsFilled}
use Rattle.vs_tree_shape.specs.Filled.{steps_back}
use Rattle.vs_tree_shape.specs.Paths.{IsWalk}
use Rattle.vs_tree_blocks.proofs.ExchangeLemmas.{replaced_below}
use Rattle.vs_tree.proofs.ThinEdits.{IsThinAbove, lost_added, lost_full, lost_single, single_entry, thin_entry, thin_step}
use Rattle.vs_tree_blocks.proofs.FillLemmas.{after_full, blocks_filled, lead_single, pointers_filled}
use Rattle.vs_tree.proofs.Bounds.{GoesBelow, few_below, go_below, step_work}
use Rattle.vs_tree.proofs.EditFills.{entries_enough}
use Rattle.vs_tree.proofs.ChangeLemmas.{entries_kept, has_entry, place_got, promised, few_added}

pub returns-then-depth-eq0-clause-wrote : goal.returns-then-depth-eq0-clause-wrote
returns-then-depth-eq0-clause-wrote g t c =
    let P : ℕ → Type 0 = λ d. IfOk c.edit_data.result (λ (after : Edited). IsTrue g.P.Pages.tells → ChangesBelow tree_format (g.P.Pages.shows c.args.pages.now).present (g.P.Pages.shows c.edit_data.new.pages).present c.args.top d c.args.at after.removed.bytes (change_of c.args.edit after.removed.lines) after.entries.items) in
    let none : c.args.depth ≡ 0 = c.if-depth-eq0.true in
    subst P (sym none) c.edit_data.ensures.wrote

pub find_below-requires-clause-there : goal.find_below-requires-clause-there
find_below-requires-clause-there g t c = λ told. let e = above_entries _ _ c.args.top c.args.depth _ c.if-depth-eq0.false (c.requires.there told) in record { entries = e.0; reads = e.1; lines = e.2; single = e.3 }

pub edit_below-requires : goal.edit_below-requires
edit_below-requires g t c = λ κs within.
    let place = c.in_ok-place.place in (
      omega arith,
      (
        search rules,
        (
          c.find_below.ensures.kept.valid,
          (
            c.in_ok-place.ensures.fields,
            (
              c.in_ok-place.ensures.within,
              (
                omega (arith, c.in_ok-place.ensures.inside, c.requires.small),
                (
                  c.requires.edit,
                  λ told.
                      let of = c.in_ok-place.ensures.place told in
                      let here = above_down _ _ c.args.top c.args.depth _ of.entries place c.if-depth-eq0.false of.reads of.is (c.requires.there told) in
                      let P : Map → Type 0 = λ m. HasLineBelow tree_format m place.entry (c.args.depth - 1) place.rest in
                      subst P (sym (c.find_below.ensures.kept.present told)) here,
                ),
              ),
            ),
          ),
        ),
      ),
    )

pub exchange_entry-requires-clause-there : goal.exchange_entry-requires-clause-there
exchange_entry-requires-clause-there g t c = λ told.
    let of = c.in_ok-place.ensures.place told in
    let all : List Entry = replaced of.entries c.in_ok-place.place.index c.in_ok-below.below.entries.items in
    let promise = promised _ _ _ _ _ _ _ _ _ _ (c.find_below.ensures.kept.present told) refl (c.in_ok-below.ensures.wrote told) in
    let same = pointers_there _ _ (g.P.Pages.shows c.edit_below.new.pages).present c.args.top c.args.depth _ c.in_ok-below.below.removed.bytes (change_of c.args.edit c.in_ok-below.below.removed.lines) of.entries c.in_ok-below.below.entries.items all c.in_ok-place.place c.if-depth-eq0.false of.reads of.is refl promise (c.requires.there told) in
    let e = above_entries _ _ c.args.top c.args.depth _ c.if-depth-eq0.false (c.requires.there told) in
    has_entry (g.P.Pages.shows c.args.pages.now).present (g.P.Pages.shows c.edit_below.new.pages).present c.args.top c.args.at c.in_ok-place.place of.entries (record { entries = e.0; reads = e.1; lines = e.2; single = e.3 }) of.reads of.is same

pub exchange_entry-requires-clause-small : goal.exchange_entry-requires-clause-small
exchange_entry-requires-clause-small g t c = omega (arith, ap lines_below c.deref.ensures.value, c.in_ok-below.ensures.lines, c.requires.small, few_added c.args.edit c.requires.edit)

pub returns-clause-wrote : goal.returns-clause-wrote
returns-clause-wrote g t c = λ told.
    let of = c.in_ok-place.ensures.place told in
    let all : List Entry = replaced of.entries c.in_ok-place.place.index c.deref.result.now in
    let mid = ap (λ by. replaced of.entries c.in_ok-place.place.index by) c.deref.ensures.value in
    let promise = promised _ _ _ _ _ _ _ _ _ _ (c.find_below.ensures.kept.present told) refl (c.in_ok-below.ensures.wrote told) in
    let same = pointers_there _ _ (g.P.Pages.shows c.edit_below.new.pages).present c.args.top c.args.depth _ c.in_ok-below.below.removed.bytes (change_of c.args.edit c.in_ok-below.below.removed.lines) of.entries c.in_ok-below.below.entries.items all c.in_ok-place.place c.if-depth-eq0.false of.reads of.is mid promise (c.requires.there told) in
    let now = entries_kept (g.P.Pages.shows c.args.pages.now).present (g.P.Pages.shows c.edit_below.new.pages).present c.args.top.block of.entries same of.reads in
    edited_pointers _ _ _ _ _ c.args.depth _ c.in_ok-below.below.removed.bytes (change_of c.args.edit c.in_ok-below.below.removed.lines) of.entries c.in_ok-below.below.entries.items all c.in_ok-above.above.items c.in_ok-place.place c.if-depth-eq0.false of.reads of.is mid promise (c.in_ok-above.ensures.wrote told of.entries now told)

pub returns-clause-lines : goal.returns-clause-lines
returns-clause-lines g t c = omega (arith, ap lines_below c.deref.ensures.value, c.in_ok-below.ensures.lines, c.in_ok-above.ensures.lines)

pub returns-then-depth-eq0-clause-works : goal.returns-then-depth-eq0-clause-works
returns-then-depth-eq0-clause-works g t c = on_ok_weaker c.edit_data.result
    (λ few told.
    let none : c.args.depth ≡ 0 = c.if-depth-eq0.true in
    let P : ℕ → Type 0 = λ d. WorksBelow (g.P.Pages.shows c.args.pages.now).present (g.P.Pages.shows c.args.pages.now).worked (g.P.Pages.shows c.edit_data.new.pages).worked c.args.top d c.args.at c.args.edit (most_worked c.args.edit d) in
    subst P (sym none) (few told))
    c.edit_data.ensures.works

pub edit_data-requires-clause-there : goal.edit_data-requires-clause-there
edit_data-requires-clause-there g t c = λ told. subst (λ (d : ℕ). HasLineBelow tree_format (g.P.Pages.shows c.args.pages.now).present c.args.top d c.args.at) c.if-depth-eq0.true (c.requires.there told)

pub returns-clause-works : goal.returns-clause-works
returns-clause-works g t c = λ told.
    let of = c.in_ok-place.ensures.place told in
    let up = step_work c.args.edit c.args.depth (length c.deref.result.now) _ _ c.if-depth-eq0.false (omega (arith, ap length c.deref.ensures.value, c.in_ok-below.ensures.single)) (c.in_ok-above.ensures.works told) (λ few. c.in_ok-above.ensures.one few told) in
    few_below _ _ _ _ _ _ c.args.top _ c.args.depth c.args.at up.0 (most_worked c.args.edit c.args.depth) c.args.edit of.entries c.in_ok-place.place c.if-depth-eq0.false of.reads of.is (c.find_below.ensures.kept.present told) (c.find_below.ensures.kept.still.worked told) refl up.1 (c.in_ok-below.ensures.works told) up.2

-- what an exchange of so many entries leaves at most
few_single : (edit : Edit) (by above : ℕ) → by ≤ most_entries edit → above ≤ 3 → (by ≤ 1 → above ≤ 1) → above ≤ most_entries edit
few_single (Before run) by above few most one = most
few_single (After run) by above few most one = most
few_single (Behind runs) by above few most one = omega (arith, most)
few_single (Remove most) by above few all one = one few

pub returns-clause-single : goal.returns-clause-single
returns-clause-single g t c = few_single c.args.edit (length c.deref.result.now) _ (omega (arith, ap length c.deref.ensures.value, c.in_ok-below.ensures.single)) c.in_ok-above.ensures.few c.in_ok-above.ensures.single

pub returns-in_err-below-clause-kept : goal.returns-in_err-below-clause-kept
returns-in_err-below-clause-kept g t c = Continues-trans g.met.P.Pages.stays_on (OnlyReads-continues c.in_ok-place.ensures.kept) c.edit_below.ensures.kept

pub returns-in_err-above-clause-kept : goal.returns-in_err-above-clause-kept
returns-in_err-above-clause-kept g t c = Continues-trans g.met.P.Pages.stays_on (Continues-trans g.met.P.Pages.stays_on (OnlyReads-continues c.in_ok-place.ensures.kept) c.in_ok-below.ensures.kept) c.exchange_entry.ensures.kept

pub returns-clause-kept : goal.returns-clause-kept
returns-clause-kept g t c = Continues-trans g.met.P.Pages.stays_on (Continues-trans g.met.P.Pages.stays_on (OnlyReads-continues c.in_ok-place.ensures.kept) c.in_ok-below.ensures.kept) c.in_ok-above.ensures.kept

pub returns-in_err-place-clause-kept : goal.returns-in_err-place-clause-kept
returns-in_err-place-clause-kept g t c = OnlyReads-continues c.find_below.ensures.kept

pub returns-then-depth-eq0-clause-kept : goal.returns-then-depth-eq0-clause-kept
returns-then-depth-eq0-clause-kept g t c = c.edit_data.ensures.kept

pub returns-then-depth-eq0-clause-may_take : goal.returns-then-depth-eq0-clause-may_take
returns-then-depth-eq0-clause-may_take g t c = c.edit_data.ensures.may_take

pub returns-then-depth-eq0-clause-fields : goal.returns-then-depth-eq0-clause-fields
returns-then-depth-eq0-clause-fields g t c = c.edit_data.ensures.fields

pub returns-then-depth-eq0-clause-few : goal.returns-then-depth-eq0-clause-few
returns-then-depth-eq0-clause-few g t c = c.edit_data.ensures.few

pub returns-then-depth-eq0-clause-filled : goal.returns-then-depth-eq0-clause-filled
returns-then-depth-eq0-clause-filled g t c = IfOk-weaker c.edit_data.result _ _
    (λ (after : Edited) cuts told most least keeps filled.
    let none : c.args.depth ≡ 0 = c.if-depth-eq0.true in
    let there = above_there _ _ c.args.top c.args.depth c.args.at (c.requires.there told) in
    let n : Map = (g.P.Pages.shows c.edit_data.new.pages).present in
    let all : AllFilledBelow tree_format n least 0 after.entries.items =
    blocks_filled _ n _ least _ after.entries.items (cuts told there.0 there.1) (after_full c.args.top.pages there.0 c.args.at c.args.edit after.removed.lines keeps.lines) in
    (subst (λ (d : ℕ). AllFilledBelow tree_format n least d after.entries.items) (sym none) all, λ some. absurd (omega (arith, some, none))))
    c.edit_data.ensures.blocks

pub returns-clause-filled : goal.returns-clause-filled
returns-clause-filled g t c = λ told most least keeps filled.
    let m : Map = (g.P.Pages.shows c.args.pages.now).present in
    let n : Map = (g.P.Pages.shows c.exchange_entry.new.pages).present in
    let of = c.in_ok-place.ensures.place told in
    let place = c.in_ok-place.place in
    let all : List Entry = replaced of.entries place.index c.deref.result.now in
    let mid = ap (λ by. replaced of.entries place.index by) c.deref.ensures.value in
    let change = change_of c.args.edit c.in_ok-below.below.removed.lines in
    let promise = promised _ _ _ _ _ _ _ _ _ _ (c.find_below.ensures.kept.present told) refl (c.in_ok-below.ensures.wrote told) in
    let same = pointers_there _ _ (g.P.Pages.shows c.edit_below.new.pages).present c.args.top c.args.depth _ c.in_ok-below.below.removed.bytes change of.entries c.in_ok-below.below.entries.items all place c.if-depth-eq0.false of.reads of.is mid promise (c.requires.there told) in
    let now = entries_kept m (g.P.Pages.shows c.edit_below.new.pages).present c.args.top.block of.entries same of.reads in
    let old = filled_entries tree_format m most c.args.depth c.args.top of.entries c.if-depth-eq0.false of.reads filled in
    let child = filled_at tree_format m most (c.args.depth - 1) of.entries c.args.at place of.is old.1 in
    let below = c.in_ok-below.ensures.filled told most least keeps (subst (λ (f : Map). HasFilledBelow tree_format f most (c.args.depth - 1) place.entry) (sym (c.find_below.ensures.kept.present told)) child) in
    let inside = filled_inside tree_format m _ n c.args.top c.args.depth least c.args.at c.in_ok-below.below.removed.bytes change of.entries c.in_ok-below.below.entries.items all place c.if-depth-eq0.false of.reads of.is mid promise (c.requires.there told)
    (c.in_ok-above.ensures.others told) (filled_less tree_format m most least (c.args.depth - 1) of.entries (omega (arith, keeps.sum)) old.1) below.0 in
    let enough = entries_enough c.args.edit most least c.in_ok-below.below.removed.lines place.entry.lines place.index of.entries c.deref.result.now keeps c.in_ok-below.ensures.may_take (place_within of.entries c.args.at place of.is) old.0
    (omega (arith, ap lines_below c.deref.ensures.value, c.in_ok-below.ensures.lines)) (omega (arith, c.in_ok-place.ensures.within)) in
    let up = pointers_filled n least (c.args.depth - 1) c.in_ok-above.above.items all keeps.some keeps.half enough (c.in_ok-above.ensures.blocks told of.entries now told) inside in
    let deep : suc (c.args.depth - 1) ≡ c.args.depth = omega (arith, c.if-depth-eq0.false) in
    (subst (λ (d : ℕ). AllFilledBelow tree_format n least d c.in_ok-above.above.items) deep up.0, λ some. up.1)

pub returns-then-depth-eq0-clause-thins : goal.returns-then-depth-eq0-clause-thins
returns-then-depth-eq0-clause-thins g t c = IfOk-weaker c.edit_data.result _ _
    (λ (after : Edited) single told takes filled deep. absurd (omega (arith, deep, c.if-depth-eq0.true)))
    c.edit_data.ensures.single

pub returns-clause-thins : goal.returns-clause-thins
returns-clause-thins g t c = λ told takes filled deep two entry rest walk.
    let m : Map = (g.P.Pages.shows c.args.pages.now).present in
    let n1 : Map = (g.P.Pages.shows c.edit_below.new.pages).present in
    let n : Map = (g.P.Pages.shows c.exchange_entry.new.pages).present in
    let depth : ℕ = c.args.depth in
    let of = c.in_ok-place.ensures.place told in
    let place = c.in_ok-place.place in
    let new : List Entry = c.in_ok-below.below.entries.items in
    let above : List Entry = c.in_ok-above.above.items in
    let all : List Entry = replaced of.entries place.index c.deref.result.now in
    let mid = ap (λ by. replaced of.entries place.index by) c.deref.ensures.value in
    let change = change_of c.args.edit c.in_ok-below.below.removed.lines in
    let promise = promised _ _ _ _ _ _ _ _ _ _ (c.find_below.ensures.kept.present told) refl (c.in_ok-below.ensures.wrote told) in
    let same = pointers_there _ _ n1 c.args.top depth _ c.in_ok-below.below.removed.bytes change of.entries new all place c.if-depth-eq0.false of.reads of.is mid promise (c.requires.there told) in
    let now = entries_kept m n1 c.args.top.block of.entries same of.reads in
    let old = filled_entries tree_format m 32 depth c.args.top of.entries c.if-depth-eq0.false of.reads filled in
    let e = above_entries _ _ c.args.top depth _ c.if-depth-eq0.false (c.requires.there told) in
    let listed : Some e.0 ≡ Some of.entries = sym e.1 ∙ of.reads in
    let those : e.0 ≡ of.entries = cc in
    let sum : lines_below of.entries ≡ c.args.top.lines = ap lines_below (sym those) ∙ e.2 in
    let none = lost_added c.args.edit takes.0 in
    let size = ap lines_below c.deref.ensures.value in
    let less : lines_below new + 1 ≡ place.entry.lines = omega (arith, c.in_ok-below.ensures.lines, takes.1, none) in
    let left : lines_below all + 1 ≡ c.args.top.lines = omega (arith, less, sum, size, replaced_below of.entries c.deref.result.now place.index place.entry (place_got of.entries c.args.at place of.is)) in
    let keeps : KeepsFilled c.args.edit 32 31 = record { lines = lost_full c.args.edit takes.0; some = omega arith; half = omega arith; sum = omega (arith, takes.0) } in
    let child = filled_at tree_format m 32 (depth - 1) of.entries c.args.at place of.is old.1 in
    let below = c.in_ok-below.ensures.filled told 32 31 keeps (subst (λ (f : Map). HasFilledBelow tree_format f 32 (depth - 1) place.entry) (sym (c.find_below.ensures.kept.present told)) child) in
    let thin : IsThinAbove n (depth - 1) c.args.at (steps_back entry rest) c.args.top.lines all =
    thin_step m n1 n c.args.top depth c.args.at c.in_ok-below.below.removed.bytes change of.entries new all place entry rest c.if-depth-eq0.false of.reads of.is mid promise (c.requires.there told) (c.in_ok-above.ensures.others told) old.1 two less left walk below.0
    (λ kid higher some down. c.in_ok-below.ensures.thins told takes (subst (λ (f : Map). HasFilledBelow tree_format f 32 (depth - 1) place.entry) (sym (c.find_below.ensures.kept.present told)) kid) higher some entry rest
    (subst (λ (f : Map). IsWalk tree_format f (depth - 1 - 1) place.entry place.rest entry rest) (sym (c.find_below.ensures.kept.present told)) down)) in
    let few : length c.deref.result.now ≤ 1 = omega (arith, ap length c.deref.ensures.value, c.in_ok-below.ensures.single, lost_single c.args.edit takes.0) in
    let count : lines_below above + 1 ≡ c.args.top.lines = omega (arith, c.in_ok-above.ensures.lines, size, less) in
    let one = single_entry above (c.in_ok-above.ensures.single few) (omega (arith, count, two)) in
    let lead : LeadTo n (one.0 ∷ []) (pointer_blocks all) = subst (λ (es : List Entry). LeadTo n es (pointer_blocks all)) one.1 (c.in_ok-above.ensures.blocks told of.entries now told) in
    record {
      entry = one.0;
      alone = one.1;
      before = thin.before;
      within = omega (arith, thin.within, count, ap lines_below one.1);
      filled = thin_entry n depth c.args.at (steps_back entry rest) all one.0 c.if-depth-eq0.false (lead_single n one.0 all (some_entries all (omega (arith, left, two))) lead) thin.filled;
    }

pub returns-then-depth-eq0-clause-only : goal.returns-then-depth-eq0-clause-only
returns-then-depth-eq0-clause-only g t c = on_ok_weaker c.edit_data.result
    (λ few told out.
    let P : ℕ → Type 0 = λ d. GoesBelow (g.P.Pages.shows c.args.pages.now).present (g.P.Pages.shows c.args.pages.now).worked (g.P.Pages.shows c.edit_data.new.pages).worked c.args.top d c.args.at c.args.edit in
    let none : c.args.depth ≡ 0 = c.if-depth-eq0.true in
    subst P (sym none) (few told out))
    c.edit_data.ensures.only

pub returns-clause-only : goal.returns-clause-only
returns-clause-only g t c = λ told out.
    let of = c.in_ok-place.ensures.place told in
    go_below _ _ _ _ _ _ c.args.top _ c.args.depth c.args.at c.args.edit of.entries c.in_ok-place.place c.if-depth-eq0.false of.reads of.is (c.find_below.ensures.kept.present told) (c.find_below.ensures.kept.still.worked told) refl
    (c.in_ok-below.ensures.only told out) (c.in_ok-above.ensures.one (omega (arith, ap length c.deref.ensures.value, c.in_ok-below.ensures.single, out)) told)

pub returns-then-depth-eq0-clause-cuts : goal.returns-then-depth-eq0-clause-cuts
returns-then-depth-eq0-clause-cuts g t c = IfOk-weaker c.edit_data.result _ _
    (λ (after : Edited) cuts told.
    let none : c.args.depth ≡ 0 = c.if-depth-eq0.true in
    let m : Map = (g.P.Pages.shows c.args.pages.now).present in
    let n : Map = (g.P.Pages.shows c.edit_data.new.pages).present in
    let top : Entry = c.args.top in
    let there = above_there _ _ top c.args.depth c.args.at (c.requires.there told) in
    let P : ℕ → Type 0 = λ d. Cuts (read_blocks tree_format d m top.block top.pages) c.args.at (IsEditedInto c.args.edit after.removed.lines) (blocks_below tree_format d n after.entries.items) in
    subst P (sym none) (edited_block m n _ top c.args.at after.removed.lines c.args.edit there.0 after.entries.items there.1
    (subst (λ (d : ℕ). HasLineBelow tree_format m top d c.args.at) none (c.requires.there told)) (cuts told there.0 there.1)))
    c.edit_data.ensures.blocks

pub returns-clause-cuts : goal.returns-clause-cuts
returns-clause-cuts g t c = λ told.
    let m : Map = (g.P.Pages.shows c.args.pages.now).present in
    let n1 : Map = (g.P.Pages.shows c.edit_below.new.pages).present in
    let n : Map = (g.P.Pages.shows c.exchange_entry.new.pages).present in
    let depth : ℕ = c.args.depth in
    let top : Entry = c.args.top in
    let of = c.in_ok-place.ensures.place told in
    let place = c.in_ok-place.place in
    let new : List Entry = c.in_ok-below.below.entries.items in
    let above : List Entry = c.in_ok-above.above.items in
    let all : List Entry = replaced of.entries place.index c.deref.result.now in
    let mid = ap (λ by. replaced of.entries place.index by) c.deref.ensures.value in
    let gone : ℕ = c.in_ok-below.below.removed.lines in
    let change = change_of c.args.edit gone in
    let promise = promised _ _ _ _ _ _ _ _ _ _ (c.find_below.ensures.kept.present told) refl (c.in_ok-below.ensures.wrote told) in
    let same = pointers_there _ _ n1 top depth _ c.in_ok-below.below.removed.bytes change of.entries new all place c.if-depth-eq0.false of.reads of.is mid promise (c.requires.there told) in
    let now = entries_kept m n1 top.block of.entries same of.reads in
    let Q : Map → Type 0 = λ f. Cuts (read_blocks tree_format (depth - 1) f place.entry.block place.entry.pages) place.rest (IsEditedInto c.args.edit gone) (blocks_below tree_format (depth - 1) n1 new) in
    let inside = cuts_inside tree_format m n1 n top depth c.args.at c.in_ok-below.below.removed.bytes change of.entries new all place (IsEditedInto c.args.edit gone) c.if-depth-eq0.false of.reads of.is mid promise (c.requires.there told)
    (c.in_ok-above.ensures.others told) (subst Q (c.find_below.ensures.kept.present told) (c.in_ok-below.ensures.cuts told)) in
    let deep : suc (depth - 1) ≡ depth = omega (arith, c.if-depth-eq0.false) in
    let up : blocks_below tree_format (depth - 1) n all ≡ blocks_below tree_format depth n above =
    sym (pointers_blocks n (depth - 1) above all (c.in_ok-above.ensures.blocks told of.entries now told)) ∙ ap (λ (d : ℕ). blocks_below tree_format d n above) deep in
    subst (λ (bs : List (List (List ℕ))). Cuts (read_blocks tree_format depth m top.block top.pages) c.args.at (IsEditedInto c.args.edit gone) bs) up inside
