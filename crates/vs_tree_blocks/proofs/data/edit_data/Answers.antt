use Rattle.vs_tree_blocks.proofs.data.edit_data.Goals as goal
use Rattle.std.proofs.Common.{◌≡◌, ◌≤◌, ◌-◌, ℕ, ◌+◌, List, [], length, take, drop, sym, ap, subst, ◌∙◌, arith, get_or, refl}
use Rattle.vs_pages.proofs.Steps.{Continues-trans, OnlyReads-continues}
use Rattle.vs_tree_shape.specs.Changes.{ReplacedBy, edited, splice}
use Rattle.vs_tree_blocks.specs.declared.edit.Edit.{Edit}
use Rattle.vs_tree_blocks.specs.declared.edit.Edited.{Edited}
use Rattle.vs_tree_blocks.specs.Cuts.{all_lines, blocks_with, part, room_in, spread}
use Rattle.vs_tree_blocks.specs.Edits.{added_by, blocks_after, change_of, IsEdit, IsOnePageEdit, most_entries, most_worked}
use Rattle.vs_tree_blocks.specs.declared.edit.Edit.TheVariants.{Before, After, Behind, Remove}
use Rattle.vs_data.specs.Blocks.{space_of}
use Rattle.vs_tree_blocks.specs.Runs.{lines_within}
use Rattle.vs_tree_shape.proofs.Splices.{length_splice}
use Rattle.vs_tree_blocks.proofs.CutsLemmas.{cut_count, part_count}
use Rattle.vs_tree_blocks.proofs.PlacedLemmas.{cuts_as, cuts_in, put_lines, removed_lines, with_blocks, with_count, with_few, with_fields, with_most, written_room}
use Rattle.vs_tree_blocks.proofs.BehindLemmas.{spread_put}
use Rattle.vs_tree_blocks.proofs.RunsLemmas.{told as header, within_is}
use Rattle.vs_tree_blocks.specs.Blocks.{tree_format}
use Rattle.vs_tree_blocks.proofs.Outcomes.{if_ok_weaker, if_ok_both}
use Rattle.vs_tree_blocks.proofs.EditedLemmas.{none_taken, takes_some, removed, too_long}
use Rattle.vs_text.specs.Text.{bytes_of}
use Rattle.vs_pages.specs.Maps.{span}
use Rattle.vs_tree_blocks.proofs.DataLemmas.{count_is, at_alone, own_loaded, promise_page, promise_long}
use Rattle.vs_tree_shape.proofs.Walks.{above_lines}
use Rattle.vs_tree_blocks.proofs.LoadLemmas.{alone_pages}
use Rattle.vs_tree_shape.proofs.Working.{works_beside, works_most, works_from, works_still}
use Rattle.std.proofs.lemmas.Result.{on_ok_weaker}
use Rattle.vs_tree_blocks.proofs.Outcomes.{on_ok_always}

pub edit_long-requires-clause-there : goal.edit_long-requires-clause-there
edit_long-requires-clause-there g c = λ told. let a = c.requires.there told in record { lines = a.tree.lines; reads = (above_lines tree_format _ c.args.entry c.args.at a).0; count = a.lines }

pub edit_long-requires-clause-several : goal.edit_long-requires-clause-several
edit_long-requires-clause-several g c = alone_pages c.args.entry c.requires.fields c.if-entry-ne1.true

pub load_data-requires-clause-there : goal.load_data-requires-clause-there
load_data-requires-clause-there g c = λ told. let a = c.requires.there told in record { lines = a.tree.lines; reads = (above_lines tree_format _ c.args.entry c.args.at a).0; count = a.lines }

pub returns-then-entry-ne1-clause-wrote : goal.returns-then-entry-ne1-clause-wrote
returns-then-entry-ne1-clause-wrote g c = if_ok_weaker c.edit_long.result _ _
    (λ (after : Edited) wrote told.
    promise_long _ _ c.args.entry c.args.at after.removed.bytes (change_of c.args.edit after.removed.lines) after.entries.items (alone_pages c.args.entry c.requires.fields c.if-entry-ne1.true) (wrote told))
    c.edit_long.ensures.wrote

pub returns-in_ok-entries-in-Before-clause-wrote : goal.returns-in_ok-entries-in-Before-clause-wrote
returns-in_ok-entries-in-Before-clause-wrote g c = λ told.
    let place : c.args.at + 0 ≡ c.args.at = omega arith in
    let run = c.in-Before.lines.now in
    let none : c.with.result.removed.lines ≡ 0 = ap (λ (a : Edited). a.removed.lines) c.with.ensures in
    let P : Edited → List (List ℕ) → Type 0 = λ a lines. ReplacedBy tree_format (g.P.Pages.shows c.load_data.new.pages).present (g.P.Pages.shows c.put_run.new.pages).present (λ k. span c.args.entry.block 1 k) 0 (splice lines c.args.at 0 run) a.entries.items in
    promise_page _ (g.P.Pages.shows c.load_data.new.pages).present _ c.args.entry c.args.at c.with.result.removed.bytes c.load_data.new.bytes.items (change_of c.args.edit c.with.result.removed.lines) (λ lines. splice lines c.args.at 0 run) c.with.result.entries.items
    (omega (arith, c.if-entry-ne1.false)) (c.load_data.ensures.kept.present told) (c.in_ok-view.ensures.loaded told)
    (λ lines. ap (λ n. edited (change_of c.args.edit n) lines c.args.at) none ∙ ap (λ (e : Edit). edited (change_of e 0) lines c.args.at) c.in-Before.is ∙ ap (λ (k : ℕ). splice lines k 0 run) place)
    (λ lines is. subst (λ (a : Edited). P a lines) (sym c.with.ensures) (put_lines _ _ _ c.args.entry.block c.load_data.new.bytes.items (c.in_ok-view.view.text_end - 24) c.args.at run lines c.in_ok-entries-in-Before.entries.items told is (omega (arith, count_is c.load_data.new.bytes.items c.in_ok-view.view lines c.in_ok-view.ensures.view is, c.in_ok-view.ensures.count, c.requires.within)) c.in_ok-entries-in-Before.ensures.wrote))
    (λ lines is lt. none_taken c.args.edit lines c.args.at c.in_ok-entries-in-Before.entries c.with.result c.with.ensures (omega (arith, lt, ap (λ (e : Edit). (change_of e 0).skip) c.in-Before.is)))

pub returns-in_ok-entries-in-After-clause-wrote : goal.returns-in_ok-entries-in-After-clause-wrote
returns-in_ok-entries-in-After-clause-wrote g c = λ told.
    let run = c.in-After.lines.now in
    let none : c.with-in-After.result.removed.lines ≡ 0 = ap (λ (a : Edited). a.removed.lines) c.with-in-After.ensures in
    let P : Edited → List (List ℕ) → Type 0 = λ a lines. ReplacedBy tree_format (g.P.Pages.shows c.load_data.new.pages).present (g.P.Pages.shows c.put_run-in-After.new.pages).present (λ k. span c.args.entry.block 1 k) 0 (splice lines (c.args.at + 1) 0 run) a.entries.items in
    promise_page _ (g.P.Pages.shows c.load_data.new.pages).present _ c.args.entry c.args.at c.with-in-After.result.removed.bytes c.load_data.new.bytes.items (change_of c.args.edit c.with-in-After.result.removed.lines) (λ lines. splice lines (c.args.at + 1) 0 run) c.with-in-After.result.entries.items
    (omega (arith, c.if-entry-ne1.false)) (c.load_data.ensures.kept.present told) (c.in_ok-view.ensures.loaded told)
    (λ lines. ap (λ n. edited (change_of c.args.edit n) lines c.args.at) none ∙ ap (λ (e : Edit). edited (change_of e 0) lines c.args.at) c.in-After.is)
    (λ lines is. subst (λ (a : Edited). P a lines) (sym c.with-in-After.ensures) (put_lines _ _ _ c.args.entry.block c.load_data.new.bytes.items (c.in_ok-view.view.text_end - 24) (c.args.at + 1) run lines c.in_ok-entries-in-After.entries.items told is (omega (arith, count_is c.load_data.new.bytes.items c.in_ok-view.view lines c.in_ok-view.ensures.view is, c.in_ok-view.ensures.count, c.requires.within)) c.in_ok-entries-in-After.ensures.wrote))
    (λ lines is lt. none_taken c.args.edit lines c.args.at c.in_ok-entries-in-After.entries c.with-in-After.result c.with-in-After.ensures (omega (arith, lt, ap (λ (e : Edit). (change_of e 0).skip) c.in-After.is)))

pub returns-in-Remove-clause-wrote : goal.returns-in-Remove-clause-wrote
returns-in-Remove-clause-wrote g c =
    let count : ℕ = c.min-gone.result in
    let gone : Edited → Type 0 = λ after. after.removed.lines ≡ count in
    let bytes : Edited → Type 0 = λ after. after.removed.bytes ≡ bytes_of (take count (drop c.args.at (lines_within c.load_data.new.bytes.items))) in
    if_ok_both c.remove_lines.result _ (λ after. gone after × bytes after) _
    (λ (after : Edited) wrote took told.
    let most = c.in-Remove.most in
    promise_page _ (g.P.Pages.shows c.load_data.new.pages).present _ c.args.entry c.args.at after.removed.bytes c.load_data.new.bytes.items (change_of c.args.edit after.removed.lines) (λ lines. splice lines c.args.at count []) after.entries.items
    (omega (arith, c.if-entry-ne1.false)) (c.load_data.ensures.kept.present told) (c.in_ok-view.ensures.loaded told)
    (λ lines. removed c.args.edit most lines c.args.at after.removed.lines count c.in-Remove.is took.0)
    (λ lines is. removed_lines _ _ _ c.args.entry.block c.load_data.new.bytes.items c.args.at count lines after.entries.items told is wrote)
    (λ lines is lt. takes_some c.args.edit most lines c.args.at after.removed.lines count after.removed.bytes c.in-Remove.is took.0 (omega (arith, c.min-gone.ensures, c.from.ensures, count_is c.load_data.new.bytes.items c.in_ok-view.view lines c.in_ok-view.ensures.view is, c.requires.within, c.in_ok-view.ensures.count)) (took.1 ∙ ap (λ (ls : List (List ℕ)). bytes_of (take count (drop c.args.at ls))) (within_is c.load_data.new.bytes.items lines is))))
    c.remove_lines.ensures.wrote (if_ok_both c.remove_lines.result gone bytes _ (λ after a b. (a, b)) c.remove_lines.ensures.gone c.remove_lines.ensures.bytes)

some_worked : (edit : Edit) → 1 ≤ most_worked edit 0
some_worked (Before run) = omega arith
some_worked (After run) = omega arith
some_worked (Behind runs) = omega arith
some_worked (Remove most) = omega arith

pub returns-then-entry-ne1-clause-works : goal.returns-then-entry-ne1-clause-works
returns-then-entry-ne1-clause-works g c = on_ok_weaker c.edit_long.result
    (λ few told a slight.
    let l = above_lines tree_format _ c.args.entry c.args.at a in
    let one = at_alone _ c.args.entry.block c.args.entry.pages a.tree.lines (alone_pages c.args.entry c.requires.fields c.if-entry-ne1.true) l.0 in
    let first : c.args.at ≡ 0 = omega (arith, one, a.within) in
    works_most _ _ 1 (most_worked c.args.edit 0) (some_worked c.args.edit) (few told a.tree.lines l.0 (subst (λ (k : ℕ). IsOnePageEdit c.args.edit (get_or a.tree.lines k [])) first slight)))
    c.edit_long.ensures.works

pub returns-in-Remove-clause-works : goal.returns-in-Remove-clause-works
returns-in-Remove-clause-works g c = on_ok_weaker c.remove_lines.result
    (λ few told a slight. works_from _ (g.P.Pages.shows c.load_data.new.pages).worked _ 1 (most_worked c.args.edit 0) (omega (arith, ap (λ (e : Edit). most_worked e 0) c.in-Remove.is)) (c.load_data.ensures.kept.still.worked told) (works_beside _ _ 1 (few told)))
    c.remove_lines.ensures.works

pub returns-in_ok-entries-in-Before-clause-blocks : goal.returns-in_ok-entries-in-Before-clause-blocks
returns-in_ok-entries-in-Before-clause-blocks g c = λ told bytes read.
    let run = c.in-Before.lines.now in
    with_blocks _ _ _ _ c.in_ok-entries-in-Before.entries c.with.result c.with.ensures
    (cuts_as _ _ _ _ c.args.entry c.args.at c.args.edit c.with.result.removed.lines c.load_data.new.bytes.items bytes (λ (b : List ℕ). blocks_with (room_in b) (lines_within b) c.args.at run) c.in_ok-entries-in-Before.entries.items told (c.load_data.ensures.kept.present told) (omega (arith, c.if-entry-ne1.false))
    (c.in_ok-view.ensures.loaded told) read
    (λ b. ap (λ (e : Edit). blocks_after 1 b c.args.at e c.with.result.removed.lines) c.in-Before.is)
    (written_room _ _ _ c.args.entry.block c.load_data.new.bytes.items c.in_ok-view.view c.args.at run c.in_ok-entries-in-Before.entries.items c.in_ok-view.ensures.view c.in_ok-entries-in-Before.ensures.wrote))

pub returns-in_ok-entries-in-Before-clause-fields : goal.returns-in_ok-entries-in-Before-clause-fields
returns-in_ok-entries-in-Before-clause-fields g c = with_fields c.in_ok-entries-in-Before.entries c.with.result c.with.ensures c.in_ok-entries-in-Before.ensures.wrote.fields

pub returns-in_ok-entries-in-Before-clause-few : goal.returns-in_ok-entries-in-Before-clause-few
returns-in_ok-entries-in-Before-clause-few g c = omega (arith, with_few c.in_ok-entries-in-Before.entries c.with.result c.with.ensures c.in_ok-entries-in-Before.ensures.wrote.few)

pub returns-in_ok-entries-in-Before-clause-lines : goal.returns-in_ok-entries-in-Before-clause-lines
returns-in_ok-entries-in-Before-clause-lines g c =
    let t = header c.load_data.new.bytes.items c.in_ok-view.view c.in_ok-view.ensures.view in
    let sum = cut_count (c.in_ok-view.view.text_end - 24) (lines_within c.load_data.new.bytes.items) c.args.at c.in-Before.lines.now (omega (arith, t.count, c.in_ok-view.ensures.count, c.requires.within)) in
    omega (arith, with_count c.in_ok-entries-in-Before.entries c.with.result c.with.ensures, c.in_ok-entries-in-Before.ensures.wrote.lines, sum, t.count, c.in_ok-view.ensures.count, ap added_by c.in-Before.is)

pub returns-in_ok-entries-in-After-clause-blocks : goal.returns-in_ok-entries-in-After-clause-blocks
returns-in_ok-entries-in-After-clause-blocks g c = λ told bytes read.
    let run = c.in-After.lines.now in
    with_blocks _ _ _ _ c.in_ok-entries-in-After.entries c.with-in-After.result c.with-in-After.ensures
    (cuts_as _ _ _ _ c.args.entry c.args.at c.args.edit c.with-in-After.result.removed.lines c.load_data.new.bytes.items bytes (λ (b : List ℕ). blocks_with (room_in b) (lines_within b) (c.args.at + 1) run) c.in_ok-entries-in-After.entries.items told (c.load_data.ensures.kept.present told) (omega (arith, c.if-entry-ne1.false))
    (c.in_ok-view.ensures.loaded told) read
    (λ b. ap (λ (e : Edit). blocks_after 1 b c.args.at e c.with-in-After.result.removed.lines) c.in-After.is)
    (written_room _ _ _ c.args.entry.block c.load_data.new.bytes.items c.in_ok-view.view (c.args.at + 1) run c.in_ok-entries-in-After.entries.items c.in_ok-view.ensures.view c.in_ok-entries-in-After.ensures.wrote))

pub returns-in_ok-entries-in-After-clause-fields : goal.returns-in_ok-entries-in-After-clause-fields
returns-in_ok-entries-in-After-clause-fields g c = with_fields c.in_ok-entries-in-After.entries c.with-in-After.result c.with-in-After.ensures c.in_ok-entries-in-After.ensures.wrote.fields

pub returns-in_ok-entries-in-After-clause-few : goal.returns-in_ok-entries-in-After-clause-few
returns-in_ok-entries-in-After-clause-few g c = omega (arith, with_few c.in_ok-entries-in-After.entries c.with-in-After.result c.with-in-After.ensures c.in_ok-entries-in-After.ensures.wrote.few)

pub returns-in_ok-entries-in-After-clause-lines : goal.returns-in_ok-entries-in-After-clause-lines
returns-in_ok-entries-in-After-clause-lines g c =
    let t = header c.load_data.new.bytes.items c.in_ok-view.view c.in_ok-view.ensures.view in
    let sum = cut_count (c.in_ok-view.view.text_end - 24) (lines_within c.load_data.new.bytes.items) (c.args.at + 1) c.in-After.lines.now (omega (arith, t.count, c.in_ok-view.ensures.count, c.requires.within)) in
    omega (arith, with_count c.in_ok-entries-in-After.entries c.with-in-After.result c.with-in-After.ensures, c.in_ok-entries-in-After.ensures.wrote.lines, sum, t.count, c.in_ok-view.ensures.count, ap added_by c.in-After.is)

pub returns-in-Remove-clause-blocks : goal.returns-in-Remove-clause-blocks
returns-in-Remove-clause-blocks g c =
    let count : ℕ = c.min-gone.result in
    if_ok_both c.remove_lines.result _ (λ after. after.removed.lines ≡ count) _
    (λ (after : Edited) wrote took told bytes read.
    cuts_as _ _ _ _ c.args.entry c.args.at c.args.edit after.removed.lines c.load_data.new.bytes.items bytes (λ (b : List ℕ). part (splice (lines_within b) c.args.at count [])) after.entries.items told (c.load_data.ensures.kept.present told) (omega (arith, c.if-entry-ne1.false))
    (c.in_ok-view.ensures.loaded told) read
    (λ b. ap (λ (e : Edit). blocks_after 1 b c.args.at e after.removed.lines) c.in-Remove.is ∙ ap (λ (k : ℕ). part (splice (lines_within b) c.args.at k [])) took)
    wrote)
    c.remove_lines.ensures.wrote c.remove_lines.ensures.gone

pub returns-in-Remove-clause-fields : goal.returns-in-Remove-clause-fields
returns-in-Remove-clause-fields g c = if_ok_weaker c.remove_lines.result _ _ (λ (after : Edited) wrote. wrote.fields) c.remove_lines.ensures.wrote

pub returns-in-Remove-clause-few : goal.returns-in-Remove-clause-few
returns-in-Remove-clause-few g c = if_ok_weaker c.remove_lines.result _ _ (λ (after : Edited) wrote. omega (arith, wrote.few)) c.remove_lines.ensures.wrote

pub returns-in-Remove-clause-lines : goal.returns-in-Remove-clause-lines
returns-in-Remove-clause-lines g c =
    let t = header c.load_data.new.bytes.items c.in_ok-view.view c.in_ok-view.ensures.view in
    let ls = lines_within c.load_data.new.bytes.items in
    let within : c.args.at + c.min-gone.result ≤ length ls = omega (arith, c.min-gone.ensures, c.from.ensures, t.count, c.requires.within, c.in_ok-view.ensures.count) in
    if_ok_both c.remove_lines.result _ (λ after. after.removed.lines ≡ c.min-gone.result) _
    (λ (after : Edited) wrote took. omega (arith, wrote.lines, part_count (splice ls c.args.at c.min-gone.result []), length_splice ls [] c.args.at c.min-gone.result within, took, t.count, c.in_ok-view.ensures.count, within, ap added_by c.in-Remove.is))
    c.remove_lines.ensures.wrote c.remove_lines.ensures.gone

pub returns-in_ok-entries-in-Before-clause-works : goal.returns-in_ok-entries-in-Before-clause-works
returns-in_ok-entries-in-Before-clause-works g c = λ told a slight.
    let room : space_of c.in-Before.lines.now ≤ 4072 = subst (λ (e : Edit). IsOnePageEdit e (get_or a.tree.lines c.args.at [])) c.in-Before.is slight in
    works_from _ (g.P.Pages.shows c.load_data.new.pages).worked _ 3 (most_worked c.args.edit 0) (omega (arith, ap (λ (e : Edit). most_worked e 0) c.in-Before.is)) (c.load_data.ensures.kept.still.worked told) (c.in_ok-entries-in-Before.ensures.works room told)

pub returns-in_ok-entries-in-After-clause-works : goal.returns-in_ok-entries-in-After-clause-works
returns-in_ok-entries-in-After-clause-works g c = λ told a slight.
    let room : space_of c.in-After.lines.now ≤ 4072 = subst (λ (e : Edit). IsOnePageEdit e (get_or a.tree.lines c.args.at [])) c.in-After.is slight in
    works_from _ (g.P.Pages.shows c.load_data.new.pages).worked _ 3 (most_worked c.args.edit 0) (omega (arith, ap (λ (e : Edit). most_worked e 0) c.in-After.is)) (c.load_data.ensures.kept.still.worked told) (c.in_ok-entries-in-After.ensures.works room told)

pub returns-in_ok-entries-in-Before-clause-single : goal.returns-in_ok-entries-in-Before-clause-single
returns-in_ok-entries-in-Before-clause-single g c = omega (arith, with_few c.in_ok-entries-in-Before.entries c.with.result c.with.ensures c.in_ok-entries-in-Before.ensures.wrote.few, ap most_entries c.in-Before.is)

pub returns-in_ok-entries-in-After-clause-single : goal.returns-in_ok-entries-in-After-clause-single
returns-in_ok-entries-in-After-clause-single g c = omega (arith, with_few c.in_ok-entries-in-After.entries c.with-in-After.result c.with-in-After.ensures c.in_ok-entries-in-After.ensures.wrote.few, ap most_entries c.in-After.is)

pub returns-in-Remove-clause-single : goal.returns-in-Remove-clause-single
returns-in-Remove-clause-single g c = if_ok_weaker c.remove_lines.result _ _ (λ (after : Edited) one. omega (arith, one, ap most_entries c.in-Remove.is)) c.remove_lines.ensures.single

pub returns-then-entry-ne1-clause-kept : goal.returns-then-entry-ne1-clause-kept
returns-then-entry-ne1-clause-kept g c = c.edit_long.ensures.kept

pub returns-in_err-view-clause-kept : goal.returns-in_err-view-clause-kept
returns-in_err-view-clause-kept g c = OnlyReads-continues c.load_data.ensures.kept

pub returns-in_err-entries-in-Before-clause-kept : goal.returns-in_err-entries-in-Before-clause-kept
returns-in_err-entries-in-Before-clause-kept g c = Continues-trans g.met.P.Pages.stays_on (OnlyReads-continues c.load_data.ensures.kept) c.put_run.ensures.kept

pub returns-in_ok-entries-in-Before-clause-kept : goal.returns-in_ok-entries-in-Before-clause-kept
returns-in_ok-entries-in-Before-clause-kept g c = Continues-trans g.met.P.Pages.stays_on (OnlyReads-continues c.load_data.ensures.kept) c.put_run.ensures.kept

pub returns-in_err-entries-in-After-clause-kept : goal.returns-in_err-entries-in-After-clause-kept
returns-in_err-entries-in-After-clause-kept g c = Continues-trans g.met.P.Pages.stays_on (OnlyReads-continues c.load_data.ensures.kept) c.put_run-in-After.ensures.kept

pub returns-in_ok-entries-in-After-clause-kept : goal.returns-in_ok-entries-in-After-clause-kept
returns-in_ok-entries-in-After-clause-kept g c = Continues-trans g.met.P.Pages.stays_on (OnlyReads-continues c.load_data.ensures.kept) c.put_run-in-After.ensures.kept

pub returns-in-Remove-clause-kept : goal.returns-in-Remove-clause-kept
returns-in-Remove-clause-kept g c = Continues-trans g.met.P.Pages.stays_on (OnlyReads-continues c.load_data.ensures.kept) c.remove_lines.ensures.kept

pub put_runs-requires-clause-few : goal.put_runs-requires-clause-few
put_runs-requires-clause-few g c = (subst IsEdit c.in-Behind.is c.requires.edit).0

pub returns-in_ok-entries-in-Behind-clause-wrote : goal.returns-in_ok-entries-in-Behind-clause-wrote
returns-in_ok-entries-in-Behind-clause-wrote g c = λ told.
    let runs = c.in-Behind.runs.now in
    let none : c.with-in-Behind.result.removed.lines ≡ 0 = ap (λ (a : Edited). a.removed.lines) c.with-in-Behind.ensures in
    let P : Edited → List (List ℕ) → Type 0 = λ a lines. ReplacedBy tree_format (g.P.Pages.shows c.load_data.new.pages).present (g.P.Pages.shows c.put_runs.new.pages).present (λ k. span c.args.entry.block 1 k) 0 (splice lines (c.args.at + 1) 0 (all_lines runs)) a.entries.items in
    promise_page _ (g.P.Pages.shows c.load_data.new.pages).present _ c.args.entry c.args.at c.with-in-Behind.result.removed.bytes c.load_data.new.bytes.items (change_of c.args.edit c.with-in-Behind.result.removed.lines) (λ lines. splice lines (c.args.at + 1) 0 (all_lines runs)) c.with-in-Behind.result.entries.items
    (omega (arith, c.if-entry-ne1.false)) (c.load_data.ensures.kept.present told) (c.in_ok-view.ensures.loaded told)
    (λ lines. ap (λ n. edited (change_of c.args.edit n) lines c.args.at) none ∙ ap (λ (e : Edit). edited (change_of e 0) lines c.args.at) c.in-Behind.is)
    (λ lines is. subst (λ (a : Edited). P a lines) (sym c.with-in-Behind.ensures) (spread_put _ _ c.args.entry.block (c.args.at + 1) c.load_data.new.bytes.items lines runs c.in_ok-entries-in-Behind.entries.items is (c.in_ok-entries-in-Behind.ensures.wrote told)))
    (λ lines is lt. none_taken c.args.edit lines c.args.at c.in_ok-entries-in-Behind.entries c.with-in-Behind.result c.with-in-Behind.ensures (omega (arith, lt, ap (λ (e : Edit). (change_of e 0).skip) c.in-Behind.is)))

pub returns-in_ok-entries-in-Behind-clause-blocks : goal.returns-in_ok-entries-in-Behind-clause-blocks
returns-in_ok-entries-in-Behind-clause-blocks g c = λ told bytes read.
    let runs = c.in-Behind.runs.now in
    with_blocks _ _ _ _ c.in_ok-entries-in-Behind.entries c.with-in-Behind.result c.with-in-Behind.ensures
    (cuts_in _ _ _ c.args.entry c.args.at c.args.edit c.with-in-Behind.result.removed.lines c.load_data.new.bytes.items bytes (λ (b : List ℕ). spread (lines_within b) (c.args.at + 1) runs) c.in_ok-entries-in-Behind.entries.items (c.load_data.ensures.kept.present told) (omega (arith, c.if-entry-ne1.false))
    (c.in_ok-view.ensures.loaded told) read
    (λ b. ap (λ (e : Edit). blocks_after 1 b c.args.at e c.with-in-Behind.result.removed.lines) c.in-Behind.is)
    (c.in_ok-entries-in-Behind.ensures.wrote told))

pub returns-in_ok-entries-in-Behind-clause-fields : goal.returns-in_ok-entries-in-Behind-clause-fields
returns-in_ok-entries-in-Behind-clause-fields g c = with_fields c.in_ok-entries-in-Behind.entries c.with-in-Behind.result c.with-in-Behind.ensures c.in_ok-entries-in-Behind.ensures.fields

pub returns-in_ok-entries-in-Behind-clause-few : goal.returns-in_ok-entries-in-Behind-clause-few
returns-in_ok-entries-in-Behind-clause-few g c = with_most c.in_ok-entries-in-Behind.entries c.with-in-Behind.result c.with-in-Behind.ensures c.in_ok-entries-in-Behind.ensures.few

pub returns-in_ok-entries-in-Behind-clause-lines : goal.returns-in_ok-entries-in-Behind-clause-lines
returns-in_ok-entries-in-Behind-clause-lines g c = omega (arith, with_count c.in_ok-entries-in-Behind.entries c.with-in-Behind.result c.with-in-Behind.ensures, c.in_ok-entries-in-Behind.ensures.lines, ap added_by c.in-Behind.is)

pub returns-in_ok-entries-in-Behind-clause-works : goal.returns-in_ok-entries-in-Behind-clause-works
returns-in_ok-entries-in-Behind-clause-works g c = λ told a slight. absurd (subst (λ (e : Edit). IsOnePageEdit e (get_or a.tree.lines c.args.at [])) c.in-Behind.is slight)

pub returns-in_ok-entries-in-Behind-clause-single : goal.returns-in_ok-entries-in-Behind-clause-single
returns-in_ok-entries-in-Behind-clause-single g c = omega (arith, with_most c.in_ok-entries-in-Behind.entries c.with-in-Behind.result c.with-in-Behind.ensures c.in_ok-entries-in-Behind.ensures.few, ap most_entries c.in-Behind.is)

pub returns-in_err-entries-in-Behind-clause-kept : goal.returns-in_err-entries-in-Behind-clause-kept
returns-in_err-entries-in-Behind-clause-kept g c = Continues-trans g.met.P.Pages.stays_on (OnlyReads-continues c.load_data.ensures.kept) c.put_runs.ensures.kept

pub returns-in_ok-entries-in-Behind-clause-kept : goal.returns-in_ok-entries-in-Behind-clause-kept
returns-in_ok-entries-in-Behind-clause-kept g c = Continues-trans g.met.P.Pages.stays_on (OnlyReads-continues c.load_data.ensures.kept) c.put_runs.ensures.kept

-- an edit after which no more entries stand than before takes lines out
is_remove : (edit : Edit) → most_entries edit ≤ 1 → (most : ℕ) × (edit ≡ Remove most)
is_remove (Before run) few = absurd (omega (arith, few))
is_remove (After run) few = absurd (omega (arith, few))
is_remove (Behind runs) few = absurd (omega (arith, few))
is_remove (Remove most) few = (most, refl)

pub returns-then-entry-ne1-clause-only : goal.returns-then-entry-ne1-clause-only
returns-then-entry-ne1-clause-only g c = on_ok_always c.edit_long.result _
    (λ told out a slight.
    let l = above_lines tree_format _ c.args.entry c.args.at a in
    let many = alone_pages c.args.entry c.requires.fields c.if-entry-ne1.true in
    let one = at_alone _ c.args.entry.block c.args.entry.pages a.tree.lines many l.0 in
    let first : c.args.at ≡ 0 = omega (arith, one, a.within) in
    let r = is_remove c.args.edit out in
    absurd (too_long _ c.args.entry.block c.args.entry.pages r.0 c.args.edit a.tree.lines many l.0 r.1 (subst (λ (k : ℕ). IsOnePageEdit c.args.edit (get_or a.tree.lines k [])) first slight)))

pub returns-in-Remove-clause-only : goal.returns-in-Remove-clause-only
returns-in-Remove-clause-only g c = on_ok_weaker c.remove_lines.result
    (λ few told out a slight. works_still _ (g.P.Pages.shows c.load_data.new.pages).worked _ 1 (0 + 1) (omega arith) (c.load_data.ensures.kept.still.worked told) (few told))
    c.remove_lines.ensures.works

pub returns-in_ok-entries-in-Before-clause-only : goal.returns-in_ok-entries-in-Before-clause-only
returns-in_ok-entries-in-Before-clause-only g c = λ told out. absurd (omega (arith, out, ap most_entries c.in-Before.is))

pub returns-in_ok-entries-in-After-clause-only : goal.returns-in_ok-entries-in-After-clause-only
returns-in_ok-entries-in-After-clause-only g c = λ told out. absurd (omega (arith, out, ap most_entries c.in-After.is))

pub returns-in_ok-entries-in-Behind-clause-only : goal.returns-in_ok-entries-in-Behind-clause-only
returns-in_ok-entries-in-Behind-clause-only g c = λ told out. absurd (omega (arith, out, ap most_entries c.in-Behind.is))

-- the block was as it is written
pub put_run-requires-clause-own : goal.put_run-requires-clause-own
put_run-requires-clause-own g c = λ told.
    own_loaded _ c.load_data.new.bytes.items c.args.entry.pages _ (c.in_ok-view.ensures.loaded told) (above_lines tree_format _ c.args.entry c.args.at (c.requires.there told)).0

pub put_run-requires-in-After-clause-own : goal.put_run-requires-in-After-clause-own
put_run-requires-in-After-clause-own g c = λ told.
    own_loaded _ c.load_data.new.bytes.items c.args.entry.pages _ (c.in_ok-view.ensures.loaded told) (above_lines tree_format _ c.args.entry c.args.at (c.requires.there told)).0

pub put_runs-requires-clause-own : goal.put_runs-requires-clause-own
put_runs-requires-clause-own g c = λ told.
    own_loaded _ c.load_data.new.bytes.items c.args.entry.pages _ (c.in_ok-view.ensures.loaded told) (above_lines tree_format _ c.args.entry c.args.at (c.requires.there told)).0

pub remove_lines-requires-clause-own : goal.remove_lines-requires-clause-own
remove_lines-requires-clause-own g c = λ told.
    own_loaded _ c.load_data.new.bytes.items c.args.entry.pages _ (c.in_ok-view.ensures.loaded told) (above_lines tree_format _ c.args.entry c.args.at (c.requires.there told)).0
