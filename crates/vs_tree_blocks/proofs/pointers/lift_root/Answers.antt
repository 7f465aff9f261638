-- Each half is written into a new block, and the clauses on the store are those of the calls before.
use Rattle.vs_tree_blocks.proofs.pointers.lift_root.Goals as goal
use Rattle.std.proofs.Common.{◌≡◌, refl, arith}
use Rattle.vs_pages.proofs.Steps.{Continues-none, Continues-trans}
use Rattle.std.proofs.lemmas.Result.{on_ok_weaker}
use Rattle.vs_pages.specs.Maps.{Map, lacks}
use Rattle.vs_pages.proofs.MapsLemmas.{pages_at-there, span-first}
use Rattle.vs_tree_blocks.proofs.PointersLemmas.{stored_as, added_as, parts_below, root_leads, root_lifted, spares_root}
use Rattle.vs_tree_shape.proofs.Working.{works_one, works_then}

pub entry_above-one-requires-clause-small : goal.entry_above-one-requires-clause-small
entry_above-one-requires-clause-small g c = omega (arith, parts_below _ c.args.entries.now _ _ c.halve.ensures.first c.halve.ensures.second, c.requires.small)

pub entry_above-two-requires-clause-small : goal.entry_above-two-requires-clause-small
entry_above-two-requires-clause-small g c = omega (arith, parts_below _ c.args.entries.now _ _ c.halve.ensures.first c.halve.ensures.second, c.requires.small)

pub returns-clause-wrote : goal.returns-clause-wrote
returns-clause-wrote g c = on_ok_weaker c.touch.result
    (λ touched told d kids below.
    let m : Map = (g.P.Pages.shows c.args.pages.now).present in
    let here : lacks (m 1) ≡ 0 = omega (arith, pages_at-there m 1 1 (c.requires.there told) 1, span-first 1 1 (omega arith)) in
    root_lifted _ _ _ _ c.in_ok-moved.moved c.in_ok-other.other d _ kids _ _ _ _ c.in_ok-bytes.bytes.items c.in_ok-more.more.items c.in_ok-top.top.items c.entry_above-one.result c.entry_above-two.result c.halve.ensures.first c.halve.ensures.second here
    (added_as _ _ _ _ _ _ (c.in_ok-moved.ensures.added told) c.deref.ensures.value) c.in_ok-bytes.ensures.entries
    (added_as _ _ _ _ _ _ (c.in_ok-other.ensures.added told) c.deref-2.ensures.value) c.in_ok-more.ensures.entries
    c.entry_above-one.ensures.entry c.entry_above-two.ensures.entry
    (stored_as _ _ _ _ _ (touched told) c.deref-3.ensures.value c.in_ok-top.ensures.size) c.in_ok-top.ensures.entries refl below)
    c.touch.ensures.ok

pub returns-clause-works : goal.returns-clause-works
returns-clause-works g c = on_ok_weaker c.touch.result
    (λ touched told. works_then _ _ _ 2 1 3 (omega arith) (works_then _ _ _ 1 1 2 (omega arith) (c.in_ok-moved.ensures.works told refl) (c.in_ok-other.ensures.works told refl)) (works_one _ _ 1 (touched.worked told)))
    c.touch.ensures.change

pub returns-clause-blocks : goal.returns-clause-blocks
returns-clause-blocks g c = on_ok_weaker c.touch.result
    (λ touched told.
    let m : Map = (g.P.Pages.shows c.args.pages.now).present in
    let here : lacks (m 1) ≡ 0 = omega (arith, pages_at-there m 1 1 (c.requires.there told) 1, span-first 1 1 (omega arith)) in
    root_leads _ _ _ _ c.in_ok-moved.moved c.in_ok-other.other _ c.args.entries.now _ _ _ c.in_ok-bytes.bytes.items c.in_ok-more.more.items c.in_ok-top.top.items c.entry_above-one.result c.entry_above-two.result refl c.halve.ensures.first c.halve.ensures.second here
    (added_as _ _ _ _ _ _ (c.in_ok-moved.ensures.added told) c.deref.ensures.value) c.in_ok-bytes.ensures.entries
    (added_as _ _ _ _ _ _ (c.in_ok-other.ensures.added told) c.deref-2.ensures.value) c.in_ok-more.ensures.entries
    c.entry_above-one.ensures.entry c.entry_above-two.ensures.entry
    (stored_as _ _ _ _ _ (touched told) c.deref-3.ensures.value c.in_ok-top.ensures.size) c.in_ok-top.ensures.entries refl)
    c.touch.ensures.ok

pub returns-in_err-other-clause-kept : goal.returns-in_err-other-clause-kept
returns-in_err-other-clause-kept g c = Continues-trans g.met.P.Pages.stays_on c.in_ok-moved.ensures.kept c.add_block-2.ensures.kept

pub returns-in_err-top-clause-kept : goal.returns-in_err-top-clause-kept
returns-in_err-top-clause-kept g c = Continues-trans g.met.P.Pages.stays_on c.in_ok-moved.ensures.kept c.in_ok-other.ensures.kept

pub returns-clause-kept : goal.returns-clause-kept
returns-clause-kept g c = Continues-trans g.met.P.Pages.stays_on (Continues-trans g.met.P.Pages.stays_on c.in_ok-moved.ensures.kept c.in_ok-other.ensures.kept) c.touch.ensures.kept

pub returns-in_err-bytes-clause-kept : goal.returns-in_err-bytes-clause-kept
returns-in_err-bytes-clause-kept g c = Continues-none g.met.P.Pages.stays_itself c.requires.valid

pub returns-in_err-moved-clause-kept : goal.returns-in_err-moved-clause-kept
returns-in_err-moved-clause-kept g c = c.add_block.ensures.kept

pub returns-in_err-more-clause-kept : goal.returns-in_err-more-clause-kept
returns-in_err-more-clause-kept g c = c.in_ok-moved.ensures.kept

pub returns-clause-others : goal.returns-clause-others
returns-clause-others g c = on_ok_weaker c.touch.result
    (λ touched told.
    spares_root _ _ _ _ c.in_ok-moved.moved c.in_ok-other.other c.in_ok-bytes.bytes.items c.in_ok-more.more.items c.in_ok-top.top.items
    (added_as _ _ _ _ _ _ (c.in_ok-moved.ensures.added told) c.deref.ensures.value) (added_as _ _ _ _ _ _ (c.in_ok-other.ensures.added told) c.deref-2.ensures.value)
    (stored_as _ _ _ _ _ (touched told) c.deref-3.ensures.value c.in_ok-top.ensures.size))
    c.touch.ensures.ok
