-- Each half is written, and the clauses on the store are those of the calls before.
use Rattle.vs_tree_blocks.proofs.pointers.write_two.Goals as goal
use Rattle.std.proofs.Common.{ℕ, refl, ap, arith}
use Rattle.vs_pages.proofs.Steps.{Continues-none, Continues-trans}
use Rattle.vs_tree_shape.specs.declared.entries.Entry.{Entry}
use Rattle.vs_tree_shape.specs.Places.{lines_below}
use Rattle.vs_tree_blocks.proofs.PointersLemmas.{stored_as, added_as, parts_below, spares_two, two_leads, two_written}
use Rattle.vs_tree_shape.proofs.Working.{works_one, works_then}

pub entry_above-one-requires-clause-small : goal.entry_above-one-requires-clause-small
entry_above-one-requires-clause-small g c = omega (arith, parts_below _ c.args.entries.now _ _ c.halve.ensures.first c.halve.ensures.second, c.requires.small)

pub entry_above-two-requires-clause-small : goal.entry_above-two-requires-clause-small
entry_above-two-requires-clause-small g c = omega (arith, parts_below _ c.args.entries.now _ _ c.halve.ensures.first c.halve.ensures.second, c.requires.small)

pub returns-clause-wrote : goal.returns-clause-wrote
returns-clause-wrote g c = λ told d kids below.
    two_written _ _ _ _ c.in_ok-other.other d _ kids _ _ _ _ c.in_ok-bytes.bytes.items c.in_ok-more.more.items c.entry_above-one.result c.entry_above-two.result c.halve.ensures.first c.halve.ensures.second
    (stored_as _ _ _ _ _ (c.in_ok-touch.ensures.ok told) c.deref.ensures.value c.in_ok-bytes.ensures.size) c.in_ok-bytes.ensures.entries
    (added_as _ _ _ _ _ _ (c.in_ok-other.ensures.added told) c.deref-2.ensures.value) c.in_ok-more.ensures.entries
    c.entry_above-one.ensures.entry c.entry_above-two.ensures.entry c.in_ok-vec.ensures.items below

pub returns-clause-works : goal.returns-clause-works
returns-clause-works g c = λ told. works_then _ _ _ 1 1 2 (omega arith) (works_one _ _ c.args.block (c.in_ok-touch.ensures.change.worked told)) (c.in_ok-other.ensures.works told refl)

pub returns-clause-lines : goal.returns-clause-lines
returns-clause-lines g c =
    let f : Entry → ℕ = λ e. e.lines in
    omega (arith, ap lines_below c.in_ok-vec.ensures.items, ap f c.entry_above-one.ensures.entry, ap f c.entry_above-two.ensures.entry, parts_below _ c.args.entries.now _ _ c.halve.ensures.first c.halve.ensures.second)

pub returns-clause-blocks : goal.returns-clause-blocks
returns-clause-blocks g c = λ told.
    two_leads _ _ _ c.args.block c.in_ok-other.other _ c.args.entries.now _ _ _ c.in_ok-bytes.bytes.items c.in_ok-more.more.items c.entry_above-one.result c.entry_above-two.result refl c.halve.ensures.first c.halve.ensures.second
    (stored_as _ _ _ _ _ (c.in_ok-touch.ensures.ok told) c.deref.ensures.value c.in_ok-bytes.ensures.size) c.in_ok-bytes.ensures.entries
    (added_as _ _ _ _ _ _ (c.in_ok-other.ensures.added told) c.deref-2.ensures.value) c.in_ok-more.ensures.entries
    c.entry_above-one.ensures.entry c.entry_above-two.ensures.entry c.in_ok-vec.ensures.items

pub returns-in_err-other-clause-kept : goal.returns-in_err-other-clause-kept
returns-in_err-other-clause-kept g c = Continues-trans g.met.P.Pages.stays_on c.in_ok-touch.ensures.kept c.add_block.ensures.kept

pub returns-in_err-vec-clause-kept : goal.returns-in_err-vec-clause-kept
returns-in_err-vec-clause-kept g c = Continues-trans g.met.P.Pages.stays_on c.in_ok-touch.ensures.kept c.in_ok-other.ensures.kept

pub returns-clause-kept : goal.returns-clause-kept
returns-clause-kept g c = Continues-trans g.met.P.Pages.stays_on c.in_ok-touch.ensures.kept c.in_ok-other.ensures.kept

pub returns-in_err-bytes-clause-kept : goal.returns-in_err-bytes-clause-kept
returns-in_err-bytes-clause-kept g c = Continues-none g.met.P.Pages.stays_itself c.requires.valid

pub returns-in_err-more-clause-kept : goal.returns-in_err-more-clause-kept
returns-in_err-more-clause-kept g c = Continues-none g.met.P.Pages.stays_itself c.requires.valid

pub returns-in_err-touch-clause-kept : goal.returns-in_err-touch-clause-kept
returns-in_err-touch-clause-kept g c = c.touch.ensures.kept

pub returns-clause-others : goal.returns-clause-others
returns-clause-others g c = λ told.
    spares_two _ _ _ c.args.block c.in_ok-other.other c.in_ok-bytes.bytes.items c.in_ok-more.more.items
    (stored_as _ _ _ _ _ (c.in_ok-touch.ensures.ok told) c.deref.ensures.value c.in_ok-bytes.ensures.size)
    (added_as _ _ _ _ _ _ (c.in_ok-other.ensures.added told) c.deref-2.ensures.value)
