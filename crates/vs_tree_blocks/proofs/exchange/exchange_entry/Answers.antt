-- One entry in place of one leaves as many entries, so they have room in the block.
use Rattle.vs_tree_blocks.proofs.exchange.exchange_entry.Goals as goal
use Rattle.std.proofs.Common.{◌≡◌, suc, List, ◌∷◌, [], get_or, set, ap, subst, ◌∙◌, arith, length}
use Rattle.vs_pages.proofs.Steps.{Continues-trans, OnlyReads-continues}
use Rattle.vs_tree_shape.specs.declared.entries.Entry.{Entry}
use Rattle.vs_tree_shape.specs.Places.{lines_below}
use Rattle.vs_tree_blocks.specs.Pointers.{Leads, pointer_blocks}
use Rattle.vs_tree_blocks.specs.Writes.{StandsOver}
use Rattle.vs_tree_blocks.proofs.ExchangeLemmas.{exchanged, few_put, nothing}
use Rattle.vs_tree_blocks.proofs.PointersLemmas.{one_leads, one_written, pointer_one, spares_from, spares_stored}
use Rattle.std.specs.Prelude.{Vec}
use Rattle.std.specs.declared.alloc.Global.{Global}
use Rattle.std.proofs.lemmas.Result.{IfOk-weaker, on_ok_weaker}
use Rattle.vs_tree_shape.proofs.Working.{works_beside, works_from, works_most, works_still}

pub returns-then-by-eq1-clause-wrote : goal.returns-then-by-eq1-clause-wrote
returns-then-by-eq1-clause-wrote g c = λ told entries reads.
    let put = c.in_ok-above.ensures.put told entries reads in
    let is = exchanged _ entries c.args.by.now c.args.top c.args.place (c.requires.there told) reads c.if-by-eq1.true in
    let P : List Entry → Type 0 = λ es. StandsOver g.P.Pages c.args.pages.now c.put_entry.new.pages c.args.top.block (λ i. suc i) es c.in_ok-vec.field-0.items in
    subst P is.entries_are (λ also d kids below. one_written _ _ c.args.top.block d kids _ _ put.bytes c.in_ok-above.above put.stored put.points (c.in_ok-above.ensures.entry ∙ is.lines) c.in_ok-vec.ensures.items below)

pub returns-then-by-eq1-clause-blocks : goal.returns-then-by-eq1-clause-blocks
returns-then-by-eq1-clause-blocks g c = λ told entries reads.
    let put = c.in_ok-above.ensures.put told entries reads in
    let is = exchanged _ entries c.args.by.now c.args.top c.args.place (c.requires.there told) reads c.if-by-eq1.true in
    let now : List Entry = set entries c.args.place.index (get_or c.args.by.now 0 nothing) in
    let one : now ∷ [] ≡ pointer_blocks now = pointer_one now is.some (few_put _ _ c.args.top.block now put) in
    let P : List (List Entry) → Type 0 = λ bs. Leads g.P.Pages c.put_entry.new.pages c.in_ok-vec.field-0.items bs in
    subst P (one ∙ ap pointer_blocks is.entries_are)
    (λ also. one_leads _ _ c.args.top.block (lines_below now) put.bytes now _ c.in_ok-above.above put.stored put.points (c.in_ok-above.ensures.entry ∙ is.lines) c.in_ok-vec.ensures.items)

pub returns-then-by-eq1-clause-works : goal.returns-then-by-eq1-clause-works
returns-then-by-eq1-clause-works g c = λ told. works_most _ _ 1 2 (omega arith) (works_beside _ _ 1 (c.in_ok-above.ensures.works told))

pub returns-then-by-eq1-clause-one : goal.returns-then-by-eq1-clause-one
returns-then-by-eq1-clause-one g c = λ few. c.in_ok-above.ensures.works

pub returns-then-by-eq1-clause-single : goal.returns-then-by-eq1-clause-single
returns-then-by-eq1-clause-single g c = λ few. omega (arith, ap length c.in_ok-vec.ensures.items)

pub returns-clause-works : goal.returns-clause-works
returns-clause-works g c = on_ok_weaker c.write_pointers.result (λ two told. works_from _ (g.P.Pages.shows c.load_replaced.new.pages).worked _ 2 2 (omega arith) (c.load_replaced.ensures.kept.still.worked told) (two told)) c.write_pointers.ensures.works

pub returns-clause-one : goal.returns-clause-one
returns-clause-one g c = on_ok_weaker c.write_pointers.result
    (λ one few told. works_still _ (g.P.Pages.shows c.load_replaced.new.pages).worked _ 1 1 (omega arith) (c.load_replaced.ensures.kept.still.worked told) (one (omega (arith, c.in_ok-all.ensures.few, few)) told)) c.write_pointers.ensures.one

pub returns-clause-single : goal.returns-clause-single
returns-clause-single g c = IfOk-weaker c.write_pointers.result _ _ (λ (above : Vec Entry Global) single few. single (omega (arith, c.in_ok-all.ensures.few, few))) c.write_pointers.ensures.single

pub returns-in_err-above-clause-kept : goal.returns-in_err-above-clause-kept
returns-in_err-above-clause-kept g c = c.put_entry.ensures.kept

pub returns-in_err-vec-clause-kept : goal.returns-in_err-vec-clause-kept
returns-in_err-vec-clause-kept g c = c.in_ok-above.ensures.kept

pub returns-then-by-eq1-clause-kept : goal.returns-then-by-eq1-clause-kept
returns-then-by-eq1-clause-kept g c = c.in_ok-above.ensures.kept

pub returns-in_err-all-clause-kept : goal.returns-in_err-all-clause-kept
returns-in_err-all-clause-kept g c = OnlyReads-continues c.load_replaced.ensures.kept

pub returns-clause-kept : goal.returns-clause-kept
returns-clause-kept g c = Continues-trans g.met.P.Pages.stays_on (OnlyReads-continues c.in_ok-all.ensures.kept) c.write_pointers.ensures.kept

pub returns-then-by-eq1-clause-others : goal.returns-then-by-eq1-clause-others
returns-then-by-eq1-clause-others g c = λ told.
    let there = c.requires.there told in
    let put = c.in_ok-above.ensures.put told there.leads.entries there.leads.reads in
    spares_stored _ _ c.args.top.block put.bytes put.stored

pub returns-clause-others : goal.returns-clause-others
returns-clause-others g c = on_ok_weaker c.write_pointers.result (λ others told. spares_from _ _ _ c.args.top.block (c.load_replaced.ensures.kept.present told) (others told)) c.write_pointers.ensures.others
