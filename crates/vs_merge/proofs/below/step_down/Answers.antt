use Rattle.std.proofs.Common.{ℕ, suc, ◌+◌, List, Some, IsTrue, length, sym, ap, subst, ◌∙◌, arith}
use Rattle.vs_pages.specs.Maps.{Map}
use Rattle.vs_pages.proofs.Steps.{Continues-trans, OnlyReads-continues, OnlyReads-trans}
use Rattle.vs_tree_shape.specs.declared.entries.Entry.{Entry}
use Rattle.vs_tree_shape.specs.Places.{IsPlace, lines_below}
use Rattle.vs_tree_shape.specs.Keeps.{KeepsBelow, IsReady, LeadsOn}
use Rattle.vs_tree_shape.proofs.Downs.{keeps_same}
use Rattle.vs_tree_shape.proofs.Steps.{above_entries, place_lines}
use Rattle.vs_tree_blocks.specs.Blocks.{tree_format, entries_at, LeadsToPointers}
use Rattle.vs_merge.specs.Evens.{HasKids, block_at}
use Rattle.vs_merge.proofs.Levels.{child_leads, enough, evened_keeps, has_kids, has_two, pair_lines, place_either}
use Rattle.vs_merge.proofs.Working.{only_after, only_either, only_nothing}
use Rattle.vs_merge.proofs.below.step_down.Goals as goal

pub load_entries-requires-clause-there : goal.load_entries-requires-clause-there
load_entries-requires-clause-there g c = λ told. let r = c.requires.there told in
    let e = above_entries tree_format _ c.args.top (suc (suc r.0)) c.args.at (λ z. omega (arith, z)) r.1 in
    record { entries = e.0; reads = e.1; lines = e.2; single = e.3 }

pub load_entries-requires-2-clause-there : goal.load_entries-requires-2-clause-there
load_entries-requires-2-clause-there g c = λ told.
    let r = c.requires.there told in
    let reads = c.in_ok-entries.ensures.entries told ∙ ap (λ (xs : List Entry). Some xs) (sym c.deref.ensures.value) in
    subst (λ (m : Map). LeadsToPointers m c.find_place-place.result.entry) (sym (c.load_entries.ensures.kept.present told)) (child_leads _ c.args.top r.0 c.args.at c.deref.result.now c.find_place-place.result r.1 reads c.find_place-place.ensures)

pub returns-then-len-lt2-clause-thickens : goal.returns-then-len-lt2-clause-thickens
returns-then-len-lt2-clause-thickens g c = λ told e need some least.
    keeps_same tree_format _ _ c.args.top (suc (suc e)) c.args.at (λ t. IsReady need (suc (suc e)) t c.args.at) (λ t. LeadsOn need (suc e) t c.args.at) (c.load_entries.ensures.kept.present told)
    (λ a f. absurd (omega (arith, c.if-len-lt2.true, has_two _ need c.args.top e c.args.at c.in_ok-entries.entries.items a (c.in_ok-entries.ensures.entries told) some f)))

pub returns-then-len-least-clause-thickens : goal.returns-then-len-least-clause-thickens
returns-then-len-least-clause-thickens g c = λ told e need some least.
    let same = c.load_entries.ensures.kept.present told in
    keeps_same tree_format _ _ c.args.top (suc (suc e)) c.args.at (λ t. IsReady need (suc (suc e)) t c.args.at) (λ t. LeadsOn need (suc e) t c.args.at) (c.load_entries-2.ensures.kept.present told ∙ same)
    (λ a f. enough _ need c.args.top e c.args.at c.deref.result.now c.in_ok-child.child.items c.find_place-place.result a (c.in_ok-entries.ensures.entries told ∙ ap (λ (xs : List Entry). Some xs) (sym c.deref.ensures.value)) c.find_place-place.ensures
    (ap (λ (m : Map). entries_at m c.find_place-place.result.entry.block) (sym same) ∙ c.in_ok-child.ensures.entries told) (omega (arith, c.if-len-least.true, least)) f)

pub returns-then-len-least-clause-inside : goal.returns-then-len-least-clause-inside
returns-then-len-least-clause-inside g c = omega (arith, place_lines c.deref.result.now c.args.at c.find_place-place.result c.find_place-place.ensures, ap lines_below c.deref.ensures.value, c.in_ok-entries.ensures.lines)

pub returns-then-len-least-clause-works : goal.returns-then-len-least-clause-works
returns-then-len-least-clause-works g c = (0, λ told. only_nothing _ _ _ (c.load_entries-2.ensures.kept.still.worked told ∙ c.load_entries.ensures.kept.still.worked told))

pub returns-then-len-lt2-clause-works : goal.returns-then-len-lt2-clause-works
returns-then-len-lt2-clause-works g c = (0, λ told. only_nothing _ _ _ (c.load_entries.ensures.kept.still.worked told))

pub find_place-requires : goal.find_place-requires
find_place-requires g c =
    omega (
      arith,
      ap lines_below c.deref-3.ensures.value,
      pair_lines c.deref-2.result.now c.in_ok-now.now.items c.pair_at-left.result (omega (arith, c.pair_at-left.ensures.fits, ap (λ (xs : List Entry). length xs) c.deref-2.ensures.value)) c.in_ok-now.ensures.puts,
      ap lines_below c.deref-2.ensures.value,
      c.in_ok-entries.ensures.lines,
      c.requires.within,
    )

pub even_at-requires-clause-there : goal.even_at-requires-clause-there
even_at-requires-clause-there g c = λ told.
    let r = c.requires.there told in
    let reads = c.in_ok-entries.ensures.entries told ∙ ap (λ (xs : List Entry). Some xs) (sym c.deref-2.ensures.value) in
    let same = c.load_entries-2.ensures.kept.present told ∙ c.load_entries.ensures.kept.present told in
    (r.0, subst (λ (m : Map). HasKids m c.args.top.block r.0 c.deref-2.result.now) (sym same) (has_kids _ c.args.top r.0 c.args.at c.deref-2.result.now r.1 reads))

pub returns-clause-thickens : goal.returns-clause-thickens
returns-clause-thickens g c = λ told e need some least.
    let es : List Entry = c.deref-2.result.now in
    let n1 : Map = (g.P.Pages.shows c.load_entries-2.new.pages).present in
    let n2 : Map = (g.P.Pages.shows c.even_at.new.pages).present in
    let same = c.load_entries-2.ensures.kept.present told ∙ c.load_entries.ensures.kept.present told in
    let reads = ap (λ (m : Map). entries_at m c.args.top.block) same ∙ c.in_ok-entries.ensures.entries told ∙ ap (λ (xs : List Entry). Some xs) (sym c.deref-2.ensures.value) in
    let is : IsPlace es c.args.at c.find_place-place.result = subst (λ (xs : List Entry). IsPlace xs c.args.at c.find_place-place.result) (c.deref.ensures.value ∙ sym c.deref-2.ensures.value) c.find_place-place.ensures in
    subst (λ (m : Map). KeepsBelow tree_format m n2 c.args.top (suc (suc e)) c.args.at (λ t. IsReady need (suc (suc e)) t c.args.at) (λ t. LeadsOn need (suc e) t c.args.at)) same
    (evened_keeps n1 n2 need c.args.top e c.args.at es c.in_ok-now.now.items c.find_place-place.result c.pair_at-left.result reads is c.pair_at-left.ensures.low c.pair_at-left.ensures.high (λ h. c.in_ok-now.ensures.evens told e h))

pub returns-clause-place : goal.returns-clause-place
returns-clause-place g c = λ told. record { entries = c.deref-3.result.now; reads = c.in_ok-now.ensures.reads told ∙ ap (λ (xs : List Entry). Some xs) (sym c.deref-3.ensures.value); is = c.find_place.ensures }

pub returns-clause-inside : goal.returns-clause-inside
returns-clause-inside g c = omega (
  arith,
  place_lines c.deref-3.result.now c.args.at c.find_place.result c.find_place.ensures,
  ap lines_below c.deref-3.ensures.value,
  pair_lines c.deref-2.result.now c.in_ok-now.now.items c.pair_at-left.result (omega (arith, c.pair_at-left.ensures.fits, ap (λ (xs : List Entry). length xs) c.deref-2.ensures.value)) c.in_ok-now.ensures.puts,
  ap lines_below c.deref-2.ensures.value,
  c.in_ok-entries.ensures.lines,
)

pub returns-clause-works : goal.returns-clause-works
returns-clause-works g c =
    let es : List Entry = c.deref-2.result.now in
    let left : ℕ = c.pair_at-left.result in
    let is : IsPlace es c.args.at c.find_place-place.result = subst (λ (xs : List Entry). IsPlace xs c.args.at c.find_place-place.result) (c.deref.ensures.value ∙ sym c.deref-2.ensures.value) c.find_place-place.ensures in
    let then : IsPlace c.in_ok-now.now.items c.args.at c.find_place.result = subst (λ (xs : List Entry). IsPlace xs c.args.at c.find_place.result) c.deref-3.ensures.value c.find_place.ensures in
    let either = place_either es c.in_ok-now.now.items c.args.at left c.find_place-place.result c.find_place.result (omega (arith, c.pair_at-left.ensures.fits, ap (λ (xs : List Entry). length xs) c.deref-2.ensures.value)) c.in_ok-now.ensures.puts is
    c.pair_at-left.ensures.low c.pair_at-left.ensures.high then in
    only_either (IsTrue g.P.Pages.tells) _ _ c.args.top.block (block_at es left) (block_at es (left + 1)) c.find_place.result.entry.block either
    (λ told. only_after _ _ _ _ (c.load_entries-2.ensures.kept.still.worked told ∙ c.load_entries.ensures.kept.still.worked told) (c.in_ok-now.ensures.works told))

pub returns-clause-kept : goal.returns-clause-kept
returns-clause-kept g c = Continues-trans g.met.P.Pages.stays_on (OnlyReads-continues (OnlyReads-trans g.met.P.Pages.stays_on c.load_entries.ensures.kept c.load_entries-2.ensures.kept)) c.even_at.ensures.kept
