-- The bytes that were lent or loaded are a block of the tree, so what is read of them are its entries.
use Rattle.std.proofs.Common.{ℕ, List, Some, sym, ap, ◌∙◌}
use Rattle.vs_pages.proofs.MapsLemmas.{pages_at-one}
use Rattle.vs_tree_blocks.proofs.FoundLemmas.{place_loaded, pointers_loaded}
use Rattle.vs_tree_blocks.proofs.find.find_below.Goals as goal

pub returns-in-Some-place_in-clause-place : goal.returns-in-Some-place_in-clause-place
returns-in-Some-place_in-clause-place g c = λ told.
    let there = c.requires.there told in
    let m = (g.P.Pages.shows c.args.pages.now).present in
    place_loaded m c.args.entry.block c.in-Some.bytes.now c.args.at c.in-Some-place_in.place there.entries there.reads (pages_at-one m c.args.entry.block ∙ c.in-Some.ensures.lent told)
    c.in-Some-place_in.ensures.place

pub damaged-requires-clause-silent : goal.damaged-requires-clause-silent
damaged-requires-clause-silent g c = λ told.
    c.in-None.ensures.none (pointers_loaded (g.P.Pages.shows c.args.pages.now).present c.args.entry c.deref.result.now (c.requires.there told) (c.in_ok-load.ensures.loaded told ∙ ap (λ (b : List ℕ). Some b) (sym c.deref.ensures.value)))

pub returns-in-Some-place_in-2-clause-place : goal.returns-in-Some-place_in-2-clause-place
returns-in-Some-place_in-2-clause-place g c = λ told.
    let there = c.requires.there told in
    place_loaded (g.P.Pages.shows c.args.pages.now).present c.args.entry.block c.deref.result.now c.args.at c.in-Some-place_in-2.place there.entries there.reads
    (c.in_ok-load.ensures.loaded told ∙ ap (λ (b : List ℕ). Some b) (sym c.deref.ensures.value)) c.in-Some-place_in-2.ensures.place
