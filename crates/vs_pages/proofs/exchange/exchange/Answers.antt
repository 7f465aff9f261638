use Rattle.std.proofs.Common.{◌≡◌, ℕ, ◌+◌, ◌<◌, inl, inr, List, Option, None, length, get_or, sym, ap, ◌∙◌, arith}
use Rattle.std.proofs.lemmas.Bool.{cases_eq}
use Rattle.std.proofs.lemmas.Grind.{get_or-set_at}
use Rattle.std.proofs.lemmas.List.{get_or_default, get_or-set_other}
use Rattle.vs_pages.specs.Cells.{Cells}
use Rattle.vs_pages.proofs.CellLemmas.{cell-same, cell-other}
use Rattle.vs_pages.specs.Table.{cell_of, cells_of}
use Rattle.vs_pages.specs.declared.page.Page.{Page}
use Rattle.vs_pages.proofs.Places.{put_places_is}
use Rattle.vs_pages.proofs.TableLemmas.{length_set}
use Rattle.vs_pages.proofs.exchange.exchange.Goals as goal

pub places-preserved : goal.places-preserved
places-preserved c =
    let inv = c.places.invariant in
    let i : ℕ = c.places.i in
    let at : ℕ = c.args.at in
    let old : List (Option Page) = c.args.pages.now.items in
    let now : List (Option Page) = c.places.pages.items in
    let new : Option Page = c.exchange_one.new.page in
    let m : Cells = cells_of c.places.table.places.items in
    let n : Cells = cells_of c.exchange_one.new.table.places.items in
    let first : Cells = cells_of c.args.table.now.places.items in
    let step = c.exchange_one.ensures in
    let here : i < length now = omega (arith, c.places-test.true, inv.len, c.len-i-end.ensures) in
    let page_is : c.index_mut.result.now ≡ get_or old i None = c.index_mut.ensures.value ∙ get_or_default now i c.index_mut.result.now None here ∙ inv.todo i (omega arith) in
    record {
      len = length_set now i new ∙ inv.len;
      places = step.places ∙ inv.places;
      put = λ j lt. elim (cases_eq j i) [
        | inl e ↦ ap (λ (k : ℕ). n (at + k)) e ∙ ap (λ (f : Cells). f (at + i)) step.put ∙ cell-same m (at + i) (cell_of c.index_mut.result.now) ∙ ap (λ (p : Option Page). cell_of p) page_is ∙ ap (λ (k : ℕ). cell_of (get_or old k None)) (sym e)
        | inr ne ↦ ap (λ (f : Cells). f (at + j)) step.put ∙ cell-other m (at + i) (cell_of c.index_mut.result.now) (at + j) (λ e. ne (omega (arith, e))) ∙ inv.put j (omega (arith, lt, ne))
      ];
      was = λ j lt. elim (cases_eq j i) [
        | inl e ↦ ap (λ (p : Option Page). cell_of p) (get_or-set_at now i j new None e here) ∙ step.was ∙ inv.rest (at + i) (inr (omega arith)) ∙ ap (λ (k : ℕ). first (at + k)) (sym e)
        | inr ne ↦ ap (λ (p : Option Page). cell_of p) (get_or-set_other now i j new None ne) ∙ inv.was j (omega (arith, lt, ne))
      ];
      todo = λ j le. get_or-set_other now i j new None (λ e. omega (arith, e, le)) ∙ inv.todo j (omega (arith, le));
      rest = λ k out. elim out [
        | inl lt ↦ ap (λ (f : Cells). f k) step.put ∙ cell-other m (at + i) (cell_of c.index_mut.result.now) k (λ e. omega (arith, e, lt)) ∙ inv.rest k (inl lt)
        | inr past ↦ ap (λ (f : Cells). f k) step.put ∙ cell-other m (at + i) (cell_of c.index_mut.result.now) k (λ e. omega (arith, e, past)) ∙ inv.rest k (inr (omega (arith, past)))
      ];
    }

pub returns-clause-put : goal.returns-clause-put
returns-clause-put c =
    let inv = c.places.invariant in
    put_places_is (cells_of c.args.table.now.places.items) (cells_of c.places.table.places.items) c.args.at c.args.pages.now.items
    (λ k out. inv.rest k (elim out [ inl lt ↦ inl lt | inr past ↦ inr (omega (arith, past, c.places.auto.i-end, c.len-i-end.ensures)) ]))
    (λ j lt. inv.put j (omega (arith, lt, c.places-test.false, c.len-i-end.ensures)))

pub returns-clause-was : goal.returns-clause-was
returns-clause-was c =
    let inv = c.places.invariant in
    put_places_is (cells_of c.places.table.places.items) (cells_of c.args.table.now.places.items) c.args.at c.places.pages.items
    (λ k out. sym (inv.rest k (elim out [ inl lt ↦ inl lt | inr past ↦ inr (omega (arith, past, inv.len, c.places.auto.i-end, c.len-i-end.ensures)) ])))
    (λ j lt. sym (inv.was j (omega (arith, lt, inv.len, c.places-test.false, c.len-i-end.ensures))))
