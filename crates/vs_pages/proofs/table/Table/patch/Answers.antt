use Rattle.std.proofs.Common.{◌≡◌, ℕ, ◌∙◌, List, Option, None, Some, length, ap, sym, arith, rules}
use Rattle.vs_pages.specs.Cells.{Kept, Cell, Cells, put_cell, rewritten}
use Rattle.vs_pages.specs.Table.{cell_of, cells_of}
use Rattle.vs_pages.specs.declared.page.Page.{Page}
use Rattle.vs_pages.specs.declared.page.Page.TheVariants.{Written}
use Rattle.vs_pages.proofs.CellLemmas.{cell-cell}
use Rattle.vs_pages.proofs.TableLemmas.{length_set, cells_of-set, written_within}
use Rattle.vs_pages.proofs.table.Table.patch.Goals as goal

pub returns-clause-cells : goal.returns-clause-cells
returns-clause-cells c =
    let places = c.args.self.now.places.items in
    let at = c.args.at in
    let page : Option Page = Some (Written c.patch.new.self) in
    let inner : c.in-Some-Written.field-0 ≡ Written c.in-Some-Written.buffer = search rules in
    let inside = written_within places at c.requires.written in
    let size = ap (λ (ps : List (Option Page)). length ps) c.in-Some-Written.ensures.after ∙ length_set places at None in
    ap cells_of c.set.ensures ∙ cells_of-set c.replace.new.self.places.items at page (omega (arith, size, inside))
    ∙ ap (λ (m : Cells). put_cell m at (cell_of page)) (ap cells_of c.in-Some-Written.ensures.after ∙ cells_of-set places at None inside)
    ∙ cell-cell (cells_of places) at None (cell_of page)
    ∙ ap (λ (v : Option Cell). put_cell (cells_of places) at v)
    (ap (λ (b : List ℕ). Some (Kept b)) c.patch.ensures ∙ ap (λ (v : Option Cell). rewritten v c.args.from c.args.bytes.now) (ap (λ (p : Page). cell_of (Some p)) (sym inner) ∙ ap cell_of c.in-Some-Written.ensures.value))
