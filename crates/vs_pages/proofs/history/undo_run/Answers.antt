use Rattle.std.proofs.Common.{◌∙◌, ap, sym, is_some, inl, inr, arith}
use Rattle.std.proofs.lemmas.Bool.{cases_lt}
use Rattle.vs_pages.specs.Table.{cells_of}
use mathlib.Core.Path.{fun_ext}
use Rattle.vs_pages.specs.Cells.{Cells}
use Rattle.vs_pages.proofs.CellLemmas.{none_cell}
use Rattle.vs_pages.proofs.Ends.{past_put}
use Rattle.vs_pages.proofs.TableLemmas.{cells_of-take, cells_of-take_past}
use Rattle.vs_pages.proofs.history.undo_run.Goals as goal

pub end_below-requires : goal.end_below-requires
end_below-requires c = λ k past.
    let left = c.exchange.new.table.places.items in
    ap (λ ps. is_some (cells_of ps k)) c.truncate.ensures ∙ elim (cases_lt k c.args.run.places) [
      | inr out ↦ ap (λ o. is_some o) (cells_of-take_past left c.args.run.places k out)
      | inl lt ↦
          ap (λ o. is_some o) (cells_of-take left c.args.run.places k lt)
          ∙ past_put (cells_of c.args.table.now.places.items) (cells_of left) c.args.used c.max.result c.args.run.at c.args.run.was.items c.exchange.ensures.put c.requires.used
          (omega (arith, c.max.ensures)) (omega (arith, c.max.ensures, c.len-pages.ensures)) k past
    ]

pub returns-clause-cells : goal.returns-clause-cells
returns-clause-cells c =
    let left = c.exchange.new.table.places.items in
    ap cells_of c.truncate.ensures ∙ fun_ext (λ k. elim (cases_lt k c.args.run.places) [
      | inl lt ↦ cells_of-take left c.args.run.places k lt ∙ ap (λ (m : Cells). m k) c.exchange.ensures.put
      | inr past ↦ cells_of-take_past left c.args.run.places k past ∙ sym (none_cell _ (c.requires.run.past k past))
    ])
