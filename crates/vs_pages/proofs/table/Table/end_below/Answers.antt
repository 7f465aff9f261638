use Rattle.std.proofs.Common.{◌-◌, is_some, sym, ◌∙◌, ap, inl, inr, arith}
use Rattle.std.proofs.lemmas.Bool.{cases_eq}
use Rattle.vs_pages.specs.Table.{cells_of}
use Rattle.vs_pages.proofs.Ends.{end_from}
use Rattle.vs_pages.proofs.table.Table.end_below.Goals as goal

pub places-preserved : goal.places-preserved
places-preserved c = λ k past. elim (cases_eq k (c.places.end - 1)) [
  | inl e ↦ ap (λ j. is_some (cells_of c.args.self.now.places.items j)) e ∙ sym c.has.ensures ∙ c.if-not-has.true
  | inr ne ↦ c.places.invariant k (omega (arith, past, ne))
]

pub returns-else-not-has : goal.returns-else-not-has
returns-else-not-has c = end_from _ c.places.end c.places.invariant (λ some. sym c.has.ensures ∙ c.if-not-has.false)

pub returns-after-places : goal.returns-after-places
returns-after-places c = end_from _ c.places.end c.places.invariant (λ some. absurd (omega (arith, some, c.places-test.false)))
