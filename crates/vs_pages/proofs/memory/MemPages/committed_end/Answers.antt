use Rattle.std.proofs.Common.{◌-◌, Option, is_some, length, ap, sym, ◌∙◌, arith, inl, inr}
use Rattle.std.proofs.lemmas.Bool.{cases_eq}
use Rattle.vs_pages.specs.Cells.{Cell}
use Rattle.vs_pages.specs.HistoryLaws.{first_past}
use Rattle.vs_pages.specs.Memory.{changes_of, first_kept_of, kept_of}
use Rattle.vs_pages.proofs.Ends.{end_from}
use Rattle.vs_pages.proofs.TableLemmas.{cells_of-end}
use Rattle.vs_pages.proofs.memory.MemPages.committed_end.Goals as goal

pub places-init : goal.places-init
places-init c =
    let places = c.args.self.now.table.places.items in
    record {
      within = omega (arith, c.len-end.ensures);
      past = λ k past. first_past (kept_of c.args.self.now) (length places) (changes_of c.args.self.now) c.args.self.now.undo (λ j le. ap (λ (o : Option Cell). is_some o) (cells_of-end places j le)) k (omega (arith, past, c.len-end.ensures));
    }

pub places-preserved : goal.places-preserved
places-preserved c = record {
  within = omega (arith, c.places.invariant.within);
  past = λ k past. elim (cases_eq k (c.places.end - 1)) [
    | inl e ↦ ap (λ j. is_some (first_kept_of c.args.self.now j)) e ∙ sym c.had.ensures ∙ c.if-not-had.true
    | inr ne ↦ c.places.invariant.past k (omega (arith, past, ne))
  ];
}

pub returns-else-not-had-clause-end : goal.returns-else-not-had-clause-end
returns-else-not-had-clause-end c = end_from _ c.places.end c.places.invariant.past (λ some. sym c.had.ensures ∙ c.if-not-had.false)

pub returns-after-places-clause-end : goal.returns-after-places-clause-end
returns-after-places-clause-end c = end_from _ c.places.end c.places.invariant.past (λ some. absurd (omega (arith, some, c.places-test.false)))
