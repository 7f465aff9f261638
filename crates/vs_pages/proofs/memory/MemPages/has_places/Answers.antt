use Rattle.std.proofs.Common.{◌≡◌, ℕ, zero, suc, ◌+◌, ◌<◌, List, Option, IsTrue, is_some, true, length, refl, sym, ap, ◌∙◌, inl, inr, arith}
use Rattle.std.specs.Prelude.{nat_eq}
use Rattle.std.proofs.lemmas.Bool.{cases_eq}
use Rattle.std.proofs.lemmas.Bool.Decides.{nat_tests}
use Rattle.vs_pages.specs.Cells.{AreThere}
use Rattle.vs_pages.specs.Table.{cells_of}
use Rattle.vs_pages.specs.Memory.{kept_of}
use Rattle.vs_pages.specs.declared.page.Page.{Page}
use Rattle.vs_pages.proofs.TableLemmas.{cells_of-within}
use Rattle.vs_pages.proofs.memory.MemPages.has_places.Goals as goal

-- no page is past the table
past_table : (places : List (Option Page)) (at n : ℕ) → length places < at → (IsTrue (nat_eq n 0) → AreThere (cells_of places) at n) × (AreThere (cells_of places) at n → IsTrue (nat_eq n 0))
past_table places at zero past = (λ none i lt. absurd (omega (arith, lt)), λ there. refl)
past_table places at (suc n) past = (
  λ none. absurd (let e : suc n ≡ 0 = grind (arith, nat_tests) in omega (arith, e)),
  λ there. absurd (omega (arith, past, cells_of-within places (at + 0) (there 0 (omega arith)))),
)

pub returns-then-at-len : goal.returns-then-at-len
returns-then-at-len c = past_table c.args.self.now.table.places.items c.args.at c.args.pages (omega (arith, c.if-at-len.true, c.len.ensures))

pub returns-then-not-has : goal.returns-then-not-has
returns-then-not-has c = (
  λ no. absurd (cc),
  λ there. let found : is_some (kept_of c.args.self.now (c.args.at + c.loop-i.i)) ≡ true = there c.loop-i.i c.loop-i-test.true in cc (c.has.ensures, c.if-not-has.true, found),
)

pub loop-i-preserved : goal.loop-i-preserved
loop-i-preserved c = λ j lt. elim (cases_eq j c.loop-i.i) [
  | inl e ↦ ap (λ k. is_some (kept_of c.args.self.now (c.args.at + k))) e ∙ sym c.has.ensures ∙ c.if-not-has.false
  | inr ne ↦ c.loop-i.invariant j (omega (arith, lt, ne))
]
