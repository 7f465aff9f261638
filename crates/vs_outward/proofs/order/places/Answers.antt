use Rattle.std.proofs.Common.{◌≡◌, ◌<◌, ◌+◌, ◌++◌, ◌∷◌, [], ℕ, List, inl, inr, get_or, length, sym, ap, subst, ◌∙◌, arith}
use Rattle.std.proofs.lemmas.Bool.{cases_lt}
use Rattle.std.proofs.lemmas.Grind.{get_or_default_zero}
use Rattle.std.proofs.lemmas.List.{get_or_append_left, get_or_push, length-append}
use Rattle.std.proofs.lemmas.List.Elements.{All-from_get_or}
use Rattle.vs_outward.proofs.order.places.Goals as goal

pushed : (places : List ℕ) (count k : ℕ) → length places ≡ count → ((j : ℕ) → j < count → get_or places j j ≡ j) → k < count + 1 → get_or (places ++ count ∷ []) k k ≡ k
pushed places count k long each within = elim (cases_lt k count) [
  | inl before ↦ get_or_append_left places (count ∷ []) k k (omega (arith, long, before)) ∙ each k before
  | inr past ↦
      let last : k ≡ length places = omega (arith, long, past, within) in
      get_or_push places count k k (sym last) ∙ sym (last ∙ long)
]

pub places-preserved : goal.places-preserved
places-preserved c =
    let inv = c.places.invariant in
    let items = c.in_ok-push.ensures.items in
    record {
      count = ap length items ∙ (length-append c.places.places.items (c.places.place ∷ []) ∙ ap (λ n. n + 1) inv.count);
      each = λ k within. subst (λ xs. get_or xs k k ≡ k) (sym items) (pushed c.places.places.items c.places.place k inv.count inv.each within);
    }

pub returns-clause-within : goal.returns-clause-within
returns-clause-within c =
    let inv = c.places.invariant in
    All-from_get_or (λ place. place < c.args.count) c.places.places.items 0 (λ k within.
    let inside : k < c.places.place = omega (arith, inv.count, within) in
    let is = sym (get_or_default_zero c.places.places.items k k within) ∙ inv.each k inside in
    omega (arith, is, inside))

pub returns-clause-each : goal.returns-clause-each
returns-clause-each c = λ place within. (place, omega (arith, c.places.invariant.count, within), c.places.invariant.each place (omega arith))
