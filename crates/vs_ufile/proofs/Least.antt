-- The marked place with the least number.
use Rattle.std.proofs.Common.{◌≡◌, ℕ, zero, suc, ◌+◌, ◌<◌, ◌≤◌, ◌⊎◌, inl, inr, Bool, true, false, List, ◌∷◌, length, map, get_or, Option, Some, None, sym, ap, subst, ◌∙◌, arith}
use Rattle.std.proofs.lemmas.Bool.{cases_lt, false≢true}
use Rattle.std.proofs.lemmas.List.{get_or-map, length-map}
use Rattle.vs_ufile.specs.declared.changes.PlacedChange.{PlacedChange}
use Rattle.vs_ufile.specs.Changes.{placed_of}
use Rattle.vs_ufile.specs.Failing.{AreFailing, AreNumbers, IsLeastMarked}
use Rattle.vs_ufile.specs.Reading.{Placed, numbers_of}
use Rattle.vs_ufile.specs.Tree.{Fails, IsLeastFailing, IsTree}
use Rattle.vs_ufile.specs.Walks.{at}
use Rattle.vs_ufile.proofs.Linked.{are_names, changes_of}

or_last : (j n : ℕ) → j < n + 1 → (j < n) ⊎ (j ≡ n)
or_last j n lt = elim (cases_lt j n) [ inl less ↦ inl less | inr le ↦ inr (omega (arith, lt, le)) ]

pub least_none : (marks : List Bool) (ns : List ℕ) (n : ℕ) → IsLeastMarked marks ns n None → get_or marks (n + 1) false ≡ true → IsLeastMarked marks ns (n + 1) (Some n)
least_none marks ns n h m = record {
  within = omega arith;
  marked = m;
  least = λ j lt t. elim (or_last j n lt) [
    | inl less ↦ absurd (false≢true (sym (h j less) ∙ t))
    | inr e ↦ omega (arith, ap (at ns) e)
  ];
}

pub least_less : (marks : List Bool) (ns : List ℕ) (n b : ℕ) → IsLeastMarked marks ns n (Some b) → get_or marks (n + 1) false ≡ true → at ns n < at ns b → IsLeastMarked marks ns (n + 1) (Some n)
least_less marks ns n b h m less = record {
  within = omega arith;
  marked = m;
  least = λ j lt t. elim (or_last j n lt) [
    | inl old ↦ omega (arith, h.least j old t, less)
    | inr e ↦ omega (arith, ap (at ns) e)
  ];
}

pub least_keep : (marks : List Bool) (ns : List ℕ) (n b : ℕ) → IsLeastMarked marks ns n (Some b) → at ns b ≤ at ns n → IsLeastMarked marks ns (n + 1) (Some b)
least_keep marks ns n b h le = record {
  within = omega (arith, h.within);
  marked = h.marked;
  least = λ j lt t. elim (or_last j n lt) [
    | inl old ↦ h.least j old t
    | inr e ↦ omega (arith, ap (at ns) e, le)
  ];
}

pub least_skip : (marks : List Bool) (ns : List ℕ) (n : ℕ) (o : Option ℕ) → IsLeastMarked marks ns n o → get_or marks (n + 1) false ≡ false → IsLeastMarked marks ns (n + 1) o
least_skip marks ns n None h m = λ j lt. elim (or_last j n lt) [
  | inl old ↦ h j old
  | inr e ↦ subst (λ (x : ℕ). get_or marks (x + 1) false ≡ false) (sym e) m
]
least_skip marks ns n (Some b) h m = record {
  within = omega (arith, h.within);
  marked = h.marked;
  least = λ j lt t. elim (or_last j n lt) [
    | inl old ↦ h.least j old t
    | inr e ↦ absurd (false≢true (sym m ∙ subst (λ (x : ℕ). get_or marks (x + 1) false ≡ true) e t))
  ];
}

-- the number of a change
pub number_at : (ps : List PlacedChange) (i : ℕ) (d : PlacedChange) → i < length ps → at (numbers_of (map placed_of ps)) i ≡ (get_or ps i d).change.number
number_at ps i d lt =
    get_or-map (λ p. p.change.number) (map placed_of ps) i (placed_of d) 0 (omega (arith, lt, length-map ps placed_of)) ∙ ap (λ (p : Placed). p.change.number) (get_or-map placed_of ps i d (placed_of d) lt)

-- ---- where each mark says whether its change fails

no_mark_at : (placed : List Placed) (marks : List Bool) → IsLeastMarked marks (numbers_of placed) (length placed) None → (p : ℕ) → 0 < p → p < length placed + 1 → get_or marks p false ≡ true → ⊥
no_mark_at placed marks none zero pos lt t = omega (arith, pos)
no_mark_at placed marks none (suc j) pos lt t =
    let one : suc j ≡ j + 1 = omega arith in
    false≢true (sym (none j (omega (arith, lt))) ∙ subst (λ (x : ℕ). get_or marks x false ≡ true) one t)

pub tree_none : (placed : List Placed) (marks : List Bool) → AreNumbers (numbers_of placed) → AreFailing placed marks → IsLeastMarked marks (numbers_of placed) (length placed) None → IsTree (changes_of placed)
tree_none placed marks h failing none = λ n f.
    let p = (are_names placed h).place n f.0 in
    let fails : Fails (changes_of placed) (at (0 ∷ numbers_of placed) p.0) = subst (Fails (changes_of placed)) (sym p.3) f in
    let marked : get_or marks p.0 false ≡ true = (failing.1 p.0 p.1 p.2).1 fails in
    no_mark_at placed marks none p.0 p.1 p.2 marked

least_of : (placed : List Placed) (marks : List Bool) (i : ℕ) → IsLeastMarked marks (numbers_of placed) (length placed) (Some i) → (p : ℕ) → 0 < p → p < length placed + 1 → get_or marks p false ≡ true
    → at (numbers_of placed) i ≤ at (0 ∷ numbers_of placed) p
least_of placed marks i h zero pos lt t = absurd (omega (arith, pos))
least_of placed marks i h (suc j) pos lt t =
    let one : suc j ≡ j + 1 = omega arith in
    h.least j (omega (arith, lt)) (subst (λ (x : ℕ). get_or marks x false ≡ true) one t)

pub tree_some : (placed : List Placed) (marks : List Bool) (i : ℕ) → AreNumbers (numbers_of placed) → AreFailing placed marks → IsLeastMarked marks (numbers_of placed) (length placed) (Some i)
    → IsLeastFailing (changes_of placed) (at (numbers_of placed) i)
tree_some placed marks i h failing least =
    let n = are_names placed h in
    let here : i + 1 < length placed + 1 = omega (arith, least.within) in
    let one : suc i ≡ i + 1 = omega arith in
    let fails = (failing.1 (i + 1) (omega arith) here).0 least.marked in
    record {
      fails = subst (λ (x : ℕ). Fails (changes_of placed) (at (0 ∷ numbers_of placed) x)) (sym one) fails;
      least = λ m f.
          let p = n.place m f.0 in
          let there : Fails (changes_of placed) (at (0 ∷ numbers_of placed) p.0) = subst (Fails (changes_of placed)) (sym p.3) f in
          let marked = (failing.1 p.0 p.1 p.2).1 there in
          omega (arith, least_of placed marks i least p.0 p.1 p.2 marked, p.3);
    }
