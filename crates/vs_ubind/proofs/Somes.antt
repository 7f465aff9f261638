-- Data that keeps the rules stands for a tree: its changes have a lineage and save numbers, and are put into order.
use Rattle.std.proofs.Common.{◌≡◌, ◌⊎◌, inl, inr, ℕ, zero, suc, ◌+◌, ◌<◌, ◌≤◌, List, [], ◌∷◌, length, get_or, refl, sym, ap, subst, ◌∙◌, arith}
use Rattle.std.specs.Prelude.{Contains}
use Rattle.std.specs.List.Sorted.{IsNonDecreasingBy, IsPermutation}
use Rattle.std.proofs.lemmas.Bool.{cases_eq, cases_lt}
use Rattle.std.proofs.lemmas.List.{get_or_default}
use Rattle.std.proofs.lemmas.List.Elements.{Contains-get_or}
use Rattle.std.proofs.lemmas.List.Sorted.{Contains-permutation, IsPermutation-append_comm, IsPermutation-append_left, IsPermutation-cons, IsPermutation-refl, IsPermutation-sym, IsPermutation-trans}
use Rattle.vs_undo.specs.declared.parts.Node.{Node}
use Rattle.vs_undo.specs.declared.parts.Parts.{Parts}
use Rattle.vs_ufile.specs.Values as file
use Rattle.vs_ufile.specs.Decode.{KeepsRules}
use Rattle.vs_ufile.specs.Tree.{numbers, IsChange}
use Rattle.vs_ufile.specs.Walks.{at}
use Rattle.vs_ufile.proofs.Lineages.{lineage_in, listed}
use Rattle.vs_ubind.specs.Meaning.{HasSave, IsGreatest, IsKeptSave, Means, StandsFor}
use Rattle.vs_ubind.specs.Taken.{AreTaken, taken_change}
use Rattle.vs_ubind.proofs.Joined.{blank, joined}
use Rattle.vs_ubind.proofs.Takes.{stands_taken}

-- ---- the greatest of some numbers
record Most {A : Type 0} (number : A → ℕ) (field : ℕ) (xs : List A) : Type 0 where
  most : ℕ
  field_below : field ≤ most
  below : (x : A) → Contains xs x → number x ≤ most
  one : (most ≡ field) ⊎ ((x : A) × Contains xs x × (number x ≡ most))

contains_first : {A : Type 0} (x : A) (xs : List A) → Contains (x ∷ xs) x
contains_first x xs = (0, omega arith, refl)

contains_later : {A : Type 0} (y : A) (xs : List A) (x : A) → Contains xs x → Contains (y ∷ xs) x
contains_later y xs x is = (suc is.0, omega (arith, is.1), is.2)

contains_cases : {A : Type 0} (y : A) (xs : List A) (x : A) → Contains (y ∷ xs) x → (y ≡ x) ⊎ Contains xs x
contains_cases y xs x (zero, lt, e) = inl e
contains_cases y xs x (suc i, lt, e) = inr (i, omega (arith, lt), e)

most_of : {A : Type 0} (number : A → ℕ) (field : ℕ) (xs : List A) → Most number field xs
most_of number field [] = record { most = field; field_below = omega arith; below = λ x is. absurd (omega (arith, is.1)); one = inl refl }
most_of number field (y ∷ xs) =
    let rest = most_of number field xs in
    elim (cases_lt rest.most (number y)) [
      | inl more ↦ record {
        most = number y;
        field_below = let low = rest.field_below in omega (arith, low, more);
        below = λ x is. elim (contains_cases y xs x is) [
          | inl e ↦ omega (arith, ap number e)
          | inr later ↦ let low = rest.below x later in omega (arith, low, more)
        ];
        one = inr (y, contains_first y xs, refl);
      }
      | inr less ↦ record {
        most = rest.most;
        field_below = rest.field_below;
        below = λ x is. elim (contains_cases y xs x is) [
          | inl e ↦ omega (arith, ap number e, less)
          | inr later ↦ rest.below x later
        ];
        one = elim rest.one [
          | inl e ↦ inl e
          | inr is ↦ inr (is.0, contains_later y xs is.0 is.1, is.2)
        ];
      }
    ]

-- ---- the save number that a change keeps
-- Some change with this save number has a greater number, or none has.
greater_or_none : (save number : ℕ) (xs : List file.Change)
    → ((other : file.Change) × Contains xs other × (other.save ≡ save) × (number < other.number)) ⊎ ((other : file.Change) → Contains xs other → other.save ≡ save → other.number ≤ number)
greater_or_none save number [] = inr (λ other is same. absurd (omega (arith, is.1)))
greater_or_none save number (y ∷ xs) = elim (greater_or_none save number xs) [
  | inl is ↦ inl (is.0, contains_later y xs is.0 is.1, is.2, is.3)
  | inr rest ↦ elim (cases_eq y.save save) [
    | inr other_save ↦ inr (λ other is same. elim (contains_cases y xs other is) [
      | inl e ↦ absurd (other_save (ap (λ (c : file.Change). c.save) e ∙ same))
      | inr later ↦ rest other later same
    ])
    | inl same_save ↦ elim (cases_lt number y.number) [
      | inl more ↦ inl (y, contains_first y xs, same_save, more)
      | inr less ↦ inr (λ other is same. elim (contains_cases y xs other is) [
        | inl e ↦ let number_is = ap (λ (c : file.Change). c.number) e in omega (arith, less, number_is)
        | inr later ↦ rest other later same
      ])
    ]
  ]
]

kept_save : (changes : List file.Change) (change : file.Change) → (save : ℕ) × IsKeptSave changes change save
kept_save changes change = elim (greater_or_none change.save change.number changes) [
  | inl is ↦ (0, inr (refl, is))
  | inr none ↦ (change.save, inl (refl, λ some. none))
]

-- ---- changes in order
Sorted : List Node → Type 0
Sorted [] = Unit {0}
Sorted (node ∷ nodes) = ((other : Node) → Contains nodes other → node.number ≤ other.number) × Sorted nodes

record Ordered (nodes : List Node) : Type 0 where
  items : List Node
  same : IsPermutation nodes items
  sorted : Sorted items

put_in : (node : Node) (nodes : List Node) → Sorted nodes → Ordered (node ∷ nodes)
unfolding Sorted
put_in node [] sorted = record { items = node ∷ []; same = IsPermutation-refl (node ∷ []); sorted = (λ other is. absurd (omega (arith, is.1)), tt) }
put_in node (first ∷ nodes) sorted = elim (cases_lt first.number node.number) [
  | inr low ↦ record {
    items = node ∷ first ∷ nodes;
    same = IsPermutation-refl (node ∷ first ∷ nodes);
    sorted = (
      λ other is. elim (contains_cases first nodes other is) [
        | inl e ↦ let number = ap (λ (n : Node). n.number) e in omega (arith, low, number)
        | inr later ↦ let next = sorted.0 other later in omega (arith, low, next)
      ],
      sorted,
    );
  }
  | inl high ↦
      let rest = put_in node nodes sorted.1 in
      let swap : IsPermutation (node ∷ first ∷ nodes) (first ∷ node ∷ nodes) = IsPermutation-append_left nodes (node ∷ first ∷ []) (first ∷ node ∷ []) (IsPermutation-append_comm (node ∷ []) (first ∷ [])) in
      record {
        items = first ∷ rest.items;
        same = IsPermutation-trans (node ∷ first ∷ nodes) (first ∷ node ∷ nodes) (first ∷ rest.items) swap (IsPermutation-cons first (node ∷ nodes) rest.items rest.same);
        sorted = (
          λ other is. elim (contains_cases node nodes other (Contains-permutation rest.items (node ∷ nodes) other (IsPermutation-sym (node ∷ nodes) rest.items rest.same) is)) [
            | inl e ↦ let number = ap (λ (n : Node). n.number) e in omega (arith, high, number)
            | inr later ↦ sorted.0 other later
          ],
          rest.sorted,
        );
      }
]

ordered : (nodes : List Node) → Ordered nodes
unfolding Sorted
ordered [] = record { items = []; same = IsPermutation-refl []; sorted = tt }
ordered (node ∷ nodes) =
    let rest = ordered nodes in
    let all = put_in node rest.items rest.sorted in
    record { items = all.items; same = IsPermutation-trans (node ∷ nodes) (node ∷ rest.items) all.items (IsPermutation-cons node nodes rest.items rest.same) all.same; sorted = all.sorted }

no_less : (nodes : List Node) → Sorted nodes → (i j : ℕ) (d : Node) → i ≤ j → j < length nodes → (get_or nodes i d).number ≤ (get_or nodes j d).number
unfolding Sorted
no_less [] sorted i j d le lt = absurd (omega (arith, lt))
no_less (node ∷ nodes) sorted zero zero d le lt = omega arith
no_less (node ∷ nodes) sorted zero (suc j) d le lt =
    let inside : j < length nodes = omega (arith, lt) in
    sorted.0 (get_or nodes j d) (Contains-get_or nodes j d inside)
no_less (node ∷ nodes) sorted (suc i) zero d le lt = absurd (omega (arith, le))
no_less (node ∷ nodes) sorted (suc i) (suc j) d le lt = no_less nodes sorted.1 i j d (omega (arith, le)) (omega (arith, lt))

-- ---- the tree
module _ (h : file.History) (rules : KeepsRules h) where
  abbrev changes : List file.Change
  changes = h.changes

  pub some_tree : (parts : Parts) × Means h parts
  some_tree =
      let lineage = lineage_in h rules in
      let taken = listed (length changes) (λ i. let change = get_or changes i blank in taken_change change (at lineage.parents (i + 1)) (at lineage.children (i + 1)) (kept_save changes change).0) in
      let all : AreTaken changes taken.items = record {
        count = taken.size;
        each = λ i own node lt.
            let change : file.Change = get_or changes i blank in
            let here : change ≡ get_or changes i change = get_or_default changes i blank change lt in
            let stands = stands_taken changes lineage.parents lineage.children i change (at lineage.parents (i + 1)) (at lineage.children (i + 1)) (kept_save changes change).0 lineage.is lt here refl refl (kept_save changes change).1 in
            let one : StandsFor changes change (get_or taken.items i node) = subst (StandsFor changes change) (sym (taken.each i node lt)) stands in
            subst (λ c. StandsFor changes c (get_or taken.items i node)) (get_or_default changes i blank own lt) one;
      } in
      let order = ordered taken.items in
      let rising : IsNonDecreasingBy (λ (node : Node). node.number) order.items = λ i j d le lt. no_less order.items order.sorted i j d le lt in
      let last = most_of (λ n. n) h.last (numbers changes) in
      let save = most_of (λ (c : file.Change). c.save) h.last_save changes in
      let is_last : IsGreatest h.last (IsChange changes) last.most = record {
        field_below = last.field_below;
        below = last.below;
        one = elim last.one [ inl e ↦ inl e | inr is ↦ inr (subst (IsChange changes) is.2 is.1) ];
      } in
      let is_save : IsGreatest h.last_save (HasSave changes) save.most = record {
        field_below = save.field_below;
        below = λ n has. let low = save.below has.0 has.1 in omega (arith, low, has.2);
        one = save.one;
      } in
      (_, joined h rules taken.items order.items all order.same rising lineage.parents lineage.children last.most save.most lineage.is is_last is_save)
