-- Changes that make a tree have a lineage: each list over places is built from what stands at each place.
use Rattle.std.proofs.Common.{◌≡◌, ◌≢◌, ℕ, zero, suc, ◌+◌, ◌<◌, ◌⊎◌, inl, inr, cond, eqb, List, [], ◌∷◌, length, get_or, map, refl, sym, ap, subst, ◌∙◌, arith}
use Rattle.std.proofs.lemmas.Bool.{cases_eq, cases_lt}
use Rattle.std.proofs.lemmas.List.{get_or_past}
use Rattle.std.specs.List.{AllByRecursion}
use Rattle.vs_ufile.specs.declared.link.Link.{Link}
use Rattle.vs_ufile.specs.declared.link.Link.TheVariants.{Next, AltNext, AltPrev}
use Rattle.vs_ufile.specs.Decode.{KeepsRules, KnowsAll, LinksAreKnown}
use Rattle.vs_ufile.specs.Descent.{IsLineage}
use Rattle.vs_ufile.specs.Failing.{AreNumbers, links_of}
use Rattle.vs_ufile.specs.Reading.{Placed, numbers_of}
use Rattle.vs_ufile.specs.Tree.{IsTree, numbers}
use Rattle.vs_ufile.specs.Values.{Change, History}
use Rattle.vs_ufile.specs.Walks.{AreHeads, AreLastHeads, AreLinks, IsHead, LeadsFar, at, walk}
use Rattle.vs_ufile.proofs.Above.{parents_lead}
use Rattle.vs_ufile.proofs.Descents.{AreNumbersAt, Found, chains_hold, lineage_is}
use Rattle.vs_ufile.proofs.Failed.{AreNeighbours, beside, leads}
use Rattle.vs_ufile.proofs.Heads.{Stops, heads_are}
use Rattle.vs_ufile.proofs.Known.{numbers_are}
use Rattle.vs_ufile.proofs.Linked.{changes_of}

-- ---- lists from what stands at each place
pub record Listed {X : Type 0} (n : ℕ) (f : ℕ → X) : Type 0 where
  pub items : List X
  pub size : length items ≡ n
  pub each : (i : ℕ) (d : X) → i < n → get_or items i d ≡ f i

listed_on : {X : Type 0} (n : ℕ) (f : ℕ → X) (rest : Listed n (λ i. f (suc i))) (i : ℕ) (d : X) → i < suc n → get_or (f 0 ∷ rest.items) i d ≡ f i
listed_on n f rest zero d lt = refl
listed_on n f rest (suc i) d lt = rest.each i d (omega (arith, lt))

pub listed : {X : Type 0} (n : ℕ) (f : ℕ → X) → Listed n f
listed zero f = record { items = []; size = refl; each = λ i d lt. absurd (omega (arith, lt)) }
listed (suc n) f =
    let rest = listed n (λ i. f (suc i)) in
    record { items = f 0 ∷ rest.items; size = ap suc rest.size; each = listed_on n f rest }

-- ---- a head with each parent that has one
record LastHead (before parents : List ℕ) (n q : ℕ) : Type 0 where
  head : ℕ
  is_head : head ≢ 0 → IsHead before head × (at parents head ≡ q)
  found : (other : ℕ) → other < n → IsHead before other → at parents other ≡ q → head ≢ 0

-- a place is a head with this parent, or is not
head_or_not : (before parents : List ℕ) (n q : ℕ) → (IsHead before n × (at parents n ≡ q)) ⊎ (IsHead before n → at parents n ≡ q → ⊥)
head_or_not before parents n q = elim (cases_lt 0 n) [
  | inr none ↦ inr (λ is same. let some = is.some in omega (arith, none, some))
  | inl some ↦ elim (cases_lt n (length before)) [
    | inr past ↦ inr (λ is same. let within = is.within in omega (arith, past, within))
    | inl within ↦ elim (cases_eq (at before n) 0) [
      | inr later ↦ inr (λ is same. later is.first)
      | inl first ↦ elim (cases_eq (at parents n) q) [
        | inr other ↦ inr (λ is same. other same)
        | inl same ↦ inl (record { some = some; within = within; first = first }, same)
      ]
    ]
  ]
]

last_head : (before parents : List ℕ) (n q : ℕ) → LastHead before parents n q
last_head before parents zero q = record { head = 0; is_head = λ some. absurd (some refl); found = λ other lt is same. absurd (omega (arith, lt)) }
last_head before parents (suc n) q =
    let rest = last_head before parents n q in
    elim (head_or_not before parents n q) [
      | inl here ↦ record { head = n; is_head = λ some. here; found = λ other lt is same e. let some = here.0.some in omega (arith, some, e) }
      | inr not_here ↦ record {
        head = rest.head;
        is_head = rest.is_head;
        found = λ other lt is same. elim (cases_lt other n) [
          | inl less ↦ rest.found other less is same
          | inr last ↦ let e : other ≡ n = omega (arith, lt, last) in absurd (not_here (subst (IsHead before) e is) (sym (ap (at parents) e) ∙ same))
        ];
      }
    ]

last_heads : (before parents : List ℕ) → AreLinks (length parents) parents → (last : Listed (length parents) (λ q. (last_head before parents (length parents) q).head)) → AreLastHeads before parents (length parents) last.items
last_heads before parents links last = record {
  all = last.size;
  is_head = λ q some. elim (cases_lt q (length parents)) [
    | inl lt ↦
        let here = last.each q 0 lt in
        let is = (last_head before parents (length parents) q).is_head (λ e. some (here ∙ e)) in
        (subst (IsHead before) (sym here) is.0, ap (at parents) here ∙ is.1)
    | inr past ↦ absurd (some (get_or_past last.items q 0 (omega (arith, past, last.size))))
  ];
  found = λ head lt is none.
      let q : ℕ = at parents head in
      let inside : q < length parents = links.within head 0 lt in
      (last_head before parents (length parents) q).found head lt is refl (sym (last.each q 0 inside) ∙ none);
}

-- ---- the lineage
pub record HasLineage (changes : List Change) : Type 0 where
  pub parents : List ℕ
  pub children : List ℕ
  pub is : IsLineage changes parents children

module _ (placed : List Placed) (are : AreNumbers (numbers_of placed)) (known : KnowsAll placed) (tree : IsTree (changes_of placed)) where
  abbrev after : List ℕ
  after = links_of AltNext placed

  abbrev before : List ℕ
  before = links_of AltPrev placed

  abbrev next : List ℕ
  next = links_of Next placed

  abbrev places : ℕ
  places = length placed + 1

  size_of : (l : Link) → length (links_of l placed) ≡ places
  size_of l = (leads l placed (links_of l placed) refl are known).lead.all

  near : AreNeighbours placed after before
  near = record { after = refl; before = refl; numbers = are; known = known }

  abbrev stop_at : ℕ → ℕ
  stop_at i = cond (eqb (at before i) 0) i (at before i)

  some_lineage : HasLineage (changes_of placed)
  some_lineage =
      let stops = listed (length before) stop_at in
      let stop : Stops before stops.items = record { size = stops.size; each = λ i lt. stops.each i 0 lt } in
      let far = listed (length stops.items) (λ i. walk (at stops.items) (length stops.items) i) in
      let leads_far : LeadsFar stops.items (length stops.items) far.items = (far.size, λ i lt. far.each i 0 lt) in
      let heads : AreHeads before far.items =
      heads_are after before stops.items far.items (length stops.items) (beside AltPrev AltNext placed before after refl refl are known) (chains_hold placed after before near tree) stop (omega arith) leads_far in
      let parents = listed (length next) (λ p. at next (at far.items p)) in
      let each : (p : ℕ) → p < length next → at parents.items p ≡ at next (at far.items p) = λ p lt. parents.each p 0 lt in
      let head_links : AreLinks (length next) far.items = subst (λ n. AreLinks n far.items) (size_of AltPrev ∙ sym (size_of Next)) heads.links in
      let links : AreLinks (length next) parents.items = parents_lead far.items next parents.items head_links (beside Next Next placed next next refl refl are known) parents.size each in
      let own : AreLinks (length parents.items) parents.items = subst (λ n. AreLinks n parents.items) (sym parents.size) links in
      let last = listed (length parents.items) (λ q. (last_head before parents.items (length parents.items) q).head) in
      let found : Found placed after before far.items next parents.items last.items =
      record { near = near; heads_are = heads; on = refl; links = links; each = each; lasts = last_heads before parents.items own last } in
      let ups = listed (length parents.items) (λ i. at (0 ∷ numbers_of placed) (at parents.items i)) in
      let downs = listed (length last.items) (λ i. at (0 ∷ numbers_of placed) (at last.items i)) in
      let up : AreNumbersAt placed parents.items ups.items = record { size = ups.size; each = λ i lt. ups.each i 0 lt } in
      let down : AreNumbersAt placed last.items downs.items = record { size = downs.size; each = λ i lt. downs.each i 0 lt } in
      record { parents = ups.items; children = downs.items; is = lineage_is placed after before far.items next parents.items last.items found tree ups.items downs.items up down }

-- ---- by the changes alone
abbrev placed_as : List Change → List Placed
placed_as changes = map (λ c. record { left = 0; change = c }) changes

changes_back : (changes : List Change) → changes_of (placed_as changes) ≡ changes
changes_back [] = refl
changes_back (c ∷ changes) = ap (λ cs. c ∷ cs) (changes_back changes)

all_known : (ns : List ℕ) (changes : List Change) → AllByRecursion (LinksAreKnown ns) changes → AllByRecursion (λ (p : Placed). LinksAreKnown ns p.change) (placed_as changes)
all_known ns [] h = tt
all_known ns (c ∷ changes) h = (h.0, all_known ns changes h.1)

-- the changes of a history that keeps the rules have a lineage
pub lineage_in : (h : History) → KeepsRules h → HasLineage h.changes
lineage_in h rules =
    let placed = placed_as h.changes in
    let back = changes_back h.changes in
    let same : numbers_of placed ≡ numbers h.changes = sym (numbers_are placed) ∙ ap numbers back in
    let are : AreNumbers (numbers_of placed) = subst AreNumbers (sym same) rules.numbers in
    let known : KnowsAll placed = all_known (numbers_of placed) h.changes (subst (λ ns. AllByRecursion (LinksAreKnown ns) h.changes) (sym same) rules.links.changes) in
    subst HasLineage back (some_lineage placed are known (subst IsTree (sym back) rules.tree))
