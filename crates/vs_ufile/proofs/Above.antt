-- Which places fail above their chains: ways through parents have ended after as many steps as there are places, and where two
-- chains have a parent, one of them is not the last that was found.
use Rattle.std.proofs.Common.{◌≡◌, ◌≢◌, ℕ, ◌+◌, ◌<◌, ◌≤◌, ◌⊎◌, inl, inr, Bool, true, false, List, [], ◌∷◌, ◌++◌, length, get_or, set, sym, ap, subst, ◌∙◌, arith}
use Rattle.std.specs.Prelude.{IsTrue, ◌↔◌}
use Rattle.std.proofs.lemmas.Bool.{cases_eq, cases_lt, false≢true}
use Rattle.std.proofs.lemmas.List.{get_or_append_left, get_or_default, get_or_past, get_or_push, get_or-set_other, get_or-set_same, length-append, length-set}
use Rattle.vs_ufile.specs.Walks.{AreLastHeads, AreLinks, AreMarks, FailsAbove, HaveTwoHeads, IsHead, LeadsFar, at, walk}
use Rattle.vs_ufile.proofs.Pigeons.{ends}

-- a head with this parent that is not the last one
abbrev pub HasOther : List ℕ → List ℕ → List ℕ → ℕ → ℕ → Type 0
HasOther before parents last n q = (a : ℕ) × (a < n) × IsHead before a × (at parents a ≡ q) × (at last q ≢ a)

pub two_from_other : (before parents last : List ℕ) (q : ℕ) → AreLastHeads before parents (length parents) last → length before ≡ length parents → HasOther before parents last (length parents) q → HaveTwoHeads before parents q
two_from_other before parents last q h size o =
    let found : at last q ≢ 0 = subst (λ (x : ℕ). at last x ≢ 0) o.3 (h.found o.0 o.1 o.2) in
    let l = h.is_head q found in
    (at last q, o.0, l.0, o.2, o.4, l.1, o.3)

pub other_from_two : (before parents last : List ℕ) (q : ℕ) → length before ≡ length parents → HaveTwoHeads before parents q → HasOther before parents last (length parents) q
other_from_two before parents last q size t = elim (cases_eq (at last q) t.0) [
  | inl e ↦ (t.1, omega (arith, t.3.within, size), t.3, t.6, λ w. t.4 (sym e ∙ w))
  | inr ne ↦ (t.0, omega (arith, t.2.within, size), t.2, t.5, ne)
]

-- the way through parents has ended, or it does not end
pub way_ends : (parents far : List ℕ) (steps p k : ℕ) → AreLinks (length parents) parents → length parents ≤ steps → LeadsFar parents steps far → p < length parents → walk (at parents) k p ≡ 0 → at far p ≡ 0
way_ends parents far steps p k links long h lt e = h.1 p lt ∙ ends (at parents) (length parents) steps p k links.none (λ i l. links.within i 0 l) lt long e

-- one more mark
pub marks_more : (n : ℕ) (P : ℕ → Type 0) (marks : List Bool) (b : Bool) → AreMarks n P marks → IsTrue b ↔ P n → AreMarks (n + 1) P (marks ++ b ∷ [])
marks_more n P marks b h k = (
  omega (arith, length-append marks (b ∷ []), h.0),
  λ i pos lt. elim (cases_lt i n) [
    | inl less ↦
        let same : get_or (marks ++ b ∷ []) i false ≡ get_or marks i false = get_or_append_left marks (b ∷ []) false i (omega (arith, less, h.0)) in
        let P' = λ (x : Bool). IsTrue x ↔ P i in
        subst P' (sym same) (h.1 i pos less)
    | inr more ↦
        let here : n ≡ i = omega (arith, lt, more) in
        let same : get_or (marks ++ b ∷ []) i false ≡ b = get_or_push marks b false i (h.0 ∙ here) in
        let P' = λ (x : Bool). IsTrue x ↔ P i in
        subst P' (sym same) (subst (λ (m : ℕ). IsTrue b ↔ P m) here k)
  ],
)

-- parents lead from places to places
pub parents_lead : (heads next parents : List ℕ) → AreLinks (length next) heads → AreLinks (length next) next → length parents ≡ length next
    → ((i : ℕ) → i < length next → at parents i ≡ at next (at heads i)) → AreLinks (length next) parents
parents_lead heads next parents h n size each = record {
  all = size;
  within = λ k d lt.
      let here : k < length next = omega (arith, lt, size) in
      let inside : at heads k < length next = h.within k 0 (omega (arith, here, h.all)) in
      omega (arith, get_or_default parents k d 0 lt, each k here, n.within (at heads k) 0 inside);
  none = elim (cases_lt 0 (length next)) [
    | inl lt ↦ each 0 lt ∙ ap (at next) h.none ∙ n.none
    | inr le ↦ get_or_past parents 0 0 (omega (arith, le, size))
  ];
}

-- ---- places that are the parent of two chains

-- the marks are of the parents that have another head among the first n
pub record AreOthers (before parents last : List ℕ) (n : ℕ) (marks : List Bool) : Type 0 where
  pub size : length marks ≡ length parents
  pub each : (q : ℕ) → IsTrue (get_or marks q false) ↔ HasOther before parents last n q

pub others_first : (before parents last : List ℕ) (marks : List Bool) → length marks ≡ length parents → ((q : ℕ) → get_or marks q false ≡ false) → AreOthers before parents last 1 marks
others_first before parents last marks size none = record {
  size = size;
  each = λ q. (λ t. absurd (false≢true (sym (none q) ∙ t)), λ o. absurd (omega (arith, o.1, o.2.some)));
}

other_more : (before parents last : List ℕ) (n q : ℕ) → HasOther before parents last n q → HasOther before parents last (n + 1) q
other_more before parents last n q o = (o.0, omega (arith, o.1), o.2, o.3, o.4)

-- it is among the first, or it is the next
other_or : (before parents last : List ℕ) (n q : ℕ) → HasOther before parents last (n + 1) q → HasOther before parents last n q ⊎ (IsHead before n × (at parents n ≡ q) × (at last q ≢ n))
other_or before parents last n q o = elim (cases_lt o.0 n) [
  | inl lt ↦ inl (o.0, lt, o.2, o.3, o.4)
  | inr le ↦
      let here : o.0 ≡ n = omega (arith, o.1, le) in
      inr (subst (λ (x : ℕ). IsHead before x × (at parents x ≡ q) × (at last q ≢ x)) here (o.2, o.3, o.4))
]

pub others_same : (before parents last : List ℕ) (n : ℕ) (marks : List Bool) → AreOthers before parents last n marks → ¬ (IsHead before n × (at last (at parents n) ≢ n)) → AreOthers before parents last (n + 1) marks
others_same before parents last n marks h fails = record {
  size = h.size;
  each = λ q. (
    λ t. other_more before parents last n q ((h.each q).0 t),
    λ o. elim (other_or before parents last n q o) [
      | inl old ↦ (h.each q).1 old
      | inr new ↦ absurd (fails (new.0, λ (e : at last (at parents n) ≡ n). new.2 (sym (ap (at last) new.1) ∙ e)))
    ],
  );
}

pub others_more : (before parents last : List ℕ) (n : ℕ) (marks : List Bool) → AreOthers before parents last n marks → at parents n < length marks → IsHead before n → at last (at parents n) ≢ n
    → AreOthers before parents last (n + 1) (set marks (at parents n) true)
others_more before parents last n marks h lt is ne = record {
  size = length-set marks (at parents n) true ∙ h.size;
  each = λ q. elim (cases_eq (at parents n) q) [
    | inl e ↦
        let now : get_or (set marks (at parents n) true) q false ≡ true = subst (λ (x : ℕ). get_or (set marks (at parents n) true) x false ≡ true) e (get_or-set_same marks (at parents n) true false lt) in
        (λ t. (n, omega arith, is, e, λ (z : at last q ≡ n). ne (ap (at last) e ∙ z)), λ o. now)
    | inr other ↦
        let kept : get_or (set marks (at parents n) true) q false ≡ get_or marks q false = get_or-set_other marks (at parents n) q true false (λ e. other (sym e)) in (
          λ t. other_more before parents last n q ((h.each q).0 (sym kept ∙ t)),
          λ o. kept ∙ elim (other_or before parents last n q o) [
            | inl old ↦ (h.each q).1 old
            | inr new ↦ absurd (other new.1)
          ],
        )
  ];
}

pub shared_are : (before parents last : List ℕ) (n : ℕ) (marks : List Bool) → length before ≡ length parents → AreLastHeads before parents (length parents) last → length parents ≤ n → AreOthers before parents last n marks → (q : ℕ)
    → IsTrue (get_or marks q false) ↔ HaveTwoHeads before parents q
shared_are before parents last n marks size l long h q = (
  λ t.
      let o = (h.each q).0 t in
      two_from_other before parents last q l size (o.0, omega (arith, o.2.within, size), o.2, o.3, o.4),
  λ t.
      let o = other_from_two before parents last q size t in
      (h.each q).1 (o.0, omega (arith, o.1, long), o.2, o.3, o.4),
)

-- ---- what fails

-- where the place is at the end of its way, or its parent is shared
pub above_is : (before parents far : List ℕ) (shared : List Bool) (steps p : ℕ) (b : Bool) → AreLinks (length parents) parents → length parents ≤ steps → LeadsFar parents steps far
    → ((q : ℕ) → IsTrue (get_or shared q false) ↔ HaveTwoHeads before parents q) → p < length parents
    → IsTrue b ↔ ((at far p ≢ 0) ⊎ IsTrue (get_or shared (at parents p) false)) → IsTrue b ↔ FailsAbove before parents p
above_is before parents far shared steps p b links long h marked lt test = (
  λ t. elim (test.0 t) [
    | inl ne ↦ inl (λ k e. ne (way_ends parents far steps p k links long h lt e))
    | inr s ↦ inr ((marked (at parents p)).0 s)
  ],
  λ f. elim f [
    | inl never ↦ test.1 (inl (λ e. never steps (sym (h.1 p lt) ∙ e)))
    | inr two ↦ test.1 (inr ((marked (at parents p)).1 two))
  ],
)
