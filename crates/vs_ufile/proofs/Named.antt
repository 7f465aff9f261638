-- Places and numbers: links between places lead as those between numbers do, since each number is one place's.
use Rattle.std.proofs.Common.{◌≡◌, ◌≢◌, ℕ, zero, suc, ◌+◌, ◌-◌, ◌<◌, ◌≤◌, inl, inr, List, [], ◌∷◌, refl, sym, ap, subst, ◌∙◌, arith}
use Rattle.std.specs.Prelude.{◌↔◌}
use Rattle.std.proofs.lemmas.Bool.{cases_eq, cases_lt}
use Rattle.vs_ufile.specs.Values.{Change}
use Rattle.vs_ufile.specs.Tree.{AreAncestors, FailsInChain, FailsInTree, IsChange, IsFirst, IsParent, SharesParent, after, before, link}
use Rattle.vs_ufile.specs.Walks.{AreHeads, AreLinks, FailsAbove, FailsAt, HaveTwoHeads, IsHead, LeadsToHead, at, walk}
use Rattle.vs_ufile.proofs.Pigeons.{walk-add, walk-below, walk-none}

-- the number of each place, and of no two places the same; place 0 has number 0, and the others have the changes' numbers
pub record AreNames (changes : List Change) (size : ℕ) (names : List ℕ) : Type 0 where
  pub some : 0 < size
  pub none : at names 0 ≡ 0
  pub one : (p q : ℕ) → p < size → q < size → at names p ≡ at names q → p ≡ q
  pub change : (p : ℕ) → 0 < p → p < size → IsChange changes (at names p)
  pub place : (n : ℕ) → IsChange changes n → (p : ℕ) × (0 < p) × (p < size) × (at names p ≡ n)

-- the links lead as the function of numbers does
pub record LeadAs (size : ℕ) (names links : List ℕ) (g : ℕ → ℕ) : Type 0 where
  pub lead : AreLinks size links
  pub each : (p : ℕ) → p < size → at names (at links p) ≡ g (at names p)

stays : (size : ℕ) (links : List ℕ) → AreLinks size links → (i : ℕ) → i < size → at links i < size
stays size links h i lt = h.within i 0 (omega (arith, lt, h.all))

below : (size : ℕ) (links : List ℕ) → AreLinks size links → (k p : ℕ) → p < size → walk (at links) k p < size
below size links h k p lt = walk-below (at links) size k p (stays size links h) lt

walk_named : (size : ℕ) (names links : List ℕ) (g : ℕ → ℕ) → LeadAs size names links g → (k p : ℕ) → p < size → at names (walk (at links) k p) ≡ walk g k (at names p)
walk_named size names links g h zero p lt = refl
walk_named size names links g h (suc k) p lt =
    walk_named size names links g h k (at links p) (stays size links h.lead p lt) ∙ ap (walk g k) (h.each p lt)

-- ---- chains

-- nowhere by place is nowhere by number
pub is_none : (changes : List Change) (size : ℕ) (names : List ℕ) → AreNames changes size names → (p : ℕ) → p < size → at names p ≡ 0 → p ≡ 0
is_none changes size names n p lt e = n.one p 0 lt n.some (e ∙ sym n.none)

back_named : (changes : List Change) (size : ℕ) (names f b : List ℕ) (g h : ℕ → ℕ) → AreNames changes size names → LeadAs size names f g → LeadAs size names b h → (p : ℕ) → p < size
    → ((at f p ≢ 0) × (at b (at f p) ≢ p)) ↔ ((g (at names p) ≢ 0) × (h (g (at names p)) ≢ at names p))
back_named changes size names f b g h n lf lb p lt =
    let q : ℕ = at f p in
    let inside : q < size = stays size f lf.lead p lt in
    let there : at names q ≡ g (at names p) = lf.each p lt in
    let again : at names (at b q) ≡ h (g (at names p)) = lb.each q inside ∙ ap h there in (
      λ w. (
        λ e. w.0 (is_none changes size names n q inside (there ∙ e)),
        λ e. w.1 (n.one (at b q) p (stays size b lb.lead q inside) lt (again ∙ e)),
      ),
      λ w. (
        λ e. w.0 (sym there ∙ ap (at names) e ∙ n.none),
        λ e. w.1 (sym again ∙ ap (at names) e),
      ),
    )

pub fails_named : (changes : List Change) (size : ℕ) (names f b : List ℕ) → AreNames changes size names → LeadAs size names f (after changes) → LeadAs size names b (before changes)
    → (p : ℕ) → p < size → FailsAt f b p ↔ FailsInChain changes (at names p)
fails_named changes size names f b n lf lb p lt =
    let on = back_named changes size names f b (after changes) (before changes) n lf lb p lt in
    let back = back_named changes size names b f (before changes) (after changes) n lb lf p lt in (
      λ w. elim w [
        | inl x ↦ inl (on.0 x)
        | inr y ↦ elim y [
          | inl x ↦ inr (inl (back.0 x))
          | inr x ↦ inr (inr (x.0, sym (walk_named size names f (after changes) lf (suc x.0) p lt) ∙ ap (at names) x.1))
        ]
      ],
      λ w. elim w [
        | inl x ↦ inl (on.1 x)
        | inr y ↦ elim y [
          | inl x ↦ inr (inl (back.1 x))
          | inr x ↦ inr (inr (x.0, n.one (walk (at f) (suc x.0) p) p (below size f lf.lead (suc x.0) p lt) lt (walk_named size names f (after changes) lf (suc x.0) p lt ∙ x.1)))
        ]
      ],
    )

-- ---- heads and parents

-- what the tree is made of, by places
pub record IsLinked (changes : List Change) (size : ℕ) (names b next heads parents : List ℕ) : Type 0 where
  pub named : AreNames changes size names
  pub back : LeadAs size names b (before changes)
  pub on : LeadAs size names next (link (λ c. c.next) changes)
  pub firsts : AreHeads b heads
  pub up : AreLinks size parents
  pub each : (p : ℕ) → p < size → at parents p ≡ at next (at heads p)

-- a place has one head
on_or_back : (b : List ℕ) (p h k s t : ℕ) → at b 0 ≡ 0 → walk (at b) s p ≡ h → IsHead b h → walk (at b) t p ≡ k → 0 < k → s ≤ t → h ≡ k
on_or_back b p h k s t none way head other pos le = elim (cases_eq s t) [
  | inl e ↦ sym way ∙ ap (λ (m : ℕ). walk (at b) m p) e ∙ other
  | inr ne ↦
      let m : ℕ = t - suc s in
      let split : s + suc m ≡ t = omega (arith, le, ne) in
      let gone : walk (at b) t p ≡ 0 =
      sym (ap (λ (i : ℕ). walk (at b) i p) split) ∙ walk-add (at b) s (suc m) p ∙ ap (walk (at b) (suc m)) way ∙ ap (walk (at b) m) head.first ∙ walk-none (at b) m none in
      absurd (omega (arith, pos, sym other ∙ gone))
]

one_head : (b : List ℕ) (p h k : ℕ) → at b 0 ≡ 0 → LeadsToHead b p h → LeadsToHead b p k → h ≡ k
one_head b p h k none x y = elim (cases_lt y.steps x.steps) [
  | inl lt ↦ sym (on_or_back b p k h y.steps x.steps none y.way y.is_head x.way x.is_head.some (omega (arith, lt)))
  | inr le ↦ on_or_back b p h k x.steps y.steps none x.way x.is_head y.way y.is_head.some le
]

pub first_named : (changes : List Change) (size : ℕ) (names b : List ℕ) → AreNames changes size names → LeadAs size names b (before changes) → (p h : ℕ) → p < size → LeadsToHead b p h → IsFirst changes (at names p) (at names h)
first_named changes size names b n lb p h lt l =
    let inside : h < size = omega (arith, l.is_head.within, lb.lead.all) in
    record {
      steps = l.steps;
      way = sym (walk_named size names b (before changes) lb l.steps p lt) ∙ ap (at names) l.way;
      change = n.change h l.is_head.some inside;
      none_before = sym (lb.each h inside) ∙ ap (at names) l.is_head.first ∙ n.none;
    }

-- the first change's place
pub first_at : (changes : List Change) (size : ℕ) (names b : List ℕ) → AreNames changes size names → LeadAs size names b (before changes) → (p first : ℕ) → p < size → IsFirst changes (at names p) first
    → (h : ℕ) × (at names h ≡ first) × LeadsToHead b p h
first_at changes size names b n lb p first lt f =
    let q = n.place first f.change in
    let h : ℕ = walk (at b) f.steps p in
    let inside : h < size = below size b lb.lead f.steps p lt in
    let named : at names h ≡ first = walk_named size names b (before changes) lb f.steps p lt ∙ f.way in
    let same : h ≡ q.0 = n.one h q.0 inside q.2 (named ∙ sym q.3) in
    let before_none : at names (at b h) ≡ 0 = lb.each h inside ∙ ap (before changes) named ∙ f.none_before in (
      h,
      named,
      record {
        steps = f.steps;
        way = refl;
        is_head = record {
          some = omega (arith, same, q.1);
          within = omega (arith, inside, lb.lead.all);
          first = is_none changes size names n (at b h) (stays size b lb.lead h inside) before_none;
        };
      },
    )

pub head_of : (changes : List Change) (size : ℕ) (names b next heads parents : List ℕ) → IsLinked changes size names b next heads parents → (p : ℕ) → 0 < p → p < size → LeadsToHead b p (at heads p)
head_of changes size names b next heads parents l p pos lt = l.firsts.each p pos (omega (arith, lt, l.back.lead.all))

pub parent_named : (changes : List Change) (size : ℕ) (names b next heads parents : List ℕ) → IsLinked changes size names b next heads parents → (p h : ℕ) → 0 < p → p < size → LeadsToHead b p h
    → link (λ c. c.next) changes (at names h) ≡ at names (at parents p)
parent_named changes size names b next heads parents l p h pos lt to =
    let same : h ≡ at heads p = one_head b p h (at heads p) l.back.lead.none to (head_of changes size names b next heads parents l p pos lt) in
    let inside : h < size = omega (arith, to.is_head.within, l.back.lead.all) in
    sym (l.on.each h inside) ∙ ap (λ (x : ℕ). at names (at next x)) same ∙ ap (at names) (sym (l.each p lt))

pub is_parent : (changes : List Change) (size : ℕ) (names b next heads parents : List ℕ) → IsLinked changes size names b next heads parents → (p : ℕ) → 0 < p → p < size → IsParent changes (at names p) (at names (at parents p))
is_parent changes size names b next heads parents l p pos lt =
    let to = head_of changes size names b next heads parents l p pos lt in
    (at names (at heads p), first_named changes size names b l.named l.back p (at heads p) lt to, parent_named changes size names b next heads parents l p (at heads p) pos lt to)

pub parent_is : (changes : List Change) (size : ℕ) (names b next heads parents : List ℕ) → IsLinked changes size names b next heads parents → (p q : ℕ) → 0 < p → p < size → IsParent changes (at names p) q → at names (at parents p) ≡ q
parent_is changes size names b next heads parents l p q pos lt w =
    let f = first_at changes size names b l.named l.back p w.0 lt w.1 in
    sym (parent_named changes size names b next heads parents l p f.0 pos lt f.2) ∙ ap (link (λ c. c.next) changes) f.1 ∙ w.2

-- ---- ways through parents

ends_at : (changes : List Change) (size : ℕ) (names b next heads parents : List ℕ) → IsLinked changes size names b next heads parents → (ps : List ℕ) (p : ℕ) → p < size → AreAncestors changes (at names p) ps
    → (k : ℕ) × (walk (at parents) k p ≡ 0)
ends_at changes size names b next heads parents l [] p lt e = (0, is_none changes size names l.named p lt e)
ends_at changes size names b next heads parents l (q ∷ ps) p lt w = elim (cases_eq p 0) [
  | inl e ↦ (0, e)
  | inr ne ↦
      let same = parent_is changes size names b next heads parents l p q (omega (arith, ne)) lt w.0 in
      let above = subst (λ (x : ℕ). AreAncestors changes x ps) (sym same) w.1 in
      let k = ends_at changes size names b next heads parents l ps (at parents p) (stays size parents l.up p lt) above in
      (suc k.0, k.1)
]

pub ancestors : (changes : List Change) (size : ℕ) (names b next heads parents : List ℕ) → IsLinked changes size names b next heads parents → (k p : ℕ) → p < size → walk (at parents) k p ≡ 0
    → (ps : List ℕ) × AreAncestors changes (at names p) ps
ancestors changes size names b next heads parents l zero p lt e = ([], ap (at names) e ∙ l.named.none)
ancestors changes size names b next heads parents l (suc k) p lt e = elim (cases_eq p 0) [
  | inl z ↦ ([], ap (at names) z ∙ l.named.none)
  | inr ne ↦
      let more = ancestors changes size names b next heads parents l k (at parents p) (stays size parents l.up p lt) e in
      (at names (at parents p) ∷ more.0, (is_parent changes size names b next heads parents l p (omega (arith, ne)) lt, more.1))
]

-- ---- chains with one parent

-- a head leads to itself
pub own_head : (b : List ℕ) (h : ℕ) → IsHead b h → LeadsToHead b h h
own_head b h is = record { steps = 0; way = refl; is_head = is }

two_heads : (changes : List Change) (size : ℕ) (names b next heads parents : List ℕ) → IsLinked changes size names b next heads parents → (p : ℕ) → 0 < p → p < size → SharesParent changes (at names p) → HaveTwoHeads b parents (at parents p)
two_heads changes size names b next heads parents l p pos lt w =
    let first : ℕ = w.0 in
    let other : ℕ = w.1 in
    let f = first_at changes size names b l.named l.back p first lt w.2 in
    let q = l.named.place other w.3.change in
    let is : IsFirst changes (at names q.0) other = subst (λ (x : ℕ). IsFirst changes x other) (sym q.3) w.3 in
    let o = first_at changes size names b l.named l.back q.0 other q.2 is in
    let inside_h : f.0 < size = omega (arith, f.2.is_head.within, l.back.lead.all) in
    let inside_o : o.0 < size = omega (arith, o.2.is_head.within, l.back.lead.all) in
    let next_h = parent_named changes size names b next heads parents l f.0 f.0 f.2.is_head.some inside_h (own_head b f.0 f.2.is_head) in
    let next_o = parent_named changes size names b next heads parents l o.0 o.0 o.2.is_head.some inside_o (own_head b o.0 o.2.is_head) in
    let next_p = parent_named changes size names b next heads parents l p f.0 pos lt f.2 in
    let same_h : at parents f.0 ≡ at parents p = l.named.one (at parents f.0) (at parents p) (stays size parents l.up f.0 inside_h) (stays size parents l.up p lt) (sym next_h ∙ next_p) in
    let both : link (λ c. c.next) changes (at names o.0) ≡ link (λ c. c.next) changes (at names f.0) =
    ap (link (λ c. c.next) changes) o.1 ∙ sym w.5 ∙ ap (link (λ c. c.next) changes) (sym f.1) in
    let same_o : at parents o.0 ≡ at parents p = l.named.one (at parents o.0) (at parents p) (stays size parents l.up o.0 inside_o) (stays size parents l.up p lt) (sym next_o ∙ both ∙ next_p) in
    (f.0, o.0, f.2.is_head, o.2.is_head, λ (e : f.0 ≡ o.0). w.4 (sym f.1 ∙ ap (at names) e ∙ o.1), same_h, same_o)

shares_with : (changes : List Change) (size : ℕ) (names b next heads parents : List ℕ) → IsLinked changes size names b next heads parents → (p o : ℕ) → 0 < p → p < size → IsHead b o → at heads p ≢ o → at parents o ≡ at parents p
    → SharesParent changes (at names p)
shares_with changes size names b next heads parents l p o pos lt is ne same =
    let to = head_of changes size names b next heads parents l p pos lt in
    let h : ℕ = at heads p in
    let inside_h : h < size = omega (arith, to.is_head.within, l.back.lead.all) in
    let inside_o : o < size = omega (arith, is.within, l.back.lead.all) in
    let next_p = parent_named changes size names b next heads parents l p h pos lt to in
    let next_o = parent_named changes size names b next heads parents l o o is.some inside_o (own_head b o is) in (
      at names h,
      at names o,
      first_named changes size names b l.named l.back p h lt to,
      first_named changes size names b l.named l.back o o inside_o (own_head b o is),
      λ (e : at names h ≡ at names o). ne (l.named.one h o inside_h inside_o e),
      next_p ∙ ap (at names) (sym same) ∙ sym next_o,
    )

shares : (changes : List Change) (size : ℕ) (names b next heads parents : List ℕ) → IsLinked changes size names b next heads parents → (p : ℕ) → 0 < p → p < size → HaveTwoHeads b parents (at parents p) → SharesParent changes (at names p)
shares changes size names b next heads parents l p pos lt w = elim (cases_eq (at heads p) w.0) [
  | inl e ↦ shares_with changes size names b next heads parents l p w.1 pos lt w.3 (λ z. w.4 (sym e ∙ z)) w.6
  | inr ne ↦ shares_with changes size names b next heads parents l p w.0 pos lt w.2 ne w.5
]

pub above_named : (changes : List Change) (size : ℕ) (names b next heads parents : List ℕ) → IsLinked changes size names b next heads parents → (p : ℕ) → 0 < p → p < size
    → FailsAbove b parents p ↔ FailsInTree changes (at names p)
above_named changes size names b next heads parents l p pos lt = (
  λ w. elim w [
    | inl never ↦ inl (λ ps up. let k = ends_at changes size names b next heads parents l ps p lt up in never k.0 k.1)
    | inr two ↦ inr (shares changes size names b next heads parents l p pos lt two)
  ],
  λ w. elim w [
    | inl never ↦ inl (λ k e. let ps = ancestors changes size names b next heads parents l k p lt e in never ps.0 ps.1)
    | inr s ↦ inr (two_heads changes size names b next heads parents l p pos lt s)
  ],
)
