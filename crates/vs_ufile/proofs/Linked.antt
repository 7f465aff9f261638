-- The changes of a file, by their places: their numbers are names of the places, and their links lead as the numbers do.
use Rattle.std.proofs.Common.{◌≡◌, ◌≢◌, ℕ, zero, suc, ◌+◌, ◌<◌, inl, inr, Bool, true, false, cond, eqb, ◌||◌, List, [], ◌∷◌, length, map, get_or, Option, Some, None, refl, sym, ap, subst, ◌∙◌, arith}
use Rattle.std.specs.Prelude.{AllPairs, Contains, unwrap_or}
use Rattle.std.specs.List.{AllByRecursion}
use Rattle.std.specs.Option.{is_some, option_map}
use Rattle.std.proofs.lemmas.Bool.{cases_lt, eqb-true, eq-eqb, ne_eqb}
use Rattle.std.proofs.lemmas.List.{get_or-map, get_or_default, length-map}
use Rattle.vs_ufile.specs.declared.link.Link.{Link}
use Rattle.vs_ufile.specs.declared.link.Link.TheVariants.{Next, AltNext, AltPrev}
use Rattle.vs_ufile.specs.Changes.{place_of}
use Rattle.vs_ufile.specs.Decode.{KnowsAll, LinksAreKnown, is_known}
use Rattle.vs_ufile.specs.Failing.{AreNumbers, link_of, links_of}
use Rattle.vs_ufile.specs.Reading.{Placed, index_of, numbers_of}
use Rattle.vs_ufile.specs.Tree.{IsChange, link, numbers}
use Rattle.vs_ufile.specs.Values.{Change}
use Rattle.vs_ufile.specs.Walks.{at}
use Rattle.vs_ufile.proofs.Known.{numbers_are}
use Rattle.vs_ufile.proofs.Named.{AreNames, LeadAs}

abbrev pub changes_of : List Placed → List Change
changes_of placed = map (λ p. p.change) placed

-- ---- the place of a number

some_is : (a b : ℕ) → Some a ≡ Some b → a ≡ b
some_is a b e = cc

some_of : (o : Option ℕ) (i : ℕ) → option_map suc o ≡ Some i → (j : ℕ) × (o ≡ Some j) × (suc j ≡ i)
some_of None i e = absurd cc
some_of (Some j) i e = (j, refl, some_is (suc j) i e)

index_by : (x n i : ℕ) (xs : List ℕ) (b : Bool) → eqb x n ≡ b → cond b (Some 0) (option_map suc (index_of n xs)) ≡ Some i
    → ((j : ℕ) → index_of n xs ≡ Some j → (j < length xs) × (at xs j ≡ n)) → (i < length (x ∷ xs)) × (at (x ∷ xs) i ≡ n)
index_by x n i xs true e h more =
    let first : 0 ≡ i = some_is 0 i h in
    subst (λ (k : ℕ). (k < length (x ∷ xs)) × (at (x ∷ xs) k ≡ n)) first (omega arith, eqb-true x n e)
index_by x n i xs false e h more =
    let j = some_of (index_of n xs) i h in
    let m = more j.0 j.1 in
    subst (λ (k : ℕ). (k < length (x ∷ xs)) × (at (x ∷ xs) k ≡ n)) j.2 (omega (arith, m.0), m.1)

pub index_at : (n : ℕ) (xs : List ℕ) (i : ℕ) → index_of n xs ≡ Some i → (i < length xs) × (at xs i ≡ n)
index_at n [] i e = absurd cc
index_at n (x ∷ xs) i e = index_by x n i xs (eqb x n) refl e (index_at n xs)

place_by : (ns : List ℕ) (m : ℕ) (o : Option ℕ) (b : Bool) → index_of m ns ≡ o → eqb m 0 ≡ b → (b || is_some o) ≡ true
    → (unwrap_or (option_map suc o) 0 < length ns + 1) × (at (0 ∷ ns) (unwrap_or (option_map suc o) 0) ≡ m)
place_by ns m (Some i) b e z k = let a = index_at m ns i e in (omega (arith, a.0), a.1)
place_by ns m None true e z k = (omega arith, sym (eqb-true m 0 z))
place_by ns m None false e z k = absurd cc

place_named : (ns : List ℕ) (m : ℕ) → is_known ns m ≡ true → (place_of ns m < length ns + 1) × (at (0 ∷ ns) (place_of ns m) ≡ m)
place_named ns m k = place_by ns m (index_of m ns) (eqb m 0) refl refl k

-- ---- the names of places

one_by : (ns : List ℕ) → AreNumbers ns → (p q : ℕ) → p < length ns + 1 → q < length ns + 1 → at (0 ∷ ns) p ≡ at (0 ∷ ns) q → p ≡ q
one_by ns h zero zero lp lq e = refl
one_by ns h zero (suc q) lp lq e = absurd (omega (arith, e, (h.range q 0 (omega (arith, lq))).0))
one_by ns h (suc p) zero lp lq e = absurd (omega (arith, e, (h.range p 0 (omega (arith, lp))).0))
one_by ns h (suc p) (suc q) lp lq e = elim (cases_lt p q) [
  | inl lt ↦ absurd (h.distinct p q 0 lt (omega (arith, lq)) e)
  | inr ge ↦ elim (cases_lt q p) [
    | inl lt ↦ absurd (h.distinct q p 0 lt (omega (arith, lp)) (sym e))
    | inr le ↦ let same : p ≡ q = omega (arith, ge, le) in ap suc same
  ]
]

change_by : (ns : List ℕ) (p : ℕ) → 0 < p → p < length ns + 1 → Contains ns (at (0 ∷ ns) p)
change_by ns zero pos lt = absurd (omega (arith, pos))
change_by ns (suc p) pos lt = (p, omega (arith, lt), get_or_default ns p _ 0 (omega (arith, lt)))

place_at : (ns : List ℕ) (n : ℕ) → Contains ns n → (p : ℕ) × (0 < p) × (p < length ns + 1) × (at (0 ∷ ns) p ≡ n)
place_at ns n c = (suc c.0, omega arith, omega (arith, c.1), get_or_default ns c.0 0 n c.1 ∙ c.2)

pub are_names : (placed : List Placed) → AreNumbers (numbers_of placed) → AreNames (changes_of placed) (length placed + 1) (0 ∷ numbers_of placed)
are_names placed h =
    let ns : List ℕ = numbers_of placed in
    let size : length ns ≡ length placed = length-map placed (λ p. p.change.number) in
    let same : numbers (changes_of placed) ≡ ns = numbers_are placed in
    record {
      some = omega arith;
      none = refl;
      one = λ p q lp lq e. one_by ns h p q (omega (arith, lp, size)) (omega (arith, lq, size)) e;
      change = λ p pos lt. subst (λ (xs : List ℕ). Contains xs (at (0 ∷ ns) p)) (sym same) (change_by ns p pos (omega (arith, lt, size)));
      place = λ n is.
          let p = place_at ns n (subst (λ (xs : List ℕ). Contains xs n) same is) in
          (p.0, p.1, omega (arith, p.2, size), p.3);
    }

-- ---- links

pub link_at : (field : Change → ℕ) (cs : List Change) (d : Change) → AllPairs (λ m n. m ≢ n) (numbers cs) → (i : ℕ) → i < length cs → link field cs (get_or cs i d).number ≡ field (get_or cs i d)
link_at field [] d h i lt = absurd (omega (arith, lt))
link_at field (c ∷ cs) d h zero lt = ap (λ b. cond b (field c) (link field cs c.number)) (eq-eqb c.number c.number refl)
link_at field (c ∷ cs) d h (suc i) lt =
    let x : Change = get_or cs i d in
    let inside : i < length cs = omega (arith, lt) in
    let named : get_or (numbers cs) i 0 ≡ x.number = get_or-map (λ c. c.number) cs i d 0 inside in
    let size : length (numbers cs) ≡ length cs = length-map cs (λ c. c.number) in
    let differ : c.number ≢ x.number = λ e. h 0 (suc i) 0 (omega arith) (omega (arith, lt, size)) (e ∙ sym named) in
    let rest : AllPairs (λ m n. m ≢ n) (numbers cs) = λ j k e less within. h (suc j) (suc k) e (omega (arith, less)) (omega (arith, within)) in
    ap (λ b. cond b (field c) (link field cs x.number)) (ne_eqb c.number x.number differ) ∙ link_at field cs d rest i inside

pub link_none : (field : Change → ℕ) (cs : List Change) (n : ℕ) → ¬ IsChange cs n → link field cs n ≡ 0
link_none field [] n absent = refl
link_none field (c ∷ cs) n absent =
    let differ : c.number ≢ n = λ e. absent (0, omega arith, e) in
    let rest : ¬ IsChange cs n = λ w. absent (suc w.0, omega (arith, w.1), w.2) in
    ap (λ b. cond b (field c) (link field cs n)) (ne_eqb c.number n differ) ∙ link_none field cs n rest

known_at : (ns : List ℕ) (ps : List Placed) (d : Placed) → AllByRecursion (λ p. LinksAreKnown ns p.change) ps → (i : ℕ) → i < length ps → LinksAreKnown ns (get_or ps i d).change
known_at ns [] d h i lt = absurd (omega (arith, lt))
known_at ns (p ∷ ps) d h zero lt = h.0
known_at ns (p ∷ ps) d h (suc i) lt = known_at ns ps d h.1 i (omega (arith, lt))

known_link : (ns : List ℕ) (l : Link) (c : Change) → LinksAreKnown ns c → is_known ns (link_of l c) ≡ true
known_link ns Next c h = h.next
known_link ns AltNext c h = h.alt_next
known_link ns AltPrev c h = h.alt_prev

abbrev nothing : Placed
nothing = record { left = 0; change = record { number = 0; next = 0; prev = 0; alt_next = 0; alt_prev = 0; empty = false; time = 0; save = 0; entries = [] } }

-- where the link of a change leads, by its place
leads_at : (l : Link) (placed : List Placed) → KnowsAll placed → (i e : ℕ) → i < length placed
    → (get_or (map (λ p. place_of (numbers_of placed) (link_of l p.change)) placed) i e < length placed + 1)
    × (at (0 ∷ numbers_of placed) (get_or (map (λ p. place_of (numbers_of placed) (link_of l p.change)) placed) i e) ≡ link_of l (get_or placed i nothing).change)
leads_at l placed known i e lt =
    let ns : List ℕ = numbers_of placed in
    let size : length ns ≡ length placed = length-map placed (λ p. p.change.number) in
    let x : Placed = get_or placed i nothing in
    let there : get_or (map (λ p. place_of ns (link_of l p.change)) placed) i e ≡ place_of ns (link_of l x.change) = get_or-map (λ p. place_of ns (link_of l p.change)) placed i nothing e lt in
    let p = place_named ns (link_of l x.change) (known_link ns l x.change (known_at ns placed nothing known i lt)) in
    (omega (arith, there, p.0, size), ap (at (0 ∷ ns)) there ∙ p.1)

within_at : (l : Link) (placed : List Placed) → KnowsAll placed → (k d : ℕ) → k < length (links_of l placed) → get_or (links_of l placed) k d < length placed + 1
within_at l placed known zero d lt = omega arith
within_at l placed known (suc i) d lt =
    (leads_at l placed known i d (omega (arith, lt, length-map placed (λ p. place_of (numbers_of placed) (link_of l p.change))))).0

each_at : (l : Link) (placed : List Placed) → AreNumbers (numbers_of placed) → KnowsAll placed → (p : ℕ) → p < length placed + 1 → at (0 ∷ numbers_of placed) (at (links_of l placed) p) ≡ link (link_of l) (changes_of placed) (at (0 ∷ numbers_of placed) p)
each_at l placed h known zero lt =
    let n = are_names placed h in
    let absent : ¬ IsChange (changes_of placed) 0 = λ is. let p = n.place 0 is in let z : p.0 ≡ 0 = n.one p.0 0 p.2 n.some p.3 in omega (arith, z, p.1) in
    sym (link_none (link_of l) (changes_of placed) 0 absent)
each_at l placed h known (suc i) lt =
    let inside : i < length placed = omega (arith, lt) in
    let x : Placed = get_or placed i nothing in
    let named : at (numbers_of placed) i ≡ x.change.number = get_or-map (λ p. p.change.number) placed i nothing 0 inside in
    let change : get_or (changes_of placed) i nothing.change ≡ x.change = get_or-map (λ p. p.change) placed i nothing nothing.change inside in
    let size : length (changes_of placed) ≡ length placed = length-map placed (λ p. p.change) in
    let distinct : AllPairs (λ m n. m ≢ n) (numbers (changes_of placed)) = subst (AllPairs (λ m n. m ≢ n)) (sym (numbers_are placed)) h.distinct in
    let own = link_at (link_of l) (changes_of placed) nothing.change distinct i (omega (arith, inside, size)) in
    (leads_at l placed known i 0 inside).1 ∙ ap (link_of l) (sym change) ∙ sym own ∙ ap (λ (c : Change). link (link_of l) (changes_of placed) c.number) change ∙ ap (link (link_of l) (changes_of placed)) (sym named)

pub lead_as : (l : Link) (placed : List Placed) → AreNumbers (numbers_of placed) → KnowsAll placed → LeadAs (length placed + 1) (0 ∷ numbers_of placed) (links_of l placed) (link (link_of l) (changes_of placed))
lead_as l placed h known = record {
  lead = record {
    all = omega (arith, length-map placed (λ p. place_of (numbers_of placed) (link_of l p.change)));
    within = within_at l placed known;
    none = refl;
  };
  each = each_at l placed h known;
}
