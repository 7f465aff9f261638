-- Save numbers in order: those beside a place are the greatest below a bound and the least above it.
use Rattle.std.proofs.Common.{◌≡◌, ◌≢◌, ℕ, zero, suc, ◌+◌, ◌-◌, ◌<◌, ◌≤◌, ◌==◌, ◌||◌, nat_lt, not, cond, eqb, map, max, if◌then◌else◌, true, false, List, [], ◌∷◌, length, get_or, sym, ap, subst, ◌∙◌, arith, refl, ◌⊎◌, inl, inr}
use Rattle.std.specs.List.{filter, list_any, dedup, Contains, HoldsAt}
use Rattle.std.specs.List.Sorted.{IsStrictlyIncreasing, IsNonDecreasingBy, IsPartitionPoint, IsPermutation, IsSorted}
use Rattle.std.specs.Ordering.{nat_cmp, ordering_index}
use Rattle.std.specs.declared.cmp.Ordering.TheVariants.{Less, Equal, Greater}
use Rattle.std.proofs.lemmas.Cmp.{ranked}
use Rattle.std.proofs.lemmas.List.Sorted.{IsNonDecreasingBy-from_default, IsPermutation-sym, Contains-permutation}
use Rattle.std.proofs.lemmas.Map.Keys.{IsStrictlyIncreasing-dedup}
use Rattle.std.proofs.lemmas.Bool.Decides.{nat_tests}
use Rattle.std.proofs.lemmas.List.{get_or_default}
use Rattle.std.proofs.lemmas.List.Elements.{Contains-get_or}
use Rattle.std.proofs.lemmas.List.Kept.{AllPairs-from_increasing, Contains-dedup_nat, Contains-from_dedup}
use Rattle.vs_undo.specs.declared.parts.Node.{Node}
use Rattle.vs_undo.specs.Writes.{save_below, nth_save_below, lesser, save_above, nth_save_above, IsSave, AreInOrder}

no_less : (save : ℕ) → (if nat_lt save 0 then save else 0) ≡ 0
no_less save = grind (arith, nat_tests)

-- no save number is below 0
below_zero : (nodes : List Node) → save_below nodes 0 ≡ 0
below_zero [] = refl
below_zero (node ∷ nodes) = omega (arith, no_less node.save, below_zero nodes)

nth_zero : (nodes : List Node) (by : ℕ) → nth_save_below nodes by 0 ≡ 0
nth_zero nodes zero = refl
nth_zero nodes (suc by) = ap (nth_save_below nodes by) (below_zero nodes) ∙ nth_zero nodes by

below_most : (nodes : List Node) (bound save : ℕ) → list_any (λ (node : Node). node.save == save) nodes ≡ true → save < bound → save ≤ save_below nodes bound
below_most [] bound save is less = absurd (cc)
below_most (node ∷ nodes) bound save is less =
    elim (node.save == save) as (λ b. b ≡ (node.save == save) → (b || list_any (λ (n : Node). n.save == save) nodes) ≡ true → save ≤ max (if nat_lt node.save bound then node.save else 0) (save_below nodes bound)) [
      | true ↦ λ t h. grind (arith, nat_tests)
      | false ↦ λ t h. omega (arith, below_most nodes bound save h less)
    ] refl is

below_there : (nodes : List Node) (bound : ℕ) → save_below nodes bound ≢ 0 → (list_any (λ (node : Node). node.save == save_below nodes bound) nodes ≡ true) × (save_below nodes bound < bound)
below_there [] bound some = absurd (some refl)
below_there (node ∷ nodes) bound some =
    let here = if nat_lt node.save bound then node.save else 0 in
    let rest = save_below nodes bound in
    elim (nat_lt here rest) as (λ b. b ≡ nat_lt here rest → (list_any (λ (n : Node). n.save == max here rest) (node ∷ nodes) ≡ true) × (max here rest < bound)) [
      | true ↦ λ t.
          let is : max here rest ≡ rest = grind (arith, nat_tests) in
          let more : rest ≢ 0 = grind (arith, nat_tests) in
          let h = below_there nodes bound more in
          let on = elim (node.save == rest) as (λ b. (b || list_any (λ (n : Node). n.save == rest) nodes) ≡ true) [ true ↦ refl | false ↦ h.0 ] in
          (subst (λ k. list_any (λ (n : Node). n.save == k) (node ∷ nodes) ≡ true) (sym is) on, omega (arith, h.1))
      | false ↦ λ t.
          let is : max here rest ≡ here = grind (arith, nat_tests) in
          let own : (here ≡ node.save) × (node.save < bound) = elim (nat_lt node.save bound) as (λ b. b ≡ nat_lt node.save bound → max (if b then node.save else 0) rest ≡ (if b then node.save else 0) → max (if b then node.save else 0) rest ≢ 0 → ((if b then node.save else 0) ≡ node.save) × (node.save < bound)) [
            | true ↦ λ u m s. (refl, grind (arith, nat_tests))
            | false ↦ λ u m s. absurd (s m)
          ] refl is some in
          let on : (node.save == max here rest) ≡ true = let e = own.0 in grind (arith, nat_tests) in
          (ap (λ b. b || list_any (λ (n : Node). n.save == max here rest) nodes) on, omega (arith, own.0, own.1))
    ] refl

lesser_first : (a b : ℕ) → 0 < a → (lesser a b ≢ 0) × (lesser a b ≤ a)
lesser_first a b some =
    let most : lesser a b ≤ a = grind (arith, nat_tests) in
    let more : 0 < lesser a b = grind (arith, nat_tests) in
    (λ e. absurd (omega arith), most)

lesser_second : (a b most : ℕ) → b ≢ 0 → b ≤ most → (lesser a b ≢ 0) × (lesser a b ≤ most)
lesser_second a b most some less =
    let within : lesser a b ≤ most = grind (arith, nat_tests) in
    let more : 0 < lesser a b = grind (arith, nat_tests) in
    (λ e. absurd (omega arith), within)

-- the lesser of two numbers is one of them
lesser_either : (a b : ℕ) → lesser a b ≢ 0 → (lesser a b ≡ a) ⊎ ((lesser a b ≡ b) × (b ≢ 0))
lesser_either a b some =
    elim (lesser a b == a) as (λ t. t ≡ (lesser a b == a) → (lesser a b ≡ a) ⊎ ((lesser a b ≡ b) × (b ≢ 0))) [
      | true ↦ λ t. inl (grind (arith, nat_tests))
      | false ↦ λ t. let is : lesser a b ≡ b = grind (arith, nat_tests) in inr (is, λ z. some (is ∙ z))
    ] refl

above_least : (nodes : List Node) (bound save : ℕ) → list_any (λ (node : Node). node.save == save) nodes ≡ true → bound < save → (save_above nodes bound ≢ 0) × (save_above nodes bound ≤ save)
above_least [] bound save is more = absurd (cc)
above_least (node ∷ nodes) bound save is more =
    let rest = save_above nodes bound in
    elim (node.save == save) as (λ b. b ≡ (node.save == save) → (b || list_any (λ (n : Node). n.save == save) nodes) ≡ true
    → (lesser (if nat_lt bound node.save then node.save else 0) rest ≢ 0) × (lesser (if nat_lt bound node.save then node.save else 0) rest ≤ save)) [
      | true ↦ λ t h.
          let own : (if nat_lt bound node.save then node.save else 0) ≡ save = grind (arith, nat_tests) in
          subst (λ k. (lesser k rest ≢ 0) × (lesser k rest ≤ save)) (sym own) (lesser_first save rest (omega arith))
      | false ↦ λ t h.
          let there = above_least nodes bound save h more in
          lesser_second (if nat_lt bound node.save then node.save else 0) rest save there.0 there.1
    ] refl is

above_there : (nodes : List Node) (bound : ℕ) → save_above nodes bound ≢ 0 → (list_any (λ (node : Node). node.save == save_above nodes bound) nodes ≡ true) × (bound < save_above nodes bound)
above_there [] bound some = absurd (some refl)
above_there (node ∷ nodes) bound some =
    let rest = save_above nodes bound in
    elim (nat_lt bound node.save) as (λ b. b ≡ nat_lt bound node.save → lesser (if b then node.save else 0) rest ≢ 0
    → (list_any (λ (n : Node). n.save == lesser (if b then node.save else 0) rest) (node ∷ nodes) ≡ true) × (bound < lesser (if b then node.save else 0) rest)) [
      | true ↦ λ t s.
          elim (lesser_either node.save rest s) [
            | inl is ↦
                let on : (node.save == lesser node.save rest) ≡ true = grind (arith, nat_tests) in
                let less : bound < node.save = grind (arith, nat_tests) in
                (ap (λ b. b || list_any (λ (n : Node). n.save == lesser node.save rest) nodes) on, omega (arith, less, is))
            | inr h ↦
                let there = above_there nodes bound h.1 in
                let on = elim (node.save == rest) as (λ b. (b || list_any (λ (n : Node). n.save == rest) nodes) ≡ true) [ true ↦ refl | false ↦ there.0 ] in
                (subst (λ k. list_any (λ (n : Node). n.save == k) (node ∷ nodes) ≡ true) (sym h.0) on, omega (arith, h.0, there.1))
          ]
      | false ↦ λ t s.
          let there = above_there nodes bound s in
          (elim (node.save == rest) as (λ b. (b || list_any (λ (n : Node). n.save == rest) nodes) ≡ true) [ true ↦ refl | false ↦ there.0 ], there.1)
    ] refl some

-- So many of the numbers are below a bound, and the others are not.
pub record IsCutBelow (saves : List ℕ) (place bound : ℕ) : Type 0 where
  pub within : place ≤ length saves
  pub before : (k : ℕ) → k < place → get_or saves k 0 < bound
  pub after : (k : ℕ) → place ≤ k → k < length saves → bound ≤ get_or saves k 0

-- So many of the numbers are not above a bound, and the others are.
pub record IsCutAbove (saves : List ℕ) (place bound : ℕ) : Type 0 where
  pub within : place ≤ length saves
  pub before : (k : ℕ) → k < place → get_or saves k 0 ≤ bound
  pub after : (k : ℕ) → place ≤ k → k < length saves → bound < get_or saves k 0

module _ (saves : List ℕ) (rising : IsStrictlyIncreasing saves) (bound : ℕ) where
  ascending : (i j : ℕ) → i < j → j < length saves → get_or saves i 0 < get_or saves j 0
  ascending i j less within = AllPairs-from_increasing saves rising i j 0 less within

  falling : IsNonDecreasingBy (λ y. ordering_index (nat_cmp y bound)) saves
  falling = IsNonDecreasingBy-from_default (λ y. ordering_index (nat_cmp y bound)) saves 0 (λ i j le within.
      let up : get_or saves i 0 ≤ get_or saves j 0 = grind (arith, ascending i j, λ (same : i ≡ j). ap (λ k. get_or saves k 0) same) in
      grind (arith, nat_tests))

  module _ (place : ℕ) (within : place < length saves) (equal : HoldsAt (λ y. nat_cmp y bound ≡ Equal) saves place) where
    here : get_or saves place 0 ≡ bound
    here = ranked _ bound _ (sym (equal 0))

    pub found_below : IsCutBelow saves place bound
    found_below = record {
      within = omega arith;
      before = λ k less. omega (arith, here, ascending k place less within);
      after = λ k from k_within. grind (arith, here, ascending place k, λ (same : place ≡ k). ap (λ j. get_or saves j 0) same);
    }

    pub found_above : IsCutAbove saves (place + 1) bound
    found_above = record {
      within = omega arith;
      before = λ k less. grind (arith, here, ascending k place, λ (same : k ≡ place). ap (λ j. get_or saves j 0) same);
      after = λ k from k_within. omega (arith, here, ascending place k (omega arith) k_within);
    }

  module _ (place : ℕ) (within : place ≤ length saves) (parted : IsNonDecreasingBy (λ y. ordering_index (nat_cmp y bound)) saves
      → IsPartitionPoint (λ y. nat_cmp y bound ≡ Less) (λ y. nat_cmp y bound ≡ Greater) saves place) where
    pub parted_below : IsCutBelow saves place bound
    parted_below = record {
      within = within;
      before = λ k less. ranked _ bound _ (sym ((parted falling).0 k 0 (omega arith) less));
      after = λ k from k_within. let more : bound < get_or saves k 0 = ranked _ bound _ (sym ((parted falling).1 k 0 from k_within)) in omega arith;
    }

    pub parted_above : IsCutAbove saves place bound
    parted_above = record {
      within = within;
      before = λ k less. let few : get_or saves k 0 < bound = ranked _ bound _ (sym ((parted falling).0 k 0 (omega arith) less)) in omega arith;
      after = λ k from k_within. ranked _ bound _ (sym ((parted falling).1 k 0 from k_within));
    }

-- the save numbers as the changes stand
abbrev pub collected : List Node → List ℕ
collected nodes = filter (λ save. not (save == 0)) (map (λ (node : Node). node.save) nodes)

collected_all : (nodes : List Node) (save : ℕ) → save ≢ 0 → list_any (λ (node : Node). node.save == save) nodes ≡ true → Contains (collected nodes) save
collected_all [] save some is = absurd (cc)
collected_all (node ∷ nodes) save some is =
    elim (node.save == save) as (λ b. b ≡ (node.save == save) → (b || list_any (λ (n : Node). n.save == save) nodes) ≡ true → Contains (collected (node ∷ nodes)) save) [
      | true ↦ λ t h.
          let same : node.save ≡ save = grind (arith, nat_tests) in
          let passes : not (node.save == 0) ≡ true = grind (arith, nat_tests) in
          subst (λ b. Contains (cond b (node.save ∷ collected nodes) (collected nodes)) save) (sym passes) (0, omega arith, same)
      | false ↦ λ t h.
          let rest = collected_all nodes save some h in
          elim (not (node.save == 0)) as (λ b. Contains (cond b (node.save ∷ collected nodes) (collected nodes)) save) [ true ↦ (suc rest.0, omega (arith, rest.1), rest.2) | false ↦ rest ]
    ] refl is

collected_each : (nodes : List Node) (save : ℕ) → Contains (collected nodes) save → IsSave nodes save
collected_each [] save h = absurd (omega (arith, h.1))
collected_each (node ∷ nodes) save h =
    let before = collected_each nodes save in
    elim (not (node.save == 0)) as (λ b. b ≡ not (node.save == 0) → Contains (cond b (node.save ∷ collected nodes) (collected nodes)) save → IsSave (node ∷ nodes) save) [
      | true ↦ λ t h. first before t h.0 h.1 h.2
      | false ↦ λ t h. later (before h)
    ] refl h
  where
    later : IsSave nodes save → IsSave (node ∷ nodes) save
    later is = (is.0, elim (node.save == save) as (λ b. (b || list_any (λ (n : Node). n.save == save) nodes) ≡ true) [ true ↦ refl | false ↦ is.1 ])

    first : (Contains (collected nodes) save → IsSave nodes save) → true ≡ not (node.save == 0) → (k : ℕ) → k < length (node.save ∷ collected nodes) → get_or (node.save ∷ collected nodes) k save ≡ save
        → IsSave (node ∷ nodes) save
    first before t zero within is =
        let same : (node.save == save) ≡ true = grind (arith, nat_tests) in
        let some : save ≢ 0 = grind (arith, nat_tests) in
        (some, ap (λ b. b || list_any (λ (n : Node). n.save == save) nodes) same)
    first before t (suc k) within is = later (before (k, omega arith, is))

-- what a sort and a `dedup` make of them
pub in_order : (nodes : List Node) (sorted : List ℕ) → IsPermutation (collected nodes) sorted → IsSorted nat_cmp sorted → AreInOrder nodes (dedup eqb sorted)
in_order nodes sorted moved order = record {
  rising = IsStrictlyIncreasing-dedup sorted order;
  each = λ save there. collected_each nodes save (Contains-permutation sorted (collected nodes) save (IsPermutation-sym (collected nodes) sorted moved) (Contains-from_dedup eqb sorted save there));
  all = λ save is. Contains-dedup_nat sorted save (Contains-permutation (collected nodes) sorted save moved (collected_all nodes save is.0 is.1));
}

module _ (nodes : List Node) (saves : List ℕ) (order : AreInOrder nodes saves) where
  up : (i j : ℕ) → i < j → j < length saves → get_or saves i 0 < get_or saves j 0
  up i j less within = AllPairs-from_increasing saves order.rising i j 0 less within

  -- a number of the list is a save number
  there : (k : ℕ) → k < length saves → IsSave nodes (get_or saves k 0)
  there k within = order.each (get_or saves k 0) (Contains-get_or saves k 0 within)

  -- a save number has a place
  place_of : (save : ℕ) → IsSave nodes save → (k : ℕ) × ((k < length saves) × (get_or saves k 0 ≡ save))
  place_of save is = let h = order.all save is in (h.0, (h.1, get_or_default saves h.0 0 save h.1 ∙ h.2))

  none_below : (bound : ℕ) → IsCutBelow saves 0 bound → save_below nodes bound ≡ 0
  none_below bound cut =
      elim (save_below nodes bound == 0) as (λ b. b ≡ (save_below nodes bound == 0) → save_below nodes bound ≡ 0) [
        | true ↦ λ t. grind (arith, nat_tests)
        | false ↦ λ t.
            let some : save_below nodes bound ≢ 0 = grind (arith, nat_tests) in
            let h = below_there nodes bound some in
            let at = place_of (save_below nodes bound) (some, h.0) in
            absurd (omega (arith, h.1, at.1.1, cut.after at.0 (omega arith) at.1.0))
      ] refl

  next_below : (place bound : ℕ) → IsCutBelow saves (suc place) bound → save_below nodes bound ≡ get_or saves place 0
  next_below place bound cut =
      let within : place < length saves = omega (arith, cut.within) in
      let is = there place within in
      let least = below_most nodes bound (get_or saves place 0) is.1 (cut.before place (omega arith)) in
      let own : get_or saves place 0 ≢ 0 = is.0 in
      let some : save_below nodes bound ≢ 0 = λ z. own (omega (arith, least, z)) in
      let h = below_there nodes bound some in
      let at = place_of (save_below nodes bound) (some, h.0) in
      elim (nat_lt at.0 place) as (λ b. b ≡ nat_lt at.0 place → save_below nodes bound ≡ get_or saves place 0) [
        | true ↦ λ t. let less : at.0 < place = grind (arith, nat_tests) in omega (arith, least, at.1.1, up at.0 place less within)
        | false ↦ λ t.
            elim (at.0 == place) as (λ b. b ≡ (at.0 == place) → save_below nodes bound ≡ get_or saves place 0) [
              | true ↦ λ u. let same : at.0 ≡ place = grind (arith, nat_tests) in sym at.1.1 ∙ ap (λ k. get_or saves k 0) same
              | false ↦ λ u. let past : suc place ≤ at.0 = grind (arith, nat_tests) in absurd (omega (arith, h.1, at.1.1, cut.after at.0 past at.1.0))
            ] refl
      ] refl

  cut_below : (place bound : ℕ) → IsCutBelow saves (suc place) bound → IsCutBelow saves place (get_or saves place 0)
  cut_below place bound cut = record {
    within = omega (arith, cut.within);
    before = λ k less. up k place less (omega (arith, cut.within));
    after = λ k from within.
        elim (k == place) as (λ b. b ≡ (k == place) → get_or saves place 0 ≤ get_or saves k 0) [
          | true ↦ λ t. let same : k ≡ place = grind (arith, nat_tests) in omega (arith, ap (λ j. get_or saves j 0) same)
          | false ↦ λ t. let more : place < k = grind (arith, nat_tests) in omega (arith, up place k more within)
        ] refl;
  }

  -- where there are so many below a bound
  pub nth_below_some : (by place bound : ℕ) → IsCutBelow saves place bound → by < place → nth_save_below nodes (suc by) bound ≡ get_or saves (place - suc by) 0
  nth_below_some by zero bound cut enough = absurd (omega arith)
  nth_below_some zero (suc place) bound cut enough = next_below place bound cut ∙ ap (λ k. get_or saves k 0) (omega arith)
  nth_below_some (suc by) (suc place) bound cut enough =
      ap (nth_save_below nodes (suc by)) (next_below place bound cut) ∙ (nth_below_some by place (get_or saves place 0) (cut_below place bound cut) (omega arith) ∙ ap (λ k. get_or saves k 0) (omega arith))

  -- where there are fewer
  pub nth_below_none : (by place bound : ℕ) → IsCutBelow saves place bound → place < by → nth_save_below nodes by bound ≡ 0
  nth_below_none zero place bound cut few = absurd (omega arith)
  nth_below_none (suc by) zero bound cut few = ap (nth_save_below nodes by) (none_below bound cut) ∙ nth_zero nodes by
  nth_below_none (suc by) (suc place) bound cut few = ap (nth_save_below nodes by) (next_below place bound cut) ∙ nth_below_none by place (get_or saves place 0) (cut_below place bound cut) (omega arith)

  none_above : (place bound : ℕ) → IsCutAbove saves place bound → length saves ≤ place → save_above nodes bound ≡ 0
  none_above place bound cut past =
      elim (save_above nodes bound == 0) as (λ b. b ≡ (save_above nodes bound == 0) → save_above nodes bound ≡ 0) [
        | true ↦ λ t. grind (arith, nat_tests)
        | false ↦ λ t.
            let some : save_above nodes bound ≢ 0 = grind (arith, nat_tests) in
            let h = above_there nodes bound some in
            let at = place_of (save_above nodes bound) (some, h.0) in
            absurd (omega (arith, h.1, at.1.1, cut.before at.0 (omega (arith, at.1.0))))
      ] refl

  next_above : (place bound : ℕ) → IsCutAbove saves place bound → place < length saves → (save_above nodes bound ≡ get_or saves place 0) × (get_or saves place 0 ≢ 0)
  next_above place bound cut within =
      let is = there place within in
      let least = above_least nodes bound (get_or saves place 0) is.1 (cut.after place (omega arith) within) in
      let h = above_there nodes bound least.0 in
      let at = place_of (save_above nodes bound) (least.0, h.0) in (
        elim (nat_lt place at.0) as (λ b. b ≡ nat_lt place at.0 → save_above nodes bound ≡ get_or saves place 0) [
          | true ↦ λ t. let less : place < at.0 = grind (arith, nat_tests) in omega (arith, least.1, at.1.1, up place at.0 less at.1.0)
          | false ↦ λ t.
              elim (at.0 == place) as (λ b. b ≡ (at.0 == place) → save_above nodes bound ≡ get_or saves place 0) [
                | true ↦ λ u. let same : at.0 ≡ place = grind (arith, nat_tests) in sym at.1.1 ∙ ap (λ k. get_or saves k 0) same
                | false ↦ λ u. let short : at.0 < place = grind (arith, nat_tests) in absurd (omega (arith, h.1, at.1.1, cut.before at.0 short))
              ] refl
        ] refl,
        is.0,
      )

  cut_above : (place bound : ℕ) → place < length saves → IsCutAbove saves (suc place) (get_or saves place 0)
  cut_above place bound within = record {
    within = omega arith;
    before = λ k less.
        elim (k == place) as (λ b. b ≡ (k == place) → get_or saves k 0 ≤ get_or saves place 0) [
          | true ↦ λ t. let same : k ≡ place = grind (arith, nat_tests) in omega (arith, ap (λ j. get_or saves j 0) same)
          | false ↦ λ t. let lower : k < place = grind (arith, nat_tests) in omega (arith, up k place lower within)
        ] refl;
    after = λ k from k_within. up place k (omega arith) k_within;
  }

  step_above : (by place bound : ℕ) → IsCutAbove saves place bound → place < length saves → nth_save_above nodes (suc by) bound ≡ nth_save_above nodes by (get_or saves place 0)
  step_above by place bound cut within =
      let next = next_above place bound cut within in
      let other : (get_or saves place 0 == 0) ≡ false = let some = next.1 in grind (arith, nat_tests) in
      ap (λ s. if s == 0 then 0 else nth_save_above nodes by s) next.0 ∙ ap (λ b. if b then 0 else nth_save_above nodes by (get_or saves place 0)) other

  -- where there are so many above a bound
  pub nth_above_some : (by place bound : ℕ) → IsCutAbove saves place bound → place + by < length saves → nth_save_above nodes (suc by) bound ≡ get_or saves (place + by) 0
  nth_above_some zero place bound cut enough = step_above 0 place bound cut (omega arith) ∙ ap (λ k. get_or saves k 0) (omega arith)
  nth_above_some (suc by) place bound cut enough =
      step_above (suc by) place bound cut (omega arith) ∙ (nth_above_some by (suc place) (get_or saves place 0) (cut_above place bound (omega arith)) (omega arith) ∙ ap (λ k. get_or saves k 0) (omega arith))

  -- where there are fewer
  pub nth_above_none : (by place bound : ℕ) → IsCutAbove saves place bound → length saves ≤ place + by → nth_save_above nodes (suc by) bound ≡ 0
  nth_above_none zero place bound cut few = ap (λ s. if s == 0 then 0 else s) (none_above place bound cut (omega arith))
  nth_above_none (suc by) place bound cut few =
      let after = λ (within : place < length saves). nth_above_none by (suc place) (get_or saves place 0) (cut_above place bound within) (omega arith) in
      elim (nat_lt place (length saves)) as (λ b. b ≡ nat_lt place (length saves) → nth_save_above nodes (suc (suc by)) bound ≡ 0) [
        | true ↦ λ t. let within : place < length saves = grind (arith, nat_tests) in step_above (suc by) place bound cut within ∙ after within
        | false ↦ λ t. let past : length saves ≤ place = grind (arith, nat_tests) in ap (λ s. if s == 0 then 0 else nth_save_above nodes (suc by) s) (none_above place bound cut past)
      ] refl
