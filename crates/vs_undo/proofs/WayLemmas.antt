-- A state has one way, and what two ways share.
use Rattle.std.proofs.Common.{◌≡◌, ◌≢◌, ℕ, ◌+◌, ◌-◌, ◌<◌, ◌==◌, ◌||◌, not, if◌then◌else◌, Bool, true, false, List, [], ◌∷◌, ◌++◌, length, get_or, reverse, Option, Some, None, sym, ap, subst, ◌∙◌, arith, refl, append_assoc, length-append}
use Rattle.std.proofs.lemmas.Bool.Decides.{nat_tests}
use Rattle.std.proofs.lemmas.List.{append_cancel_right, get_or-append-add, reverse-append}
use Rattle.std.proofs.lemmas.List.Folds.{list_any-append}
use Rattle.vs_undo.specs.Ways.{start, IsWay, is_on}
use Rattle.vs_undo.specs.Walks.{IsWalk}

reverse_first : (n : ℕ) (way : List ℕ) → reverse (n ∷ way) ≡ reverse way ++ n ∷ []
reverse_first n way = reverse-append (n ∷ []) way

-- a state that lies on a list cuts it
pub cut_at : (way : List ℕ) (n : ℕ) → is_on way n ≡ true → (before : List ℕ) × ((after : List ℕ) × (way ≡ before ++ n ∷ after))
cut_at [] n on = absurd (cc)
cut_at (m ∷ way) n on =
    elim (m == n) as (λ b. b ≡ (m == n) → (before : List ℕ) × ((after : List ℕ) × (m ∷ way ≡ before ++ n ∷ after))) [
      | true ↦ λ is. let same : m ≡ n = grind (arith, nat_tests) in ([], (way, ap (λ k. k ∷ way) same))
      | false ↦ λ is. let rest : is_on way n ≡ true = grind (arith, nat_tests) in
          let cut = cut_at way n rest in (m ∷ cut.0, (cut.1.0, ap (λ xs. m ∷ xs) cut.1.1))
    ] refl

-- the last element of a list that goes on after some others
last_of : (before : List ℕ) (n : ℕ) (after : List ℕ) → get_or (before ++ n ∷ after) (length (before ++ n ∷ after) - 1) 0 ≡ get_or (n ∷ after) (length after) 0
last_of before n after =
    let at : length (before ++ n ∷ after) - 1 ≡ length before + length after = omega (arith, length-append before (n ∷ after)) in
    ap (λ k. get_or (before ++ n ∷ after) k 0) at ∙ get_or-append-add before (n ∷ after) (length after) 0

pub on_first : (n : ℕ) (way : List ℕ) → is_on (n ∷ way) n ≡ true
on_first n way = grind (arith, nat_tests)

pub on_more : (m : ℕ) (way : List ℕ) (n : ℕ) → is_on way n ≡ true → is_on (m ∷ way) n ≡ true
on_more m way n on =
    elim (m == n) as (λ b. (b || is_on way n) ≡ true) [ true ↦ refl | false ↦ on ]

module _ (parent : ℕ → Option ℕ) (back : ℕ → Bool) where
  pub walk_on : (from : ℕ) (path more : List ℕ) (mid to : ℕ) → IsWalk parent back from path mid → IsWalk parent back mid more to → IsWalk parent back from (path ++ more) to
  walk_on from [] more mid to a b = subst (λ k. IsWalk parent back k more to) (sym a) b
  walk_on from (n ∷ path) more mid to a b = (a.0, (a.1.0, a.1.1, walk_on (if back n then a.0 else n) path more mid to a.1.2 b))

  pub walk_up : (up rest : List ℕ) → IsWay parent (up ++ rest) → ((n : ℕ) → is_on up n ≡ true → back n ≡ true) → IsWalk parent back (start (up ++ rest)) up (start rest)
  walk_up [] rest is on = refl
  walk_up (n ∷ up) rest is on =
      let here = on n (on_first n up) in
      let p = start (up ++ rest) in
      (p, (is.0, ap (λ b. if b then n else p) (sym here), subst (λ k. IsWalk parent back k up (start rest)) (ap (λ b. if b then p else n) (sym here)) (walk_up up rest is.1 (λ m m_on. on m (on_more n up m m_on)))))

  pub walk_down : (down rest : List ℕ) → IsWay parent (down ++ rest) → ((n : ℕ) → is_on down n ≡ true → back n ≡ false) → IsWalk parent back (start rest) (reverse down) (start (down ++ rest))
  walk_down [] rest is on = refl
  walk_down (n ∷ down) rest is on =
      let here = on n (on_first n down) in
      let p = start (down ++ rest) in
      let before = walk_down down rest is.1 (λ m m_on. on m (on_more n down m m_on)) in
      let last : IsWalk parent back p (n ∷ []) n = (p, (is.0, ap (λ b. if b then n else p) (sym here), ap (λ b. if b then p else n) here)) in
      subst (λ path. IsWalk parent back (start rest) path n) (sym (reverse_first n down)) (walk_on (start rest) (reverse down) (n ∷ []) p n before last)

module _ (parent : ℕ → Option ℕ) (root : parent 0 ≡ None) where
  pub one_way : (a b : List ℕ) → IsWay parent a → IsWay parent b → start a ≡ start b → a ≡ b
  one_way [] [] x y same = refl
  one_way [] (n ∷ b) x y same = absurd (let e : parent 0 ≡ Some (start b) = ap parent same ∙ y.0 in cc)
  one_way (n ∷ a) [] x y same = absurd (let e : parent 0 ≡ Some (start a) = ap parent (sym same) ∙ x.0 in cc)
  one_way (n ∷ a) (m ∷ b) x y same =
      let e : Some (start a) ≡ Some (start b) = sym x.0 ∙ ap parent same ∙ y.0 in
      let starts : start a ≡ start b = cc in
      ap (λ k. k ∷ a) same ∙ ap (λ way. m ∷ way) (one_way a b x.1 y.1 starts)

  pub way_after : (before after : List ℕ) → IsWay parent (before ++ after) → IsWay parent after
  way_after [] after is = is
  way_after (n ∷ before) after is = way_after before after is.1

  -- Two ways with a common end, before which they differ, share nothing before it.
  module _ (up down rest : List ℕ) (from : IsWay parent (up ++ rest)) (to : IsWay parent (down ++ rest))
      (differ : 0 < length up → 0 < length down → get_or up (length up - 1) 0 ≢ get_or down (length down - 1) 0) where
    pub apart : (n : ℕ) → is_on up n ≡ true → is_on (down ++ rest) n ≡ true → ⊥
    apart n on_up on_to =
        let a = cut_at up n on_up in
        let b = cut_at (down ++ rest) n on_to in
        let from_n : IsWay parent (n ∷ (a.1.0 ++ rest)) =
        way_after a.0 (n ∷ (a.1.0 ++ rest)) (subst (IsWay parent) (ap (λ k. k ++ rest) a.1.1 ∙ append_assoc a.0 (n ∷ a.1.0) rest) from) in
        let to_n : IsWay parent (n ∷ b.1.0) = way_after b.0 (n ∷ b.1.0) (subst (IsWay parent) b.1.1 to) in
        let same : n ∷ (a.1.0 ++ rest) ≡ n ∷ b.1.0 = one_way (n ∷ (a.1.0 ++ rest)) (n ∷ b.1.0) from_n to_n refl in
        let down_is : down ≡ b.0 ++ n ∷ a.1.0 =
        append_cancel_right down (b.0 ++ n ∷ a.1.0) rest (b.1.1 ∙ (ap (λ k. b.0 ++ k) (sym same) ∙ sym (append_assoc b.0 (n ∷ a.1.0) rest))) in
        let up_some : 0 < length up = omega (arith, ap length a.1.1, length-append a.0 (n ∷ a.1.0)) in
        let down_some : 0 < length down = omega (arith, ap length down_is, length-append b.0 (n ∷ a.1.0)) in
        differ up_some down_some (ap (λ k. get_or k (length k - 1) 0) a.1.1 ∙ (last_of a.0 n a.1.0 ∙ (sym (last_of b.0 n a.1.0) ∙ sym (ap (λ k. get_or k (length k - 1) 0) down_is))))

-- what holds on two ways, where the states before their common end lie apart
on_other : (u d r : Bool) → (u ≡ true → (d || r) ≡ true → ⊥) → (d ≡ true → (u || r) ≡ true → ⊥) → (d || r) ≡ (if u || d then not (u || r) else (u || r))
on_other true true r a b = absurd (a refl refl)
on_other true false true a b = absurd (a refl refl)
on_other true false false a b = refl
on_other false true true a b = absurd (b refl refl)
on_other false true false a b = refl
on_other false false r a b = refl

or_last : (a b : Bool) → (a || (b || false)) ≡ (b || a)
or_last true true = refl
or_last true false = refl
or_last false true = refl
or_last false false = refl

pub is_on-reverse : (way : List ℕ) (n : ℕ) → is_on (reverse way) n ≡ is_on way n
is_on-reverse [] n = refl
is_on-reverse (m ∷ way) n =
    ap (λ xs. is_on xs n) (reverse_first m way) ∙ (list_any-append (λ k. k == n) (reverse way) (m ∷ []) ∙ (ap (λ b. b || (m == n || false)) (is_on-reverse way n) ∙ or_last (is_on way n) (m == n)))

module _ (parent : ℕ → Option ℕ) (root : parent 0 ≡ None) (up down rest : List ℕ) (from : IsWay parent (up ++ rest)) (to : IsWay parent (down ++ rest))
    (differ : 0 < length up → 0 < length down → get_or up (length up - 1) 0 ≢ get_or down (length down - 1) 0) where
  -- the states that lie on one way alone are those of the path between
  pub on_turned : (n : ℕ) → is_on (down ++ rest) n ≡ (if is_on (up ++ reverse down) n then not (is_on (up ++ rest) n) else is_on (up ++ rest) n)
  on_turned n =
      let a = list_any-append (λ k. k == n) up rest in
      let b = list_any-append (λ k. k == n) down rest in
      let c = list_any-append (λ k. k == n) up (reverse down) ∙ ap (λ k. is_on up n || k) (is_on-reverse down n) in
      let other = on_other (is_on up n) (is_on down n) (is_on rest n)
      (λ on_up on_to. apart parent root up down rest from to differ n on_up (b ∙ on_to))
      (λ on_down on_from. apart parent root down up rest to from (λ x y e. differ y x (sym e)) n on_down (a ∙ on_from)) in
      rw (a, b, c) other

  back_up : (n : ℕ) → is_on up n ≡ true → is_on (up ++ rest) n ≡ true
  back_up n on = list_any-append (λ k. k == n) up rest ∙ ap (λ b. b || is_on rest n) on

  back_down : (n : ℕ) → is_on down n ≡ true → is_on (up ++ rest) n ≡ false
  back_down n on =
      elim (is_on (up ++ rest) n) as (λ b. is_on (up ++ rest) n ≡ b → b ≡ false) [
        | true ↦ λ is. absurd (apart parent root down up rest to from (λ x y e. differ y x (sym e)) n on is)
        | false ↦ λ _. refl
      ] refl

  -- the path between is a walk
  pub walk_between : IsWalk parent (is_on (up ++ rest)) (start (up ++ rest)) (up ++ reverse down) (start (down ++ rest))
  walk_between =
      walk_on parent (is_on (up ++ rest)) (start (up ++ rest)) up (reverse down) (start rest) (start (down ++ rest))
      (walk_up parent (is_on (up ++ rest)) up rest from back_up)
      (walk_down parent (is_on (up ++ rest)) down rest to back_down)
