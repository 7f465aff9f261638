-- A state has one path outward.
use Rattle.std.proofs.Common.{◌≡◌, ℕ, ◌+◌, ◌<◌, ◌==◌, ◌||◌, if◌then◌else◌, Bool, true, false, List, [], ◌∷◌, ◌++◌, length, get_or, take, reverse, Option, Some, None, ◌⊎◌, inl, inr, sym, ap, subst, ◌∙◌, arith, refl, append_assoc, append-nil, length-append}
use Rattle.std.proofs.lemmas.Bool.Decides.{nat_tests}
use Rattle.std.proofs.lemmas.List.{append_cancel_right, reverse-append, take_more}
use Rattle.std.proofs.lemmas.List.Folds.{list_any-append}
use Rattle.vs_edit.proofs.UndoingLemmas.{reverse_pushed}
use Rattle.vs_undo.specs.Ways.{start, IsWay, is_on, IsBetween}
use Rattle.vs_undo.specs.Walks.{IsWalk}
use Rattle.vs_undo.proofs.WayLemmas.{cut_at, one_way, way_after, walk_between}
use Rattle.vs_outward.specs.Outward.{IsOut}

module _ (parent : ℕ → Option ℕ) (back : ℕ → Bool) (from : ℕ) where
  -- the changes before some on a path
  pub out_before : (after before : List ℕ) (to : ℕ) → IsOut parent back from (after ++ before) to → (mid : ℕ) × IsOut parent back from before mid
  out_before [] before to out = (to, out)
  out_before (n ∷ after) before to out = out_before after before (if back n then n else out.0) out.1.2

  pub out_of_walk : (path before : List ℕ) (at to : ℕ) → IsWalk parent back at path to → IsOut parent back from before at → IsOut parent back from (reverse path ++ before) to
  out_of_walk [] before at to walk out = subst (λ k. IsOut parent back from before k) walk out
  out_of_walk (n ∷ path) before at to walk out =
      let p = walk.0 in
      let next : IsOut parent back from (n ∷ before) (if back n then p else n) = (p, (walk.1.0, refl, subst (λ k. IsOut parent back from before k) walk.1.1 out)) in
      let same : reverse (n ∷ path) ++ before ≡ reverse path ++ (n ∷ before) = ap (λ xs. xs ++ before) (reverse-append (n ∷ []) path) ∙ append_assoc (reverse path) (n ∷ []) before in
      subst (λ xs. IsOut parent back from xs to) (sym same) (out_of_walk path (n ∷ before) (if back n then p else n) to walk.1.2 next)

pub on_at : (before : List ℕ) (n : ℕ) (after : List ℕ) → is_on (before ++ n ∷ after) n ≡ true
on_at [] n after = grind (arith, nat_tests)
on_at (m ∷ before) n after =
    elim (m == n) as (λ b. (b || is_on (before ++ n ∷ after) n) ≡ true) [ true ↦ refl | false ↦ on_at before n after ]

module _ (parent : ℕ → Option ℕ) (root : parent 0 ≡ None) (way : List ℕ) (is_way : IsWay parent way) where
  -- what stands above a state on the way
  above : (n p : ℕ) → is_on way n ≡ true → parent n ≡ Some p → (before : List ℕ) × ((after : List ℕ) × ((way ≡ before ++ n ∷ after) × (start after ≡ p) × IsWay parent after))
  above n p on is =
      let cut = cut_at way n on in
      let after = cut.1.0 in
      let here : IsWay parent (n ∷ after) = way_after parent root cut.0 (n ∷ after) (subst (IsWay parent) cut.1.1 is_way) in
      let e : Some (start after) ≡ Some p = sym here.0 ∙ is in
      let starts : start after ≡ p = cc in
      (cut.0, (after, (cut.1.1, starts, here.1)))

  one_child : (n m p : ℕ) → is_on way n ≡ true → is_on way m ≡ true → parent n ≡ Some p → parent m ≡ Some p → n ≡ m
  one_child n m p n_on m_on n_is m_is =
      let a = above n p n_on n_is in
      let b = above m p m_on m_is in
      let rest : a.1.0 ≡ b.1.0 = one_way parent root a.1.0 b.1.0 a.1.1.2 b.1.1.2 (a.1.1.1 ∙ sym b.1.1.1) in
      let whole : (a.0 ++ n ∷ []) ++ b.1.0 ≡ (b.0 ++ m ∷ []) ++ b.1.0 =
      append_assoc a.0 (n ∷ []) b.1.0 ∙ (ap (λ xs. a.0 ++ n ∷ xs) (sym rest) ∙ (sym a.1.1.0 ∙ (b.1.1.0 ∙ sym (append_assoc b.0 (m ∷ []) b.1.0)))) in
      let same : a.0 ++ n ∷ [] ≡ b.0 ++ m ∷ [] = append_cancel_right (a.0 ++ n ∷ []) (b.0 ++ m ∷ []) b.1.0 whole in
      let e : n ∷ reverse a.0 ≡ m ∷ reverse b.0 = sym (reverse_pushed (a.0 ++ n ∷ []) a.0 n refl) ∙ reverse_pushed (a.0 ++ n ∷ []) b.0 m same in
      cc

  on_above : (n p : ℕ) → is_on way n ≡ true → parent n ≡ Some p → (p ≡ 0) ⊎ (is_on way p ≡ true)
  on_above n p on is = let a = above n p on is in next a.0 a.1.0 a.1.1.0 a.1.1.1
    where
      next : (before after : List ℕ) → way ≡ before ++ n ∷ after → start after ≡ p → (p ≡ 0) ⊎ (is_on way p ≡ true)
      next before [] w s = inl (sym s)
      next before (q ∷ after) w s =
          inr (ap (λ xs. is_on xs p) (w ∙ (sym (append_assoc before (n ∷ []) (q ∷ after)) ∙ ap (λ k. (before ++ n ∷ []) ++ k ∷ after) s)) ∙ on_at (before ++ n ∷ []) p after)

  not_below_start : (n : ℕ) → is_on way n ≡ true → parent n ≡ Some (start way) → ⊥
  not_below_start n on is =
      let a = above n (start way) on is in
      let same : a.1.0 ≡ way = one_way parent root a.1.0 way a.1.1.2 is_way a.1.1.1 in
      omega (arith, ap length same, ap length a.1.1.0, length-append a.0 (n ∷ a.1.0))

  start_on : (n p : ℕ) → n ≡ start way → parent n ≡ Some p → is_on way n ≡ true
  start_on n p is up = at way refl is
    where
      at : (w : List ℕ) → w ≡ way → n ≡ start w → is_on w n ≡ true
      at [] e s = absurd (let h : None ≡ Some p = sym root ∙ (ap parent (sym s) ∙ up) in cc)
      at (m ∷ w) e s = grind (arith, nat_tests)

  abbrev Out : List ℕ → ℕ → Type 0
  Out path to = IsOut parent (is_on way) (start way) path to

  not_at_start : (n : ℕ) (path : List ℕ) (to : ℕ) → Out (n ∷ path) to → to ≡ start way → ⊥
  not_at_start n path to out is =
      elim (is_on way n) as (λ b. is_on way n ≡ b → (to ≡ (if b then out.0 else n)) → ⊥) [
        | true ↦ λ on e. not_below_start n on (out.1.0 ∙ ap Some (sym e ∙ is))
        | false ↦ λ off e. let on = start_on n out.0 (sym e ∙ is) out.1.0 in cc
      ] refl out.1.1

  -- a change that leads towards the root and one that leads away from it lead to different states
  not_both : (n p m q to : ℕ) → is_on way n ≡ true → is_on way m ≡ false → parent n ≡ Some p → parent m ≡ Some q → to ≡ p → to ≡ m → ⊥
  not_both n p m q to on off n_is m_is to_p to_m =
      elim (on_above n p on n_is) [
        | inl z ↦ let h : None ≡ Some q = sym root ∙ (ap parent (sym (sym to_m ∙ (to_p ∙ z))) ∙ m_is) in cc
        | inr p_on ↦ let h : is_on way m ≡ is_on way p = ap (is_on way) (sym to_m ∙ to_p) in cc
      ]

  last_same : (n p m q to : ℕ) → parent n ≡ Some p → parent m ≡ Some q → to ≡ (if is_on way n then p else n) → to ≡ (if is_on way m then q else m) → n ≡ m
  last_same n p m q to n_is m_is n_to m_to =
      elim (is_on way n) as (λ b. is_on way n ≡ b → to ≡ (if b then p else n) → n ≡ m) [
        | true ↦ λ n_on n_e. elim (is_on way m) as (λ b. is_on way m ≡ b → to ≡ (if b then q else m) → n ≡ m) [
          | true ↦ λ m_on m_e. one_child n m p n_on m_on n_is (m_is ∙ ap Some (sym m_e ∙ n_e))
          | false ↦ λ m_off m_e. absurd (not_both n p m q to n_on m_off n_is m_is n_e m_e)
        ] refl m_to
        | false ↦ λ n_off n_e. elim (is_on way m) as (λ b. is_on way m ≡ b → to ≡ (if b then q else m) → n ≡ m) [
          | true ↦ λ m_on m_e. absurd (not_both m q n p to m_on n_off m_is n_is m_e n_e)
          | false ↦ λ m_off m_e. sym n_e ∙ m_e
        ] refl m_to
      ] refl n_to

  pub out_once : (a b : List ℕ) (to : ℕ) → Out a to → Out b to → a ≡ b
  out_once [] [] to x y = refl
  out_once [] (m ∷ b) to x y = absurd (not_at_start m b to y x)
  out_once (n ∷ a) [] to x y = absurd (not_at_start n a to x y)
  out_once (n ∷ a) (m ∷ b) to x y =
      let same : n ≡ m = last_same n x.0 m y.0 to x.1.0 y.1.0 x.1.1 y.1.1 in
      let e : Some x.0 ≡ Some y.0 = sym x.1.0 ∙ (ap parent same ∙ y.1.0) in
      let up : x.0 ≡ y.0 = cc in
      let at : (if is_on way n then n else x.0) ≡ (if is_on way m then m else y.0) = ap (λ k. if is_on way k then k else x.0) same ∙ ap (λ k. if is_on way m then m else k) up in
      ap (λ k. k ∷ a) same ∙ ap (λ xs. m ∷ xs) (out_once a b (if is_on way m then m else y.0) (subst (Out a) at x.1.2) y.1.2)

  -- the path between two ways goes out
  pub out_between : (to path : List ℕ) → IsWay parent to → IsBetween way to path → Out (reverse path) (start to)
  out_between to path is between =
      let walk = walk_between parent root between.up between.down between.rest (subst (IsWay parent) between.from_is is_way) (subst (IsWay parent) between.to_is is) between.differ in
      let w : IsWalk parent (is_on way) (start way) path (start to) =
      subst (λ xs. IsWalk parent (is_on way) (start way) xs (start to)) (sym between.path_is)
      (subst (λ ys. IsWalk parent (is_on way) (start way) (between.up ++ reverse between.down) (start ys)) (sym between.to_is)
      (subst (λ ys. IsWalk parent (is_on ys) (start ys) (between.up ++ reverse between.down) (start (between.down ++ between.rest))) (sym between.from_is) walk)) in
      subst (λ xs. Out xs (start to)) (append-nil (reverse path)) (out_of_walk parent (is_on way) (start way) path [] (start way) (start to) w refl)

  -- a path to a state with the number of a change on another path is the beginning of that one
  pub out_at : (path : List ℕ) (to n : ℕ) → Out path to → is_on path n ≡ true → (after : List ℕ) × ((before : List ℕ) × ((path ≡ after ++ before) × Out before n))
  out_at path to n out on =
      let cut = cut_at path n on in
      let rest = out_before parent (is_on way) (start way) cut.0 (n ∷ cut.1.0) to (subst (λ xs. Out xs to) cut.1.1 out) in
      elim (is_on way n) as (λ b. is_on way n ≡ b → (after : List ℕ) × ((before : List ℕ) × ((path ≡ after ++ before) × Out before n))) [
        | true ↦ λ is. (cut.0 ++ n ∷ [], (cut.1.0, (cut.1.1 ∙ sym (append_assoc cut.0 (n ∷ []) cut.1.0), subst (Out cut.1.0) (ap (λ b. if b then n else rest.1.0) is) rest.1.1.2)))
        | false ↦ λ is. (cut.0, (n ∷ cut.1.0, (cut.1.1, subst (Out (n ∷ cut.1.0)) (rest.1.1.1 ∙ ap (λ b. if b then rest.1.0 else n) is) rest.1)))
      ] refl

-- a number on a part of a path
pub on_taken : (path : List ℕ) (k x n : ℕ) → k < length path → x ≡ get_or path k x → (is_on (take k path) n ≡ true) ⊎ (n ≡ x) → is_on (take (k + 1) path) n ≡ true
on_taken path k x n within is on =
    let cut : take (k + 1) path ≡ take k path ++ x ∷ [] = take_more path k x within ∙ ap (λ y. take k path ++ y ∷ []) (sym is) in
    ap (λ xs. is_on xs n) cut ∙ elim on [
      | inl before ↦ list_any-append (λ m. m == n) (take k path) (x ∷ []) ∙ ap (λ b. b || is_on (x ∷ []) n) before
      | inr same ↦ ap (λ y. is_on (take k path ++ y ∷ []) n) (sym same) ∙ on_at (take k path) n []
    ]
