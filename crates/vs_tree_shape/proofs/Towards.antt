-- Trees side by side that are filled but for the one on the way to a line: others put beside them, a cut in two, and two neighbours evened out.
use Rattle.std.proofs.Common.{◌≡◌, ℕ, zero, suc, ◌+◌, ◌<◌, ◌≤◌, ◌⊎◌, inl, inr, List, [], ◌∷◌, ◌++◌, length, take, drop, refl, sym, ap, subst, ◌∙◌, arith, append_assoc, length-append}
use Rattle.std.specs.List.{flat_map, AllByRecursion}
use Rattle.std.proofs.lemmas.Bool.{cases_lt}
use Rattle.std.proofs.lemmas.List.Concat.{flat_map-append}
use Rattle.vs_tree_shape.specs.Trees.{Leaf, Tree, lines_of}
use Rattle.vs_tree_shape.specs.Filled.{IsFilled, IsFilledBut, Way}
use Rattle.vs_tree_shape.specs.Keeps.{IsReady, IsThick, LeadsOn, Toward, spare}
use Rattle.vs_tree_shape.proofs.Shapes.{each-append, each-front, each-back}
use Rattle.vs_tree_shape.proofs.Sums.{halves}

pub same_cut : {X : Type 0} (xs us ys vs : List X) → length xs ≡ length us → xs ++ ys ≡ us ++ vs → (xs ≡ us) × (ys ≡ vs)
same_cut [] [] ys vs n e = (refl, e)
same_cut [] (u ∷ us) ys vs n e = absurd (omega (arith, n))
same_cut (x ∷ xs) [] ys vs n e = absurd (omega (arith, n))
same_cut (x ∷ xs) (u ∷ us) ys vs n e =
    let head : x ≡ u = cc in
    let tail : xs ++ ys ≡ us ++ vs = cc in
    let r : (xs ≡ us) × (ys ≡ vs) = same_cut xs us ys vs (omega (arith, n)) tail in
    (ap (λ z. z ∷ xs) head ∙ ap (λ zs. u ∷ zs) r.0, r.1)

pub cut_either : {X : Type 0} (xs ys before : List X) (x : X) (after : List X) → xs ++ ys ≡ before ++ x ∷ after
    → ((mid : List X) × (xs ≡ before ++ x ∷ mid) × (after ≡ mid ++ ys)) ⊎ ((mid : List X) × (before ≡ xs ++ mid) × (ys ≡ mid ++ x ∷ after))
cut_either [] ys before x after e = inr (before, refl, e)
cut_either (z ∷ xs) ys [] x after e =
    let head : z ≡ x = cc in
    let tail : xs ++ ys ≡ after = cc in
    inl (xs, ap (λ y. y ∷ xs) head, sym tail)
cut_either (z ∷ xs) ys (b ∷ before) x after e =
    let head : z ≡ b = cc in
    let tail : xs ++ ys ≡ before ++ x ∷ after = cc in
    elim (cut_either xs ys before x after tail) [
      | inl m ↦ inl (m.0, ap (λ y. y ∷ xs) head ∙ ap (λ zs. b ∷ zs) m.1, m.2)
      | inr m ↦ inr (m.0, ap (λ y. y ∷ before) (sym head) ∙ ap (λ zs. z ∷ zs) m.1, m.2)
    ]

pub lines_append : (d : ℕ) (xs ys : List (Tree d)) → length (flat_map (λ u. lines_of d u) (xs ++ ys)) ≡ length (flat_map (λ u. lines_of d u) xs) + length (flat_map (λ u. lines_of d u) ys)
lines_append d xs ys = ap length (flat_map-append (λ u. lines_of d u) xs ys) ∙ length-append (flat_map (λ u. lines_of d u) xs) (flat_map (λ u. lines_of d u) ys)

same_length : (d : ℕ) (xs us : List (Tree d)) (x u : Tree d) (ys vs : List (Tree d)) (r s : ℕ) → xs ++ x ∷ ys ≡ us ++ u ∷ vs
    → length (flat_map (λ t. lines_of d t) xs) + r ≡ length (flat_map (λ t. lines_of d t) us) + s → r < length (lines_of d x) → s < length (lines_of d u) → length xs ≡ length us
same_length d [] [] x u ys vs r s cut sum inx inu = refl
same_length d [] (v ∷ us) x u ys vs r s cut sum inx inu =
    let head : x ≡ v = cc in
    absurd (omega (arith, sum, inx, ap (λ t. length (lines_of d t)) head, length-append (lines_of d v) (flat_map (λ t. lines_of d t) us)))
same_length d (y ∷ xs) [] x u ys vs r s cut sum inx inu =
    let head : y ≡ u = cc in
    absurd (omega (arith, sum, inu, ap (λ t. length (lines_of d t)) head, length-append (lines_of d y) (flat_map (λ t. lines_of d t) xs)))
same_length d (y ∷ xs) (v ∷ us) x u ys vs r s cut sum inx inu =
    let head : y ≡ v = cc in
    let tail : xs ++ x ∷ ys ≡ us ++ u ∷ vs = cc in
    let less : length (flat_map (λ t. lines_of d t) xs) + r ≡ length (flat_map (λ t. lines_of d t) us) + s =
    omega (arith, sum, ap (λ t. length (lines_of d t)) head, length-append (lines_of d y) (flat_map (λ t. lines_of d t) xs), length-append (lines_of d v) (flat_map (λ t. lines_of d t) us)) in
    omega (arith, same_length d xs us x u ys vs r s tail less inx inu)

-- two ways to one line
pub record SameWay (d : ℕ) (kids : List (Tree d)) (at : ℕ) (w v : Way d kids at) : Type 0 where
  pub before : w.before ≡ v.before
  pub child : w.child ≡ v.child
  pub after : w.after ≡ v.after
  pub rest : w.rest ≡ v.rest

pub one_way : (d : ℕ) (kids : List (Tree d)) (at : ℕ) (w v : Way d kids at) → SameWay d kids at w v
one_way d kids at w v =
    let cut : w.before ++ w.child ∷ w.after ≡ v.before ++ v.child ∷ v.after = sym w.cut ∙ v.cut in
    let size : length w.before ≡ length v.before = same_length d w.before v.before w.child v.child w.after v.after w.rest v.rest cut (sym w.sum ∙ v.sum) w.inside v.inside in
    let r : (w.before ≡ v.before) × (w.child ∷ w.after ≡ v.child ∷ v.after) = same_cut w.before v.before (w.child ∷ w.after) (v.child ∷ v.after) size cut in
    let heads : w.child ∷ w.after ≡ v.child ∷ v.after = r.1 in
    let child : w.child ≡ v.child = cc in
    let after : w.after ≡ v.after = cc in
    record { before = r.0; child = child; after = after; rest = omega (arith, w.sum, v.sum, ap (λ us. length (flat_map (λ t. lines_of d t) us)) r.0) }

pub toward_within : (d : ℕ) (P : Tree d → ℕ → Type 0) (kids : List (Tree d)) (at : ℕ) → Toward d P kids at → at < length (flat_map (λ u. lines_of d u) kids)
toward_within d P kids at t =
    let w : Way d kids at = t.0 in
    omega (arith, w.sum, w.inside, ap (λ us. length (flat_map (λ u. lines_of d u) us)) w.cut, lines_append d w.before (w.child ∷ w.after), length-append (lines_of d w.child) (flat_map (λ u. lines_of d u) w.after))

pub toward_before : (d : ℕ) (P : Tree d → ℕ → Type 0) (xs kids : List (Tree d)) (at : ℕ) → AllByRecursion (λ u. IsFilled 32 d u) xs → Toward d P kids at
    → Toward d P (xs ++ kids) (length (flat_map (λ u. lines_of d u) xs) + at)
toward_before d P xs kids at each t =
    let w : Way d kids at = t.0 in (
      record {
        before = xs ++ w.before;
        child = w.child;
        after = w.after;
        rest = w.rest;
        cut = ap (λ us. xs ++ us) w.cut ∙ sym (append_assoc xs w.before (w.child ∷ w.after));
        sum = omega (arith, w.sum, lines_append d xs w.before);
        inside = w.inside;
      },
      each-append (λ u. IsFilled 32 d u) xs w.before each t.1,
      t.2,
      t.3,
    )

pub toward_after : (d : ℕ) (P : Tree d → ℕ → Type 0) (kids ys : List (Tree d)) (at : ℕ) → AllByRecursion (λ u. IsFilled 32 d u) ys → Toward d P kids at → Toward d P (kids ++ ys) at
toward_after d P kids ys at each t =
    let w : Way d kids at = t.0 in (
      record {
        before = w.before;
        child = w.child;
        after = w.after ++ ys;
        rest = w.rest;
        cut = ap (λ us. us ++ ys) w.cut ∙ append_assoc w.before (w.child ∷ w.after) ys;
        sum = w.sum;
        inside = w.inside;
      },
      t.1,
      each-append (λ u. IsFilled 32 d u) w.after ys t.2 each,
      t.3,
    )

-- the only tree
pub toward_one : (d : ℕ) (P : Tree d → ℕ → Type 0) (u : Tree d) (at : ℕ) → at < length (lines_of d u) → P u at → Toward d P (u ∷ []) at
toward_one d P u at inside holds = (record { before = []; child = u; after = []; rest = at; cut = refl; sum = omega arith; inside = inside }, tt, tt, holds)

toward_split : (d : ℕ) (P : Tree d → ℕ → Type 0) (xs ys : List (Tree d)) (at : ℕ) → Toward d P (xs ++ ys) at
    → (Toward d P xs at × AllByRecursion (λ u. IsFilled 32 d u) ys)
    ⊎ (AllByRecursion (λ u. IsFilled 32 d u) xs × ((r : ℕ) × (at ≡ length (flat_map (λ u. lines_of d u) xs) + r) × Toward d P ys r))
toward_split d P xs ys at t =
    let w : Way d (xs ++ ys) at = t.0 in
    let F : Tree d → Type 0 = λ u. IsFilled 32 d u in
    let G : List (Tree d) → Type 0 = λ us. AllByRecursion (λ u. IsFilled 32 d u) us in
    elim (cut_either xs ys w.before w.child w.after w.cut) [
      | inl m ↦
          let both : AllByRecursion (λ u. IsFilled 32 d u) (m.0 ++ ys) = subst G m.2 t.2 in
          inl (
            (
              record { before = w.before; child = w.child; after = m.0; rest = w.rest; cut = m.1; sum = w.sum; inside = w.inside },
              t.1,
              each-front F m.0 ys both,
              t.3,
            ),
            each-back F m.0 ys both,
          )
      | inr m ↦
          let both : AllByRecursion (λ u. IsFilled 32 d u) (xs ++ m.0) = subst G m.1 t.1 in
          inr (
            each-front F xs m.0 both,
            (
              length (flat_map (λ u. lines_of d u) m.0) + w.rest,
              omega (arith, w.sum, ap (λ us. length (flat_map (λ u. lines_of d u) us)) m.1, lines_append d xs m.0),
              (
                record { before = m.0; child = w.child; after = w.after; rest = w.rest; cut = m.2; sum = refl; inside = w.inside },
                each-back F xs m.0 both,
                t.2,
                t.3,
              ),
            ),
          )
    ]

-- two neighbouring pointer blocks of which one is on the way to the line
pub record Around (e : ℕ) (before after : List (Tree (suc e))) (ka kb : List (Tree e)) (at : ℕ) : Type 0 where
  pub rest : ℕ
  pub sum : at ≡ length (flat_map (λ u. lines_of (suc e) u) before) + rest
  pub toward : Toward e (λ u r. IsFilledBut 32 e u r) (ka ++ kb) rest
  pub many : 33 ≤ length ka + length kb
  pub front : AllByRecursion (λ u. IsFilled 32 (suc e) u) before
  pub back : AllByRecursion (λ u. IsFilled 32 (suc e) u) after

pub some_kids : (d : ℕ) (kids : List (Tree d)) (at : ℕ) → Way d kids at → 1 ≤ length kids
some_kids d kids at w = omega (arith, ap length w.cut, length-append w.before (w.child ∷ w.after))

around_first : (e : ℕ) (kids before after : List (Tree (suc e))) (a b : Tree (suc e)) (at : ℕ) → kids ≡ before ++ (a ∷ b ∷ after)
    → (t : Toward (suc e) (λ u r. IsFilledBut 32 (suc e) u r) kids at) → length t.0.before ≡ length before → Around e before after a.1 b.1 at
around_first e kids before after a b at cut t size =
    let w : Way (suc e) kids at = t.0 in
    let r : (w.before ≡ before) × (w.child ∷ w.after ≡ a ∷ (b ∷ after)) = same_cut w.before before (w.child ∷ w.after) (a ∷ (b ∷ after)) size (sym w.cut ∙ cut) in
    let heads : w.child ∷ w.after ≡ a ∷ (b ∷ after) = r.1 in
    let child : w.child ≡ a = cc in
    let others : w.after ≡ b ∷ after = cc in
    let G : List (Tree (suc e)) → Type 0 = λ us. AllByRecursion (λ u. IsFilled 32 (suc e) u) us in
    let beside : AllByRecursion (λ u. IsFilled 32 (suc e) u) (b ∷ after) = subst G others t.2 in
    let but : IsFilledBut 32 (suc e) a w.rest = subst (λ (u : Tree (suc e)). IsFilledBut 32 (suc e) u w.rest) child t.3 in
    record {
      rest = w.rest;
      sum = omega (arith, w.sum, ap (λ us. length (flat_map (λ u. lines_of (suc e) u) us)) r.0);
      toward = toward_after e (λ u r. IsFilledBut 32 e u r) a.1 b.1 w.rest beside.0.1 but;
      many = omega (arith, beside.0.0, some_kids e a.1 w.rest but.0);
      front = subst G r.0 t.1;
      back = beside.1;
    }

around_second : (e : ℕ) (kids before after : List (Tree (suc e))) (a b : Tree (suc e)) (at : ℕ) → kids ≡ before ++ (a ∷ b ∷ after)
    → (t : Toward (suc e) (λ u r. IsFilledBut 32 (suc e) u r) kids at) → length t.0.before ≡ length before + 1 → Around e before after a.1 b.1 at
around_second e kids before after a b at cut t size =
    let w : Way (suc e) kids at = t.0 in
    let both : w.before ++ w.child ∷ w.after ≡ (before ++ a ∷ []) ++ (b ∷ after) = sym w.cut ∙ cut ∙ sym (append_assoc before (a ∷ []) (b ∷ after)) in
    let r : (w.before ≡ before ++ a ∷ []) × (w.child ∷ w.after ≡ b ∷ after) = same_cut w.before (before ++ a ∷ []) (w.child ∷ w.after) (b ∷ after) (omega (arith, size, length-append before (a ∷ []))) both in
    let heads : w.child ∷ w.after ≡ b ∷ after = r.1 in
    let child : w.child ≡ b = cc in
    let others : w.after ≡ after = cc in
    let F : Tree (suc e) → Type 0 = λ u. IsFilled 32 (suc e) u in
    let G : List (Tree (suc e)) → Type 0 = λ us. AllByRecursion (λ u. IsFilled 32 (suc e) u) us in
    let front : AllByRecursion (λ u. IsFilled 32 (suc e) u) (before ++ a ∷ []) = subst G r.0 t.1 in
    let beside : AllByRecursion (λ u. IsFilled 32 (suc e) u) (a ∷ []) = each-back F before (a ∷ []) front in
    let but : IsFilledBut 32 (suc e) b w.rest = subst (λ (u : Tree (suc e)). IsFilledBut 32 (suc e) u w.rest) child t.3 in
    let sizes : length (flat_map (λ u. lines_of (suc e) u) (a ∷ [])) ≡ length (lines_of (suc e) a) = length-append (lines_of (suc e) a) [] ∙ omega arith in
    record {
      rest = length (flat_map (λ u. lines_of e u) a.1) + w.rest;
      sum = omega (arith, w.sum, ap (λ us. length (flat_map (λ u. lines_of (suc e) u) us)) r.0, lines_append (suc e) before (a ∷ []), sizes);
      toward = toward_before e (λ u r. IsFilledBut 32 e u r) a.1 b.1 w.rest beside.0.1 but;
      many = omega (arith, beside.0.0, some_kids e b.1 w.rest but.0);
      front = each-front F before (a ∷ []) front;
      back = subst G others t.2;
    }

-- one of two neighbours is on the way
pub around_two : (e : ℕ) (kids before after : List (Tree (suc e))) (a b : Tree (suc e)) (at : ℕ) → kids ≡ before ++ (a ∷ b ∷ after)
    → (t : Toward (suc e) (λ u r. IsFilledBut 32 (suc e) u r) kids at) → length before ≤ length t.0.before → length t.0.before ≤ length before + 1 → Around e before after a.1 b.1 at
around_two e kids before after a b at cut t low high = elim (cases_lt (length before) (length t.0.before)) [
  | inl more ↦ around_second e kids before after a b at cut t (omega (arith, high, more))
  | inr same ↦ around_first e kids before after a b at cut t (omega (arith, low, same))
]

spare_most : (d : ℕ) → spare d ≤ 1
spare_most zero = omega arith
spare_most (suc zero) = omega arith
spare_most (suc (suc d)) = omega arith

placed : (d : ℕ) (P : Tree d → ℕ → Type 0) (before mids after : List (Tree d)) (at rest : ℕ) → AllByRecursion (λ u. IsFilled 32 d u) before → AllByRecursion (λ u. IsFilled 32 d u) after
    → at ≡ length (flat_map (λ u. lines_of d u) before) + rest → Toward d P mids rest → Toward d P (before ++ (mids ++ after)) at
placed d P before mids after at rest front back sum t =
    subst (λ (i : ℕ). Toward d P (before ++ (mids ++ after)) i) (sym sum) (toward_before d P before (mids ++ after) rest front (toward_after d P mids after rest back t))

ready : (e p : ℕ) (ks : List (Tree e)) (r : ℕ) → 33 ≤ length ks → Toward e (λ u i. IsFilledBut 32 e u i) ks r → IsReady 32 (suc e) (p, ks) r
ready e p ks r many toward = (omega (arith, many, spare_most (suc e)), toward)

-- the two were joined
pub joined_leads : (need e root pa : ℕ) (before after : List (Tree (suc e))) (ka kb : List (Tree e)) (at : ℕ) → need ≤ length before + (1 + length after) → Around e before after ka kb at
    → LeadsOn need (suc e) (root, before ++ ((pa, ka ++ kb) ∷ after)) at
joined_leads need e root pa before after ka kb at enough x =
    let u : Tree (suc e) = (pa, ka ++ kb) in
    let P : Tree (suc e) → ℕ → Type 0 = λ v r. IsReady 32 (suc e) v r in
    let within : x.rest < length (lines_of (suc e) u) = toward_within e (λ v r. IsFilledBut 32 e v r) (ka ++ kb) x.rest x.toward in (
      omega (arith, enough, length-append before (u ∷ after)),
      placed (suc e) P before (u ∷ []) after at x.rest x.front x.back x.sum (toward_one (suc e) P u x.rest within (ready e pa (ka ++ kb) x.rest (omega (arith, x.many, length-append ka kb)) x.toward)),
    )

-- their entries were shared
pub shared_leads : (need e root pa pb i : ℕ) (before after : List (Tree (suc e))) (ka kb : List (Tree e)) (at : ℕ) → need ≤ length before + (2 + length after) → 33 ≤ length (take i (ka ++ kb)) → 33 ≤ length (drop i (ka ++ kb)) → Around e before after ka kb at
    → LeadsOn need (suc e) (root, before ++ ((pa, take i (ka ++ kb)) ∷ (pb, drop i (ka ++ kb)) ∷ after)) at
shared_leads need e root pa pb i before after ka kb at enough many_front many_back x =
    let ks : List (Tree e) = ka ++ kb in
    let u : Tree (suc e) = (pa, take i ks) in
    let v : Tree (suc e) = (pb, drop i ks) in
    let P : Tree (suc e) → ℕ → Type 0 = λ v r. IsReady 32 (suc e) v r in
    let B : Tree e → ℕ → Type 0 = λ v r. IsFilledBut 32 e v r in
    let cut : Toward e (λ v r. IsFilledBut 32 e v r) (take i ks ++ drop i ks) x.rest = subst (λ us. Toward e (λ v r. IsFilledBut 32 e v r) us x.rest) (sym (halves i ks)) x.toward in
    let two : Toward (suc e) (λ v r. IsReady 32 (suc e) v r) (u ∷ v ∷ []) x.rest = elim (toward_split e B (take i ks) (drop i ks) x.rest cut) [
      | inl first ↦ toward_after (suc e) P (u ∷ []) (v ∷ []) x.rest ((omega (arith, many_back), first.1), tt) (toward_one (suc e) P u x.rest (toward_within e B (take i ks) x.rest first.0) (ready e pa (take i ks) x.rest many_front first.0))
      | inr second ↦
          let r : ℕ = second.1.0 in
          let sizes : length (flat_map (λ t. lines_of (suc e) t) (u ∷ [])) ≡ length (flat_map (λ t. lines_of e t) (take i ks)) = length-append (lines_of (suc e) u) [] ∙ omega arith in
          subst (λ (j : ℕ). Toward (suc e) (λ v r. IsReady 32 (suc e) v r) (u ∷ v ∷ []) j) (omega (arith, second.1.1, sizes))
          (toward_before (suc e) P (u ∷ []) (v ∷ []) r ((omega (arith, many_front), second.0), tt) (toward_one (suc e) P v r (toward_within e B (drop i ks) r second.1.2) (ready e pb (drop i ks) r many_back second.1.2)))
    ] in
    (omega (arith, enough, length-append before (u ∷ v ∷ after)), placed (suc e) P before (u ∷ v ∷ []) after at x.rest x.front x.back x.sum two)

-- a block on the way that has entries enough
pub leads_on : (need e : ℕ) (t : Tree (suc (suc e))) (at : ℕ) → (f : IsReady need (suc (suc e)) t at) → 32 + spare (suc e) ≤ length f.1.0.child.1 → LeadsOn need (suc e) t at
leads_on need e t at f many = (omega (arith, f.0), (f.1.0, f.1.1, f.1.2, (many, f.1.3)))

pub thick_filled : (d : ℕ) (t : Tree d) → IsThick 32 d t → IsFilled 32 d t
thick_filled zero t thick = thick
thick_filled (suc d) t thick = thick

-- all below is filled, where the block on the way came to be so
pub leads_thick : (need d root : ℕ) (t : Tree (suc d)) (at : ℕ) (u : Tree d) → (f : LeadsOn need d t at) → IsThick 32 d u → IsThick need (suc d) (root, f.1.0.before ++ (u ∷ f.1.0.after))
leads_thick need d root t at u f thick =
    let w : Way d t.1 at = f.1.0 in (
      omega (arith, f.0, ap length w.cut, length-append w.before (w.child ∷ w.after), length-append w.before (u ∷ w.after)),
      each-append (λ v. IsFilled 32 d v) w.before (u ∷ w.after) f.1.1 (thick_filled d u thick, f.1.2),
    )

-- the lowest blocks
pub ready_low : (need d : ℕ) (t : Tree d) (at : ℕ) → d ≤ 1 → IsReady need d t at → IsThick need d t
ready_low need zero t at low f = omega (arith, f)
ready_low need (suc zero) t at low f =
    let w : Way zero t.1 at = f.1.0 in
    let F : Leaf → Type 0 = λ v. IsFilled 32 zero v in
    let all : AllByRecursion (λ (v : Leaf). IsFilled 32 zero v) (w.before ++ w.child ∷ w.after) = each-append F w.before (w.child ∷ w.after) f.1.1 (omega (arith, w.inside), f.1.2) in
    (omega (arith, f.0), subst (λ (us : List Leaf). AllByRecursion (λ (v : Leaf). IsFilled 32 zero v) us) (sym w.cut) all)
ready_low need (suc (suc d)) t at low f = absurd (omega (arith, low))
