-- Among more numbers than there are values two are equal, so that long walks are cycles at their end.
use Rattle.std.proofs.Common.{◌≡◌, ℕ, zero, suc, ◌+◌, ◌-◌, ◌*◌, ◌<◌, ◌≤◌, Bool, true, false, cond, eqb, ◌⊎◌, inl, inr, add_comm, refl, sym, ap, subst, ◌∙◌, arith}
use Rattle.std.proofs.lemmas.Bool.{cases_eq, cases_lt, eqb-true, eqb-false}
use Rattle.vs_ufile.specs.Walks.{walk}

pub record Twice (g : ℕ → ℕ) (n : ℕ) : Type 0 where
  pub a : ℕ
  pub b : ℕ
  pub order : a < b
  pub within : b ≤ n
  pub same : g a ≡ g b

-- a value among the first, or not
among : (g : ℕ → ℕ) (v n : ℕ) → ((a : ℕ) × (a < n) × (g a ≡ v)) ⊎ ((a : ℕ) → a < n → g a ≡ v → ⊥)
among g v zero = inr (λ a lt e. omega (arith, lt))
among g v (suc n) =
    elim (among g v n) [
      | inl w ↦ inl (w.0, omega (arith, w.1), w.2)
      | inr others ↦ elim (cases_eq (g n) v) [
        | inl e ↦ inl (n, omega arith, e)
        | inr ne ↦ inr (λ a lt e. elim (cases_lt a n) [
          | inl below ↦ others a below e
          | inr above ↦ let same : a ≡ n = omega (arith, lt, above) in ne (subst (λ (x : ℕ). g x ≡ v) same e)
        ])
      ]
    ]

-- the value n is taken out for v, which is none of the others
abbrev swapped : (ℕ → ℕ) → ℕ → ℕ → ℕ → ℕ
swapped g v n k = cond (eqb (g k) n) v (g k)

swapped_back : (x y v n : ℕ) (p q : Bool) → eqb x n ≡ p → eqb y n ≡ q → (x ≡ v → ⊥) → (y ≡ v → ⊥) → cond p v x ≡ cond q v y → x ≡ y
swapped_back x y v n true true p q nx ny e = eqb-true x n p ∙ sym (eqb-true y n q)
swapped_back x y v n true false p q nx ny e = absurd (ny (sym e))
swapped_back x y v n false true p q nx ny e = absurd (nx e)
swapped_back x y v n false false p q nx ny e = e

swapped_below : (x v n : ℕ) (p : Bool) → eqb x n ≡ p → x < n + 1 → v < n + 1 → (x ≡ v → ⊥) → cond p v x < n
swapped_below x v n true p lx lv ne = let e = eqb-true x n p in let d : v ≡ n → ⊥ = λ w. ne (e ∙ sym w) in omega (arith, lv, d)
swapped_below x v n false p lx lv ne = let d = eqb-false x n p in omega (arith, lx, d)

pub pigeons : (n : ℕ) (g : ℕ → ℕ) → ((k : ℕ) → k ≤ n → g k < n) → Twice g n
pigeons zero g below = absurd (omega (arith, below 0 (omega arith)))
pigeons (suc n) g below =
    let v : ℕ = g (suc n) in
    elim (among g v (suc n)) [
      | inl w ↦ record { a = w.0; b = suc n; order = w.1; within = omega arith; same = w.2 }
      | inr others ↦
          let small : (k : ℕ) → k ≤ n → swapped g v n k < n = λ k le. swapped_below (g k) v n (eqb (g k) n) refl (omega (arith, below k (omega (arith, le)))) (omega (arith, below (suc n) (omega arith))) (others k (omega (arith, le))) in
          let t = pigeons n (swapped g v n) small in
          record {
            a = t.a;
            b = t.b;
            order = t.order;
            within = omega (arith, t.within);
            same = swapped_back (g t.a) (g t.b) v n (eqb (g t.a) n) (eqb (g t.b) n) refl refl (others t.a (omega (arith, t.order, t.within))) (others t.b (omega (arith, t.within))) t.same;
          }
    ]

-- ---- walks

pub walk-add : (f : ℕ → ℕ) (j k n : ℕ) → walk f (j + k) n ≡ walk f k (walk f j n)
walk-add f zero k n = let e : 0 + k ≡ k = omega arith in ap (λ (m : ℕ). walk f m n) e
walk-add f (suc j) k n = let e : suc j + k ≡ suc (j + k) = omega arith in ap (λ (m : ℕ). walk f m n) e ∙ walk-add f j k (f n)

pub walk-below : (f : ℕ → ℕ) (size k n : ℕ) → ((i : ℕ) → i < size → f i < size) → n < size → walk f k n < size
walk-below f size zero n stays lt = lt
walk-below f size (suc k) n stays lt = walk-below f size k (f n) stays (stays n lt)

-- any order of steps
walk-swap : (f : ℕ → ℕ) (j k n : ℕ) → walk f j (walk f k n) ≡ walk f k (walk f j n)
walk-swap f j k n = sym (walk-add f k j n) ∙ ap (λ (m : ℕ). walk f m n) (add_comm k j) ∙ walk-add f j k n

repeats : (f : ℕ → ℕ) (size n : ℕ) → ((i : ℕ) → i < size → f i < size) → n < size → Twice (λ m. walk f m n) size
repeats f size n stays lt = pigeons size (λ m. walk f m n) (λ k le. walk-below f size k n stays lt)

pub walk-none : (f : ℕ → ℕ) (k : ℕ) → f 0 ≡ 0 → walk f k 0 ≡ 0
walk-none f zero h = refl
walk-none f (suc k) h = ap (walk f k) h ∙ walk-none f k h

ends_by : (f : ℕ → ℕ) (size k n : ℕ) → f 0 ≡ 0 → Twice (λ m. walk f m n) size → size ≤ k → (fuel j : ℕ) → j ≤ fuel → walk f j n ≡ 0 → walk f k n ≡ 0
ends_by f size k n stop t long zero j le e =
    let start : j ≡ 0 = omega (arith, le) in
    let none : n ≡ 0 = sym (ap (λ (m : ℕ). walk f m n) start) ∙ e in
    ap (walk f k) none ∙ walk-none f k stop
ends_by f size k n stop t long (suc fuel) j le e =
    elim (cases_lt k j) [
      | inl far ↦
          let less : j ≡ t.b + (j - t.b) = omega (arith, far, long, t.within) in
          let shorter : ℕ = t.a + (j - t.b) in
          let same : walk f shorter n ≡ walk f j n =
          walk-add f t.a (j - t.b) n ∙ ap (walk f (j - t.b)) t.same ∙ sym (walk-add f t.b (j - t.b) n) ∙ ap (λ (m : ℕ). walk f m n) (sym less) in
          ends_by f size k n stop t long fuel shorter (omega (arith, t.order, far, long, t.within, le)) (same ∙ e)
      | inr near ↦
          let more : k ≡ j + (k - j) = omega (arith, near) in
          ap (λ (m : ℕ). walk f m n) more ∙ walk-add f j (k - j) n ∙ ap (walk f (k - j)) e ∙ walk-none f (k - j) stop
    ]

-- A walk that ends at 0 has ended after as many steps as there are places.
pub ends : (f : ℕ → ℕ) (size k n j : ℕ) → f 0 ≡ 0 → ((i : ℕ) → i < size → f i < size) → n < size → size ≤ k → walk f j n ≡ 0 → walk f k n ≡ 0
ends f size k n j stop stays lt long e = ends_by f size k n stop (repeats f size n stays lt) long j j (omega arith) e

-- Where this many steps lead there is a cycle.
pub cycle_at : (f : ℕ → ℕ) (size k x : ℕ) → ((i : ℕ) → i < size → f i < size) → x < size → size ≤ k → (m : ℕ) × (walk f (suc m) (walk f k x) ≡ walk f k x)
cycle_at f size k x stays lt long =
    let t = repeats f size x stays lt in
    let y : ℕ = walk f t.a x in
    let m : ℕ = t.b - (t.a + 1) in
    let period : suc m ≡ t.b - t.a = omega (arith, t.order) in
    let whole : t.a + suc m ≡ t.b = omega (arith, t.order) in
    let round : walk f (suc m) y ≡ y = sym (walk-add f t.a (suc m) x) ∙ ap (λ (i : ℕ). walk f i x) whole ∙ sym t.same in
    let split : t.a + (k - t.a) ≡ k = omega (arith, t.order, t.within, long) in
    let here : walk f k x ≡ walk f (k - t.a) y = sym (ap (λ (i : ℕ). walk f i x) split) ∙ walk-add f t.a (k - t.a) x in
    (m, ap (walk f (suc m)) here ∙ walk-swap f (suc m) (k - t.a) y ∙ ap (walk f (k - t.a)) round ∙ sym here)

rounds : (f : ℕ → ℕ) (m c k : ℕ) → walk f (suc m) c ≡ c → walk f (k * suc m) c ≡ c
rounds f m c zero e = let none : 0 * suc m ≡ 0 = omega arith in ap (λ (i : ℕ). walk f i c) none
rounds f m c (suc k) e =
    let one : suc k * suc m ≡ suc m + k * suc m = grind arith in
    ap (λ (i : ℕ). walk f i c) one ∙ walk-add f (suc m) (k * suc m) c ∙ ap (walk f (k * suc m)) e ∙ rounds f m c k e

-- Each place of a cycle is where this many steps lead from some place.
pub cycle_from : (f : ℕ → ℕ) (size k c m : ℕ) → ((i : ℕ) → i < size → f i < size) → c < size → walk f (suc m) c ≡ c → (x : ℕ) × (x < size) × (walk f k x ≡ c)
cycle_from f size k c m stays lt e =
    let x : ℕ = walk f (k * m) c in
    let all : k * m + k ≡ k * suc m = grind arith in
    (x, walk-below f size (k * m) c stays lt, sym (walk-add f (k * m) k c) ∙ ap (λ (i : ℕ). walk f i c) all ∙ rounds f m c k e)
