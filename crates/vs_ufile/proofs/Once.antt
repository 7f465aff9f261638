-- No walk comes by a change twice: a change has one parent, so that of two walks from it up to the root neither is longer.
use Rattle.std.proofs.Common.{◌≡◌, ◌≢◌, ℕ, zero, suc, ◌+◌, ◌-◌, ◌<◌, ◌≤◌, inl, inr, List, [], ◌∷◌, length, get_or, Result, Ok, Err, refl, sym, ap, subst, ◌∙◌, arith}
use Rattle.std.specs.Prelude.{All, AllPairs, IfOk}
use Rattle.std.proofs.lemmas.Bool.{cases_eq, cases_lt}
use Rattle.std.proofs.lemmas.List.Kept.{AllPairs-cons}
use Rattle.vs_ufile.specs.declared.error.UfErr.{UfErr}
use Rattle.vs_ufile.specs.declared.history.FileHistory.{FileHistory}
use Rattle.vs_ufile.specs.Decode.{IsUndoFile}
use Rattle.vs_ufile.specs.Failing.{AreNumbers}
use Rattle.vs_ufile.specs.Tree.{AreAncestors, IsChange, IsFirst, IsParent, IsTree, WalksOnce, before, link, numbers}
use Rattle.vs_ufile.specs.Values.{Change, history_of}
use Rattle.vs_ufile.specs.Walks.{walk}
use Rattle.vs_ufile.proofs.Linked.{link_none}
use Rattle.vs_ufile.proofs.Pigeons.{walk-add, walk-none}

no_root : (changes : List Change) → AreNumbers (numbers changes) → ¬ IsChange changes 0
no_root changes h c = omega (arith, c.2, (h.range c.0 0 c.1).0)

module _ (changes : List Change) (no : ¬ IsChange changes 0) where
  back_from_root : (k : ℕ) → walk (before changes) k 0 ≡ 0
  back_from_root k = walk-none (before changes) k (link_none (λ c. c.alt_prev) changes 0 no)

  first_or_past : (n f g s t : ℕ) → walk (before changes) s n ≡ f → before changes f ≡ 0 → walk (before changes) t n ≡ g → IsChange changes g → s ≤ t → f ≡ g
  first_or_past n f g s t way none other is le = elim (cases_eq s t) [
    | inl e ↦ sym way ∙ ap (λ (m : ℕ). walk (before changes) m n) e ∙ other
    | inr ne ↦
        let m : ℕ = t - suc s in
        let split : s + suc m ≡ t = omega (arith, le, ne) in
        let gone : walk (before changes) t n ≡ 0 =
        sym (ap (λ (i : ℕ). walk (before changes) i n) split) ∙ walk-add (before changes) s (suc m) n ∙ ap (walk (before changes) (suc m)) way ∙ ap (walk (before changes) m) none ∙ back_from_root m in
        absurd (no (subst (IsChange changes) (sym other ∙ gone) is))
  ]

  one_first : (n f g : ℕ) → IsFirst changes n f → IsFirst changes n g → f ≡ g
  one_first n f g x y = elim (cases_lt y.steps x.steps) [
    | inl lt ↦ sym (first_or_past n g f y.steps x.steps y.way y.none_before x.way x.change (omega (arith, lt)))
    | inr le ↦ first_or_past n f g x.steps y.steps x.way x.none_before y.way y.change le
  ]

  one_parent : (n p q : ℕ) → IsParent changes n p → IsParent changes n q → p ≡ q
  one_parent n p q x y = sym x.2 ∙ ap (link (λ c. c.next) changes) (one_first n x.0 y.0 x.1 y.1) ∙ y.2

  root_has_none : (q : ℕ) → ¬ IsParent changes 0 q
  root_has_none q w = no (subst (IsChange changes) (sym w.1.way ∙ back_from_root w.1.steps) w.1.change)

  as_long : (n : ℕ) (ps qs : List ℕ) → AreAncestors changes n ps → AreAncestors changes n qs → length ps ≡ length qs
  as_long n [] [] x y = refl
  as_long n [] (q ∷ qs) x y = absurd (root_has_none q (subst (λ (m : ℕ). IsParent changes m q) x y.0))
  as_long n (p ∷ ps) [] x y = absurd (root_has_none p (subst (λ (m : ℕ). IsParent changes m p) y x.0))
  as_long n (p ∷ ps) (q ∷ qs) x y =
      ap suc (as_long p ps qs x.1 (subst (λ (m : ℕ). AreAncestors changes m qs) (sym (one_parent n p q x.0 y.0)) y.1))

  -- the way from a change that a way comes by, which is shorter
  further : (n : ℕ) (ps : List ℕ) → AreAncestors changes n ps → (i d : ℕ) → i < length ps
      → (rest : List ℕ) × (length rest < length ps) × AreAncestors changes (get_or ps i d) rest
  further n [] w i d lt = absurd (omega (arith, lt))
  further n (p ∷ ps) w zero d lt = (ps, omega arith, w.1)
  further n (p ∷ ps) w (suc i) d lt = let r = further p ps w.1 i d (omega (arith, lt)) in (r.0, omega (arith, r.1), r.2)

  never_again : (n : ℕ) (ps : List ℕ) → AreAncestors changes n ps → All (λ a. n ≢ a) ps
  never_again n ps w i d lt e =
      let r = further n ps w i d lt in
      let same = as_long n ps r.0 w (subst (λ (m : ℕ). AreAncestors changes m r.0) (sym e) r.2) in
      omega (arith, same, r.1)

  once : (n : ℕ) (ps : List ℕ) → AreAncestors changes n ps → AllPairs (λ a b. a ≢ b) (n ∷ ps)
  once n [] w = λ i j d lt within. absurd (omega (arith, lt, within))
  once n (p ∷ ps) w = AllPairs-cons (λ a b. a ≢ b) n (p ∷ ps) (never_again n (p ∷ ps) w) (once p ps w.1)

walks_once : (changes : List Change) → AreNumbers (numbers changes) → IsTree changes → WalksOnce changes
walks_once changes h tree = record {
  chain = λ n k is e. tree n (is, inl (inr (inr (k, e))));
  way = once changes (no_root changes h);
}

-- so it is in what is read
pub walk_once : (bytes : List ℕ) (r : Result FileHistory UfErr) → IfOk r (λ h. IsUndoFile (history_of h) bytes) → IfOk r (λ h. WalksOnce (history_of h).changes)
walk_once bytes (Ok h) is = walks_once (history_of h).changes is.rules.numbers is.rules.tree
walk_once bytes (Err e) is = tt
