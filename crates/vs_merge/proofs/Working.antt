-- Which pages were worked after some steps: the names of two steps add up, and names may be put in another order.
use Rattle.std.proofs.Common.{◌≡◌, ℕ, ◌+◌, ◌≤◌, ◌⊎◌, inl, inr, List, [], ◌∷◌, ◌++◌, refl, ap, subst, ◌∙◌, sym, arith, append_assoc, length-append}
use Rattle.vs_pages.specs.Maps.{one, total, numbers}
use Rattle.vs_pages.proofs.MapsLemmas.{total_numbers}
use Rattle.vs_tree_shape.specs.Works.{WorksOnly}
use Rattle.vs_tree_shape.proofs.Sums.{total-append}
use Rattle.vs_merge.specs.Tidies.{WorksBeside}

-- a page written or given back
pub only_page : (a b : List ℕ) (at : ℕ) → b ≡ numbers at 1 ++ a → WorksOnly a b (at ∷ [])
only_page a b at is = record { added = numbers at 1; is = is; covers = λ k out. total_numbers at 1 k ∙ omega (arith, out) }

-- one step after another, where other names cover those of both
pub only_both : (a b c xs ys names : List ℕ) → WorksOnly a b xs → WorksOnly b c ys
    → ((k : ℕ) → total (λ at. one at k) names ≡ 0 → total (λ at. one at k) xs + total (λ at. one at k) ys ≡ 0) → WorksOnly a c names
only_both a b c xs ys names f s covers = record {
  added = s.added ++ f.added;
  is = s.is ∙ ap (λ zs. s.added ++ zs) f.is ∙ sym (append_assoc s.added f.added a);
  covers = λ k out. total-append (λ at. one at k) s.added f.added ∙ omega (arith, f.covers k (omega (arith, covers k out)), s.covers k (omega (arith, covers k out)));
}

-- no page
pub only_nothing : (a b names : List ℕ) → b ≡ a → WorksOnly a b names
only_nothing a b names same = record { added = []; is = same; covers = λ k out. refl }

-- with other names
pub only_as : (a b xs names : List ℕ) → WorksOnly a b xs → ((k : ℕ) → total (λ at. one at k) names ≡ 0 → total (λ at. one at k) xs ≡ 0) → WorksOnly a b names
only_as a b xs names f covers = record { added = f.added; is = f.is; covers = λ k out. f.covers k (covers k out) }

-- after what only read
pub only_after : (a b c names : List ℕ) → b ≡ a → WorksOnly b c names → WorksOnly a c names
only_after a b c names same w = record { added = w.added; is = w.is ∙ ap (λ xs. w.added ++ xs) same; covers = w.covers }

-- of two names one is another
pub only_either : (Told : Type 0) (a b : List ℕ) (top one_page two_page page : ℕ) → (page ≡ one_page) ⊎ (page ≡ two_page) → (Told → WorksOnly a b (top ∷ one_page ∷ two_page ∷ []))
    → (other : ℕ) × (Told → WorksOnly a b (top ∷ page ∷ other ∷ []))
only_either Told a b top one_page two_page page either works = elim either [
  | inl is ↦ (two_page, λ told. subst (λ (k : ℕ). WorksOnly a b (top ∷ k ∷ two_page ∷ [])) (sym is) (works told))
  | inr is ↦ (one_page, λ told. subst (λ (k : ℕ). WorksOnly a b (top ∷ k ∷ one_page ∷ [])) (sym is) (only_as a b (top ∷ one_page ∷ two_page ∷ []) (top ∷ two_page ∷ one_page ∷ []) (works told) (λ k out. omega (arith, out))))
]

-- a level and then those below it
pub beside_down : (a b c : List ℕ) (top page other count : ℕ) → WorksOnly a b (top ∷ page ∷ other ∷ []) → WorksBeside b c page count → WorksBeside a c top (count + 2)
beside_down a b c top page other count first second = record {
  names = page ∷ other ∷ second.names;
  few = omega (arith, second.few);
  only = only_both a b c (top ∷ page ∷ other ∷ []) (page ∷ second.names) (top ∷ page ∷ other ∷ second.names) first second.only (λ k out. omega (arith, out));
}

-- two steps beside one page
pub beside_both : (a b c : List ℕ) (page x y count : ℕ) → x + y ≤ count → WorksBeside a b page x → WorksBeside b c page y → WorksBeside a c page count
beside_both a b c page x y count sum first second = record {
  names = first.names ++ second.names;
  few = omega (arith, sum, first.few, second.few, length-append first.names second.names);
  only = only_both a b c (page ∷ first.names) (page ∷ second.names) (page ∷ (first.names ++ second.names)) first.only second.only
      (λ k out. omega (arith, out, total-append (λ at. one at k) first.names second.names));
}

pub beside_most : (a b : List ℕ) (page x count : ℕ) → x ≤ count → WorksBeside a b page x → WorksBeside a b page count
beside_most a b page x count le w = record { names = w.names; few = omega (arith, w.few, le); only = w.only }

pub beside_none : (a b : List ℕ) (page count : ℕ) → b ≡ a → WorksBeside a b page count
beside_none a b page count same = record { names = []; few = omega arith; only = only_nothing a b (page ∷ []) same }

-- a page beside another
pub beside_two : (a b c : List ℕ) (page other : ℕ) → WorksOnly a b (page ∷ []) → WorksOnly b c (other ∷ []) → WorksBeside a c page 1
beside_two a b c page other first second = record { names = other ∷ []; few = omega arith; only = only_both a b c (page ∷ []) (other ∷ []) (page ∷ other ∷ []) first second (λ k out. omega (arith, out)) }
