-- How many pages were worked after some steps: each step names the pages that it may work, and the names of two steps add up.
use Rattle.std.proofs.Common.{◌≡◌, ℕ, ◌+◌, ◌<◌, ◌≤◌, List, [], ◌∷◌, ◌++◌, refl, ap, ◌∙◌, sym, arith, append_assoc, length-append}
use Rattle.vs_pages.specs.Maps.{one, span, numbers}
use Rattle.vs_pages.proofs.MapsLemmas.{total_numbers}
use Rattle.vs_tree_shape.specs.Works.{Works, WorksBesideZero, WorksOnly}
use Rattle.vs_tree_shape.proofs.Sums.{total-append}

-- a page written, made or given back
pub only_one : (a b : List ℕ) (at pages : ℕ) → pages ≡ 1 → b ≡ numbers at pages ++ a → WorksOnly a b (0 ∷ at ∷ [])
only_one a b at pages single is = record {
  added = numbers at pages;
  is = is;
  covers = λ k out. total_numbers at pages k ∙ ap (λ n. span at n k) single ∙ omega (arith, out);
}

-- page 0 made
pub only_zero : (a b : List ℕ) (at pages : ℕ) → at ≡ 0 → pages ≡ 1 → b ≡ numbers at pages ++ a → WorksOnly a b (0 ∷ [])
only_zero a b at pages zero single is = record {
  added = numbers at pages;
  is = is;
  covers = λ k out. total_numbers at pages k ∙ ap (λ n. span at n k) single ∙ ap (λ p. span p 1 k) zero ∙ omega (arith, out);
}

-- no page
pub only_none : (a b : List ℕ) (at pages : ℕ) → pages ≡ 0 → b ≡ numbers at pages ++ a → WorksOnly a b (0 ∷ [])
only_none a b at pages none is = record { added = []; is = is ∙ ap (λ n. numbers at n ++ a) none; covers = λ k out. refl }

-- one step after another
pub only_then : (a b c : List ℕ) (first second : List ℕ) → WorksOnly a b (0 ∷ first) → WorksOnly b c (0 ∷ second) → WorksOnly a c (0 ∷ first ++ second)
only_then a b c first second f s = record {
  added = s.added ++ f.added;
  is = s.is ∙ ap (λ xs. s.added ++ xs) f.is ∙ sym (append_assoc s.added f.added a);
  covers = λ k out.
      let parts = total-append (λ at. one at k) first second in
      total-append (λ at. one at k) s.added f.added ∙ omega (arith, f.covers k (omega (arith, out, parts)), s.covers k (omega (arith, out, parts)));
}

-- one step after another, over the same pages
pub only_again : (a b c names : List ℕ) → WorksOnly a b names → WorksOnly b c names → WorksOnly a c names
only_again a b c names f s = record {
  added = s.added ++ f.added;
  is = s.is ∙ ap (λ xs. s.added ++ xs) f.is ∙ sym (append_assoc s.added f.added a);
  covers = λ k out. total-append (λ at. one at k) s.added f.added ∙ omega (arith, f.covers k out, s.covers k out);
}

-- one page at most
pub works_at : (a b : List ℕ) (at : ℕ) → WorksOnly a b (0 ∷ at ∷ []) → WorksBesideZero a b 1
works_at a b at only = record { names = at ∷ []; few = omega arith; only = only }

pub works_one : (a b : List ℕ) (at : ℕ) → b ≡ numbers at 1 ++ a → WorksBesideZero a b 1
works_one a b at is = works_at a b at (only_one a b at 1 refl is)

-- nothing
pub works_none : (a b : List ℕ) (count : ℕ) → b ≡ a → WorksBesideZero a b count
works_none a b count same = record { names = []; few = omega arith; only = record { added = []; is = same; covers = λ k out. refl } }

pub works_then : (a b c : List ℕ) (x y count : ℕ) → x + y ≤ count → WorksBesideZero a b x → WorksBesideZero b c y → WorksBesideZero a c count
works_then a b c x y count sum first second = record {
  names = first.names ++ second.names;
  few = omega (arith, sum, first.few, second.few, length-append first.names second.names);
  only = only_then a b c first.names second.names first.only second.only;
}

-- as many pages, or fewer
pub works_most : (a b : List ℕ) (x count : ℕ) → x ≤ count → WorksBesideZero a b x → WorksBesideZero a b count
works_most a b x count le w = record { names = w.names; few = omega (arith, w.few, le); only = w.only }

-- pages that were only read before
pub works_from : (a a' b : List ℕ) (x count : ℕ) → x ≤ count → a' ≡ a → WorksBesideZero a' b x → WorksBesideZero a b count
works_from a a' b x count le same w = works_then a a' b 0 x count (omega arith) (works_none a a' 0 same) w

-- with page 0 one page more
pub works_zero : (a b : List ℕ) (x count : ℕ) → x < count → WorksBesideZero a b x → Works a b count
works_zero a b x count lt w = record { names = 0 ∷ w.names; few = omega (arith, w.few, lt); only = w.only }

-- the same where no page is new

pub works_only : (a b : List ℕ) (at : ℕ) → b ≡ numbers at 1 ++ a → Works a b 1
works_only a b at is = record {
  names = at ∷ [];
  few = omega arith;
  only = record { added = numbers at 1; is = is; covers = λ k out. total_numbers at 1 k ∙ omega (arith, out) };
}

pub works_idle : (a b : List ℕ) (count : ℕ) → b ≡ a → Works a b count
works_idle a b count same = record { names = []; few = omega arith; only = record { added = []; is = same; covers = λ k out. refl } }

pub works_both : (a b c : List ℕ) (x y count : ℕ) → x + y ≤ count → Works a b x → Works b c y → Works a c count
works_both a b c x y count sum first second = record {
  names = first.names ++ second.names;
  few = omega (arith, sum, first.few, second.few, length-append first.names second.names);
  only = record {
    added = second.only.added ++ first.only.added;
    is = second.only.is ∙ ap (λ xs. second.only.added ++ xs) first.only.is ∙ sym (append_assoc second.only.added first.only.added a);
    covers = λ k out.
        let parts = total-append (λ at. one at k) first.names second.names in
        total-append (λ at. one at k) second.only.added first.only.added ∙ omega (arith, first.only.covers k (omega (arith, out, parts)), second.only.covers k (omega (arith, out, parts)));
  };
}

pub works_still : (a a' b : List ℕ) (x count : ℕ) → x ≤ count → a' ≡ a → Works a' b x → Works a b count
works_still a a' b x count le same w = works_both a a' b 0 x count (omega (arith, le)) (works_idle a a' 0 same) w

pub works_beside : (a b : List ℕ) (count : ℕ) → Works a b count → WorksBesideZero a b count
works_beside a b count w = record {
  names = w.names;
  few = w.few;
  only = record { added = w.only.added; is = w.only.is; covers = λ k out. w.only.covers k (omega (arith, out)) };
}
