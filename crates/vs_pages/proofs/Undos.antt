-- How changes that can be taken back go on being so.
use Rattle.std.proofs.Common.{◌≡◌, ℕ, ◌≤◌, List, [], ◌∷◌, ◌++◌, append_assoc, reverse, refl, sym, ap, ◌∙◌, subst, arith}
use Rattle.std.proofs.lemmas.List.{reverse-append}
use Rattle.vs_pages.specs.Cells.{Cells}
use Rattle.vs_pages.specs.Maps.{one, total}
use Rattle.vs_pages.specs.History.{numbers_in, numbers_of, places_before, undone, CanUndo, CanUndoAll}
use Rattle.vs_pages.specs.declared.change.Change.{Change}
use Rattle.vs_pages.specs.declared.change.Change.TheVariants as kinds
use Rattle.vs_pages.proofs.MapsLemmas.{total-append}

-- the last one of a list is the first one the other way round
pub reverse_last : {X : Type 0} (all front : List X) (last : X) → all ≡ front ++ last ∷ [] → reverse all ≡ last ∷ reverse front
reverse_last all front last is = ap (λ xs. reverse xs) is ∙ reverse-append front (last ∷ [])

pub can_first : (m : Cells) (n : ℕ) (c : Change) (all cs : List Change) → all ≡ c ∷ cs → CanUndoAll m n all → CanUndo m n c
can_first m n c all cs is can = let both : CanUndoAll m n (c ∷ cs) = subst (λ (xs : List Change). CanUndoAll m n xs) is can in both.0

-- after a change was taken back
pub can_rest : (m next : Cells) (n left : ℕ) (c : Change) (all cs : List Change) → all ≡ c ∷ cs → next ≡ undone c m → left ≡ places_before c n → CanUndoAll m n all → CanUndoAll next left cs
can_rest m next n left c all cs is map places can =
    let both : CanUndoAll m n (c ∷ cs) = subst (λ (xs : List Change). CanUndoAll m n xs) is can in
    subst (λ (k : ℕ). CanUndoAll next k cs) (sym places) (subst (λ (o : Cells). CanUndoAll o (places_before c n) cs) (sym map) both.1)

-- after one change more
pub can_more : (m was : Cells) (n before : ℕ) (c : Change) (all cs : List Change) → all ≡ c ∷ cs → CanUndo m n c → undone c m ≡ was → places_before c n ≡ before → CanUndoAll was before cs → CanUndoAll m n all
can_more m was n before c all cs is can map places rest =
    let both : CanUndoAll m n (c ∷ cs) = (can, subst (λ (k : ℕ). CanUndoAll (undone c m) k cs) (sym places) (subst (λ (o : Cells). CanUndoAll o before cs) (sym map) rest)) in
    subst (λ (xs : List Change). CanUndoAll m n xs) (sym is) both

-- in a table with more places
pub can_longer : (m : Cells) (n more : ℕ) (cs : List Change) → n ≤ more → CanUndoAll m n cs → CanUndoAll m more cs
can_longer m n more [] le can = tt
can_longer m n more (kinds.Run run ∷ cs) le can = (record { within = omega (arith, can.0.within, le); fewer = omega (arith, can.0.fewer, le); past = can.0.past; away = can.0.away }, can.1)
can_longer m n more (kinds.Patch patch ∷ cs) le can = (record { inside = omega (arith, can.0.inside, le); within = can.0.within; written = can.0.written }, can_longer (undone (kinds.Patch patch) m) n more cs le can.1)

-- the same, of an equal map
pub can_to : (m next : Cells) (n more : ℕ) (cs : List Change) → next ≡ m → n ≤ more → CanUndoAll m n cs → CanUndoAll next more cs
can_to m next n more cs is le can = subst (λ (o : Cells). CanUndoAll o more cs) (sym is) (can_longer m n more cs le can)

-- ---- the numbers that were worked

pub numbers_append : (cs ds : List Change) → numbers_in (cs ++ ds) ≡ numbers_in cs ++ numbers_in ds
numbers_append [] ds = refl
numbers_append (c ∷ cs) ds = ap (λ ns. numbers_of c ++ ns) (numbers_append cs ds) ∙ sym (append_assoc (numbers_of c) (numbers_in cs) (numbers_in ds))

-- how often a number was worked, whichever way round
pub total_reversed : (cs : List Change) (k : ℕ) → total (λ at. one at k) (numbers_in (reverse cs)) ≡ total (λ at. one at k) (numbers_in cs)
total_reversed [] k = refl
total_reversed (c ∷ cs) k =
    let turned : reverse (c ∷ cs) ≡ reverse cs ++ c ∷ [] = reverse-append (c ∷ []) cs in
    ap (λ (ds : List Change). total (λ at. one at k) (numbers_in ds)) turned
    ∙ ap (λ (ns : List ℕ). total (λ at. one at k) ns) (numbers_append (reverse cs) (c ∷ []))
    ∙ omega (arith, total-append (λ at. one at k) (numbers_in (reverse cs)) (numbers_of c ++ []), total-append (λ at. one at k) (numbers_of c) [], total-append (λ at. one at k) (numbers_of c) (numbers_in cs), total_reversed cs k)
