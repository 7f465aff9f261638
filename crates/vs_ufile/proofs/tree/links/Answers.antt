use Rattle.std.proofs.Common.{◌≡◌, ◌+◌, ◌++◌, ◌∷◌, [], ℕ, List, map, take, sym, ap, subst, ◌∙◌}
use Rattle.std.proofs.lemmas.List.{map_push, take_more}
use Rattle.vs_ufile.specs.declared.changes.PlacedChange.{PlacedChange}
use Rattle.vs_ufile.specs.Changes.{place_of, placed_of}
use Rattle.vs_ufile.specs.Failing.{link_of}
use Rattle.vs_ufile.specs.Reading.{Placed, numbers_of}
use Rattle.vs_ufile.proofs.tree.links.Goals as goal

pub changes-preserved : goal.changes-preserved
changes-preserved c =
    let items = c.args.changes.now.placed.items in
    let placed = c.placed-item.result in
    let i = c.changes.placed-index in
    let f = λ (p : Placed). place_of (numbers_of (map placed_of items)) (link_of c.args.link p.change) in
    let own = c.deref-placed-items.result.now in
    let one : take (i + 1) own ≡ take i own ++ placed ∷ [] = take_more own i placed c.changes-test.true ∙ ap (λ x. take i own ++ x ∷ []) (sym c.placed-item.is) in
    let e : take (i + 1) items ≡ take i items ++ placed ∷ [] = subst (λ (xs : List PlacedChange). take (i + 1) xs ≡ take i xs ++ placed ∷ []) c.deref-placed-items.ensures.value one in
    let m : map placed_of (take (i + 1) items) ≡ map placed_of (take i items) ++ placed_of placed ∷ [] = ap (map placed_of) e ∙ map_push placed_of (take i items) placed in
    let all : map f (map placed_of (take (i + 1) items)) ≡ map f (map placed_of (take i items)) ++ f (placed_of placed) ∷ [] =
    ap (map f) m ∙ map_push f (map placed_of (take i items)) (placed_of placed) in
    let x : c.place_of.result ≡ f (placed_of placed) = c.place_of.ensures ∙ ap (place_of (numbers_of (map placed_of items))) c.of.ensures in
    c.in_ok-push-2.ensures.items ∙ ap (λ (xs : List ℕ). xs ++ c.place_of.result ∷ []) c.changes.invariant
    ∙ ap (λ (n : ℕ). 0 ∷ (map f (map placed_of (take i items)) ++ n ∷ [])) x ∙ ap (λ (xs : List ℕ). 0 ∷ xs) (sym all)
