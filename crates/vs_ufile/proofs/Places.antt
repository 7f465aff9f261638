-- Changes without their places.
use Rattle.std.proofs.Common.{◌≡◌, List, [], ◌∷◌, map, refl, ap}
use Rattle.vs_ufile.specs.declared.changes.PlacedChange.{PlacedChange}
use Rattle.vs_ufile.specs.Values.{Change, change_of}
use Rattle.vs_ufile.specs.Changes.{placed_of}

pub changes_of : (ps : List PlacedChange) → map change_of (map (λ p. p.change) ps) ≡ map (λ p. p.change) (map placed_of ps)
changes_of [] = refl
changes_of (p ∷ ps) = ap (λ (cs : List Change). change_of p.change ∷ cs) (changes_of ps)
