use Rattle.std.proofs.Common.{◌≡◌, ◌∷◌, map, take}
use Rattle.vs_ufile.specs.Changes.{place_of, placed_of}
use Rattle.vs_ufile.specs.Failing.{link_of}
use Rattle.vs_ufile.specs.Reading.{numbers_of}
use Rattle.vs_ufile.proofs.tree.links.Given as goal

abbrev pub invariant-changes : goal.invariant-changes
invariant-changes l =
    let placed = map placed_of l.changes.placed.items in
    l.links.items ≡ 0 ∷ map (λ p. place_of (numbers_of placed) (link_of l.link p.change)) (map placed_of (take l.placed-index l.changes.placed.items))
