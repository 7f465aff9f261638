use Rattle.std.proofs.Common.{◌≡◌, ◌∷◌, map, take}
use Rattle.vs_ufile.specs.Changes.{place_of}
use Rattle.vs_ufile.specs.Failing.{link_of}
use Rattle.vs_ufile.specs.Descent.{unplaced}
use Rattle.vs_ufile.specs.Reading.{numbers_of}
use Rattle.vs_ufile.proofs.descent.links.Given as goal

abbrev pub invariant-changes : goal.invariant-changes
invariant-changes l =
    let placed = unplaced l.changes in
    l.links.items ≡ 0 ∷ map (λ p. place_of (numbers_of placed) (link_of l.link p.change)) (unplaced (take l.change-index l.changes))
