-- Which state is the saved one, a history says as its tree does.
use Rattle.std.proofs.Common.{◌≡◌, ℕ, ◌==◌, if◌then◌else◌, List, Option, Some, None, refl, ap}
use Rattle.vs_undo.specs.declared.parts.Node.{Node}
use Rattle.vs_machine.specs.Saved.{saved_after}
use Rattle.vs_machine.proofs.LinkLemmas.{bare, kept-bare}

pub saved-bare : (oldest saved : Option ℕ) (nodes : List Node) → saved_after oldest (bare nodes) saved ≡ saved_after oldest nodes saved
saved-bare None saved nodes = refl
saved-bare (Some oldest) None nodes = refl
saved-bare (Some oldest) (Some number) nodes =
    ap (λ kept. if number == oldest then Some 0 else if number == 0 then None else if kept then Some number else None) (kept-bare nodes number)
