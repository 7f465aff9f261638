-- Lines that were read together.
use Rattle.std.specs.Prelude.{ℕ, ◌≡◌, List, length}
use Rattle.vs_edit.specs.Splices.{cut_out}
use Rattle.vs_machine.specs.declared.nearby.Nearby.{Nearby}

-- Lines that were read are those of a text.
abbrev pub AreOf : List (List ℕ) → Nearby → Type 0
AreOf text near = near.lines ≡ cut_out text near.top (length near.lines)
