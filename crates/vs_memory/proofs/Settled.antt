-- Where files were put and no call was made, no change of a name is pending.
use Rattle.std.proofs.Common.{◌≡◌, ℕ, List, [], ◌∷◌, refl, ap, ◌∙◌}
use Rattle.vs_memory.specs.declared.log.Entry.{Entry}
use Rattle.vs_memory.specs.Replay.{base_disk, disk_after}

base_settled : (base : List (List ℕ × List ℕ)) → (base_disk base).pending ≡ []
base_settled [] = refl
base_settled ((name, bytes) ∷ files) = refl

pub settled : (base : List (List ℕ × List ℕ)) (log : List Entry) → log ≡ [] → (disk_after base log).pending ≡ []
settled base log none = ap (λ (l : List Entry). (disk_after base l).pending) none ∙ base_settled base
