use Rattle.std.proofs.Common.{refl, sym, ap, subst, ◌∙◌, ◌≡◌}
use Rattle.std.specs.Prelude.{codes, [], ◌∷◌}
use Rattle.vs_host.specs.Disk.{Disk}
use Rattle.vs_host.specs.Names.{names_of_file}
use Rattle.vs_memory.specs.Memory.{Memory, folder_of}
use Rattle.vs_memory.specs.Replay.{base_disk}
use Rattle.vs_pair.specs.Steps.{IsFresh}
use Rattle.vs_pair.proofs.Others.{fresh}
use Rattle.vs_test_pair.proofs.written.folder_with_file.Goals as goal

pub returns : goal.returns
returns c =
    let bytes = c.in_ok-from_slice.field-0.items in
    let base = (codes "f", bytes) ∷ [] in
    let put : folder_of c.put.new.self ≡ base_disk base =
    ap (λ (m : Memory). folder_of m) c.in_ok-put.ensures.ok ∙ ap (λ (m : Memory). folder_of (record m { base = (codes "f", bytes) ∷ m.base })) c.in_ok-host.ensures in
    let stopped : folder_of c.stop_after.new.self ≡ base_disk base = ap (λ (m : Memory). folder_of m) c.stop_after.ensures ∙ put in
    subst (λ (d : Disk). IsFresh (names_of_file (codes "f")) d) (sym stopped) (fresh (names_of_file (codes "f")) (base_disk base) refl refl refl)
