use Rattle.std.proofs.Common.{refl, sym, ap, subst, ◌∙◌, ◌≡◌}
use Rattle.std.specs.Prelude.{codes, []}
use Rattle.vs_host.specs.Names.{names_of_file}
use Rattle.vs_memory.specs.Memory.{Memory, folder_of}
use Rattle.vs_memory.specs.Replay.{base_disk}
use Rattle.vs_pair.specs.Steps.{IsFresh}
use Rattle.vs_pair.proofs.Others.{fresh}
use Rattle.vs_host.specs.Disk.{Disk}
use Rattle.vs_test_pair.proofs.stops.empty_folder.Goals as goal

pub returns : goal.returns
returns c =
    let empty : folder_of c.in_ok-host.host ≡ base_disk [] = ap (λ (m : Memory). folder_of m) c.in_ok-host.ensures in
    let failing : folder_of c.fail_call.new.self ≡ base_disk [] = ap (λ (m : Memory). folder_of m) c.in_ok-fail_call.ensures.ok ∙ empty in
    let stopped : folder_of c.stop_after.new.self ≡ base_disk [] = ap (λ (m : Memory). folder_of m) c.stop_after.ensures ∙ failing in
    subst (λ (d : Disk). IsFresh (names_of_file (codes "f")) d) (sym stopped) (fresh (names_of_file (codes "f")) (base_disk []) refl refl refl)
