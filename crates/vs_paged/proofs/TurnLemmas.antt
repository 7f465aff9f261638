-- A sync says for each of its ends apart what is known of the swap files, and so for its answer.
use Rattle.std.specs.Prelude.{◌≡◌, Result, Ok, Err, OnOk, OnErr, is_ok}
use Rattle.std.proofs.Common.{ap}
use Rattle.vs_pair.specs.declared.files.SwapFiles.{SwapFiles}
use Rattle.vs_pages.specs.Memory.{commits_of}
use Rattle.vs_pair.specs.Stale.{nothing}
use Rattle.vs_pair.specs.declared.pair.SwapPair.{SwapPair}
use Rattle.vs_paged.specs.Turns.{KeepsKnown, TurnsFiles}

pub turns : {T E : Type 0} (result : Result T E) (before after : SwapPair) → OnOk result (after.files.older_has ≡ before.files.newer_has)
    → OnOk result (after.files.newer_has.commits ≡ (commits_of after.pages).count) → OnErr result (after.files.older_has ≡ nothing)
    → OnErr result (after.files.newer_has ≡ before.files.newer_has) → TurnsFiles (is_ok result) before after
turns (Ok done) before after turned commits forgotten remembered = (turned, commits)
turns (Err failed) before after turned commits forgotten remembered = (forgotten, remembered)

pub keeps_known : (before after : SwapPair) → after.files ≡ before.files → KeepsKnown before after
keeps_known before after same = record { newer = ap (λ (f : SwapFiles). f.newer_has) same; older = ap (λ (f : SwapFiles). f.older_has) same }
