-- What is known of the swap files after a sync.
use Rattle.std.specs.Prelude.{◌≡◌, Bool, true, false}
use Rattle.vs_pages.specs.Memory.{commits_of}
use Rattle.vs_pair.specs.Stale.{nothing}
use Rattle.vs_pair.specs.declared.pair.SwapPair.{SwapPair}

-- After a sync that was acknowledged the file that it wrote is the newer one, which has all that was committed, and the other one is written
-- next. After one that failed nothing is known of the pages of its file.
abbrev pub TurnsFiles : Bool → SwapPair → SwapPair → Type 0
TurnsFiles true before after = (after.files.older_has ≡ before.files.newer_has) × (after.files.newer_has.commits ≡ (commits_of after.pages).count)
TurnsFiles false before after = (after.files.older_has ≡ nothing) × (after.files.newer_has ≡ before.files.newer_has)

-- What is known of the pages of both files stays.
pub record KeepsKnown (before after : SwapPair) : Type 0 where
  pub newer : after.files.newer_has ≡ before.files.newer_has
  pub older : after.files.older_has ≡ before.files.older_has
