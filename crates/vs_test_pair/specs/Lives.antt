-- What is known of a pair between the steps of its life.
use Rattle.std.specs.Prelude.{IsSome}
use Rattle.vs_host.specs.Disk.{Disk}
use Rattle.vs_pages.specs.Maps.{pages_at}
use Rattle.vs_pair.specs.declared.pair.SwapPair.{SwapPair}
use Rattle.vs_pair.specs.Lent.{IsStored}
use Rattle.vs_pair.specs.Pair.{HasFit, known_of, shown_in}

-- page 2 is there
abbrev pub HasText : SwapPair → Disk → Type 0
HasText pair disk = IsSome (pages_at (shown_in pair disk).present 2 1)

-- The pair fits, whatever was synced, and its pages are where they should be.
pub record Fits (pair : SwapPair) (disk : Disk) : Type 0 where
  pub fit : HasFit (known_of pair disk) disk
  pub stored : IsStored pair disk
