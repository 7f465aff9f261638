-- In which page numbers a swap file may differ from the committed pages.
use Rattle.std.specs.Prelude.{◌≡◌, ℕ, zero, suc, ◌+◌, ◌-◌, ◌^◌, ◌<◌, ◌≤◌, ◌&&◌, ◌||◌, Bool, true, false, nat_le, List, length, Some, IsSome, is_some, Contains}
use Rattle.vs_host.specs.File.{File, IsFileImage}
use Rattle.vs_pages.specs.Maps.{Map}
use Rattle.vs_pages.specs.Memory.{commits_of, first_kept_of}
use Rattle.vs_pages.specs.State.{Commits}
use Rattle.vs_pages.specs.declared.memory.MemPages.{MemPages}
use Rattle.vs_swap.specs.Files.{page_in}
use Rattle.vs_pair.specs.declared.gate.Gate.{Gate}
use Rattle.vs_pair.specs.declared.gate.Gate.TheVariants.{Closed}
use Rattle.vs_pair.specs.declared.written.Written.{Written}
use Rattle.vs_pair.specs.Held.{HasReach, Held, IsSince}
use Rattle.vs_pair.specs.Writes.{page_or_zeros}

-- nothing is known of the pages
abbrev pub nothing : Written
nothing = record { commits = 0; end = 0 }

-- The file may differ in this number: a commit changed it since, or it lies after the last page of the file.
abbrev pub is_stale : Commits → Written → ℕ → Bool
is_stale commits written k = nat_le written.commits (commits.last k) || nat_le written.end k

-- After page 0 the bytes have each number that is not stale, as it is committed.
abbrev pub HasCommitted : Held → Written → List ℕ → Type 0
HasCommitted pages written c = (k : ℕ) → 1 ≤ k → is_stale pages.commits written k ≡ false → page_in c k ≡ Some (page_or_zeros (pages.committed k))

-- They have an identifier, too.
pub record HasFresh (pages : Held) (written : Written) (c : List ℕ) : Type 0 where
  pub long : 2 ≤ length c
  pub fresh : HasCommitted pages written c

-- Only stale pages are written: each image of the file has all others as some image from before has them.
abbrev pub SparesFresh : Commits → Written → File → File → Type 0
SparesFresh commits written old new = (c : List ℕ) → IsFileImage new c → (was : List ℕ) × IsFileImage old was
    × ((k : ℕ) (page : List ℕ) → 1 ≤ k → is_stale commits written k ≡ false → page_in was k ≡ Some page → page_in c k ≡ Some page)

-- What is known to stand of the pages of a file with this gate, that of a sync of this map: all that no commit changed since, up to its
-- last page. After that page each number up to the last committed page was changed since. While the gate is closed the pages may be
-- torn, so nothing is known.
pub record Keeps (gate : Gate) (pages : Held) (written : Written) (map : Map) : Type 0 where
  pub since : IsSince pages written.commits map
  pub reach : HasReach pages written.commits written.end
  pub last : 0 < written.end → IsSome (map (written.end - 1))
  pub torn : gate ≡ Closed → written ≡ nothing

-- What is known of a file that has all committed pages: no commit came since, and no page lies after its end.
pub record KnowsAll (pages : MemPages) (written : Written) : Type 0 where
  pub commits : written.commits ≡ (commits_of pages).count
  pub past : (k : ℕ) → written.end ≤ k → is_some (first_kept_of pages k) ≡ false

-- ---- how much is written

-- 1 where this is so, else 0
abbrev pub one_if : Bool → ℕ
one_if true = 1
one_if false = 0

-- how many numbers after page 0 and below this one are stale
abbrev pub stale_below : Commits → Written → ℕ → ℕ
stale_below commits written zero = 0
stale_below commits written (suc n) = one_if (nat_le 1 n && is_stale commits written n) + stale_below commits written n

-- No page is committed from this number on, which lies after page 0.
pub record IsEnd (pages : MemPages) (end : ℕ) : Type 0 where
  pub some : 1 ≤ end
  pub past : (k : ℕ) → end ≤ k → is_some (first_kept_of pages k) ≡ false

-- The list has each number after page 0 and below this end that a commit changed since.
abbrev pub HasChanged : MemPages → Written → ℕ → List ℕ → Type 0
HasChanged pages written end numbers = (k : ℕ) → 1 ≤ k → k < end → written.commits ≤ (commits_of pages).last k → Contains numbers k

-- A file is behind the committed pages by at most so many: a list of no more has each number that a commit changed since.
pub record IsBehind (pages : MemPages) (written : Written) (most : ℕ) : Type 0 where
  pub numbers : List ℕ
  pub few : length numbers ≤ most
  pub changed : (k : ℕ) → written.commits ≤ (commits_of pages).last k → Contains numbers k

-- There were commits, and fewer than are counted.
pub record IsCounted (pages : MemPages) : Type 0 where
  pub some : 1 ≤ (commits_of pages).count
  pub fits : (commits_of pages).count < 2 ^ 64 - 1
