-- What is known of the pages of a pair, some of which are away: those stand in the file of the last acknowledged sync.
use Rattle.std.specs.Prelude.{◌≡◌, ◌≢◌, ◌⊎◌, ℕ, ◌<◌, ◌≤◌, List, Option, Some, None, IsSome}
use Rattle.vs_host.specs.Disk.{Disk, Name, content_in, names_of}
use Rattle.vs_pages.specs.Maps.{Map, no_pages}
use Rattle.vs_pages.specs.Memory.{commits_of, committed_under, state_under, AreBacked}
use Rattle.vs_pages.specs.State.{Commits}
use Rattle.vs_pages.specs.declared.memory.MemPages.{MemPages}
use Rattle.vs_swap.specs.Files.{pages_in}

abbrev pub pages_read : Option (List ℕ) → Map
pages_read None = no_pages
pages_read (Some bytes) = pages_in bytes

-- the whole pages of the file under this name, as it is read
abbrev pub pages_under : Disk → Name → Map
pages_under disk name = pages_read (content_in disk name)

-- The pages as they were last committed, and the commits.
pub record Held : Type 0 where
  pub committed : Map
  pub commits : Commits

-- what is held, with the pages of a map in the place of those that are away
abbrev pub held_with : Map → MemPages → Held
held_with away pages = record { committed = committed_under away pages; commits = commits_of pages }

-- what is held, with the pages that the file under this name has in the place of those that are away
abbrev pub held_from : MemPages → Disk → Name → Held
held_from pages disk name = held_with (pages_under disk name) pages

-- The two names lead to two files, or one of them to none.
abbrev pub AreApart : Disk → Name → Name → Type 0
AreApart disk name other = (number : ℕ) → names_of disk name ≡ Some number → names_of disk other ≢ Some number

-- Each committed page but page 0 stands in the map.
abbrev pub HasAll : Map → MemPages → Type 0
HasAll map pages = (k : ℕ) (page : List ℕ) → 1 ≤ k → committed_under map pages k ≡ Some page → map k ≡ Some page

-- What is seen of the pages is the same, though more of them may be away.
pub record SameSeen (away : Map) (old new : MemPages) : Type 0 where
  pub state : state_under away new ≡ state_under away old
  pub backed : AreBacked away new

-- Each committed page is as in this map, if no commit from this one on changed it.
abbrev pub IsSince : Held → ℕ → Map → Type 0
IsSince held commit map = (k : ℕ) → held.commits.last k < commit → held.committed k ≡ map k

-- From `end` on, each number at or before a committed page was changed by this commit or a later one.
abbrev pub HasReach : Held → ℕ → ℕ → Type 0
HasReach held commit end = (k j : ℕ) → end ≤ k → k ≤ j → IsSome (held.committed j) → commit ≤ held.commits.last k

-- Each page is as it was committed, unless a commit since then changed it. From each number on, all that was changed since a commit was so still.
pub record KeepsHeld (old new : Held) : Type 0 where
  pub later : old.commits.count ≤ new.commits.count
  pub each : (k : ℕ) → (old.commits.count ≤ new.commits.last k) ⊎ ((old.commits.last k ≤ new.commits.last k) × (new.committed k ≡ old.committed k))
  pub reach : (commit end : ℕ) → commit ≤ old.commits.count → HasReach old commit end → HasReach new commit end
