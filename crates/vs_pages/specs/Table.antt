-- A table of pages by number.
use Rattle.std.specs.Prelude.{◌≡◌, ℕ, List, Option, Some, None, if◌then◌else◌, nat_eq, slice_index_or}
use Rattle.vs_pages.specs.Cells.{Blank, Away, Kept, Cell, Cells, shown}
use Rattle.vs_pages.specs.Maps.{one, total}
use Rattle.vs_pages.specs.declared.page.Page.{Page}
use Rattle.vs_pages.specs.declared.page.Page.TheVariants as pages
use Rattle.vs_pages.specs.declared.presence.Presence.{Presence}
use Rattle.vs_pages.specs.declared.presence.Presence.TheVariants as presence

-- what a place of the table keeps
abbrev pub cell_of : Option Page → Option Cell
cell_of None = None
cell_of (Some pages.Zeros) = Some Blank
cell_of (Some pages.Away) = Some Away
cell_of (Some (pages.Written buffer)) = Some (Kept buffer.bytes.items)

-- what a table keeps, whose places are numbered from 0
abbrev pub cells_of : List (Option Page) → Cells
cells_of places = λ k. cell_of (slice_index_or places k None)

-- 1 at a place with a page that is in memory, else 0
abbrev pub here_count : Option Page → ℕ
here_count None = 0
here_count (Some pages.Zeros) = 1
here_count (Some pages.Away) = 0
here_count (Some (pages.Written buffer)) = 1

-- 1 at a place with a page that is away, else 0
abbrev pub away_count : Option Page → ℕ
away_count None = 0
away_count (Some pages.Zeros) = 0
away_count (Some pages.Away) = 1
away_count (Some (pages.Written buffer)) = 0

-- how many places of a table have a page that is in memory
abbrev pub here_in : List (Option Page) → ℕ
here_in places = total here_count places

-- how many places of a table have a page that is away
abbrev pub away_in : List (Option Page) → ℕ
away_in places = total away_count places

-- The place has no page, a page with these bytes, or a page that is away.
abbrev pub IsPlace : Presence → List ℕ → Option Cell → Type 0
IsPlace presence.Missing bytes cell = cell ≡ None
IsPlace presence.Here bytes cell = shown None cell ≡ Some bytes
IsPlace presence.Away bytes cell = cell ≡ Some Away

-- the commits of which the last one changed each place: 0 past the places that there were so far
abbrev pub last_in : List ℕ → ℕ → ℕ
last_in last = λ k. slice_index_or last k 0

-- the last commit that changed each number, after one that changed these numbers
abbrev pub noted : List ℕ → ℕ → (ℕ → ℕ) → ℕ → ℕ
noted worked commit last = λ k. if nat_eq (total (λ at. one at k) worked) 0 then last k else commit
