-- What the places of a table keep of their pages.
use Rattle.std.specs.Prelude.{◌≡◌, ℕ, ◌+◌, ◌-◌, ◌<◌, ◌≤◌, Bool, true, false, List, length, Option, Some, None, IsSome, is_some, if◌then◌else◌, nat_eq}
use Rattle.vs_bytes.specs.Fields.{with_field}
use Rattle.vs_pages.specs.Maps.{Map, zeros}

-- A page of zeros that was not written, a page whose bytes are not in memory, or the bytes of a page.
pub data Cell : Type 0 where
  Blank : Cell
  Away : Cell
  Kept : List ℕ → Cell

-- what is kept of each page that is there
abbrev pub Cells : Type 0
Cells = ℕ → Option Cell

-- the cells with another one at one number
abbrev pub put_cell : Cells → ℕ → Option Cell → Cells
put_cell m at cell = λ k. if nat_eq k at then cell else m k

-- a page that was written, with these bytes over its own from a place in it on
abbrev pub rewritten : Option Cell → ℕ → List ℕ → Option Cell
rewritten None from bytes = None
rewritten (Some Blank) from bytes = Some Blank
rewritten (Some Away) from bytes = Some Away
rewritten (Some (Kept page)) from bytes = Some (Kept (with_field page from bytes))

-- Whether there is a page whose bytes are not in memory.
abbrev pub is_away : Option Cell → Bool
is_away None = false
is_away (Some Blank) = false
is_away (Some Away) = true
is_away (Some (Kept page)) = false

-- how many bytes are kept
abbrev pub kept_size : Option Cell → ℕ
kept_size None = 0
kept_size (Some Blank) = 0
kept_size (Some Away) = 0
kept_size (Some (Kept page)) = length page

-- There is a page that was written, and its bytes are in memory.
abbrev pub IsWritten : Option Cell → Type 0
IsWritten cell = kept_size cell ≡ 4096

-- the page of which this is kept, with what stands in another map for a page that is away
abbrev pub shown : Option (List ℕ) → Option Cell → Option (List ℕ)
shown away None = None
shown away (Some Blank) = Some (zeros 1)
shown away (Some Away) = away
shown away (Some (Kept page)) = Some page

-- the pages of which this is kept, with those of another map in the place of those that are away
abbrev pub seen : Map → Cells → Map
seen away cells = λ k. shown (away k) (cells k)

-- the number after the last page
unfoldable pub IsEndOf : Cells → ℕ → Type 0
IsEndOf m end = ((k : ℕ) → end ≤ k → is_some (m k) ≡ false) × (0 < end → IsSome (m (end - 1)))

-- Each of n neighbouring places has a page, which may be away.
abbrev pub AreThere : Cells → ℕ → ℕ → Type 0
AreThere m at n = (i : ℕ) → i < n → IsSome (m (at + i))
