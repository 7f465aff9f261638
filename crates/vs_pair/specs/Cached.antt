-- Pages of a file that are kept in memory.
use Rattle.std.specs.Prelude.{◌≡◌, ℕ, Bool, nat_eq, IsTrue, Some}
use Rattle.std.specs.Map.{lookup}
use Rattle.vs_pages.specs.Cells.{is_away}
use Rattle.vs_pages.specs.Maps.{Map}
use Rattle.vs_pages.specs.Memory.{first_kept_of}
use Rattle.vs_pages.specs.declared.memory.MemPages.{MemPages}
use Rattle.vs_pair.specs.declared.cache.Clean.{Clean}
use Rattle.vs_pair.specs.declared.cache.Cache.{Cache}

-- whether the page of this number was away at the last commit
abbrev pub was_away : MemPages → ℕ → Bool
was_away pages at = is_away (first_kept_of pages at)

-- Each page of the cache that has one of these numbers is that of the map.
abbrev pub IsCacheOf : (ℕ → Bool) → Map → Cache → Type 0
IsCacheOf on map cache = (at : ℕ) → IsTrue (on at) → (page : Clean) → lookup (nat_eq at) cache.pages.entries ≡ Some page → map at ≡ Some page.bytes.items
