-- A walk over pointer entries: where it stands, and what one entry does.
use Rattle.std.specs.Prelude.{◌≡◌, ℕ, ◌+◌, ◌*◌, ◌/◌, ◌≤◌, ◌<◌, ◌^◌, ◌∷◌, ◌++◌, IsTrue, IfSome, List, [], length, reverse, take, Option, Some, None, Result}
use Rattle.std.specs.Prelude.{Ok, Err}
use Rattle.vs_host.specs.World.{Tells, Scene, content_of}
use Rattle.vs_ptr.specs.declared.PtrEntry.{PtrEntry}
use Rattle.vs_zero.specs.declared.Zero.{Zero}
use Rattle.vs_zero.specs.declared.ZeroErr.{ZeroErr}
use Rattle.vs_zero.specs.Zero.{reading_of}
use Rattle.vs_recover.specs.declared.walk.Walk.{Walk}
use Rattle.vs_damaged.specs.declared.shown.Shown.{Shown}
use Rattle.vs_damaged.specs.Items.{Item, Shows}
use Rattle.vs_recover.specs.Marks.{used_in}
use Rattle.vs_recover.specs.Original.{IsPlace, pieces_of}
use Rattle.vs_damaged.specs.Salvage.{Damaged, Gives, Pages, first_pages, times_taken}

-- A folder that tells its files has these under the two names.
pub record HasDamaged (tells : Tells) (scene : Scene) (swap name : List ℕ) (size : ℕ) (d : Damaged) : Type 0 where
  pub told : IsTrue tells.folder
  pub there : content_of scene swap ≡ Some d.file
  pub original : content_of scene name ≡ d.original
  pub size_is : d.size ≡ size

-- The size of a page is one that is read, no page is too far, and the original file has the place.
pub record IsWalk (w : Walk) : Type 0 where
  pub least : 1048 ≤ w.size
  pub most : w.size ≤ 50000
  pub near : w.size * length w.marks < 2 ^ 64
  pub place : IfSome w.original IsPlace

-- The pages that were taken are marked, and all lie in the file.
pub record HasTaken (w : Walk) (taken : List Pages) : Type 0 where
  pub within : (k : ℕ) → k < length w.marks → used_in w.marks k ≡ times_taken taken k
  pub past : (k : ℕ) → length w.marks ≤ k → times_taken taken k ≡ 0

-- An entry gave more lines and markers, and what those that are left give comes after these.
pub record Visits (d : Damaged) (old new : Walk) (e : PtrEntry) (taken : List Pages) : Type 0 where
  pub after : List Pages
  pub more : List Item
  pub has_taken : HasTaken new after
  pub shows : (items : List Item) → Shows d.format old.shown items → Shows d.format new.shown (items ++ more)
  pub gives : (rest : List Item) → Gives d after (reverse new.left.items) rest → Gives d taken (e ∷ reverse old.left.items) (more ++ rest)

-- What these entries give is shown.
abbrev pub IsFoundOf : Damaged → List PtrEntry → Shown → Type 0
IsFoundOf d entries shown = (items : List Item) × Gives d (first_pages ∷ []) entries items × Shows d.format shown items

-- how many pages a swap file has
abbrev pub pages_by : List ℕ → Result Zero ZeroErr → ℕ
pages_by file (Ok zero) = length file / zero.page_size
pages_by file (Err why) = 0

-- how many pages a file has, none where it is not there
abbrev pub pages_of : Option (List ℕ) → ℕ
pages_of None = 0
pages_of (Some file) = pages_by file (reading_of (take 4096 file))

-- the pieces in which the original file is read
abbrev pub pieces_of_file : Option (List ℕ) → ℕ
pieces_of_file None = 0
pieces_of_file (Some file) = pieces_of (length file)

-- How many calls a salvage makes at most: each page of the swap file is read once, and the original file once for each entry, of
-- which a page has no more than 1,563.
abbrev pub most_calls : Option (List ℕ) → Option (List ℕ) → ℕ
most_calls swap original = 6 + (pages_of swap + 1563 * pages_of swap * pieces_of_file original)
