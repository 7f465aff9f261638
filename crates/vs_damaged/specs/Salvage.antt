-- What is salvaged of a swap file whose pages may have any size and any bytes: what the entries of its pointer blocks give, in order.
use Rattle.std.specs.Prelude.{◌≡◌, ◌⊎◌, ⊤, ℕ, ◌+◌, ◌*◌, ◌/◌, ◌<◌, ◌≤◌, List, [], ◌∷◌, ◌++◌, length, take, drop, Option, Ok}
use Rattle.vs_pages.specs.Maps.{total, span}
use Rattle.vs_text.specs.declared.format.Format.{Format}
use Rattle.vs_ptr.specs.declared.PtrEntry.{PtrEntry}
use Rattle.vs_ptr.specs.declared.PtrView.{PtrView}
use Rattle.vs_ptr.specs.Blocks.{entries_of, view_in}
use Rattle.vs_zero.specs.declared.Zero.{Zero}
use Rattle.vs_zero.specs.Zero.{reading_of}
use Rattle.vs_swap.specs.Files.{format_by}
use Rattle.vs_damaged.specs.declared.finds.Target.{Target}
use Rattle.vs_damaged.specs.declared.finds.Target.TheVariants as target
use Rattle.vs_damaged.specs.declared.shown.Marker.TheVariants as marker
use Rattle.vs_damaged.specs.Finds.{Entries, Items, found_in, original_items, target_of}
use Rattle.vs_damaged.specs.Items.{Item, TheMarker, bounded, bytes_of_items, markers_in}

-- A swap file with pages of this size and this format, and the original file where it is there.
pub record Damaged : Type 0 where
  pub file : List ℕ
  pub size : ℕ
  pub original : Option (List ℕ)
  pub format : Format

-- neighbouring pages
pub record Pages : Type 0 where
  pub first : ℕ
  pub count : ℕ

-- the bytes of neighbouring pages
abbrev pub bytes_at : Damaged → Pages → List ℕ
bytes_at d pages = take (d.size * pages.count) (drop (d.size * pages.first) d.file)

-- how often a page was taken
abbrev pub times_taken : List Pages → ℕ → ℕ
times_taken taken k = total (λ (p : Pages). span p.first p.count k) taken

-- Pages that can be taken: they lie in the file, and none of them was taken before.
pub record IsFree (d : Damaged) (taken : List Pages) (pages : Pages) : Type 0 where
  pub inside : pages.first + pages.count ≤ length d.file / d.size
  pub once : (k : ℕ) → times_taken taken k + span pages.first pages.count k ≤ 1

-- One of these pages was taken before.
abbrev pub MeetsTaken : List Pages → Pages → Type 0
MeetsTaken taken pages = (k : ℕ) × (2 ≤ times_taken taken k + span pages.first pages.count k)

-- The pages do not lie in the file, or one of them was taken before.
abbrev pub IsBarred : Damaged → List Pages → Pages → Type 0
IsBarred d taken pages = (length d.file / d.size < pages.first + pages.count) ⊎ MeetsTaken taken pages

-- An entry leads to no block that can be taken.
abbrev pub LeadsNowhere : Damaged → List Pages → Target → Type 0
LeadsNowhere d taken (target.Block first count) = IsBarred d taken (record { first = first; count = count })
LeadsNowhere d taken (target.Original before count) = ⊥
LeadsNowhere d taken target.Nothing = ⊤

-- What pointer entries give, in order, where these pages were taken before them: lines of the original file; a marker where there is no
-- block to take; what stands below a pointer block, whose entries come before those that are left; or what another block gives.
pub data Gives (d : Damaged) : List Pages → List PtrEntry → List Item → Type 0 where
  Ends : (taken : List Pages) → Gives d taken [] []
  FromOriginal : (taken : List Pages) (e : PtrEntry) (es : List PtrEntry) (items : List Item) (before : Option ℕ) (count : ℕ)
      → target_of e ≡ target.Original before count
      → Gives d taken es items → Gives d taken (e ∷ es) (original_items d.format d.original before count ++ items)
  NoBlock : (taken : List Pages) (e : PtrEntry) (es : List PtrEntry) (items : List Item) → LeadsNowhere d taken (target_of e)
      → Gives d taken es items → Gives d taken (e ∷ es) (TheMarker marker.BlockMissing ∷ items)
  FromBelow : (taken : List Pages) (e : PtrEntry) (es below : List PtrEntry) (items : List Item) (pages : Pages)
      → target_of e ≡ target.Block pages.first pages.count
      → IsFree d taken pages → found_in e (bytes_at d pages) ≡ Entries below
      → Gives d (pages ∷ taken) (below ++ es) items → Gives d taken (e ∷ es) items
  FromBlock : (taken : List Pages) (e : PtrEntry) (es : List PtrEntry) (found items : List Item) (pages : Pages)
      → target_of e ≡ target.Block pages.first pages.count
      → IsFree d taken pages → found_in e (bytes_at d pages) ≡ Items found
      → Gives d (pages ∷ taken) es items → Gives d taken (e ∷ es) (found ++ items)

-- block 1 as pages, and page 0 before it
abbrev pub root_pages : Pages
root_pages = record { first = 1; count = 1 }

-- the pages that are taken before the walk begins: page 0 and block 1
abbrev pub first_pages : Pages
first_pages = record { first = 0; count = 2 }

-- These bytes, with so many markers, are salvaged of a swap file: page 0 reads and says the size of a page and the format, block 1 is a
-- pointer block, and what its entries give is shown up to the limits of a text. Pages 0 and 1 are taken before.
pub record Salvages (d : Damaged) (bytes : List ℕ) (markers : ℕ) : Type 0 where
  pub zero : Zero
  pub reads : reading_of (take 4096 d.file) ≡ Ok zero
  pub size : zero.page_size ≡ d.size
  pub format_is : format_by zero.format ≡ d.format
  pub whole : 2 * d.size ≤ length d.file
  pub view : PtrView
  pub root : view_in (bytes_at d root_pages) ≡ Ok view
  pub items : List Item
  pub gives : Gives d (first_pages ∷ []) (entries_of (bytes_at d root_pages)) items
  pub bytes_are : bytes ≡ bytes_of_items d.format (bounded items)
  pub markers_are : markers ≡ markers_in (bounded items)
