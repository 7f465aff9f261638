-- What the entries of a pointer block and the blocks that they lead to give, whose bytes may be any.
use Rattle.std.specs.Prelude.{◌≡◌, ℕ, suc, ℤ, pos, negsuc, ◌==◌, ◌&&◌, nat_le, nat_lt, if◌then◌else◌, List, [], ◌∷◌, ◌++◌, length, map, take, drop}
use Rattle.std.specs.Prelude.{slice_range, Option, Some, None, Result, Ok, Err}
use Rattle.std.specs.List.{before_first, range_with_len}
use Rattle.vs_text.specs.declared.format.Format.{Format}
use Rattle.vs_text.specs.Text.{lines_of, plain_line}
use Rattle.vs_data.specs.declared.DataView.{DataView}
use Rattle.vs_data.specs.declared.DataErr.{DataErr}
use Rattle.vs_data.specs.declared.DataErr.TheVariants as data_refusal
use Rattle.vs_data.specs.Blocks.{bounds_in, start_at}
use Rattle.vs_ptr.specs.declared.PtrEntry.{PtrEntry}
use Rattle.vs_ptr.specs.declared.PtrView.{PtrView}
use Rattle.vs_ptr.specs.declared.PtrErr.{PtrErr}
use Rattle.vs_ptr.specs.declared.PtrErr.TheVariants as pointer_refusal
use Rattle.vs_ptr.specs.Blocks.{entries_of, view_in}
use Rattle.vs_damaged.specs.declared.finds.Target.{Target}
use Rattle.vs_damaged.specs.declared.finds.Target.TheVariants as target
use Rattle.vs_damaged.specs.declared.shown.Marker.TheVariants as marker
use Rattle.vs_damaged.specs.declared.shown.Shown.{Shown}
use Rattle.vs_damaged.specs.Items.{AddsAll, Item, TheMarker, line_item, original_item}

-- ---- an entry

-- how many lines stand before the line with this number, counted from 1
abbrev pub lines_before : ℤ → Option ℕ
lines_before (pos (suc before)) = Some before
lines_before number = None

-- the number of lines that an entry says, and none where it is negative
abbrev pub lines_said : ℤ → ℕ
lines_said (pos count) = count
lines_said (negsuc n) = 0

-- A negative block number leads to lines of the original file. A block has a page at least.
abbrev pub target_by : ℤ → ℤ → Option ℕ → ℕ → Target
target_by (negsuc n) pages before count = target.Original before count
target_by (pos block) (pos (suc more)) before count = target.Block block (suc more)
target_by (pos block) pages before count = target.Nothing

-- what an entry leads to
abbrev pub target_of : PtrEntry → Target
target_of e = target_by e.block e.pages (lines_before e.old) (lines_said e.lines)

-- ---- lines of the original file

-- the marker where there are fewer lines than the entry says
abbrev pub if_fewer : ℕ → ℕ → List Item
if_fewer there count = if nat_lt there count then TheMarker marker.LinesMissing ∷ [] else []

-- The lines that are there from a line on, before which so many stand, and the marker where that is not all: there are fewer, the
-- file is not there, or no line has such a number.
abbrev pub original_items : Format → Option (List ℕ) → Option ℕ → ℕ → List Item
original_items format (Some file) (Some before) count =
    map (original_item format) (take count (drop before (lines_of file))) ++ if_fewer (length (drop before (lines_of file))) count
original_items format file before count = TheMarker marker.LinesMissing ∷ []

-- ---- a block

-- A line of a data block: its bytes up to the first zero byte or the text's end. It is missing where it does not begin in the text.
abbrev pub item_at : List ℕ → DataView → ℕ → Item
item_at block view line =
    if nat_le view.text_start (start_at block line) && nat_lt (start_at block line) view.text_end
    then line_item (plain_line (before_first (λ byte. byte == 0) (slice_range block (start_at block line) view.text_end)))
    else TheMarker marker.LineMissing

-- the marker where an entry says another number of lines than its block has
abbrev pub if_other_count : ℤ → ℕ → List Item
if_other_count (pos said) count = if said == count then [] else TheMarker marker.LineCountWrong ∷ []
if_other_count (negsuc n) count = TheMarker marker.LineCountWrong ∷ []

-- the lines of the data block of an entry
abbrev pub lines_shown : PtrEntry → List ℕ → DataView → List Item
lines_shown e block view = map (λ line. item_at block view line) (range_with_len 0 view.count) ++ if_other_count e.lines view.count

-- what a block is that is no pointer block
abbrev pub data_items : PtrEntry → List ℕ → Result DataView DataErr → List Item
data_items e block (Ok view) = lines_shown e block view
data_items e block (Err data_refusal.BadId) = TheMarker marker.BlockMissing ∷ []
data_items e block (Err why) = TheMarker marker.DataBlockDamaged ∷ []

-- A block gives entries or lines and markers.
pub data Found : Type 0 where
  Entries : List PtrEntry → Found
  Items : List Item → Found

-- what the block of an entry gives, by what it reads as
abbrev pub found_by : PtrEntry → List ℕ → Result PtrView PtrErr → Found
found_by e block (Ok view) = Entries (entries_of block)
found_by e block (Err (pointer_refusal.BadCount count)) = Items (TheMarker marker.PointerBlockDamaged ∷ [])
found_by e block (Err pointer_refusal.BadId) = Items (data_items e block (bounds_in block))

-- what the block of an entry gives
abbrev pub found_in : PtrEntry → List ℕ → Found
found_in e block = found_by e block (view_in block)

-- What a block gives is shown after what was shown before, or its entries come before those that are left.
abbrev pub ShowsBlock : Shown → Shown → List PtrEntry → List PtrEntry → Found → Type 0
ShowsBlock old new left now (Entries below) = (now ≡ below ++ left) × (new ≡ old)
ShowsBlock old new left now (Items more) = (now ≡ left) × AddsAll old new more
