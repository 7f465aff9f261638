-- Lines and markers, and what is shown of them.
use Rattle.std.specs.Prelude.{◌≡◌, ℕ, ◌+◌, ◌≤◌, ◌&&◌, nat_le, Bool, true, false, if◌then◌else◌, List, [], ◌∷◌, ◌++◌, length, map, codes}
use Rattle.std.specs.Int.{from_bool}
use Rattle.std.specs.Io.BufRead.{strip_last}
use Rattle.vs_text.specs.declared.TheConstants.{MAX_LINES, MAX_LINE_BYTES, MAX_TEXT_BYTES}
use Rattle.vs_text.specs.declared.format.Format.{Format}
use Rattle.vs_text.specs.declared.format.Format.TheVariants.{Unix, Dos}
use Rattle.vs_text.specs.Documents.{file_in}
use Rattle.vs_damaged.specs.declared.shown.Marker.{Marker}
use Rattle.vs_damaged.specs.declared.shown.Marker.TheVariants as marker
use Rattle.vs_damaged.specs.declared.shown.Shown.{Shown}

-- A line of a text, or a marker in the place of what is missing.
pub data Item : Type 0 where
  TheLine : List ℕ → Item
  TheMarker : Marker → Item

-- the line of a marker
abbrev pub words : Marker → List ℕ
words marker.BlockMissing = codes "???BLOCK MISSING"
words marker.PointerBlockDamaged = codes "???POINTER BLOCK DAMAGED"
words marker.DataBlockDamaged = codes "???DATA BLOCK DAMAGED"
words marker.LineMissing = codes "???LINE MISSING"
words marker.LineCountWrong = codes "???LINE COUNT WRONG"
words marker.LinesMissing = codes "???LINES MISSING"
words marker.ManyLinesMissing = codes "???MANY LINES MISSING"

-- the bytes of a line or a marker
abbrev pub item_bytes : Item → List ℕ
item_bytes (TheLine bytes) = bytes
item_bytes (TheMarker marker) = words marker

-- the number of bytes of a line or a marker, with one for its end
abbrev pub item_size : Item → ℕ
item_size item = length (item_bytes item) + 1

-- the file form of lines and markers
abbrev pub bytes_of_items : Format → List Item → List ℕ
bytes_of_items format items = file_in format (map (λ item. item_bytes item) items)

-- 1 for a marker
abbrev pub one_if_marker : Item → ℕ
one_if_marker (TheLine bytes) = 0
one_if_marker (TheMarker marker) = 1

-- the number of markers
abbrev pub markers_in : List Item → ℕ
markers_in [] = 0
markers_in (item ∷ items) = one_if_marker item + markers_in items

-- a text may have so many lines and bytes
abbrev pub is_within : ℕ → ℕ → Bool
is_within lines bytes = nat_le lines MAX_LINES && nat_le bytes MAX_TEXT_BYTES

-- Lines and markers after so many lines and bytes, up to the limits of a text. A marker stands in the place of the first with which
-- there would be more.
abbrev pub bounded_after : ℕ → ℕ → List Item → List Item
bounded_after lines bytes [] = []
bounded_after lines bytes (item ∷ items) =
    if is_within (lines + 1) (bytes + item_size item) then item ∷ bounded_after (lines + 1) (bytes + item_size item) items
    else TheMarker marker.ManyLinesMissing ∷ []

-- lines and markers, up to the limits of a text
abbrev pub bounded : List Item → List Item
bounded items = bounded_after 0 0 items

-- the line that these bytes of the original file are: in a dos file they lose one last byte 13
abbrev pub original_line : Format → List ℕ → List ℕ
original_line Unix bytes = bytes
original_line Dos bytes = strip_last 13 bytes

-- a line, or the marker of one that is longer than a line may be
abbrev pub line_item : List ℕ → Item
line_item bytes = if nat_le (length bytes) MAX_LINE_BYTES then TheLine bytes else TheMarker marker.LineMissing

-- what these bytes of the original file give: the line that they are, or its marker
abbrev pub original_item : Format → List ℕ → Item
original_item format bytes = line_item (original_line format bytes)

-- what is kept of lines and markers that come after others, unless there were too many
abbrev pub kept_after : Bool → ℕ → ℕ → List Item → List Item
kept_after true lines bytes more = []
kept_after false lines bytes more = bounded_after lines bytes more

-- What is shown of lines and markers in this format, and how it goes on with any others.
pub record Shows (format : Format) (shown : Shown) (items : List Item) : Type 0 where
  pub kept : List Item
  pub goes_on : (more : List Item) → bounded (items ++ more) ≡ kept ++ kept_after shown.full shown.lines shown.size more
  pub format_is : shown.format ≡ format
  pub bytes : shown.bytes.items ≡ bytes_of_items format kept
  pub markers : shown.markers ≡ markers_in kept
  pub lines : shown.lines ≤ MAX_LINES
  pub few : shown.markers ≤ shown.lines + from_bool shown.full

-- One line or marker more is shown.
abbrev pub Adds : Shown → Shown → Item → Type 0
Adds old new item = (format : Format) (items : List Item) → Shows format old items → Shows format new (items ++ item ∷ [])

-- Each line or marker with these bytes, which counts as so many markers, is shown.
abbrev pub AddsAs : Shown → Shown → List ℕ → ℕ → Type 0
AddsAs old new line markers = (item : Item) → item_bytes item ≡ line → one_if_marker item ≡ markers → Adds old new item

-- These lines and markers more are shown.
abbrev pub AddsAll : Shown → Shown → List Item → Type 0
AddsAll old new more = (format : Format) (items : List Item) → Shows format old items → Shows format new (items ++ more)
