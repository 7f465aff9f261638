-- What the bytes of a pointer block say. Places are counted in bytes from 0, entries from 0.
use Rattle.std.specs.Prelude.{◌≡◌, ℕ, ◌==◌, ◌+◌, ◌*◌, Bool, ◌&&◌, nat_le, if◌then◌else◌, is_ok, unwrap_or, ℤ, ◌+ℤ◌, List, [], length, map, drop, replicate}
use Rattle.std.specs.Prelude.{Option, Some, None, Result, Ok, Err, ◌-◌, ◌/◌, bytes_eq}
use Rattle.std.specs.Cmp.Lexicographic.{pointwise}
use Rattle.std.specs.Int.{w32, w64}
use Rattle.std.specs.Simd.{first_chunks}
use Rattle.vs_bytes.specs.Fields.{Little, field_at, number_at, signed_at, with_signed}
use Rattle.vs_ptr.specs.declared.TheConstants.{IDENTIFIER, HEADER_LEN, ENTRY_LEN}
use Rattle.vs_ptr.specs.declared.PtrEntry.{PtrEntry}
use Rattle.vs_ptr.specs.declared.PtrView.{PtrView}
use Rattle.vs_ptr.specs.declared.PtrErr.{PtrErr}
use Rattle.vs_ptr.specs.declared.PtrErr.TheVariants.{BadId, BadCount}

-- the entry that these 32 bytes stand for
unfoldable pub entry_of : List ℕ → PtrEntry
entry_of slot = record {
  block = signed_at Little w64 slot 0;
  lines = signed_at Little w64 slot 8;
  old = signed_at Little w64 slot 16;
  pages = signed_at Little w32 slot 24;
}

-- the 32 bytes of an entry: its fields, and zeros where none stands
unfoldable pub bytes_of_entry : PtrEntry → List ℕ
bytes_of_entry entry =
    let with_block = with_signed Little w64 (replicate ENTRY_LEN 0) 0 entry.block in
    let with_lines = with_signed Little w64 with_block 8 entry.lines in
    let with_old = with_signed Little w64 with_lines 16 entry.old in
    with_signed Little w32 with_old 24 entry.pages

-- the entry with this number of lines more
abbrev pub with_lines_added : PtrEntry → ℤ → PtrEntry
with_lines_added entry by = record entry { lines = entry.lines +ℤ by }

-- the two counts that the header holds
abbrev pub header_of : List ℕ → PtrView
header_of block = record { count = number_at Little 2 block 2; most = number_at Little 2 block 4 }

-- the bytes of each entry, as many as the header counts
unfoldable pub slots_of : List ℕ → List (List ℕ)
slots_of block = first_chunks ENTRY_LEN (number_at Little 2 block 2) (drop HEADER_LEN block)

-- the bytes of the header that no field takes
abbrev pub unused_of : List ℕ → List ℕ
unused_of block = field_at block 6 2

-- these are the bytes of the block's header that no field takes, and the bytes of each of its entries
pub record HasBytes (block unused : List ℕ) (slots : List (List ℕ)) : Type 0 where
  pub unused_are : unused_of block ≡ unused
  pub slots_are : slots_of block ≡ slots

-- the block has a header, and it begins with the identifier
abbrev pub is_marked : List ℕ → Bool
is_marked block = nat_le HEADER_LEN (length block) && (number_at Little 2 block 0 == IDENTIFIER)

-- the header counts no more entries than it allows and the block has room for
abbrev pub can_hold : PtrView → List ℕ → Bool
can_hold view block = nat_le view.count view.most && nat_le (HEADER_LEN + ENTRY_LEN * view.count) (length block)

-- the view of the block, or why it has none
unfoldable pub view_in : List ℕ → Result PtrView PtrErr
view_in block =
    if is_marked block
    then (if can_hold (header_of block) block then Ok (header_of block) else Err (BadCount (number_at Little 2 block 2)))
    else Err BadId

-- the list of entries that a pointer block is, where the block reads
unfoldable pub entries_in : List ℕ → Option (List PtrEntry)
entries_in block = if is_ok (view_in block) then Some (map entry_of (slots_of block)) else None

-- the entries of a block that reads
abbrev pub entries_of : List ℕ → List PtrEntry
entries_of block = unwrap_or (entries_in block) []

-- The block is as it is written for these entries: the greatest count, the unused bytes, and the 32 bytes of each entry. What stands past
-- the last entry has no meaning.
abbrev pub is_block_of : List PtrEntry → List ℕ → Bool
is_block_of entries block =
    (number_at Little 2 block 4 == (length block - HEADER_LEN) / ENTRY_LEN)
    && (bytes_eq (unused_of block) (replicate 2 0) && pointwise bytes_eq (slots_of block) (map bytes_of_entry entries))
