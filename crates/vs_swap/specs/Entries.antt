-- The entries of a pointer block, as they stand in any swap file.
use Rattle.std.specs.Prelude.{ℤ, pos, ℕ, List, [], ◌∷◌, Option, Some, None}
use Rattle.std.specs.Option.{option_and_then}
use Rattle.vs_ptr.specs.declared.PtrEntry.{PtrEntry}
use Rattle.vs_ptr.specs.Blocks.{entries_in}
use Rattle.vs_tree_shape.specs.declared.entries.Entry.{Entry}
use Rattle.vs_tree_blocks.specs.Blocks.{before}

-- the entry with these numbers, where none of them is negative
abbrev pub pointer_with : ℤ → ℤ → ℤ → Option Entry
pointer_with (pos block) (pos pages) (pos lines) = Some record { block = block; pages = pages; lines = lines }
pointer_with block pages lines = None

-- An entry of a pointer block, where none of its numbers is negative. Its old line number does not matter.
abbrev pub pointer_in : PtrEntry → Option Entry
pointer_in e = pointer_with e.block e.pages e.lines

-- the entries, where none of their numbers is negative
abbrev pub pointers_in : List PtrEntry → Option (List Entry)
pointers_in [] = Some []
pointers_in (e ∷ es) = before (pointer_in e) (pointers_in es)

-- The entries that a pointer block of a swap file is the list of. A block to which one leads may have any numbers of pages and lines.
unfoldable pub swap_points : List ℕ → Option (List Entry)
swap_points bytes = option_and_then pointers_in (entries_in bytes)
