-- How many bytes an undo file has at least, by what it says.
use Rattle.std.specs.Prelude.{ℕ, ◌+◌, length, sum_by}
use Rattle.vs_ufile.specs.Values.{Change, Entry, History}

-- the bytes of an entry: its numbers, and each line after its length
abbrev pub entry_size : Entry → ℕ
entry_size e = 18 + sum_by (λ line. 4 + length line) e.lines

-- the bytes of a change, of whose optional fields only the end is counted
abbrev pub change_size : Change → ℕ
change_size c = 395 + sum_by entry_size c.entries

-- the bytes of a file, of whose optional fields only the end is counted, and of its U line only the length
abbrev pub least_size : History → ℕ
least_size h = 94 + sum_by change_size h.changes
