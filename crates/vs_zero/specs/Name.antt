-- The names that an edited file may have.
use Rattle.std.specs.Prelude.{ℕ, Bool, ◌==◌, ◌&&◌, ◌||◌, nat_le, nat_eq, not, List, length, codes}
use Rattle.std.specs.List.{list_all, ends_with}
use Rattle.std.specs.Str.{bytes_eq}

-- a byte that may stand in a name: printable ASCII, no blank and no slash
abbrev pub is_name_byte : ℕ → Bool
is_name_byte byte = (nat_le 33 byte && nat_le byte 126) && not (byte == 47)

-- this folder and the one above, and the names that files have while they are made
abbrev pub is_reserved : List ℕ → Bool
is_reserved name = (bytes_eq name (codes ".") || bytes_eq name (codes "..")) || ends_with nat_eq name (codes ".vsnew")

-- a name without a folder, of 1 to 200 bytes
abbrev pub is_allowed : List ℕ → Bool
is_allowed name = (nat_le 1 (length name) && nat_le (length name) 200) && (list_all is_name_byte name && not (is_reserved name))
