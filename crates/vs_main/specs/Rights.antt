-- The rights of a file, which are the last nine bits of its mode: three of its owner, three of its group, three of all others.
use Rattle.std.specs.Prelude.{ℕ, ◌*◌, ◌/◌, Bool, true, false, bit_and, bit_or}

-- the rights that the group and the others have both
abbrev pub shared_of : ℕ → ℕ
shared_of mode = bit_and (bit_and (mode / 8) 0o7) (bit_and mode 0o7)

-- The rights that are left of a mode: all of them where the file has the group, and else the owner's, and for group and others what both had.
abbrev pub rights_left : ℕ → Bool → ℕ
rights_left mode true = bit_and mode 0o777
rights_left mode false = bit_or (bit_or (bit_and mode 0o700) (shared_of mode * 8)) (shared_of mode)
