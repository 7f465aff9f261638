-- Number fields: a field has a place, a width in bytes and a byte order. Places are counted from 0.
use Rattle.std.specs.Prelude.{ℕ, ◌+◌, ℤ, List, ◌++◌, length, take, drop}
use Rattle.std.specs.Int.{Width, byte_len, cast_signed, cast_unsigned}
use Rattle.byteorder.specs.Endian.{big_bytes, big_number, little_bytes, little_number}

-- which byte of a number stands first: the lowest, or the highest
pub data Order : Type 0 where
  Little : Order
  Big : Order

-- the bytes of the field
abbrev pub field_at : List ℕ → ℕ → ℕ → List ℕ
field_at bytes at width = take width (drop at bytes)

-- the bytes with this field put over those from its place on; all others are as they were
abbrev pub with_field : List ℕ → ℕ → List ℕ → List ℕ
with_field bytes at field = take at bytes ++ field ++ drop (at + length field) bytes

-- the number that the bytes of a field of this width stand for
unfoldable pub number_of : Order → ℕ → List ℕ → ℕ
number_of Little width field = little_number width field
number_of Big width field = big_number width field

-- the bytes of a field of this width that stand for the number
unfoldable pub bytes_of : Order → ℕ → ℕ → List ℕ
bytes_of Little width value = little_bytes width value
bytes_of Big width value = big_bytes width value

-- the number in the field
abbrev pub number_at : Order → ℕ → List ℕ → ℕ → ℕ
number_at order width bytes at = number_of order width (field_at bytes at width)

-- the bytes with the number in the field
abbrev pub with_number : Order → ℕ → List ℕ → ℕ → ℕ → List ℕ
with_number order width bytes at value = with_field bytes at (bytes_of order width value)

-- the whole number, with its sign, that the field holds as two's complement
abbrev pub signed_at : Order → Width → List ℕ → ℕ → ℤ
signed_at order w bytes at = cast_signed w (number_at order (byte_len w) bytes at)

-- the bytes with the whole number in the field as two's complement
abbrev pub with_signed : Order → Width → List ℕ → ℕ → ℤ → List ℕ
with_signed order w bytes at value = with_number order (byte_len w) bytes at (cast_unsigned w value)
