-- Where the fields of block 0 lie: the table of docs/FORMATS.md, "Block 0". Numbers are little-endian.
use Rattle.std.specs.Prelude.{ℕ, Bool, List, slice_index}
use Rattle.std.specs.Str.{bytes_eq}
use Rattle.vs_bytes.specs.Fields.{Little, field_at, with_field, number_at}

-- a field: the place of its first byte, counted from 0, and its width in bytes
pub record Field : Type 0 where
  pub at : ℕ
  pub width : ℕ

-- `b0` where the file is open
abbrev pub identifier_field : Field
identifier_field = record { at = 0; width = 2 }

-- the name and number of the program that wrote the file
abbrev pub version_field : Field
version_field = record { at = 2; width = 10 }

-- the size of each page of the file, in bytes
abbrev pub page_size_field : Field
page_size_field = record { at = 12; width = 4 }

-- the name of the edited file, ended by a zero byte where it is shorter
abbrev pub file_name_field : Field
file_name_field = record { at = 108; width = 898 }

-- bits 0 and 1: the file format plus one; bit 2: the swap file is in the folder of the file
abbrev pub flags_field : Field
flags_field = record { at = 1006; width = 1 }

-- 0x55 where the text has changes that are not in the file
abbrev pub dirty_field : Field
dirty_field = record { at = 1007; width = 1 }

-- 0x30313233 as a C `long`, 0x20212223 as an `int`, 0x1213 as a `short` and 0x55 as a `char`
abbrev pub magic_long_field : Field
magic_long_field = record { at = 1008; width = 8 }

abbrev pub magic_int_field : Field
magic_int_field = record { at = 1016; width = 4 }

abbrev pub magic_short_field : Field
magic_short_field = record { at = 1020; width = 2 }

abbrev pub magic_char_field : Field
magic_char_field = record { at = 1022; width = 1 }

-- `VSWPAIR1` where the file is one of a pair
abbrev pub pair_tag_field : Field
pair_tag_field = record { at = 1024; width = 8 }

-- the number of the sync that wrote the file
abbrev pub generation_field : Field
generation_field = record { at = 1032; width = 8 }

-- bit 0: the text has no lines
abbrev pub pair_flags_field : Field
pair_flags_field = record { at = 1040; width = 4 }

-- the bytes in a field
abbrev pub bytes_in : Field → List ℕ → List ℕ
bytes_in field page = field_at page field.at field.width

-- a field holds these bytes
abbrev pub holds : Field → List ℕ → List ℕ → Bool
holds field bytes page = bytes_eq (bytes_in field page) bytes

-- the byte in a field of one
abbrev pub byte_in : Field → List ℕ → ℕ
byte_in field page = slice_index page field.at

-- the number in a field
abbrev pub number_in : Field → List ℕ → ℕ
number_in field page = number_at Little field.width page field.at

-- the page with these bytes in a field, from its first byte on
unfoldable pub filled : List ℕ → Field → List ℕ → List ℕ
filled page field bytes = with_field page field.at bytes
