-- What block 0 says: its fields, why it does not read, and the page that a closed file has.
use Rattle.std.specs.Prelude.{ℕ, ◌+◌, ◌%◌, ◌==◌, ◌&&◌, Bool, nat_lt, nat_le, not, if◌then◌else◌, List, [], ◌∷◌, ◌++◌, length, replicate, codes, Option}
use Rattle.std.specs.Prelude.{Some, None, Result, Ok, Err}
use Rattle.std.specs.Int.{from_bool}
use Rattle.std.specs.List.{before_first, fold, list_any}
use Rattle.std.specs.Option.{option_map_or}
use Rattle.vs_bytes.specs.Fields.{Little, bytes_of, with_field}
use Rattle.vs_zero.specs.Layout.{Field, identifier_field, version_field, page_size_field, file_name_field, flags_field, dirty_field, magic_long_field}
use Rattle.vs_zero.specs.Layout.{magic_int_field, magic_short_field, magic_char_field, pair_tag_field, generation_field, pair_flags_field, byte_in}
use Rattle.vs_zero.specs.Layout.{bytes_in, holds, number_in, filled}
use Rattle.vs_zero.specs.declared.Pair.{Pair}
use Rattle.vs_zero.specs.declared.Zero.{Zero}
use Rattle.vs_zero.specs.declared.ZeroErr.{ZeroErr}
use Rattle.vs_zero.specs.declared.ZeroErr.TheVariants.{Short, Closed, Encrypted, BadMagic, BadPageSize}

-- ---- reading

-- the page ends before the last field
abbrev pub is_short : List ℕ → Bool
is_short page = nat_lt (length page) 1048

-- the file is open, and says so
unfoldable pub is_open : List ℕ → Bool
is_open page = holds identifier_field (codes "b0") page

-- the identifier is `b` and the letter of a cipher
unfoldable pub is_encrypted : List ℕ → Bool
is_encrypted page = list_any (λ letter. holds identifier_field (98 ∷ letter ∷ []) page) (codes "cCdSs")

-- the numbers that show the byte order and the widths of the machine that wrote the file
unfoldable pub has_magic : List ℕ → Bool
has_magic page =
    ((number_in magic_long_field page == 0x30313233) && (number_in magic_int_field page == 0x20212223))
    && ((number_in magic_short_field page == 0x1213) && (byte_in magic_char_field page == 0x55))

-- a page size that is read
abbrev pub is_page_size : ℕ → Bool
is_page_size size = nat_le 1048 size && nat_le size 50000

-- why page 0 does not read: the first that holds, or none
abbrev pub refusal_of : List ℕ → Option ZeroErr
refusal_of page =
    if is_short page then Some Short
    else if is_encrypted page then Some Encrypted
    else if not (is_open page) then Some Closed
    else if not (has_magic page) then Some BadMagic
    else if not (is_page_size (number_in page_size_field page)) then Some (BadPageSize (number_in page_size_field page))
    else None

-- the file is one of a pair
unfoldable pub is_paired : List ℕ → Bool
is_paired page = holds pair_tag_field (codes "VSWPAIR1") page

-- the fields of the pair, where the file is one of a pair
unfoldable pub pair_of : List ℕ → Option Pair
pair_of page =
    if is_paired page
    then Some (record { generation = number_in generation_field page; empty = number_in pair_flags_field page % 2 == 1 })
    else None

-- the fields of page 0
unfoldable pub fields_of : List ℕ → Zero
fields_of page = record {
  page_size = number_in page_size_field page;
  format = byte_in flags_field page % 4;
  dirty = byte_in dirty_field page == 0x55;
  pair = pair_of page;
}

-- what page 0 reads as
abbrev pub reading_of : List ℕ → Result Zero ZeroErr
reading_of page = option_map_or Err (refusal_of page) (Ok (fields_of page))

-- the file name in page 0: its field up to the first zero byte
abbrev pub name_of : List ℕ → List ℕ
name_of page = before_first (λ byte. byte == 0) (bytes_in file_name_field page)

-- ---- writing

-- what one field is filled with, from its first byte on
pub record Content : Type 0 where
  pub field : Field
  pub bytes : List ℕ

-- a number, in all bytes of the field
abbrev pub number : Field → ℕ → Content
number field value = record { field = field; bytes = bytes_of Little field.width value }

-- the byte of a field of one
abbrev pub byte : Field → ℕ → Content
byte field value = record { field = field; bytes = value ∷ [] }

-- a text from the first byte of the field on
abbrev pub text : Field → List ℕ → Content
text field bytes = record { field = field; bytes = bytes }

-- what says of which file the swap file is, and how
abbrev pub file_contents : Zero → List ℕ → List Content
file_contents zero name =
    text version_field (codes "VIM 9.0")
    ∷ number page_size_field zero.page_size
    ∷ text file_name_field name
    ∷ byte flags_field (4 + zero.format)
    ∷ byte dirty_field (if zero.dirty then 0x55 else 0)
    ∷ []

-- the numbers that show byte order and widths
abbrev pub magic_contents : List Content
magic_contents =
    number magic_long_field 0x30313233
    ∷ number magic_int_field 0x20212223
    ∷ number magic_short_field 0x1213
    ∷ byte magic_char_field 0x55
    ∷ []

-- what says of which sync of a pair the file is
abbrev pub pair_contents : Pair → List Content
pair_contents pair =
    text pair_tag_field (codes "VSWPAIR1")
    ∷ number generation_field pair.generation
    ∷ number pair_flags_field (from_bool pair.empty)
    ∷ []

-- what the fields of page 0 are filled with
abbrev pub contents_of : Zero → Pair → List ℕ → List Content
contents_of zero pair name = file_contents zero name ++ magic_contents ++ pair_contents pair

-- the page with these contents in their fields, one after the other
abbrev pub with_contents : List ℕ → List Content → List ℕ
with_contents page contents = fold (λ so_far content. filled so_far content.field content.bytes) page contents

-- page 0 of a closed file of a pair: zeros but for its contents
abbrev pub closed_page : Zero → Pair → List ℕ → List ℕ
closed_page zero pair name = with_contents (replicate zero.page_size 0) (contents_of zero pair name)

-- the page with the identifier of an open file
abbrev pub opened : List ℕ → List ℕ
opened page = with_field page identifier_field.at (codes "b0")
