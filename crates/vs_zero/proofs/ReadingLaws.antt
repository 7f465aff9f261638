-- What a page that reads is known to hold, and that only its first 1,048 bytes count. Each law goes by the tests of the refusals in their order.
use Rattle.std.proofs.Common.{◌≡◌, ℕ, ◌+◌, ◌≤◌, Bool, true, false, not, nat_lt, lit≤, if◌then◌else◌, List, ◌++◌, length, Some, None, Result, Ok, Err, codes, refl, ap, arith, length-append}
use Rattle.std.proofs.lemmas.List.{get_or_append_left}
use Rattle.std.proofs.lemmas.Slice.Eq.{bytes_eq-Decides}
use Rattle.std.specs.Option.{option_map_or}
use Rattle.vs_bytes.specs.Fields.{Little, number_of}
use Rattle.vs_bytes.proofs.FieldLaws.{field_at-append_left}
use Rattle.vs_zero.specs.Layout.{Field, identifier_field, page_size_field, flags_field, dirty_field, magic_long_field, magic_int_field, magic_short_field, magic_char_field, pair_tag_field, generation_field, pair_flags_field, bytes_in, byte_in, number_in}
use Rattle.vs_zero.specs.Zero.{is_short, is_encrypted, is_open, has_magic, is_page_size, is_paired, pair_of, fields_of, reading_of}
use Rattle.vs_zero.specs.declared.Zero.{Zero}
use Rattle.vs_zero.specs.declared.ZeroErr.{ZeroErr}
use Rattle.vs_zero.specs.declared.ZeroErr.TheVariants.{Short, Closed, Encrypted, BadMagic, BadPageSize}

-- ---- the identifier

pub open_identifier : (page : List ℕ) → is_open page ≡ true → bytes_in identifier_field page ≡ codes "b0"
unfolding is_open
open_identifier page opened = (bytes_eq-Decides (bytes_in identifier_field page) (codes "b0")).0 opened

pub not_encrypted : (page : List ℕ) → bytes_in identifier_field page ≡ codes "b0" → is_encrypted page ≡ false
unfolding is_encrypted
not_encrypted page is = rw is refl

pub open_not_encrypted : (page : List ℕ) → is_open page ≡ true → is_encrypted page ≡ false
open_not_encrypted page opened = not_encrypted page (open_identifier page opened)

-- ---- a page that reads

pub record Reads (page : List ℕ) (zero : Zero) : Type 0 where
  pub whole : 1048 ≤ length page
  pub identifier : bytes_in identifier_field page ≡ codes "b0"
  pub magic : has_magic page ≡ true
  pub sized : is_page_size (number_in page_size_field page) ≡ true
  pub fields : fields_of page ≡ zero

-- what `reading_of` answers by its tests
abbrev outcome : Bool → Bool → Bool → Bool → Bool → ℕ → Zero → Result Zero ZeroErr
outcome short encrypted opened magic sized size fields =
    option_map_or Err (
    if short then Some Short
    else if encrypted then Some Encrypted
    else if not opened then Some Closed
    else if not magic then Some BadMagic
    else if not sized then Some (BadPageSize size)
    else None
    ) (Ok fields)

accepted : (short encrypted opened magic sized : Bool) (size : ℕ) (fields zero : Zero) → outcome short encrypted opened magic sized size fields ≡ Ok zero
    → (short ≡ false) × (opened ≡ true) × (magic ≡ true) × (sized ≡ true) × (fields ≡ zero)
accepted true encrypted opened magic sized size fields zero is = absurd (cc)
accepted false true opened magic sized size fields zero is = absurd (cc)
accepted false false false magic sized size fields zero is = absurd (cc)
accepted false false true false sized size fields zero is = absurd (cc)
accepted false false true true false size fields zero is = absurd (cc)
accepted false false true true true size fields zero is = (refl, refl, refl, refl, cc)

pub reads : (page : List ℕ) (zero : Zero) → reading_of page ≡ Ok zero → Reads page zero
reads page zero is =
    let size : ℕ = number_in page_size_field page in
    let all = accepted (is_short page) (is_encrypted page) (is_open page) (has_magic page) (is_page_size size) size (fields_of page) zero is in
    record {
      whole = long_enough (length page) all.0;
      identifier = open_identifier page all.1;
      magic = all.2;
      sized = all.3;
      fields = all.4;
    }
  where
    long_enough : (n : ℕ) → nat_lt n 1048 ≡ false → 1048 ≤ n
    long_enough n short = grind (arith, short)

-- ---- what follows the fields does not count

-- a field of a page is that of the page with more after it
kept : (page rest : List ℕ) → 1048 ≤ length page → (field : Field) → field.at + field.width ≤ 1048 → bytes_in field (page ++ rest) ≡ bytes_in field page
kept page rest whole field inside = field_at-append_left page rest field.at field.width (omega arith)

kept_number : (page rest : List ℕ) → 1048 ≤ length page → (field : Field) → field.at + field.width ≤ 1048 → number_in field (page ++ rest) ≡ number_in field page
kept_number page rest whole field inside = ap (number_of Little field.width) (kept page rest whole field inside)

kept_byte : (page rest : List ℕ) → 1048 ≤ length page → (field : Field) → field.at + 1 ≤ 1048 → byte_in field (page ++ rest) ≡ byte_in field page
kept_byte page rest whole field inside = get_or_append_left page rest 0 field.at (omega arith)

kept_magic : (page rest : List ℕ) → 1048 ≤ length page → has_magic (page ++ rest) ≡ has_magic page
unfolding has_magic
kept_magic page rest whole =
    rw (
      kept_number page rest whole magic_long_field (lit≤ tt),
      kept_number page rest whole magic_int_field (lit≤ tt),
      kept_number page rest whole magic_short_field (lit≤ tt),
      kept_byte page rest whole magic_char_field (lit≤ tt),
    ) refl

kept_fields : (page rest : List ℕ) → 1048 ≤ length page → fields_of (page ++ rest) ≡ fields_of page
unfolding fields_of pair_of is_paired
kept_fields page rest whole =
    rw (
      kept_number page rest whole page_size_field (lit≤ tt),
      kept_byte page rest whole flags_field (lit≤ tt),
      kept_byte page rest whole dirty_field (lit≤ tt),
      kept page rest whole pair_tag_field (lit≤ tt),
      kept_number page rest whole generation_field (lit≤ tt),
      kept_number page rest whole pair_flags_field (lit≤ tt),
    ) refl

pub reading_of-append : (page rest : List ℕ) → 1048 ≤ length page → reading_of (page ++ rest) ≡ reading_of page
unfolding is_encrypted is_open
reading_of-append page rest whole =
    let long : is_short (page ++ rest) ≡ false = grind (arith, length-append page rest) in
    let enough : is_short page ≡ false = grind (arith, whole) in
    rw (
      long,
      enough,
      kept page rest whole identifier_field (lit≤ tt),
      kept_magic page rest whole,
      kept_number page rest whole page_size_field (lit≤ tt),
      kept_fields page rest whole,
    ) refl
