-- A page that `write_closed` left does not read, and reads back once it has the identifier of an open file: each field is one of the contents that were filled in.
use Rattle.std.proofs.Common.{◌≡◌, ℕ, ◌+◌, ◌-◌, ◌%◌, ◌<◌, ◌≤◌, ◌^◌, ◌⊎◌, ◌==◌, ◌&&◌, Bool, true, false, IsTrue, nat_le, not, if◌then◌else◌, List, [], ◌∷◌, ◌++◌, length, slice_index, get_or, inl, inr, take, drop, replicate, Some, None, Ok, Err, codes, refl, sym, ap, ◌∙◌, arith, lit≤, lit<, length-append}
use Rattle.std.specs.Int.{from_bool}
use Rattle.std.specs.List.{before_first, list_all, position_or_len}
use Rattle.std.proofs.lemmas.Bool.{cases_Bool}
use Rattle.std.proofs.lemmas.List.Folds.{list_all_at}
use Rattle.std.proofs.lemmas.List.Sums.{position_or_len_is}
use Rattle.std.proofs.lemmas.List.{drop-replicate, get_or-append_right, get_or-replicate, get_or_append_left, length-replicate, take-replicate, take_at}
use Rattle.vs_bytes.specs.Fields.{Little, field_at, number_of}
use Rattle.vs_bytes.proofs.FieldLaws.{field_at-with_field_wide, length-bytes_of, number_of-bytes_of, slice_index-field_at}
use Rattle.vs_zero.specs.Layout.{Field, identifier_field, version_field, page_size_field, file_name_field, flags_field, dirty_field, magic_long_field, magic_int_field, magic_short_field, magic_char_field, pair_tag_field, generation_field, pair_flags_field, bytes_in, byte_in, number_in, filled}
use Rattle.vs_zero.specs.Name.{is_allowed, is_name_byte, is_reserved}
use Rattle.vs_zero.specs.Zero.{Content, byte, number, text, contents_of, file_contents, magic_contents, pair_contents, with_contents, closed_page, opened, is_short, is_encrypted, is_open, has_magic, is_page_size, is_paired, refusal_of, pair_of, fields_of, reading_of, name_of}
use Rattle.vs_zero.specs.declared.Pair.{Pair}
use Rattle.vs_zero.specs.declared.Zero.{Zero}
use Rattle.vs_zero.specs.declared.ZeroErr.TheVariants.{Closed}
use Rattle.vs_zero.proofs.ReadingLaws.{not_encrypted}
use Rattle.vs_zero.proofs.Contents.{AllFit, AllFit-append, all_apart, and_left, and_right, fits_number, fits_text, length-with_contents, field_at-with_contents, field_at-with_contents_apart}

-- what is asked of the values that are written
pub record IsWritable (zero : Zero) (pair : Pair) (name : List ℕ) : Type 0 where
  pub sized : zero.page_size ≡ 4096
  pub short : length name ≤ 200
  pub paired : zero.pair ≡ Some pair
  pub counted : pair.generation < 2 ^ 64

-- the contents of an open page
abbrev open_contents : Zero → Pair → List ℕ → List Content
open_contents zero pair name = contents_of zero pair name ++ (text identifier_field (codes "b0") ∷ [])

opened_is : (zero : Zero) (pair : Pair) (name : List ℕ) → opened (closed_page zero pair name) ≡ with_contents (replicate zero.page_size 0) (open_contents zero pair name)
unfolding filled
opened_is zero pair name = refl

file_fit : (zero : Zero) (name : List ℕ) → length name ≤ 200 → AllFit 4096 (file_contents zero name)
file_fit zero name short = (
  fits_text version_field (codes "VIM 9.0") (lit≤ tt) (lit≤ tt),
  (
    fits_number page_size_field zero.page_size (lit≤ tt),
    (
      fits_text file_name_field name (lit≤ tt) (omega arith),
      (
        fits_text flags_field ((4 + zero.format) ∷ []) (lit≤ tt) (lit≤ tt),
        (fits_text dirty_field ((if zero.dirty then 0x55 else 0) ∷ []) (lit≤ tt) (lit≤ tt), tt),
      ),
    ),
  ),
)

magic_fit : AllFit 4096 magic_contents
magic_fit = (
  fits_number magic_long_field 0x30313233 (lit≤ tt),
  (
    fits_number magic_int_field 0x20212223 (lit≤ tt),
    (fits_number magic_short_field 0x1213 (lit≤ tt), (fits_text magic_char_field (0x55 ∷ []) (lit≤ tt) (lit≤ tt), tt)),
  ),
)

pair_fit : (pair : Pair) → AllFit 4096 (pair_contents pair)
pair_fit pair = (
  fits_text pair_tag_field (codes "VSWPAIR1") (lit≤ tt) (lit≤ tt),
  (
    fits_number generation_field pair.generation (lit≤ tt),
    (fits_number pair_flags_field (from_bool pair.empty) (lit≤ tt), tt),
  ),
)

closed_fit : (zero : Zero) (pair : Pair) (name : List ℕ) → length name ≤ 200 → AllFit 4096 (contents_of zero pair name)
closed_fit zero pair name short =
    AllFit-append 4096 (file_contents zero name ++ magic_contents) (pair_contents pair)
    (AllFit-append 4096 (file_contents zero name) magic_contents (file_fit zero name short) magic_fit)
    (pair_fit pair)

open_fit : (zero : Zero) (pair : Pair) (name : List ℕ) → length name ≤ 200 → AllFit 4096 (open_contents zero pair name)
open_fit zero pair name short =
    AllFit-append 4096 (contents_of zero pair name) (text identifier_field (codes "b0") ∷ [])
    (closed_fit zero pair name short)
    (fits_text identifier_field (codes "b0") (lit≤ tt) (lit≤ tt), tt)

open_apart : (zero : Zero) (pair : Pair) (name : List ℕ) → all_apart (open_contents zero pair name) ≡ true
open_apart zero pair name = refl

-- the k-th of the contents of an open page stands in it
open_field : (zero : Zero) (pair : Pair) (name : List ℕ) → IsWritable zero pair name → (k n : ℕ) (content : Content) → k < 13
    → content ≡ get_or (open_contents zero pair name) k content → length content.bytes ≡ n
    → field_at (opened (closed_page zero pair name)) content.field.at n ≡ content.bytes
open_field zero pair name good k n content inside is wide =
    let blank : List ℕ = replicate zero.page_size 0 in
    let whole : length blank ≡ 4096 = length-replicate zero.page_size 0 ∙ good.sized in
    ap (λ (page : List ℕ). field_at page content.field.at n) (opened_is zero pair name)
    ∙ field_at-with_contents 4096 blank (open_contents zero pair name) k n content whole (open_fit zero pair name good.short) (open_apart zero pair name) inside is wide

open_number : (zero : Zero) (pair : Pair) (name : List ℕ) → IsWritable zero pair name → (k : ℕ) (field : Field) (value : ℕ) → k < 13
    → number field value ≡ get_or (open_contents zero pair name) k (number field value) → value < 256 ^ field.width
    → number_in field (opened (closed_page zero pair name)) ≡ value
open_number zero pair name good k field value inside is fits =
    ap (number_of Little field.width) (open_field zero pair name good k field.width (number field value) inside is (length-bytes_of Little field.width value))
    ∙ number_of-bytes_of Little field.width value fits

open_byte : (zero : Zero) (pair : Pair) (name : List ℕ) → IsWritable zero pair name → (k : ℕ) (field : Field) (value : ℕ) → k < 13
    → byte field value ≡ get_or (open_contents zero pair name) k (byte field value)
    → byte_in field (opened (closed_page zero pair name)) ≡ value
open_byte zero pair name good k field value inside is =
    let page : List ℕ = opened (closed_page zero pair name) in
    let first : slice_index (field_at page field.at 1) 0 ≡ slice_index page (field.at + 0) = slice_index-field_at page field.at 1 0 (lit< tt) in
    let here : field.at + 0 ≡ field.at = omega arith in
    ap (slice_index page) (sym here) ∙ sym first ∙ ap (λ (bytes : List ℕ). slice_index bytes 0) (open_field zero pair name good k 1 (byte field value) inside is refl)

-- ---- what a page reads as

reads_ok : (page : List ℕ) (zero : Zero) → refusal_of page ≡ None → fields_of page ≡ zero → reading_of page ≡ Ok zero
reads_ok page zero none same = rw (none, same) refl

not_refused : (page : List ℕ) → is_short page ≡ false → is_encrypted page ≡ false → is_open page ≡ true → has_magic page ≡ true
    → is_page_size (number_in page_size_field page) ≡ true → refusal_of page ≡ None
not_refused page whole clear opened magic sized = rw (whole, clear, opened, magic, sized) refl

open_is_open : (page : List ℕ) → bytes_in identifier_field page ≡ codes "b0" → is_open page ≡ true
unfolding is_open
open_is_open page is = rw is refl

magic_is_magic : (page : List ℕ) → number_in magic_long_field page ≡ 0x30313233 → number_in magic_int_field page ≡ 0x20212223
    → number_in magic_short_field page ≡ 0x1213 → byte_in magic_char_field page ≡ 0x55 → has_magic page ≡ true
unfolding has_magic
magic_is_magic page long int short char = rw (long, int, short, char) refl

tag_is_pair : (page : List ℕ) → bytes_in pair_tag_field page ≡ codes "VSWPAIR1" → is_paired page ≡ true
unfolding is_paired
tag_is_pair page is = rw is refl

-- the marks that are written read as what they mark
format_of : (format : ℕ) → (format ≡ 1) ⊎ (format ≡ 2) → (4 + format) % 4 ≡ format
format_of format (inl unix) = rw unix refl
format_of format (inr dos) = rw dos refl

dirty_of : (dirty : Bool) → ((if dirty then 0x55 else 0) == 0x55) ≡ dirty
dirty_of true = refl
dirty_of false = refl

empty_of : (empty : Bool) → (from_bool empty % 2 == 1) ≡ empty
empty_of true = refl
empty_of false = refl

-- ---- the round trip

magic_written : (zero : Zero) (pair : Pair) (name : List ℕ) → IsWritable zero pair name → has_magic (opened (closed_page zero pair name)) ≡ true
magic_written zero pair name good =
    magic_is_magic (opened (closed_page zero pair name))
    (open_number zero pair name good 5 magic_long_field 0x30313233 (lit< tt) refl (lit< tt))
    (open_number zero pair name good 6 magic_int_field 0x20212223 (lit< tt) refl (lit< tt))
    (open_number zero pair name good 7 magic_short_field 0x1213 (lit< tt) refl (lit< tt))
    (open_byte zero pair name good 8 magic_char_field 0x55 (lit< tt) refl)

pair_written : (zero : Zero) (pair : Pair) (name : List ℕ) → IsWritable zero pair name → pair_of (opened (closed_page zero pair name)) ≡ Some pair
unfolding pair_of
pair_written zero pair name good =
    let page : List ℕ = opened (closed_page zero pair name) in
    let tag : is_paired page ≡ true = tag_is_pair page (open_field zero pair name good 9 8 (text pair_tag_field (codes "VSWPAIR1")) (lit< tt) refl refl) in
    let generation : number_in generation_field page ≡ pair.generation = open_number zero pair name good 10 generation_field pair.generation (lit< tt) refl good.counted in
    let flags : number_in pair_flags_field page ≡ from_bool pair.empty =
    open_number zero pair name good 11 pair_flags_field (from_bool pair.empty) (lit< tt) refl (flag_fits pair.empty) in
    rw (tag, generation, flags, empty_of pair.empty) refl
  where
    flag_fits : (empty : Bool) → from_bool empty < 256 ^ 4
    flag_fits true = lit< tt
    flag_fits false = lit< tt

-- what was written is read, once the identifier is that of an open file; of the format as many bits as are read
pub opened_says : (zero : Zero) (pair : Pair) (name : List ℕ) → IsWritable zero pair name
    → reading_of (opened (closed_page zero pair name)) ≡ Ok record zero { format = (4 + zero.format) % 4 }
unfolding fields_of
opened_says zero pair name good =
    let page : List ℕ = opened (closed_page zero pair name) in
    let whole : length page ≡ 4096 =
    ap length (opened_is zero pair name)
    ∙ length-with_contents 4096 (replicate zero.page_size 0) (open_contents zero pair name) (length-replicate zero.page_size 0 ∙ good.sized) (open_fit zero pair name good.short) in
    let identifier : bytes_in identifier_field page ≡ codes "b0" = open_field zero pair name good 12 2 (text identifier_field (codes "b0")) (lit< tt) refl refl in
    let size : number_in page_size_field page ≡ zero.page_size =
    open_number zero pair name good 1 page_size_field zero.page_size (lit< tt) refl (rw good.sized (lit< tt)) in
    let long_enough : is_short page ≡ false = rw whole refl in
    let in_range : is_page_size (number_in page_size_field page) ≡ true = rw (size, good.sized) refl in
    let format : byte_in flags_field page % 4 ≡ (4 + zero.format) % 4 =
    ap (λ (flags : ℕ). flags % 4) (open_byte zero pair name good 3 flags_field (4 + zero.format) (lit< tt) refl) in
    let dirty : (byte_in dirty_field page == 0x55) ≡ zero.dirty =
    ap (λ (mark : ℕ). mark == 0x55) (open_byte zero pair name good 4 dirty_field (if zero.dirty then 0x55 else 0) (lit< tt) refl) ∙ dirty_of zero.dirty in
    let paired : pair_of page ≡ zero.pair = pair_written zero pair name good ∙ sym good.paired in
    reads_ok page (record zero { format = (4 + zero.format) % 4 })
    (not_refused page long_enough (not_encrypted page identifier) (open_is_open page identifier) (magic_written zero pair name good) in_range)
    (rw (size, format, dirty, paired) refl)

-- a format that is written is read as it is
pub opened_reads : (zero : Zero) (pair : Pair) (name : List ℕ) → IsWritable zero pair name → (zero.format ≡ 1) ⊎ (zero.format ≡ 2)
    → reading_of (opened (closed_page zero pair name)) ≡ Ok zero
opened_reads zero pair name good known = opened_says zero pair name good ∙ ap (λ (n : ℕ). Ok record zero { format = n }) (format_of zero.format known)

-- what was written has two zero bytes for an identifier, and so is refused as closed
pub closed_refused : (zero : Zero) (pair : Pair) (name : List ℕ) → IsWritable zero pair name → reading_of (closed_page zero pair name) ≡ Err Closed
unfolding is_encrypted is_open
closed_refused zero pair name good =
    let blank : List ℕ = replicate zero.page_size 0 in
    let page : List ℕ = closed_page zero pair name in
    let filled_whole : length blank ≡ 4096 = length-replicate zero.page_size 0 ∙ good.sized in
    let whole : length page ≡ 4096 = length-with_contents 4096 blank (contents_of zero pair name) filled_whole (closed_fit zero pair name good.short) in
    let kept : field_at page 0 2 ≡ field_at blank 0 2 =
    field_at-with_contents_apart 4096 blank (contents_of zero pair name) 0 2 2 filled_whole (closed_fit zero pair name good.short) refl (lit≤ tt) in
    let zeros : field_at page 0 2 ≡ 0 ∷ 0 ∷ [] = kept ∙ take-replicate 2 zero.page_size 0 (omega (arith, good.sized)) in
    let long_enough : is_short page ≡ false = rw whole refl in
    let clear : is_encrypted page ≡ false = rw zeros refl in
    let closed : is_open page ≡ false = rw zeros refl in
    rw (long_enough, clear, closed) refl

-- ---- the name

-- no byte of an allowed name is zero
name_bytes : (name : List ℕ) → IsTrue (is_allowed name) → (k : ℕ) → k < length name → (get_or name k 0 == 0) ≡ false
name_bytes name allowed k inside =
    let all : list_all is_name_byte name ≡ true =
    and_left (list_all is_name_byte name) (not (is_reserved name)) (
    and_right (nat_le 1 (length name) && nat_le (length name) 200) (list_all is_name_byte name && not (is_reserved name)) allowed
    ) in
    elim (cases_Bool (is_name_byte (get_or name k 0))) [
      | inl fine ↦ not_zero (get_or name k 0) fine
      | inr bad ↦ cc (list_all_at is_name_byte name k 0 inside bad)
    ]
  where
    not_zero : (byte : ℕ) → is_name_byte byte ≡ true → (byte == 0) ≡ false
    not_zero byte fine = grind (arith, fine)

-- a name with zeros after it ends at the first of them
name_before_zeros : (name : List ℕ) (n : ℕ) → ((k : ℕ) → k < length name → (get_or name k 0 == 0) ≡ false)
    → before_first (λ byte. byte == 0) (name ++ replicate n 0) ≡ name
name_before_zeros name n each =
    let is_zero = λ (byte : ℕ). byte == 0 in
    let all : List ℕ = name ++ replicate n 0 in
    let long : length all ≡ length name + n = length-append name (replicate n 0) ∙ ap (λ (m : ℕ). length name + m) (length-replicate n 0) in
    let first : position_or_len is_zero all ≡ length name =
    position_or_len_is is_zero all (length name) 0 (omega arith)
    (λ k inside. ap is_zero (get_or_append_left name (replicate n 0) 0 k inside) ∙ each k inside)
    (
    λ more.
    ap is_zero (get_or-append_right name (replicate n 0) (length name) (length name) 0 refl (omega arith))
    ∙ ap is_zero (get_or-replicate n (length name - length name) 0 0 (omega arith))
    ) in
    ap (λ (k : ℕ). take k all) first ∙ take_at name (replicate n 0) (length name) refl

-- what was written as the name is the name
pub opened_name : (zero : Zero) (pair : Pair) (name : List ℕ) → IsWritable zero pair name → IsTrue (is_allowed name) → name_of (opened (closed_page zero pair name)) ≡ name
unfolding filled
opened_name zero pair name good allowed =
    let blank : List ℕ = replicate zero.page_size 0 in
    let first : List Content = take 2 (open_contents zero pair name) in
    let rest : List Content = drop 3 (open_contents zero pair name) in
    let fit = open_fit zero pair name good.short in
    let blank_whole : length blank ≡ 4096 = length-replicate zero.page_size 0 ∙ good.sized in
    let before : List ℕ = with_contents blank first in
    let before_whole : length before ≡ 4096 = length-with_contents 4096 blank first blank_whole (fit.0, (fit.1.0, tt)) in
    let named : List ℕ = filled before file_name_field name in
    let named_whole : length named ≡ 4096 = length-with_contents 4096 before (text file_name_field name ∷ []) before_whole (fit.1.1.0, tt) in
    let after : field_at (opened (closed_page zero pair name)) 108 898 ≡ field_at named 108 898 =
    ap (λ (page : List ℕ). field_at page 108 898) (opened_is zero pair name) ∙ field_at-with_contents_apart 4096 named rest 108 898 898 named_whole fit.1.1.1 refl (lit≤ tt) in
    let wide : field_at named 108 898 ≡ name ++ drop (length name) (field_at before 108 898) =
    field_at-with_field_wide before 108 name 898 (omega arith) (omega (arith, good.short)) in
    let zeros : field_at before 108 898 ≡ replicate 898 0 =
    field_at-with_contents_apart 4096 blank first 108 898 898 blank_whole (fit.0, (fit.1.0, tt)) refl (lit≤ tt)
    ∙ ap (take 898) (drop-replicate 108 zero.page_size 0) ∙ take-replicate 898 (zero.page_size - 108) 0 (omega (arith, good.sized)) in
    let whole : field_at (opened (closed_page zero pair name)) 108 898 ≡ name ++ replicate (898 - length name) 0 =
    after ∙ wide ∙ ap (λ (field : List ℕ). name ++ drop (length name) field) zeros ∙ ap (λ (rest : List ℕ). name ++ rest) (drop-replicate (length name) 898 0) in
    ap (before_first (λ byte. byte == 0)) whole ∙ name_before_zeros name (898 - length name) (name_bytes name allowed)
