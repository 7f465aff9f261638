-- What a field holds after a write to it or beside it, and a field of a list that is cut or joined: all are laws of `take`, `drop` and `++`.
use Rattle.std.proofs.Common.{◌≡◌, ℕ, ◌+◌, ◌-◌, ◌<◌, ◌≤◌, ◌^◌, ◌⊎◌, ℤ, List, [], ◌++◌, length, take, drop, slice_index, FitsSigned, refl, sym, ap, ◌∙◌, arith, inl, inr, length-append, length-drop}
use Rattle.std.proofs.lemmas.List.{append_assoc, length-take-le, take_at, take-take, drop_at, drop-drop, drop-take, take-append-le, get_or-take, get_or-drop, get_or_past, length-take}
use Rattle.std.proofs.Math.Seq.{take-append-add}
use Rattle.std.proofs.lemmas.Bool.{cases_lt}
use Rattle.std.proofs.lemmas.Int.{to_z-of_z}
use Rattle.std.proofs.Math.Facts.{Fits-of_z, sfits_to_z}
use Rattle.std.specs.Int.{Width, w8, w16, w32, w64, w128, byte_len, cast_signed, cast_unsigned}
use mir.Val.{bits}
use Rattle.byteorder.specs.Numbers.{big_from-lt, big_from-append, big_number-reads_back, length-bytes_high_first, length-bytes_low_first, little_from-append, little_from-lt, little_number-reads_back}
use Rattle.vs_bytes.specs.Fields.{Order, Little, Big, field_at, with_field, number_of, bytes_of, number_at, with_number, signed_at, with_signed}

-- ---- a number and its bytes

-- a number has as many bytes as its field is wide
pub length-bytes_of : (order : Order) (width value : ℕ) → length (bytes_of order width value) ≡ width
unfolding bytes_of
length-bytes_of Little width value = length-bytes_low_first 0 width value
length-bytes_of Big width value = length-bytes_high_first width value

-- the bytes of a number stand for it
pub number_of-bytes_of : (order : Order) (width value : ℕ) → value < 256 ^ width → number_of order width (bytes_of order width value) ≡ value
unfolding number_of bytes_of
number_of-bytes_of Little width value fits =
    let bytes : List ℕ = bytes_of Little width value in
    sym (little_from-append width bytes [] (omega (arith, length-bytes_of Little width value))) ∙ little_number-reads_back width value [] fits
number_of-bytes_of Big width value fits =
    let bytes : List ℕ = bytes_of Big width value in
    sym (big_from-append width bytes [] (omega (arith, length-bytes_of Big width value))) ∙ big_number-reads_back width value [] fits

-- no number reaches the first that its field cannot hold
pub number_of-below : (order : Order) (width : ℕ) (field : List ℕ) → ((i : ℕ) → slice_index field i < 256) → number_of order width field < 256 ^ width
unfolding number_of
number_of-below Little width field bytes = little_from-lt 0 width field bytes
number_of-below Big width field bytes = big_from-lt 0 width field bytes

-- ---- the parts of a list

-- a field within the list has its whole width
pub length-field_at : (bytes : List ℕ) (at width : ℕ) → at + width ≤ length bytes → length (field_at bytes at width) ≡ width
length-field_at bytes at width within = length-take-le width (drop at bytes) (omega (arith, length-drop {A = ℕ}))

-- a byte of a field is a byte of the list
pub slice_index-field_at : (bytes : List ℕ) (at width i : ℕ) → i < width → slice_index (field_at bytes at width) i ≡ slice_index bytes (at + i)
slice_index-field_at bytes at width i inside = get_or-take width (drop at bytes) i 0 inside ∙ get_or-drop at bytes i 0

-- a write keeps the length
pub length-with_field : (bytes : List ℕ) (at : ℕ) (field : List ℕ) → at + length field ≤ length bytes → length (with_field bytes at field) ≡ length bytes
length-with_field bytes at field within =
    omega (arith, length-append {A = ℕ}, length-drop {A = ℕ}, length-take-le at bytes (omega arith))

-- a write leaves what stands before its field
pub take-with_field : (bytes : List ℕ) (at : ℕ) (field : List ℕ) (n : ℕ) → at ≤ length bytes → n ≤ at → take n (with_field bytes at field) ≡ take n bytes
take-with_field bytes at field n within before =
    let front : List ℕ = take at bytes in
    let rest : List ℕ = field ++ drop (at + length field) bytes in
    let room : n ≤ length front = omega (arith, length-take-le at bytes within) in
    rw append_assoc (take-append-le n front rest room ∙ take-take n at bytes before)

-- a write leaves what stands after its field
pub drop-with_field : (bytes : List ℕ) (at : ℕ) (field : List ℕ) (n : ℕ) → at ≤ length bytes → at + length field ≤ n → drop n (with_field bytes at field) ≡ drop n bytes
drop-with_field bytes at field n within after =
    let end : ℕ = at + length field in
    let front : List ℕ = take at bytes ++ field in
    let whole : length front ≡ end = omega (arith, length-append {A = ℕ}, length-take-le at bytes within) in
    let split : n ≡ end + (n - end) = omega arith in
    rw split (
    sym (drop-drop (n - end) end (front ++ drop end bytes)) ∙ ap (drop (n - end)) (drop_at front (drop end bytes) end whole)
    ∙ drop-drop (n - end) end bytes
    )

-- ---- a field after a write

-- it reads back what was written to it
pub field_at-with_field : (bytes : List ℕ) (at : ℕ) (field : List ℕ) (width : ℕ) → at ≤ length bytes → length field ≡ width → field_at (with_field bytes at field) at width ≡ field
field_at-with_field bytes at field width within wide =
    let front : List ℕ = take at bytes in
    let rest : List ℕ = drop (at + length field) bytes in
    let from : drop at ((front ++ field) ++ rest) ≡ field ++ rest =
    rw append_assoc (drop_at front (field ++ rest) at (length-take-le at bytes within)) in
    rw from (take_at field rest width wide)

-- a wider field begins with what was written to its place, and goes on as before
pub field_at-with_field_wide : (bytes : List ℕ) (at : ℕ) (field : List ℕ) (width : ℕ) → at ≤ length bytes → length field ≤ width
    → field_at (with_field bytes at field) at width ≡ field ++ drop (length field) (field_at bytes at width)
field_at-with_field_wide bytes at field width within short =
    let front : List ℕ = take at bytes in
    let rest : List ℕ = drop (at + length field) bytes in
    let n : ℕ = length field in
    let from : drop at ((front ++ field) ++ rest) ≡ field ++ rest =
    rw append_assoc (drop_at front (field ++ rest) at (length-take-le at bytes within)) in
    let split : width ≡ n + (width - n) = omega arith in
    let behind : take (width - n) rest ≡ drop n (take (n + (width - n)) (drop at bytes)) =
    rw (drop-take n (width - n) (drop at bytes), drop-drop n at bytes) refl in
    rw (from, split, take-append-add field rest (width - n), behind) refl

-- another field is as it was: it ends before the place of the write, or begins after its end
pub field_at-with_field_apart : (bytes : List ℕ) (at : ℕ) (field : List ℕ) (place width : ℕ) → at ≤ length bytes
    → (place + width ≤ at) ⊎ (at + length field ≤ place)
    → field_at (with_field bytes at field) place width ≡ field_at bytes place width
field_at-with_field_apart bytes at field place width within (inl before) =
    sym (drop-take place width (with_field bytes at field))
    ∙ ap (drop place) (take-with_field bytes at field (place + width) within before)
    ∙ drop-take place width bytes
field_at-with_field_apart bytes at field place width within (inr after) =
    ap (take width) (drop-with_field bytes at field place within after)

-- ---- a number after a write

-- a write keeps the length
pub length-with_number : (order : Order) (width : ℕ) (bytes : List ℕ) (at value : ℕ) → at + width ≤ length bytes → length (with_number order width bytes at value) ≡ length bytes
length-with_number order width bytes at value within =
    length-with_field bytes at (bytes_of order width value) (omega (arith, length-bytes_of order width value))

-- the field reads back the number that was written to it
pub number_at-with_number : (order : Order) (width : ℕ) (bytes : List ℕ) (at value : ℕ) → at + width ≤ length bytes → value < 256 ^ width
    → number_at order width (with_number order width bytes at value) at ≡ value
number_at-with_number order width bytes at value within fits =
    ap (number_of order width) (field_at-with_field bytes at (bytes_of order width value) width (omega arith) (length-bytes_of order width value))
    ∙ number_of-bytes_of order width value fits

-- the number in another field, of any width and order, is as it was
pub number_at-with_number_apart : (order : Order) (width : ℕ) (bytes : List ℕ) (at value : ℕ) (other : Order) (n place : ℕ) → at + width ≤ length bytes
    → (place + n ≤ at) ⊎ (at + width ≤ place)
    → number_at other n (with_number order width bytes at value) place ≡ number_at other n bytes place
number_at-with_number_apart order width bytes at value other n place within apart =
    let wide : length (bytes_of order width value) ≡ width = length-bytes_of order width value in
    ap (number_of other n) (field_at-with_field_apart bytes at (bytes_of order width value) place n (omega arith) (rw wide apart))

-- a field holds a number of its width
pub number_at-below : (order : Order) (width : ℕ) (bytes : List ℕ) (at : ℕ) → ((i : ℕ) → slice_index bytes i < 256) → number_at order width bytes at < 256 ^ width
number_at-below order width bytes at each =
    number_of-below order width (field_at bytes at width) (λ i. elim (cases_lt i width) [
      | inl inside ↦ rw (slice_index-field_at bytes at width i inside) (each (at + i))
      | inr outside ↦
          let past : length (field_at bytes at width) ≤ i = omega (arith, length-take {A = ℕ}) in
          rw (get_or_past (field_at bytes at width) i 0 past) (omega arith)
    ])

-- ---- a whole number with its sign

-- as many bytes as its type has stand for the numbers of that many bits
pub pow-byte_len : (w : Width) → 256 ^ byte_len w ≡ 2 ^ bits w
pow-byte_len w8 = refl
pow-byte_len w16 = refl
pow-byte_len w32 = refl
pow-byte_len w64 = refl
pow-byte_len w128 = refl

-- a write keeps the length
pub length-with_signed : (order : Order) (w : Width) (bytes : List ℕ) (at : ℕ) (value : ℤ) → at + byte_len w ≤ length bytes → length (with_signed order w bytes at value) ≡ length bytes
length-with_signed order w bytes at value within = length-with_number order (byte_len w) bytes at (cast_unsigned w value) within

-- the field reads back the whole number that was written to it
pub signed_at-with_signed : (order : Order) (w : Width) (bytes : List ℕ) (at : ℕ) (value : ℤ) → at + byte_len w ≤ length bytes → FitsSigned w value
    → signed_at order w (with_signed order w bytes at value) at ≡ value
signed_at-with_signed order w bytes at value within fits =
    let bits_fit : cast_unsigned w value < 256 ^ byte_len w = rw (pow-byte_len w) (Fits-of_z fits).fits in
    ap (cast_signed w) (number_at-with_number order (byte_len w) bytes at (cast_unsigned w value) within bits_fit) ∙ to_z-of_z w value fits

-- a field holds a whole number of its width
pub signed_at-fits : (order : Order) (w : Width) (bytes : List ℕ) (at : ℕ) → ((i : ℕ) → slice_index bytes i < 256) → FitsSigned w (signed_at order w bytes at)
signed_at-fits order w bytes at each =
    let below : number_at order (byte_len w) bytes at < 2 ^ bits w = rw (← pow-byte_len w) (number_at-below order (byte_len w) bytes at each) in
    sfits_to_z (record { fits = below })

-- ---- a field of a list that is cut or joined

-- a field of what is left after a cut
pub field_at-drop : (bytes : List ℕ) (n at width : ℕ) → field_at (drop n bytes) at width ≡ field_at bytes (n + at) width
field_at-drop bytes n at width = ap (take width) (drop-drop at n bytes)

-- a field of the front that was cut off
pub field_at-take : (bytes : List ℕ) (n at width : ℕ) → at + width ≤ n → field_at (take n bytes) at width ≡ field_at bytes at width
field_at-take bytes n at width within =
    sym (drop-take at width (take n bytes)) ∙ ap (drop at) (take-take (at + width) n bytes within) ∙ drop-take at width bytes

-- a field within the first of two lists
pub field_at-append_left : (front rest : List ℕ) (at width : ℕ) → at + width ≤ length front → field_at (front ++ rest) at width ≡ field_at front at width
field_at-append_left front rest at width within =
    sym (drop-take at width (front ++ rest)) ∙ ap (drop at) (take-append-le (at + width) front rest within) ∙ drop-take at width front

-- a field within the second of two lists
pub field_at-append_right : (front rest : List ℕ) (at width place : ℕ) → place ≡ length front + at → field_at (front ++ rest) place width ≡ field_at rest at width
field_at-append_right front rest at width place same =
    rw same (ap (take width) (sym (drop-drop at (length front) (front ++ rest)) ∙ ap (drop at) (drop_at front rest (length front) refl)))

-- a write between two lists, over a field of the same width
pub with_field-append : (front old rest field : List ℕ) (at : ℕ) → at ≡ length front → length old ≡ length field → with_field ((front ++ old) ++ rest) at field ≡ (front ++ field) ++ rest
with_field-append front old rest field at same wide =
    let ahead : take at ((front ++ old) ++ rest) ≡ front = rw append_assoc (take_at front (old ++ rest) at (sym same)) in
    let end : length (front ++ old) ≡ at + length field = omega (arith, length-append {A = ℕ}) in
    rw (ahead, drop_at (front ++ old) rest (at + length field) end) refl
