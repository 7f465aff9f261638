-- What the header that a call writes reads as: each field by its own bytes.
use Rattle.std.proofs.Common.{◌≡◌, ℕ, ◌+◌, ◌^◌, ◌<◌, ◌≤◌, List, [], ◌++◌, length, take, refl, sym, ap, ◌∙◌, arith, length-append}
use Rattle.std.proofs.lemmas.List.{take_all}
use Rattle.vs_bytes.specs.Fields.{Little, bytes_of, field_at, number_at, number_of, with_field}
use Rattle.vs_bytes.proofs.FieldLaws.{field_at-append_left, field_at-append_right, field_at-take, length-bytes_of, number_of-bytes_of}
use Rattle.vs_data.specs.declared.DataView.{DataView}
use Rattle.vs_data.specs.Blocks.{count_in, free_field, free_space, header_of, text_end_in, text_start_in, view_of}
use Rattle.vs_data.proofs.Moves.{Keeps, field_within, kept_by_write}

-- the header's fields are those of the view, and all after the header stays
pub record HasHeader (old new : List ℕ) (view : DataView) : Type 0 where
  pub free : free_field new ≡ free_space view
  pub start : text_start_in new ≡ view.text_start
  pub end : text_end_in new ≡ view.text_end
  pub count : count_in new ≡ view.count
  pub keeps : Keeps old new 4 24

-- a number that stands last in a list of bytes
pub number_last : (front : List ℕ) (width value at : ℕ) → at ≡ length front → value < 256 ^ width → number_at Little width (front ++ bytes_of Little width value) at ≡ value
number_last front width value at place fits =
    let bytes : List ℕ = bytes_of Little width value in
    let wide : length bytes ≡ width = length-bytes_of Little width value in
    ap (number_of Little width) (field_at-append_right front bytes 0 width at (omega arith) ∙ take_all width bytes (omega arith))
    ∙ number_of-bytes_of Little width value fits

-- and one that stands before others
pub number_ahead : (front rest : List ℕ) (width at : ℕ) → at + width ≤ length front → number_at Little width (front ++ rest) at ≡ number_at Little width front at
number_ahead front rest width at within = ap (number_of Little width) (field_at-append_left front rest at width within)

pub length-header_of : (view : DataView) → length (header_of view) ≡ 20
length-header_of view =
    omega (
      arith,
      length-append {A = ℕ},
      length-bytes_of Little 4 (free_space view),
      length-bytes_of Little 4 view.text_start,
      length-bytes_of Little 4 view.text_end,
      length-bytes_of Little 8 view.count,
    )

pub header_written : (old : List ℕ) (view : DataView) → 24 ≤ length old → view.count < 2 ^ 32 → view.text_start < 2 ^ 32 → view.text_end < 2 ^ 32
    → HasHeader old (with_field old 4 (header_of view)) view
header_written old view within count_fits start_fits end_fits =
    let free : List ℕ = bytes_of Little 4 (free_space view) in
    let start : List ℕ = bytes_of Little 4 view.text_start in
    let end : List ℕ = bytes_of Little 4 view.text_end in
    let count : List ℕ = bytes_of Little 8 view.count in
    let free_wide : length free ≡ 4 = length-bytes_of Little 4 (free_space view) in
    let start_wide : length start ≡ 4 = length-bytes_of Little 4 view.text_start in
    let end_wide : length end ≡ 4 = length-bytes_of Little 4 view.text_end in
    let count_wide : length count ≡ 8 = length-bytes_of Little 8 view.count in
    let two_wide : length (free ++ start) ≡ 8 = omega (arith, length-append {A = ℕ}) in
    let three_wide : length ((free ++ start) ++ end) ≡ 12 = omega (arith, length-append {A = ℕ}) in
    let wide : length (header_of view) ≡ 20 = omega (arith, length-append {A = ℕ}) in
    let new : List ℕ = with_field old 4 (header_of view) in
    let read : (place part width : ℕ) → place ≡ 4 + part → part + width ≤ 20 → number_at Little width new place ≡ number_at Little width (header_of view) part =
    λ place part width same inside. ap (number_of Little width) (field_within old 4 (header_of view) place part width (omega arith) same (omega arith)) in
    record {
      free = read 4 0 4 refl (omega arith)
          ∙ number_ahead ((free ++ start) ++ end) count 4 0 (omega arith) ∙ number_ahead (free ++ start) end 4 0 (omega arith) ∙ number_ahead free start 4 0 (omega arith)
          ∙ number_last [] 4 (free_space view) 0 refl (omega arith);
      start = read 8 4 4 refl (omega arith)
          ∙ number_ahead ((free ++ start) ++ end) count 4 4 (omega arith) ∙ number_ahead (free ++ start) end 4 4 (omega arith)
          ∙ number_last free 4 view.text_start 4 (omega arith) (omega arith);
      end = read 12 8 4 refl (omega arith)
          ∙ number_ahead ((free ++ start) ++ end) count 4 8 (omega arith) ∙ number_last (free ++ start) 4 view.text_end 8 (omega arith) (omega arith);
      count = read 16 12 8 refl (omega arith) ∙ number_last ((free ++ start) ++ end) 8 view.count 12 (omega arith) (omega arith);
      keeps = kept_by_write old 4 (header_of view) 4 24 (omega arith) (omega arith) (omega arith);
    }

pub header_view : (old new : List ℕ) (view : DataView) → HasHeader old new view → view_of new ≡ view
header_view old new view h = λ i. record { count = h.count i; text_start = h.start i; text_end = h.end i }

-- the identifier lies in the bytes before the fields
pub same_id : (old new : List ℕ) → take 4 new ≡ take 4 old → number_at Little 2 new 0 ≡ number_at Little 2 old 0
same_id old new front =
    ap (number_of Little 2) (sym (field_at-take new 4 0 2 (omega arith)) ∙ ap (λ (xs : List ℕ). field_at xs 0 2) front ∙ field_at-take old 4 0 2 (omega arith))
