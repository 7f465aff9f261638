-- A block without lines: any bytes under a header.
use Rattle.std.proofs.Common.{◌≡◌, ℕ, ◌-◌, ◌^◌, ◌<◌, ◌≤◌, List, [], ◌++◌, length, drop, map, Some, Ok, refl, sym, ap, ◌∙◌, inr, subst, arith, length-append}
use Rattle.std.specs.List.{range_with_len}
use Rattle.vs_bytes.specs.Fields.{Little, bytes_of, field_at, number_at, number_of, with_field, with_number}
use Rattle.vs_bytes.proofs.FieldLaws.{length-bytes_of, length-with_number, number_of-bytes_of}
use Rattle.vs_data.specs.declared.DataView.{DataView}
use Rattle.vs_data.specs.Blocks.{end_at, header_of, id_bytes, line_at, lines_in, text_start_in, view_in}
use Rattle.vs_data.proofs.Headers.{HasHeader, header_view, header_written, same_id}
use Rattle.vs_data.proofs.Lines.{lines_are}
use Rattle.vs_data.proofs.Moves.{field_within, joined_writes}
use Rattle.vs_data.proofs.Reading.{IsBlock, block_from_lines, has_view, view_answer, view_bounds}

abbrev pub fresh_view : ℕ → DataView
fresh_view n = record { count = 0; text_start = n; text_end = n }

-- bytes with the identifier at their beginning
abbrev pub with_id : List ℕ → List ℕ
with_id block = with_number Little 4 block 0 0x6461

id_is : bytes_of Little 4 0x6461 ≡ id_bytes
unfolding bytes_of
id_is = refl

short_id : field_at id_bytes 0 2 ≡ bytes_of Little 2 0x6461
unfolding bytes_of
short_id = refl

module _ (block : List ℕ) (n : ℕ) (long : length block ≡ n) (within : 24 ≤ n) where
  id_wide : length (bytes_of Little 4 0x6461) ≡ 4
  id_wide = length-bytes_of Little 4 0x6461

  has_id : number_at Little 2 (with_id block) 0 ≡ 0x6461
  has_id =
      let id = id_wide in
      ap (number_of Little 2) (field_within block 0 (bytes_of Little 4 0x6461) 0 0 2 (omega arith) refl (omega arith) ∙ ap (λ (xs : List ℕ). field_at xs 0 2) id_is ∙ short_id)
      ∙ number_of-bytes_of Little 2 0x6461 (omega arith)

  same_size : length (with_id block) ≡ length block
  same_size = length-with_number Little 4 block 0 0x6461 (omega arith)

  header : n < 2 ^ 32 → HasHeader (with_id block) (with_field (with_id block) 4 (header_of (fresh_view n))) (fresh_view n)
  header fits = let same = same_size in header_written (with_id block) (fresh_view n) (omega arith) (omega arith) fits fits

  pub fresh_block : n < 2 ^ 32 → IsBlock (with_field (with_id block) 4 (header_of (fresh_view n)))
  fresh_block fits =
      let new : List ℕ = with_field (with_id block) 4 (header_of (fresh_view n)) in
      let h = header fits in
      let size = same_size in
      let same = h.keeps.same_length in
      let start = h.start in
      let end = h.end in
      let count = h.count in
      block_from_lines new
      (record {
        header = omega arith;
        id = same_id (with_id block) new h.keeps.before ∙ has_id;
        index = omega arith;
        text = omega arith;
        within = omega arith;
        empty = inr (omega arith);
      })
      (subst (λ (k : ℕ). end_at new k ≡ text_start_in new) (sym count) (end ∙ sym start))
      (λ line below. absurd (omega arith))

  pub fresh_bytes : with_field (with_id block) 4 (header_of (fresh_view n)) ≡ id_bytes ++ header_of (fresh_view n) ++ drop 24 block
  unfolding bytes_of
  fresh_bytes =
      let header : List ℕ = header_of (fresh_view n) in
      let wide : length header ≡ 20 =
      omega (arith, length-append {A = ℕ}, length-bytes_of Little 4 (n - 24), length-bytes_of Little 4 n, length-bytes_of Little 8 0) in
      let id = id_wide in
      let both : length (id_bytes ++ header) ≡ 24 = omega (arith, length-append {A = ℕ}) in
      joined_writes block 0 (bytes_of Little 4 0x6461) header 4 (omega arith) (omega arith)
      ∙ ap (λ (xs : List ℕ). with_field block 0 (xs ++ header)) id_is
      ∙ ap (λ (k : ℕ). (id_bytes ++ header) ++ drop k block) both

  pub fresh_answer : n < 2 ^ 32 → view_in (with_field (with_id block) 4 (header_of (fresh_view n))) ≡ Ok (fresh_view n)
  fresh_answer fits =
      let new : List ℕ = with_field (with_id block) 4 (header_of (fresh_view n)) in
      view_answer new (fresh_block fits) ∙ ap Ok (header_view (with_id block) new (fresh_view n) (header fits))

pub fresh_lines : (block : List ℕ) (n : ℕ) → view_in block ≡ Ok (fresh_view n) → lines_in block ≡ Some []
fresh_lines block n e =
    let h = has_view block (fresh_view n) (view_bounds block (fresh_view n) e) in
    lines_are block (fresh_view n) e ∙ ap (λ (k : ℕ). Some (map (λ line. line_at block line) (range_with_len 0 k))) (sym h.count)
