-- The fields stand one after the other, so their writes are one write.
use Rattle.std.proofs.Common.{◌≡◌, ℕ, ◌≤◌, List, ◌++◌, length, ap, ◌∙◌, arith, length-append}
use Rattle.vs_bytes.specs.Fields.{Little, bytes_of, with_field, with_number}
use Rattle.vs_bytes.proofs.FieldLaws.{length-bytes_of}
use Rattle.vs_data.specs.declared.DataView.{DataView}
use Rattle.vs_data.specs.Blocks.{free_space, header_of}
use Rattle.vs_data.proofs.Moves.{joined_writes}
use Rattle.vs_data.proofs.DataView.write_header.Goals as goal

header_writes : (block : List ℕ) (view : DataView) → 24 ≤ length block
    → with_number Little 8 (with_number Little 4 (with_number Little 4 (with_number Little 4 block 4 (free_space view)) 8 view.text_start) 12 view.text_end) 16 view.count
    ≡ with_field block 4 (header_of view)
header_writes block view within =
    let free : List ℕ = bytes_of Little 4 (free_space view) in
    let start : List ℕ = bytes_of Little 4 view.text_start in
    let end : List ℕ = bytes_of Little 4 view.text_end in
    let count : List ℕ = bytes_of Little 8 view.count in
    let free_wide : length free ≡ 4 = length-bytes_of Little 4 (free_space view) in
    let start_wide : length start ≡ 4 = length-bytes_of Little 4 view.text_start in
    let end_wide : length end ≡ 4 = length-bytes_of Little 4 view.text_end in
    let count_wide : length count ≡ 8 = length-bytes_of Little 8 view.count in
    let two_wide : length (free ++ start) ≡ 8 = omega (arith, length-append {A = ℕ}) in
    let three_wide : length ((free ++ start) ++ end) ≡ 12 = omega (arith, length-append {A = ℕ}) in
    ap (λ (xs : List ℕ). with_field (with_field xs 12 end) 16 count) (joined_writes block 4 free start 8 (omega arith) (omega arith))
    ∙ ap (λ (xs : List ℕ). with_field xs 16 count) (joined_writes block 4 (free ++ start) end 12 (omega arith) (omega arith))
    ∙ joined_writes block 4 ((free ++ start) ++ end) count 16 (omega arith) (omega arith)

pub returns : goal.returns
returns c = let e = header_writes c.args.block.now c.args.self.now c.requires in cc
