-- The block is any bytes under the header of a view without lines.
use Rattle.std.proofs.Common.{◌≡◌, ◌≤◌, ◌<◌, ◌^◌, ℕ, List, length, refl, ap, ◌∙◌, arith}
use Rattle.vs_bytes.specs.Fields.{Little, with_field, with_number}
use Rattle.vs_data.specs.Blocks.{header_of}
use Rattle.vs_data.proofs.Fresh.{fresh_answer, fresh_bytes, fresh_lines, fresh_view, with_id}
use Rattle.vs_data.proofs.DataView.fresh_over.Goals as goal

pub returns : goal.returns
returns c =
    let block : List ℕ = c.args.block.now in
    let n : ℕ = length block in
    let is : c.write_header.new.block ≡ with_field (with_id block) 4 (header_of (fresh_view n)) =
    c.write_header.ensures ∙ ap (λ (xs : List ℕ). with_field xs 4 (header_of (fresh_view n))) (c.put_le_u32.ensures ∙ ap (λ (id : ℕ). with_number Little 4 block 0 id) c.from.ensures) in
    let wide : 24 ≤ n = omega arith in
    let fits : n < 2 ^ 32 = omega arith in
    record {
      header = refl;
      view = rw is (fresh_answer block n refl wide fits);
      lines = rw is (fresh_lines (with_field (with_id block) 4 (header_of (fresh_view n))) n (fresh_answer block n refl wide fits));
      bytes = is ∙ fresh_bytes block n refl wide;
    }
