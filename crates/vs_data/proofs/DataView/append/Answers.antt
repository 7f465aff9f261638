-- The code writes what a line that is put in last changes, but for the header.
use Rattle.std.proofs.Common.{◌≡◌, ℕ, ◌+◌, ◌*◌, ◌-◌, ◌≤◌, List, [], ◌∷◌, ◌++◌, length, take, Ok, refl, sym, ap, subst, ◌∙◌, arith}
use Rattle.std.proofs.lemmas.List.{length-take-le}
use Rattle.vs_bytes.specs.Fields.{Little, bytes_of, with_field, with_number}
use Rattle.vs_bytes.proofs.FieldLaws.{length-bytes_of, length-with_field}
use Rattle.vs_data.specs.declared.DataView.{DataView}
use Rattle.vs_data.specs.Blocks.{KeepsFrame, headed, header_of, lines_in, marks_in, view_in}
use Rattle.vs_data.proofs.Appending.{appended, headed_once}
use Rattle.vs_data.proofs.Headers.{length-header_of}
use Rattle.vs_data.proofs.Reading.{has_view, view_bounds}
use Rattle.vs_data.proofs.DataView.append.Goals as goal

-- the text ends within the block
text_within : (block : List ℕ) (view : DataView) → 24 ≤ length block → view_in (headed block view) ≡ Ok view → view.text_start ≤ length block
text_within block view wide e =
    let v = has_view (headed block view) view (view_bounds (headed block view) view e) in
    let bounds = v.bounds in
    omega (arith, v.start, length-with_field block 4 (header_of view) (omega (arith, length-header_of view)))

pub put_bytes-requires : goal.put_bytes-requires
put_bytes-requires c =
    let within = text_within c.args.block.now c.args.self.now c.requires.header c.requires.view in
    omega arith

pub put_le_u32-requires : goal.put_le_u32-requires
put_le_u32-requires c =
    let within = text_within c.args.block.now c.args.self.now c.requires.header c.requires.view in
    omega arith

pub returns : goal.returns
returns c =
    let block : List ℕ = c.args.block.now in
    let ended : List ℕ = c.args.ended.now in
    let line : List ℕ = take (length ended - 1) ended in
    let before : DataView = c.args.self.now in
    let within = text_within block before c.requires.header c.requires.view in
    let wide : length line ≡ length ended - 1 = length-take-le (length ended - 1) ended (omega arith) in
    let size : length ended ≡ length line + 1 = omega arith in
    let begin : ℕ = before.text_start - (length line + 1) in
    let start : before.text_start - length ended ≡ begin = omega arith in
    let stored : List ℕ = line ++ 0 ∷ [] in
    let old : List ℕ = headed block before in
    let after : DataView = record before { count = before.count + 1; text_start = begin } in
    let view : record before { count = before.count + 1; text_start = before.text_start - length ended } ≡ after =
    ap (λ (n : ℕ). record before { count = before.count + 1; text_start = n }) start in
    let fits : length line + 5 ≤ before.text_start - (24 + 4 * before.count) = omega arith in
    let text : List ℕ = with_field old begin stored in
    let index : List ℕ = with_number Little 4 text (24 + 4 * before.count) begin in
    let new : List ℕ = with_field index 4 (header_of after) in
    let done = appended old before line c.requires.view c.requires.places fits c.requires.no_zero text index new refl refl refl in
    let put : c.put_bytes.new.block ≡ with_field block begin stored =
    c.put_bytes.ensures ∙ ap (λ n. with_field block n ended) start ∙ ap (λ xs. with_field block begin xs) c.requires.end in
    let entry : c.put_le_u32.new.b ≡ with_number Little 4 (with_field block begin stored) (24 + 4 * before.count) begin =
    c.put_le_u32.ensures ∙ ap (λ n. with_number Little 4 c.put_bytes.new.block n (before.text_start - length ended)) c.entry_place.ensures
    ∙ ap (λ n. with_number Little 4 c.put_bytes.new.block (24 + 4 * before.count) n) start ∙ ap (λ xs. with_number Little 4 xs (24 + 4 * before.count) begin) put in
    let once = headed_once block (header_of before) (header_of after) begin stored (4 * before.count) (bytes_of Little 4 begin) (length-header_of before) (length-header_of after) (omega arith)
    (omega (arith, ap length c.requires.end)) (omega (arith, length-bytes_of Little 4 begin)) in
    let is : headed c.put_le_u32.new.b (record before { count = before.count + 1; text_start = before.text_start - length ended }) ≡ new =
    ap (λ (v : DataView). headed c.put_le_u32.new.b v) view ∙ ap (λ xs. headed xs after) entry ∙ once in
    record {
      header = refl;
      view = ap view_in is ∙ done.is ∙ ap Ok (sym view);
      lines = ap lines_in is ∙ done.lines;
      marks = ap marks_in is ∙ done.marks;
      frame = subst (λ (xs : List ℕ). KeepsFrame old xs (record before { count = before.count + 1; text_start = before.text_start - length ended })) (sym is)
          (subst (λ (v : DataView). KeepsFrame old new v) (sym view) done.frame);
    }
