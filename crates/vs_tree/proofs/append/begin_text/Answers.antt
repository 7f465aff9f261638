-- The first line comes in place of the empty one, and the others come after it.
use Rattle.std.proofs.Common.{ℕ, inr, List, [], ◌∷◌, length, map, ap, subst, arith}
use Rattle.std.proofs.lemmas.Result.{IfOk-weaker}
use Rattle.vs_text.specs.Text.{bytes_of, stored_line}
use Rattle.vs_tree_blocks.specs.Blocks.{data_blocks}
use Rattle.vs_tree.specs.Packed.{ArePut, stored_lines}
use Rattle.vs_pages.proofs.Steps.{Continues-trans}
use Rattle.vs_tree.specs.declared.texts.Extent.{Extent}
use Rattle.vs_tree.specs.Texts.{HasText}
use Rattle.vs_tree.proofs.AppendLemmas.{begun, begun_bytes, first_then, lead_few, one_short}
use Rattle.vs_tree.proofs.append.begin_text.Goals as goal

pub splice_within-requires-clause-short_lines : goal.splice_within-requires-clause-short_lines
splice_within-requires-clause-short_lines g c = one_short c.in_ok-first.first c.first_line.result.0.now c.in_ok-first.ensures (c.first_line.ensures.short c.requires.short_lines).0

pub splice_within-requires-clause-few_bytes : goal.splice_within-requires-clause-few_bytes
splice_within-requires-clause-few_bytes g c = λ told text has.
    begun_bytes text c.in_ok-first.first (omega (arith, has.lines, c.requires.empty))
    (omega (arith, ap length c.in_ok-first.ensures, ap bytes_of c.first_line.ensures.lines, c.requires.size, c.requires.few_bytes))

pub append_text-requires-clause-fits : goal.append_text-requires-clause-fits
append_text-requires-clause-fits g c = record {
  few = omega (arith, c.in_ok-put.ensures.lines, c.requires.empty);
  few_bytes = omega (arith, ap bytes_of c.first_line.ensures.lines, c.requires.size, c.requires.few_bytes);
  one = λ told. let r = c.requires.fits.one told in
      (c.in_ok-first.first ∷ [], begun _ c.in_ok-put.put _ r.0 c.in_ok-first.first (omega (arith, r.1.lines, c.requires.empty)) (omega (arith, ap length c.in_ok-first.ensures)) (c.in_ok-put.ensures.text told r.0 r.1));
}

pub append_text-requires-clause-size : goal.append_text-requires-clause-size
append_text-requires-clause-size g c = omega (arith, ap bytes_of c.first_line.ensures.lines, c.requires.size)

pub append_text-requires-clause-few_lines : goal.append_text-requires-clause-few_lines
append_text-requires-clause-few_lines g c = omega (arith, ap length c.first_line.ensures.lines, c.in_ok-put.ensures.lines, c.requires.empty, c.requires.few_lines)

pub append_text-requires-clause-short_lines : goal.append_text-requires-clause-short_lines
append_text-requires-clause-short_lines g c = (c.first_line.ensures.short c.requires.short_lines).1

pub returns-clause-text : goal.returns-clause-text
returns-clause-text g c = IfOk-weaker c.append_text.result _ _
    (λ (extent : Extent) appended told text has.
    let H : List (List ℕ) → Type 0 = λ xs. HasText (g.P.Pages.shows c.append_text.new.pages).present extent xs in
    subst H (first_then text c.args.bytes.now c.first_line.result.0.now c.in_ok-first.first c.first_line.result.1.now (omega (arith, has.lines, c.requires.empty)) c.in_ok-first.ensures c.first_line.ensures.lines)
    (appended told (c.in_ok-first.first ∷ [])
    (begun _ c.in_ok-put.put _ text c.in_ok-first.first (omega (arith, has.lines, c.requires.empty)) (omega (arith, ap length c.in_ok-first.ensures)) (c.in_ok-put.ensures.text told text has))))
    c.append_text.ensures.text

pub returns-clause-lines : goal.returns-clause-lines
returns-clause-lines g c = IfOk-weaker c.append_text.result _ _
    (λ (extent : Extent) lines. omega (arith, lines, ap length c.first_line.ensures.lines, c.in_ok-put.ensures.lines, c.requires.empty)) c.append_text.ensures.lines

pub returns-clause-few : goal.returns-clause-few
returns-clause-few g c = IfOk-weaker c.append_text.result _ _
    (λ (extent : Extent) bytes. omega (arith, bytes, ap bytes_of c.first_line.ensures.lines, c.requires.size, c.requires.few_bytes)) c.append_text.ensures.bytes

pub returns-clause-kept : goal.returns-clause-kept
returns-clause-kept g c = Continues-trans g.met.P.Pages.stays_on c.splice_within.ensures.kept c.append_text.ensures.kept

pub returns-clause-filled : goal.returns-clause-filled
returns-clause-filled g c = IfOk-weaker c.append_text.result _ _
    (λ (extent : Extent) fills told f. fills told (c.in_ok-put.ensures.filled (inr (omega (arith, c.requires.empty))) told f)) c.append_text.ensures.filled

pub returns-clause-packed : goal.returns-clause-packed
returns-clause-packed g c = IfOk-weaker c.append_text.result _ _
    (λ (extent : Extent) packed whole told.
    let line : List ℕ = stored_line c.first_line.result.0.now in
    let rest : List (List ℕ) = stored_lines c.first_line.result.1.now in
    let blocks = data_blocks (g.P.Pages.shows c.append_text.new.pages).present extent.height in
    record {
      lead = line ∷ [];
      others = rest;
      lines_are = ap (λ ls. map stored_line ls) c.first_line.ensures.lines;
      few = lead_few c.args.now.lines c.requires.empty;
      put = λ some. subst (λ (at : ℕ). ArePut blocks at rest []) (omega (arith, c.in_ok-put.ensures.lines, c.requires.empty)) (packed (c.first_line.ensures.whole whole) told some);
    })
    c.append_text.ensures.packed
