-- Beside lines that end with zeros, the count of all zeros says whether there are others.
use Rattle.std.proofs.Common.{rules, ◌≡◌, slice_range, sym, ap, ◌∙◌, arith, refl, ℕ, List}
use Rattle.std.proofs.lemmas.Bool.Decides.{nat_tests}
use Rattle.vs_data.specs.Blocks.{text_end_in, text_start_in, zeros_in}
use Rattle.vs_data.proofs.Counting.{counted_if_whole, ends_if_whole, whole_if_counted}
use Rattle.vs_data.proofs.Reading.{has_view}
use Rattle.vs_data.proofs.DataView.is_whole.Goals as goal

pub returns-then-not-ends_lines : goal.returns-then-not-ends_lines
returns-then-not-ends_lines c =
    let h = has_view c.args.block.now c.args.self.now c.requires in
    (λ never. cc, λ none. c.if-not-ends_lines.ensures.1 (ends_if_whole c.args.block.now h.bounds none))

pub slice_bounds-text-count : goal.slice_bounds-text-count
slice_bounds-text-count c =
    let h = has_view c.args.block.now c.args.self.now c.requires in
    let order = h.bounds.text in
    omega (arith, h.start, h.end)

pub slice_bounds-text-start : goal.slice_bounds-text-start
slice_bounds-text-start c =
    let h = has_view c.args.block.now c.args.self.now c.requires in
    let order = h.bounds.text in
    let within = h.bounds.within in
    let start = h.start in
    let end = h.end in
    search rules

pub slice_bounds-text-end : goal.slice_bounds-text-end
slice_bounds-text-end c =
    let h = has_view c.args.block.now c.args.self.now c.requires in
    let order = h.bounds.text in
    let within = h.bounds.within in
    let start = h.start in
    let end = h.end in
    search rules

pub returns : goal.returns
returns c =
    let block : List ℕ = c.args.block.now in
    let h = has_view block c.args.self.now c.requires in
    let lines = c.if-not-ends_lines.ensures.0 refl in
    let same : zeros_in (slice_range block (text_start_in block) (text_end_in block)) ≡ c.count_zeros.result =
    sym (c.count_zeros.ensures ∙ ap (λ start. zeros_in (slice_range block start c.args.self.now.text_end)) h.start ∙ ap (λ end. zeros_in (slice_range block (text_start_in block) end)) h.end) in (
      λ counted. (let is : c.count_zeros.result ≡ c.args.self.now.count = grind (arith, nat_tests) in whole_if_counted block h.bounds lines (same ∙ is ∙ h.count)),
      λ none. (let is : c.count_zeros.result ≡ c.args.self.now.count = sym same ∙ counted_if_whole block h.bounds lines none ∙ sym h.count in grind (arith, nat_tests)),
    )
