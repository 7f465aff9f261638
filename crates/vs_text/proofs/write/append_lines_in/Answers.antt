-- Each turn writes one line more.
use Rattle.std.proofs.Common.{◌≡◌, ◌+◌, ◌<◌, ◌++◌, ℕ, List, [], ◌∷◌, flat_map, take, length, subst, sym, ap, ◌∙◌, append_assoc}
use Rattle.std.proofs.lemmas.List.{take_more, flat_map_more}
use Rattle.std.proofs.lemmas.List.Elements.{All-more}
use Rattle.vs_text.specs.Documents.{file_in, line_end}
use Rattle.vs_text.specs.Text.{IsLine}
use Rattle.vs_text.proofs.write.append_lines_in.Goals as goal

-- what a line adds to the file form
one_more : (before into mid now bytes line ended end : List ℕ) (done : List (List ℕ)) → into ≡ before ++ flat_map (λ l. l ++ end) done → mid ≡ into ++ bytes
    → now ≡ mid ++ ended → bytes ≡ line → ended ≡ end → now ≡ before ++ flat_map (λ l. l ++ end) (done ++ line ∷ [])
one_more before into mid now bytes line ended end done was put grown is by =
    grown ∙ (ap (λ e. mid ++ e) by ∙ (ap (λ m. m ++ end) (put ∙ ap (λ b. into ++ b) is) ∙ (append_assoc into line end
    ∙ (ap (λ i. i ++ (line ++ end)) was ∙ flat_map_more (λ l. l ++ end) before done line))))

pub loop-line-preserved : goal.loop-line-preserved
loop-line-preserved c =
    let lines : List (List ℕ) = c.args.lines.now in
    let i : ℕ = c.loop-line.line-index in
    let line : List ℕ = c.line-item.result in
    let inside : i < length lines = c.loop-line-test.true in
    let more : take (i + 1) lines ≡ take i lines ++ line ∷ [] = take_more lines i line inside ∙ ap (λ l. take i lines ++ l ∷ []) (sym c.line-item.is) in
    record {
      bytes = one_more c.args.into.now.items c.loop-line.into.items c.extend_from_slice.new.self.items c.extend_from_slice-in-loop-line.new.self.items
          c.bytes.result.now line c.line_end.result.now (line_end c.args.format) (take i lines)
          c.loop-line.invariant.bytes c.in_ok-extend_from_slice.ensures.items c.in_ok-extend_from_slice-2.ensures.items c.bytes.ensures.bytes c.line_end.ensures
          ∙ ap (λ done. c.args.into.now.items ++ file_in c.args.format done) (sym more);
      text = All-more IsLine lines i line inside c.loop-line.invariant.text (subst IsLine c.line-item.is c.bytes.ensures.line);
    }
