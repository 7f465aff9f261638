-- The next line stands behind those before it.
use Rattle.std.proofs.Common.{◌≡◌, ℕ, ◌+◌, ◌<◌, List, [], ◌∷◌, ◌++◌, length, take, ap, get_or, ◌∙◌, arith}
use Rattle.std.proofs.lemmas.List.{get_or_default}
use Rattle.vs_tree.proofs.FillLemmas.{first_next, stored_behind, text_next}
use Rattle.vs_tree.proofs.runs.store_lines.Goals as goal

pub lines-preserved : goal.lines-preserved
lines-preserved c =
    let lines : List (List ℕ) = c.args.lines.now in
    let i : ℕ = c.lines.line-index in
    let line : List ℕ = c.bytes-bytes.result.now in
    let inside : i < length lines = omega arith in
    let item : c.line-item.result ≡ get_or lines i [] = c.line-item.is ∙ get_or_default lines i _ [] inside in
    let line_is : line ≡ get_or lines i [] = c.bytes-bytes.ensures.bytes ∙ item in
    let within : c.lines.used + length line < length c.lines.page = omega arith in
    record {
      size = omega arith;
      lines_are = first_next lines i line _ _ inside line_is c.lines.invariant.lines_are
          (stored_behind c.lines.page c.exchange_into.new.into c.lines.used (length line) within (omega arith)
          ∙ ap (λ xs. take c.lines.used c.lines.page ++ (xs ++ 0 ∷ [])) c.exchange_into.ensures);
      is_text = text_next lines i c.line-item.result inside item c.bytes-bytes.ensures.line c.lines.invariant.is_text;
    }
