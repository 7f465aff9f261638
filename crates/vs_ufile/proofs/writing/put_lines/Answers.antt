use Rattle.std.proofs.Common.{◌≡◌, ◌+◌, ◌++◌, ◌∷◌, [], ℕ, List, take, sym, ap, ◌∙◌}
use Rattle.std.proofs.lemmas.List.{take_more}
use Rattle.vs_ufile.specs.Writing.{line_written}
use Rattle.vs_ufile.proofs.Writes.{puts_more}
use Rattle.vs_ufile.proofs.writing.put_lines.Goals as goal

pub lines-preserved : goal.lines-preserved
lines-preserved c =
    let line = c.line-item.result in
    let lines = c.args.lines.now in
    let i = c.lines.line-index in
    let e : take (i + 1) lines ≡ take i lines ++ line ∷ [] = take_more lines i line c.lines-test.true ∙ ap (λ (x : List ℕ). take i lines ++ x ∷ []) (sym c.line-item.is) in
    rw e (puts_more line_written (take i lines) line c.args.out.now.items c.lines.out.items c.put_line.new.out.items c.lines.invariant c.in_ok-put_line.ensures)
