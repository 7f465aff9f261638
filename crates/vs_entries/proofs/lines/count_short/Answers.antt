-- The first of the lines that are left goes over to those that were counted.
use Rattle.std.proofs.Common.{All, List, ℕ, ap, arith, length, subst, sym}
use Rattle.std.proofs.lemmas.List.Elements.{All-cons, All-tail}
use Rattle.std.proofs.lemmas.Bool.Decides.{nat_tests}
use Rattle.vs_text.specs.Text.{lines_of}
use Rattle.vs_text.specs.Limits.{IsShort}
use Rattle.vs_entries.proofs.lines.count_short.Goals as goal

pub lines-preserved : goal.lines-preserved
lines-preserved c =
    let before = c.lines.invariant in
    let first = c.first_line.ensures in
    let line = c.first_line.result.0.now in
    let after = lines_of c.first_line.result.1.now in
    let fits : IsShort line = grind (arith, nat_tests) in
    record {
      counted = omega (arith, before.counted, ap length first.lines);
      ended = first.ended;
      few = omega (arith, before.few, first.size);
      short = λ all. before.short (subst (λ (lines : List (List ℕ)). All IsShort lines) (sym first.lines) (All-cons IsShort line after fits all));
      long = λ all. All-tail IsShort line after (subst (λ (lines : List (List ℕ)). All IsShort lines) first.lines (before.long all));
    }
