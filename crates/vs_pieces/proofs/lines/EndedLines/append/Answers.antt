use Rattle.std.proofs.Common.{List, ℕ, ap, ◌∙◌, ◌++◌}
use Rattle.vs_text.specs.Text.{lines_of}
use Rattle.vs_pieces.proofs.Ended.{run_after, run_lines}
use Rattle.vs_pieces.proofs.lines.EndedLines.append.Goals as goal

pub invariant_of-self-inside : goal.invariant_of-self-inside
invariant_of-self-inside c =
    (run_after c.extend_from_slice.result c.self.inside.bytes.items c.args.lines.now c.extend_from_slice.new.self.items c.self.inside.whole c.requires c.extend_from_slice.ensures.items, tt)

pub returns-clause-ok : goal.returns-clause-ok
returns-clause-ok c =
    run_lines c.self.inside.bytes.items c.args.lines.now c.extend_from_slice.new.self.items c.self.inside.whole c.in_ok-extend_from_slice.ensures.items
    ∙ ap (λ (lines : List (List ℕ)). lines ++ lines_of c.args.lines.now) c.self.view_is
