use Rattle.std.proofs.Common.{List, ℕ, ap, ◌∙◌, ◌++◌, ◌∷◌, []}
use Rattle.vs_pieces.proofs.Ended.{lines_more, whole_after}
use Rattle.vs_pieces.proofs.lines.EndedLines.push.Goals as goal

pub invariant_of-self-inside : goal.invariant_of-self-inside
invariant_of-self-inside c =
    (whole_after c.append_line.result c.self.inside.bytes.items c.args.line.now c.append_line.new.bytes.items c.self.inside.whole c.requires c.append_line.ensures.ok c.append_line.ensures.err, tt)

pub returns-clause-ok : goal.returns-clause-ok
returns-clause-ok c =
    lines_more c.self.inside.bytes.items c.args.line.now c.append_line.new.bytes.items c.self.inside.whole c.requires c.in_ok-append_line.ensures.ok
    ∙ ap (λ (lines : List (List ℕ)). lines ++ c.args.line.now ∷ []) c.self.view_is
