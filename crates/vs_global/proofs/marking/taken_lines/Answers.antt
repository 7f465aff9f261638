-- The lines of a span are those from its first on.
use Rattle.std.proofs.Common.{◌∙◌}
use Rattle.std.proofs.lemmas.Result.{IfOk-weaker}
use Rattle.vs_exparse.specs.Pieces.{literal_of}
use Rattle.vs_global.proofs.MarkingLemmas.{span-as}
use Rattle.vs_global.proofs.marking.taken_lines.Goals as goal

pub returns-clause-taken : goal.returns-clause-taken
returns-clause-taken g c = IfOk-weaker c.taken_in.result _ _
    (λ taken are text has. are text has
    ∙ span-as c.args.invert (literal_of c.args.pattern.now) _ text c.args.span c.before-top.result c.size.result c.before-top.ensures c.size.ensures
    (c.new-finder.ensures ∙ c.as_slice.ensures.value ∙ c.in_ok-literal.ensures.value)) c.taken_in.ensures.taken
