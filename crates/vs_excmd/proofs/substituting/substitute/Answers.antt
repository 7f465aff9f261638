-- The finder has the pattern's bytes, and what stands in the place of a match is made of them.
use Rattle.std.proofs.Common.{◌∙◌, sym, subst}
use Rattle.vs_exparse.specs.Pieces.{literal_of, replaced_by}
use Rattle.vs_excmd.specs.Answer.{Leads}
use Rattle.vs_excmd.specs.Rewriting.{StandsIn}
use Rattle.vs_excmd.proofs.FindLemmas.{same-meaning}
use Rattle.vs_excmd.proofs.substituting.substitute.Goals as goal

pub returns-clause-leads : goal.returns-clause-leads
returns-clause-leads g c = λ text has.
    let whole = replaced_by (literal_of c.args.pattern.now) c.args.written.now in
    let stands = subst (λ bytes. StandsIn bytes whole) (sym c.as_slice-3.ensures.value)
    (subst (λ found. StandsIn c.in_ok-new.new.items (replaced_by found c.args.written.now)) (c.as_slice.ensures.value ∙ c.in_ok-literal.ensures.value) c.in_ok-new.ensures.value) in
    subst (λ meant. Leads text meant c.substitute_lines.result)
    (same-meaning c.args.pattern.now c.args.written.now c.args.all text c.args.lines _ c.before-top.result c.size.result
    (c.new-finder.ensures ∙ (c.as_slice-2.ensures.value ∙ c.in_ok-literal.ensures.value)) c.before-top.ensures c.size.ensures)
    (c.substitute_lines.ensures.leads text whole has stands)
