use Rattle.std.proofs.Common.{◌∙◌, ap, not, sym, List, ℕ}
use Rattle.vs_exparse.specs.Meaning.{meaning_of}
use Rattle.vs_stress.specs.Commands.{parsed_of, takes_block}
use Rattle.vs_stress.proofs.commands.generated.Goals as goal

pub returns-clause-form : goal.returns-clause-form
returns-clause-form c = c.parsed.ensures.form c.in_ok-block.block (c.in_ok-block.ensures.absent ∙ ap (λ (l : List ℕ). not (takes_block (meaning_of l))) (sym c.line_for.ensures))

pub returns-clause-request : goal.returns-clause-request
returns-clause-request c = record { parsed = c.parsed.ensures.parsed ∙ ap (λ (l : List ℕ). parsed_of (meaning_of l)) c.line_for.ensures; block = c.in_ok-block.ensures.stands }
