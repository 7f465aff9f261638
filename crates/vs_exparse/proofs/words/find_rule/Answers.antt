use Rattle.std.proofs.Common.{◌∙◌, sym}
use Rattle.vs_exparse.specs.Table.{matches}
use Rattle.vs_exparse.specs.Names.{names}
use Rattle.vs_exparse.proofs.FindLemmas.{found-at}
use Rattle.vs_exparse.proofs.words.find_rule.Goals as goal

pub returns-in-Some : goal.returns-in-Some
returns-in-Some c = found-at (λ name. name.row) (λ name. name.rule) (matches c.args.word.now) names c.in-Some.row c.rule_at.result (sym c.in-Some.is ∙ c.find.ensures) c.rule_at.ensures
