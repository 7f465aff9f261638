use Rattle.std.proofs.Common.{◌∙◌, ap, Err}
use Rattle.std.proofs.lemmas.Result.{err_from_is_err_and}
use Rattle.vs_exparse.specs.Argument.{pattern_errors, replacement_errors}
use Rattle.vs_exparse.specs.Command.{result_of}
use Rattle.vs_exparse.proofs.ErrorLemmas.{refused}
use Rattle.vs_exparse.proofs.argument.read_substitution.Goals as goal

pub returns-in_err-pattern-clause-value : goal.returns-in_err-pattern-clause-value
returns-in_err-pattern-clause-value c =
    let p = err_from_is_err_and c.from_residual.result c.from_residual.ensures.1 in
    refused (pattern_errors c.args.argument.now) (replacement_errors c.args.argument.now) _ (result_of c.from_residual.result) c.in_err-pattern.field-0.0
    (ap result_of (p.1 ∙ ap Err p.2)) c.in_err-pattern.ensures.refused
