use Rattle.std.proofs.Common.{◌≡◌, ◌∙◌, ap, Err, ◌++◌, ◌∷◌, [], Bool, false, None, refl}
use Rattle.std.proofs.lemmas.Result.{err_from_is_err_and}
use Rattle.vs_exparse.specs.Command.{result_of}
use Rattle.vs_exparse.specs.Errors.{first_error}
use Rattle.vs_exparse.specs.Global.{outcome_of}
use Rattle.vs_exparse.specs.Meaning.{command_from}
use Rattle.vs_exparse.specs.Names.{rule_of}
use Rattle.vs_exparse.specs.Parts.{parts_in}
use Rattle.vs_exparse.specs.Rules.{outcome_by, rule_errors}
use Rattle.vs_exparse.specs.declared.command.ExErr.TheVariants.{LineTooLong}
use Rattle.vs_exparse.proofs.ErrorLemmas.{by-rule, passed, refused}
use Rattle.vs_exparse.proofs.line.read_command.Goals as goal

short : (too_long : Bool) → too_long ≡ false → first_error ((LineTooLong, too_long) ∷ []) ≡ None
short too_long is = rw is refl

pub returns-in_err-rule-clause-value : goal.returns-in_err-rule-clause-value
returns-in_err-rule-clause-value c =
    let parts = parts_in c.args.parts in
    let result = c.from_residual.result in
    let errors = (outcome_by outcome_of (rule_of parts.word) parts).errors in
    let p = err_from_is_err_and result c.from_residual.ensures.1 in
    passed ((LineTooLong, c.args.too_long) ∷ []) (rule_errors parts ++ errors) (command_from parts) (result_of result) (short c.args.too_long c.if-too_long.false)
    (refused (rule_errors parts) errors (command_from parts) (result_of result) c.in_err-rule.field-0.0 (ap result_of (p.1 ∙ ap Err p.2)) c.in_err-rule.ensures)

pub returns-clause-value : goal.returns-clause-value
returns-clause-value c =
    let parts = parts_in c.args.parts in
    let result = result_of c.read_argument.result in
    let errors = (outcome_by outcome_of (rule_of parts.word) parts).errors in
    passed ((LineTooLong, c.args.too_long) ∷ []) (rule_errors parts ++ errors) (command_from parts) result (short c.args.too_long c.if-too_long.false)
    (passed (rule_errors parts) errors (command_from parts) result c.in_ok-rule.ensures.0
    (by-rule outcome_of (rule_of parts.word) c.in_ok-rule.rule parts result c.in_ok-rule.ensures.1 c.read_argument.ensures.value))
