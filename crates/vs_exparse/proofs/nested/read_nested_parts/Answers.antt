use Rattle.std.proofs.Common.{◌∙◌, ap, Err, ◌++◌}
use Rattle.std.proofs.lemmas.Result.{err_from_is_err_and}
use Rattle.vs_exparse.specs.Command.{result_of}
use Rattle.vs_exparse.specs.Names.{rule_of}
use Rattle.vs_exparse.specs.Nested.{nesting_errors, single_command, single_errors}
use Rattle.vs_exparse.specs.Outcome.{single_outcome}
use Rattle.vs_exparse.specs.Parts.{parts_in}
use Rattle.vs_exparse.specs.Rules.{rule_errors}
use Rattle.vs_exparse.proofs.ErrorLemmas.{by-rule, passed, refused}
use Rattle.vs_exparse.proofs.NestedLemmas.{kept, may-nest}
use Rattle.vs_exparse.proofs.nested.read_nested_parts.Goals as goal

pub returns-in_err-check_nesting-clause-value : goal.returns-in_err-check_nesting-clause-value
returns-in_err-check_nesting-clause-value c =
    let parts = parts_in c.args.parts in
    let result = c.from_residual.result in
    let p = err_from_is_err_and result c.from_residual.ensures.1 in
    refused (nesting_errors parts.word) (rule_errors parts ++ single_errors parts) (single_command parts) (result_of result) c.in_err-check_nesting.field-0.0
    (ap result_of (p.1 ∙ ap Err p.2)) c.in_err-check_nesting.ensures

pub returns-in_err-rule-clause-value : goal.returns-in_err-rule-clause-value
returns-in_err-rule-clause-value c =
    let parts = parts_in c.args.parts in
    let result = c.from_residual-in_err-rule.result in
    let p = err_from_is_err_and result c.from_residual-in_err-rule.ensures.1 in
    passed (nesting_errors parts.word) (rule_errors parts ++ single_errors parts) (single_command parts) (result_of result) c.in_ok-check_nesting.ensures.0
    (refused (rule_errors parts) (single_errors parts) (single_command parts) (result_of result) c.in_err-rule.field-0.0
    (ap result_of (p.1 ∙ ap Err p.2)) c.in_err-rule.ensures)

pub returns-clause-value : goal.returns-clause-value
returns-clause-value c =
    let parts = parts_in c.args.parts in
    let result = result_of c.with_argument.result in
    passed (nesting_errors parts.word) (rule_errors parts ++ single_errors parts) (single_command parts) result c.in_ok-check_nesting.ensures.0
    (passed (rule_errors parts) (single_errors parts) (single_command parts) result c.in_ok-rule.ensures.0
    (by-rule single_outcome (rule_of parts.word) c.in_ok-rule.rule parts result c.in_ok-rule.ensures.1 c.with_argument.ensures.value))

pub returns-clause-kept : goal.returns-clause-kept
returns-clause-kept c =
    let parts = parts_in c.args.parts in
    let rule = c.in_ok-rule.rule in
    kept rule.word parts.range parts.bang parts.argument c.with_argument.result
    (may-nest (rule_of parts.word) rule c.in_ok-rule.ensures.1 c.in_ok-check_nesting.ensures.0) c.with_argument.ensures.value
