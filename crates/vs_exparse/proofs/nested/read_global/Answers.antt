use Rattle.std.proofs.Common.{◌≡◌, ◌∙◌, ap, subst, refl, Err, Some, None}
use Rattle.std.proofs.lemmas.Result.{err_from_is_err_and}
use Rattle.vs_exparse.specs.Argument.{nested_of, pattern_errors, pattern_of}
use Rattle.vs_exparse.specs.Command.{result_of}
use Rattle.vs_exparse.specs.Command.Command.{Global}
use Rattle.vs_exparse.specs.Errors.{first_error}
use Rattle.vs_exparse.specs.Nested.{nested_errors}
use Rattle.vs_exparse.proofs.ErrorLemmas.{first-rest, passed, refused, refused-by}
use Rattle.vs_exparse.proofs.nested.read_global.Goals as goal

pub returns-in_err-pattern-clause-value : goal.returns-in_err-pattern-clause-value
returns-in_err-pattern-clause-value c =
    let argument = c.args.argument.now in
    let result = c.from_residual.result in
    let p = err_from_is_err_and result c.from_residual.ensures.1 in
    refused (pattern_errors argument) (nested_errors (nested_of argument)) _ (result_of result) c.in_err-pattern.field-0.0
    (ap result_of (p.1 ∙ ap Err p.2)) c.in_err-pattern.ensures.refused

pub returns-in_err-read_nested-clause-value : goal.returns-in_err-read_nested-clause-value
returns-in_err-read_nested-clause-value c =
    let argument = c.args.argument.now in
    let errors = nested_errors (nested_of argument) in
    let value = Some (Global c.args.range c.args.invert (pattern_of argument) (nested_of argument)) in
    let result = c.from_residual-in_err-read_nested.result in
    let p = err_from_is_err_and result c.from_residual-in_err-read_nested.ensures.1 in
    let error = c.in_err-read_nested.field-0.0 in
    let first : first_error errors ≡ Some error =
    subst (λ nested. first_error (nested_errors nested) ≡ Some error) c.in_ok-pattern.ensures.rest c.in_err-read_nested.ensures.value in
    passed (pattern_errors argument) errors value (result_of result) c.in_ok-pattern.ensures.allowed
    (refused-by errors value (result_of result) error (ap result_of (p.1 ∙ ap Err p.2)) first)

pub returns-clause-value : goal.returns-clause-value
returns-clause-value c =
    let argument = c.args.argument.now in
    let errors = nested_errors (nested_of argument) in
    let none : first_error errors ≡ None =
    subst (λ nested. first_error (nested_errors nested) ≡ None) c.in_ok-pattern.ensures.rest c.in_ok-read_nested.ensures.value.0 in
    (first-rest (pattern_errors argument) errors c.in_ok-pattern.ensures.allowed ∙ none, rw (c.in_ok-pattern.ensures.pattern, c.in_ok-pattern.ensures.rest) refl)
