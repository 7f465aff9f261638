use Rattle.std.proofs.Common.{subst}
use Rattle.vs_exparse.specs.Command.{result_of}
use Rattle.vs_exparse.specs.Errors.{Answers}
use Rattle.vs_exparse.specs.Nested.{nested_command_at, nested_errors_at}
use Rattle.vs_exparse.proofs.nested.read_nested.Goals as goal

pub returns-clause-value : goal.returns-clause-value
returns-clause-value c =
    subst (λ start. Answers (nested_errors_at start) (nested_command_at start) (result_of c.read_nested_at.result)) c.line_start.ensures.start
    c.read_nested_at.ensures.value
