use Rattle.vs_exparse.specs.Meaning.{is_no_command, first_error_of, command_in}
use Rattle.vs_exparse.proofs.Sentences.{allowed, refused, meaning, of-start}
use Rattle.vs_exparse.proofs.line.parse.Goals as goal

pub returns-clause-command : goal.returns-clause-command
returns-clause-command c =
    let means = of-start c.args.line.now c.line_start.result.now c.is_too_long.result c.parse_at.result c.line_start.ensures.start c.is_too_long.ensures c.parse_at.ensures.value in
    allowed (is_no_command c.args.line.now) (first_error_of c.args.line.now) (command_in c.args.line.now) c.parse_at.result means

pub returns-clause-refused : goal.returns-clause-refused
returns-clause-refused c =
    let means = of-start c.args.line.now c.line_start.result.now c.is_too_long.result c.parse_at.result c.line_start.ensures.start c.is_too_long.ensures c.parse_at.ensures.value in
    refused (is_no_command c.args.line.now) (first_error_of c.args.line.now) (command_in c.args.line.now) c.parse_at.result means

pub returns-clause-meaning : goal.returns-clause-meaning
returns-clause-meaning c =
    let means = of-start c.args.line.now c.line_start.result.now c.is_too_long.result c.parse_at.result c.line_start.ensures.start c.is_too_long.ensures c.parse_at.ensures.value in
    meaning (is_no_command c.args.line.now) (first_error_of c.args.line.now) (command_in c.args.line.now) c.parse_at.result means
