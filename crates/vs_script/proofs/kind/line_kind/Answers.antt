use Rattle.std.proofs.Common.{◌∙◌, sym, ap}
use Rattle.vs_exparse.specs.Command.{command_of}
use Rattle.vs_script.specs.Script.{Head, is_alone}
use Rattle.vs_script.proofs.LineKinds.{said_nothing, said_command, said_error, kind_head, kind_alone}
use Rattle.vs_script.proofs.kind.line_kind.Goals as goal

pub returns-in-Ok-Nothing-clause-kind : goal.returns-in-Ok-Nothing-clause-kind
returns-in-Ok-Nothing-clause-kind c = said_nothing c.args.line.now c.parse.result c.in-Ok-Nothing.field-0 c.parse.ensures.meaning c.in-Ok-Nothing.is c.in-Ok-Nothing.field-0-is

pub returns-in-Some-clause-kind : goal.returns-in-Some-clause-kind
returns-in-Some-clause-kind c =
    said_command c.args.line.now c.parse.result c.in-Ok-Command.field-0 c.in-Ok-Command.command c.parse.ensures.meaning c.in-Ok-Command.is c.in-Ok-Command.field-0-is
    ∙ kind_head (command_of c.in-Ok-Command.command) c.in-Some.ensures.0 ∙ ap Head (sym c.in-Some.ensures.1)

pub returns-in-None-clause-kind : goal.returns-in-None-clause-kind
returns-in-None-clause-kind c =
    ap is_alone (said_command c.args.line.now c.parse.result c.in-Ok-Command.field-0 c.in-Ok-Command.command c.parse.ensures.meaning c.in-Ok-Command.is c.in-Ok-Command.field-0-is
    ∙ kind_alone (command_of c.in-Ok-Command.command) c.in-None.ensures)

pub returns-in-Err-clause-kind : goal.returns-in-Err-clause-kind
returns-in-Err-clause-kind c = ap is_alone (said_error c.args.line.now c.parse.result c.in-Err.field-0 c.parse.ensures.meaning c.in-Err.is)
