use Rattle.std.proofs.Common.{◌≡◌, ◌∙◌, sym, ap, refl, false}
use Rattle.std.proofs.lemmas.Bool.{true≢false}
use Rattle.vs_exparse.specs.Command.{command_of, wants_block}
use Rattle.vs_script.specs.Script.{is_alone}
use Rattle.vs_script.proofs.LineKinds.{said_nothing, said_command, said_error, said_form, kind_alone, alone_wants_none}
use Rattle.vs_script.proofs.kind.alone.Goals as goal

pub unreachable-requires : goal.unreachable-requires
unreachable-requires c =
    true≢false (sym c.requires ∙ ap is_alone (said_nothing c.args.line.now c.parse.result c.in-Ok-Nothing.field-0 c.parse.ensures.meaning c.in-Ok-Nothing.is c.in-Ok-Nothing.field-0-is))

pub returns-in-Ok-Command-clause-command : goal.returns-in-Ok-Command-clause-command
returns-in-Ok-Command-clause-command c =
    let said = said_command c.args.line.now c.parse.result c.in-Ok-Command.field-0 c.in-Ok-Command.command c.parse.ensures.meaning c.in-Ok-Command.is c.in-Ok-Command.field-0-is in
    let none : wants_block (command_of c.in-Ok-Command.command) ≡ false = alone_wants_none (command_of c.in-Ok-Command.command) _ refl (sym (ap is_alone said) ∙ c.requires) in
    said ∙ kind_alone (command_of c.in-Ok-Command.command) none

pub returns-in-Ok-Command-clause-form : goal.returns-in-Ok-Command-clause-form
returns-in-Ok-Command-clause-form c =
    let said = said_command c.args.line.now c.parse.result c.in-Ok-Command.field-0 c.in-Ok-Command.command c.parse.ensures.meaning c.in-Ok-Command.is c.in-Ok-Command.field-0-is in (
      said_form c.parse.result c.in-Ok-Command.field-0 c.in-Ok-Command.command c.parse.ensures.form c.in-Ok-Command.is c.in-Ok-Command.field-0-is,
      alone_wants_none (command_of c.in-Ok-Command.command) _ refl (sym (ap is_alone said) ∙ c.requires),
    )

pub returns-in-Err-clause-command : goal.returns-in-Err-clause-command
returns-in-Err-clause-command c = said_error c.args.line.now c.parse.result c.in-Err.error c.parse.ensures.meaning c.in-Err.is
