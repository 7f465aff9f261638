-- A global command carries out what its nested line stands for.
use Rattle.std.proofs.Common.{◌∙◌, ap, subst, sym}
use Rattle.vs_exparse.specs.Command.{command_of}
use Rattle.vs_exparse.specs.Form.{HasForm}
use Rattle.vs_excmd.specs.Meaning.{changes_text, is_text_command}
use Rattle.vs_excmd.proofs.meaning.is_text_command.Goals as goal

pub parse_nested-requires : goal.parse_nested-requires
parse_nested-requires c = (subst (λ command. HasForm (command_of command)) c.in-Global.is c.requires).1

pub returns-in-Global : goal.returns-in-Global
returns-in-Global c =
    c.changes_text.ensures ∙ ap changes_text c.parse_nested.ensures.meaning ∙ sym (ap (λ command. is_text_command (command_of command)) c.in-Global.is)
