use Rattle.std.proofs.Common.{sym, ◌∙◌}
use Rattle.vs_exparse.specs.Command.{command_of}
use Rattle.vs_machine.proofs.AnswerLemmas.{to_change, with_block}
use Rattle.vs_machine.proofs.answering.carry_out.Goals as goal

pub returns-then-changes_text-clause-answers : goal.returns-then-changes_text-clause-answers
returns-then-changes_text-clause-answers g c =
    to_change g.S.LineStore _ _ _ _ c.args.cursor c.args.keep c.change_text.result (command_of c.args.command.now) c.args.block.now (sym c.changes_text.ensures ∙ c.if-changes_text.true) c.change_text.ensures.answers

pub returns-clause-answers : goal.returns-clause-answers
returns-clause-answers g c = with_block g.S.LineStore _ _ _ _ c.args.cursor c.args.keep c.do_other.result (command_of c.args.command.now) c.args.block.now c.do_other.ensures.answers
