use Rattle.std.proofs.Common.{ap, not, sym, ◌%◌}
use Rattle.vs_stress.proofs.Lines.{no_block}
use Rattle.vs_stress.proofs.commands.block_for.Goals as goal

pub returns-then-number-ne1-clause-absent : goal.returns-then-number-ne1-clause-absent
returns-then-number-ne1-clause-absent c = ap not (sym (no_block (c.args.number % 4) c.if-number-ne1.true))
