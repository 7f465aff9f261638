-- The command that is matched is the one that was given.
use Rattle.std.proofs.Common.{sym, subst}
use Rattle.vs_edit.proofs.Steps.{OnlyReads-none}
use Rattle.vs_exparse.specs.Command.{command_of}
use Rattle.vs_excmd.specs.Answer.{Leads}
use Rattle.vs_excmd.specs.Meaning.{effect}
use Rattle.vs_excmd.proofs.meaning.effect.Goals as goal

pub returns-in-Substitute-clause-leads : goal.returns-in-Substitute-clause-leads
returns-in-Substitute-clause-leads g c = λ text lines has stands.
    subst (λ command. Leads text (effect (command_of command) lines text c.args.place) c.substitute.result) (sym c.in-Substitute.is) (c.substitute.ensures.leads text has)

pub returns-in-Append-clause-kept : goal.returns-in-Append-clause-kept
returns-in-Append-clause-kept g c = OnlyReads-none g.met.S.LineStore.stays_itself c.requires.valid

pub returns-in-Insert-clause-kept : goal.returns-in-Insert-clause-kept
returns-in-Insert-clause-kept g c = OnlyReads-none g.met.S.LineStore.stays_itself c.requires.valid

pub returns-in-Change-clause-kept : goal.returns-in-Change-clause-kept
returns-in-Change-clause-kept g c = OnlyReads-none g.met.S.LineStore.stays_itself c.requires.valid

pub returns-in-Delete-clause-kept : goal.returns-in-Delete-clause-kept
returns-in-Delete-clause-kept g c = OnlyReads-none g.met.S.LineStore.stays_itself c.requires.valid

pub returns-in-Append-clause-late : goal.returns-in-Append-clause-late
returns-in-Append-clause-late g c = c.put_block.ensures.late

pub returns-in-Insert-clause-late : goal.returns-in-Insert-clause-late
returns-in-Insert-clause-late g c = c.put_block-in-Insert.ensures.late

pub returns-in-Change-clause-late : goal.returns-in-Change-clause-late
returns-in-Change-clause-late g c = c.put_block-in-Change.ensures.late

pub returns-in-Join-clause-lies : goal.returns-in-Join-clause-lies
returns-in-Join-clause-lies g c = c.join_lines.ensures.lies

pub returns-in-Join-clause-late : goal.returns-in-Join-clause-late
returns-in-Join-clause-late g c = c.join_lines.ensures.late

pub returns-in-Join-clause-kept : goal.returns-in-Join-clause-kept
returns-in-Join-clause-kept g c = c.join_lines.ensures.kept

pub returns-in-Substitute-clause-lies : goal.returns-in-Substitute-clause-lies
returns-in-Substitute-clause-lies g c = c.substitute.ensures.lies

pub returns-in-Substitute-clause-late : goal.returns-in-Substitute-clause-late
returns-in-Substitute-clause-late g c = c.substitute.ensures.late

pub returns-in-Substitute-clause-kept : goal.returns-in-Substitute-clause-kept
returns-in-Substitute-clause-kept g c = c.substitute.ensures.kept
