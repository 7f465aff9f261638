use Rattle.std.proofs.Common.{refl}
use Rattle.vs_exparse.specs.Command.{command_of}
use Rattle.vs_script.proofs.Feeding.{begins_none, begins_alone, begins_block}
use Rattle.vs_script.proofs.feed.CommandFeed.begin.Goals as goal

pub returns-in-NoCommand-clause-takes : goal.returns-in-NoCommand-clause-takes
returns-in-NoCommand-clause-takes c = λ more same. begins_none _ c.args.line.now more c.requires c.in-NoCommand.ensures.kind same

pub returns-in-Alone-clause-takes : goal.returns-in-Alone-clause-takes
returns-in-Alone-clause-takes c = λ more same. begins_alone _ c.args.line.now more c.requires c.in-Alone.ensures.kind same

pub returns-in-Head-clause-takes : goal.returns-in-Head-clause-takes
returns-in-Head-clause-takes c = λ more same. begins_block _ _ (command_of c.in-Head.command) c.args.line.now more refl c.new.ensures c.in-Head.ensures.kind same
