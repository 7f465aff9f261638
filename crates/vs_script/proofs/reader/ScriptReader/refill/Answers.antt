use Rattle.std.proofs.Common.{refl, arith, ap}
use Rattle.std.proofs.lemmas.Grind.{common_steps}
use Rattle.vs_script.specs.Ahead.{Ahead, reads_made}
use Rattle.vs_script.proofs.ReadLemmas.{reads_nothing, reads_one, reads_failed, no_more_none, no_more_one, no_more_stopped}
use Rattle.vs_script.specs.declared.reader.ScriptErr.TheVariants as error
use Rattle.vs_script.proofs.reader.ScriptReader.refill.Goals as goal

pub returns-then-self-clause-reads : goal.returns-then-self-clause-reads
returns-then-self-clause-reads g c = reads_nothing

pub returns-in_err-count-clause-reads : goal.returns-in_err-count-clause-reads
returns-in_err-count-clause-reads g c = reads_failed _ c.in_err-count.was c.from_residual.ensures.1 c.read.ensures.frame c.read.ensures.cause c.read.ensures.told

pub returns-then-count-eq0-clause-reads : goal.returns-then-count-eq0-clause-reads
returns-then-count-eq0-clause-reads g c = reads_one c.in_ok-count.count (λ is. cc) c.read.ensures.frame c.in_ok-count.ensures.quiet c.in_ok-count.ensures.told

pub returns-then-self-eq-SCRIPT_LIMIT-clause-reads : goal.returns-then-self-eq-SCRIPT_LIMIT-clause-reads
returns-then-self-eq-SCRIPT_LIMIT-clause-reads g c = reads_one c.in_ok-count.count (λ is. cc) c.read.ensures.frame c.in_ok-count.ensures.quiet c.in_ok-count.ensures.told

pub returns-clause-reads : goal.returns-clause-reads
returns-clause-reads g c = reads_one c.in_ok-count.count (λ is. cc) c.read.ensures.frame c.in_ok-count.ensures.quiet c.in_ok-count.ensures.told

pub returns-then-self-clause-calls : goal.returns-then-self-clause-calls
returns-then-self-clause-calls g c = no_more_none refl

pub returns-in_err-count-clause-calls : goal.returns-in_err-count-clause-calls
returns-in_err-count-clause-calls g c = no_more_stopped g.S.World.tells (g.S.World.scene c.args.host.now) (g.S.World.scene c.read.new.self) error.Failed c.read.result _ c.from_residual.ensures.1 c.read.ensures.told (ap (λ (a : Ahead). reads_made a) c.self.view_is)

pub returns-then-count-eq0-clause-calls : goal.returns-then-count-eq0-clause-calls
returns-then-count-eq0-clause-calls g c = no_more_one c.in_ok-count.count c.in_ok-count.ensures.told (grind (arith, common_steps))

pub returns-then-self-eq-SCRIPT_LIMIT-clause-calls : goal.returns-then-self-eq-SCRIPT_LIMIT-clause-calls
returns-then-self-eq-SCRIPT_LIMIT-clause-calls g c = no_more_stopped g.S.World.tells (g.S.World.scene c.args.host.now) (g.S.World.scene c.read.new.self) error.TooLong c.read.result _ refl c.read.ensures.told (ap (λ (a : Ahead). reads_made a) c.self.view_is)

pub returns-clause-calls : goal.returns-clause-calls
returns-clause-calls g c = no_more_one c.in_ok-count.count c.in_ok-count.ensures.told (grind (arith, common_steps))
