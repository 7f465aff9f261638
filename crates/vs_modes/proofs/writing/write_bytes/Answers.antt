use Rattle.vs_host.specs.Trace.{WroteOutput}
use Rattle.vs_disk.proofs.Quiet.{calls_one}
use Rattle.vs_modes.proofs.OutputLaws.{none_call, outputs_call, part_written}
use Rattle.vs_modes.proofs.writing.write_bytes.Goals as goal

pub returns-in-Ok-clause-outputs : goal.returns-in-Ok-clause-outputs
returns-in-Ok-clause-outputs g c = outputs_call g.O.World.tells _ c.write.result _ _ c.write.ensures.frame c.write.ensures.cause c.write.ensures.told

pub returns-in-Ok-clause-none : goal.returns-in-Ok-clause-none
returns-in-Ok-clause-none g c = none_call g.O.World.tells _ c.write.result _ _ c.write.ensures.frame c.write.ensures.told c.in-Ok.ensures.quiet

pub returns-in-Err-clause-outputs : goal.returns-in-Err-clause-outputs
returns-in-Err-clause-outputs g c = outputs_call g.O.World.tells _ c.write.result _ _ c.write.ensures.frame c.write.ensures.cause c.write.ensures.told

pub returns-in-Err-clause-err : goal.returns-in-Err-clause-err
returns-in-Err-clause-err g c = λ told. part_written c.args.bytes.now _ _ (c.in-Err.ensures.err told)

pub returns-in-Ok-clause-calls : goal.returns-in-Ok-clause-calls
returns-in-Ok-clause-calls g c = calls_one g.O.World.tells WroteOutput _ c.write.result _ _ c.write.ensures.told

pub returns-in-Err-clause-calls : goal.returns-in-Err-clause-calls
returns-in-Err-clause-calls g c = calls_one g.O.World.tells WroteOutput _ c.write.result _ _ c.write.ensures.told
