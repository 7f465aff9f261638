use Rattle.std.proofs.Common.{Err, ap, arith}
use Rattle.vs_recover.proofs.ReadingLaws.{blocks_stay, reads_ended, reads_ok, reads_refused, reads_then, fault_failed}
use Rattle.vs_recover.proofs.infos.info_of.Goals as goal

pub returns-in-Err-file_info-clause-reading : goal.returns-in-Err-file_info-clause-reading
returns-in-Err-file_info-clause-reading g c = reads_refused c.in-Err-file_info.is c.error_of-in-Err-file_info.ensures (omega (arith, blocks_stay c.in-Ok.ensures.reading c.args.swo.now)) (reads_then c.in-Ok.ensures.reading c.file_info-2.ensures.reading)

pub returns-then-is_empty-2-clause-reading : goal.returns-then-is_empty-2-clause-reading
returns-then-is_empty-2-clause-reading g c = reads_ended (λ is. cc) (omega (arith, blocks_stay c.in-Ok.ensures.reading c.args.swo.now)) (reads_then c.in-Ok.ensures.reading c.in-Ok-file_info.ensures.reading)

pub returns-in-Ok-joined-clause-reading : goal.returns-in-Ok-joined-clause-reading
returns-in-Ok-joined-clause-reading g c = reads_ok (omega (arith, blocks_stay c.in-Ok.ensures.reading c.args.swo.now)) (reads_then c.in-Ok.ensures.reading c.in-Ok-file_info.ensures.reading)

pub returns-clause-reading : goal.returns-clause-reading
returns-clause-reading g c =
    let became = c.error_of-in-Err-joined.ensures in
    reads_ended (λ is. c.in-Err-joined.ensures.failed (ap (λ f. Err f) (fault_failed c.in-Err-joined.fault (cc)))) (omega (arith, blocks_stay c.in-Ok.ensures.reading c.args.swo.now)) (reads_then c.in-Ok.ensures.reading c.in-Ok-file_info.ensures.reading)
