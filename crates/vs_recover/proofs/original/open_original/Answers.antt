use Rattle.std.proofs.Common.{arith}
use Rattle.vs_recover.proofs.ReadingLaws.{reads_ok, reads_passed, reads_then}
use Rattle.vs_recover.proofs.original.open_original.Goals as goal

pub returns-in_err-len-clause-reading : goal.returns-in_err-len-clause-reading
returns-in_err-len-clause-reading g c = reads_passed c.in_err-len.was c.from_residual-in_err-len.ensures.1 (omega arith) (reads_then c.in_ok-has_file.ensures.reading c.file_len.ensures.reading)

pub returns-clause-reading : goal.returns-clause-reading
returns-clause-reading g c = reads_ok (omega arith) (reads_then c.in_ok-has_file.ensures.reading c.in_ok-len.ensures.reading)
