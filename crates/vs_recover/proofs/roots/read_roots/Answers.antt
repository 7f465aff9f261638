use Rattle.std.proofs.Common.{◌∙◌, arith}
use Rattle.vs_recover.proofs.ReadingLaws.{opening_stays, reads_ok, reads_passed, reads_then, root_was}
use Rattle.vs_recover.proofs.roots.read_roots.Goals as goal

pub read_root-requires-2 : goal.read_root-requires-2
read_root-requires-2 g c = record { opening = opening_stays c.read_root.ensures.reading c.args.swo.now c.args.swo_opening.now c.requires.swo }

pub returns-clause-swo : goal.returns-clause-swo
returns-clause-swo g c = λ told. c.in_ok-second.ensures.root told ∙ root_was c.in_ok-first.ensures.reading c.args.swo.now

pub returns-in_err-second-clause-reading : goal.returns-in_err-second-clause-reading
returns-in_err-second-clause-reading g c = reads_passed c.in_err-second.was c.from_residual-in_err-second.ensures.1 (omega arith) (reads_then c.in_ok-first.ensures.reading c.read_root-2.ensures.reading)

pub returns-clause-reading : goal.returns-clause-reading
returns-clause-reading g c = reads_ok (omega arith) (reads_then c.in_ok-first.ensures.reading c.in_ok-second.ensures.reading)
