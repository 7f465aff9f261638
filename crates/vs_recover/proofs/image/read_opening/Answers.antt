use Rattle.std.proofs.Common.{◌≡◌, length, ap, ◌∙◌, arith}
use Rattle.vs_zero.specs.Zero.{reading_of}
use Rattle.vs_recover.proofs.ChoiceLaws.{sized_reading}
use Rattle.vs_recover.proofs.ReadingLaws.{file_stays, reads_ok, reads_passed, reads_then, there_stays}
use Rattle.vs_recover.proofs.image.read_opening.Goals as goal

pub read_head-requires : goal.read_head-requires
read_head-requires g c = record { len = there_stays c.file_len.ensures.reading c.args.name.now (λ file. c.in_ok-len.len ≡ length file) c.in_ok-len.ensures.value }

pub returns-clause-len : goal.returns-clause-len
returns-clause-len g c = c.in_ok-len.ensures.value

pub returns-clause-zero : goal.returns-clause-zero
returns-clause-zero g c = λ file is.
    c.read-zero.ensures.value ∙ ap (λ bs. reading_of bs) (c.deref.ensures.value ∙ c.in_ok-head.ensures.value file (file_stays c.file_len.ensures.reading is))

pub returns-in_err-head-clause-reading : goal.returns-in_err-head-clause-reading
returns-in_err-head-clause-reading g c = reads_passed c.in_err-head.was c.from_residual-in_err-head.ensures.1 (omega arith) (reads_then c.in_ok-len.ensures.reading c.read_head.ensures.reading)

pub returns-clause-reading : goal.returns-clause-reading
returns-clause-reading g c = reads_ok (omega arith) (reads_then c.in_ok-len.ensures.reading c.in_ok-head.ensures.reading)

pub returns-clause-sized : goal.returns-clause-sized
returns-clause-sized g c = sized_reading c.deref.result.now c.read-zero.result c.read-zero.ensures.value
