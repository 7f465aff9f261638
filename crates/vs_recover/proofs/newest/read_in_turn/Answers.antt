use Rattle.std.proofs.Common.{arith}
use Rattle.vs_recover.proofs.ChoiceLaws.{in_turn_first, in_turn_second}
use Rattle.vs_recover.proofs.ReadingLaws.{blocks_stay, opening_stays, reads_ok, reads_passed, reads_then, standing_was}
use Rattle.vs_recover.proofs.newest.read_in_turn.Goals as goal

pub read_text-requires-2 : goal.read_text-requires-2
read_text-requires-2 g c = record { opening = opening_stays c.read_text.ensures.reading c.args.second.now c.args.second_opening.now c.requires.second }

pub returns-in-Some-clause-text : goal.returns-in-Some-clause-text
returns-in-Some-clause-text g c = λ told. in_turn_first _ _ _ c.in-Some.text c.in-Some.is (c.in_ok-text.ensures.text told)

pub returns-clause-text : goal.returns-clause-text
returns-clause-text g c = λ told. in_turn_second _ _ _ c.in_ok-other.other c.in_default.is (c.in_ok-text.ensures.text told)
    (standing_was c.in_ok-text.ensures.reading c.args.second.now c.in_ok-other.other (c.in_ok-other.ensures.text told))

pub returns-in_err-other-clause-reading : goal.returns-in_err-other-clause-reading
returns-in_err-other-clause-reading g c = reads_passed c.in_err-other.was c.from_residual-in_err-other.ensures.1 (omega (arith, blocks_stay c.in_ok-text.ensures.reading c.args.second.now)) (reads_then c.in_ok-text.ensures.reading c.read_text-2.ensures.reading)

pub returns-clause-reading : goal.returns-clause-reading
returns-clause-reading g c = reads_ok (omega (arith, blocks_stay c.in_ok-text.ensures.reading c.args.second.now)) (reads_then c.in_ok-text.ensures.reading c.in_ok-other.ensures.reading)
