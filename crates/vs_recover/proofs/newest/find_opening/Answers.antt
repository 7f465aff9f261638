use Rattle.std.proofs.Common.{◌≡◌, length, sym, ◌∙◌, arith}
use Rattle.vs_recover.proofs.ChoiceLaws.{found_file, opening_absent, opening_found}
use Rattle.vs_recover.proofs.ReadingLaws.{file_stays, reads_ok, reads_passed, reads_then, there_found, there_was}
use Rattle.vs_recover.proofs.newest.find_opening.Goals as goal

pub read_opening-requires : goal.read_opening-requires
read_opening-requires g c = record { there = there_found c.has_file.ensures.reading c.args.name.now (λ told. sym c.if-not-branch.false ∙ c.in_ok-has_file.ensures.value told) }

pub returns-then-not-branch-clause-opening : goal.returns-then-not-branch-clause-opening
returns-then-not-branch-clause-opening g c = λ told. opening_absent _ (sym (c.in_ok-has_file.ensures.value told) ∙ c.if-not-branch.true)

pub returns-clause-opening : goal.returns-clause-opening
returns-clause-opening g c = λ told.
    opening_found _ c.in_ok-opening.opening (sym (c.in_ok-has_file.ensures.value told) ∙ c.if-not-branch.false)
    (there_was c.has_file.ensures.reading c.args.name.now (λ file. c.in_ok-opening.opening.len ≡ length file) c.in_ok-opening.ensures.len told)
    (λ file is. c.in_ok-opening.ensures.zero file (file_stays c.has_file.ensures.reading (found_file g.F.World.tells (g.F.World.scene c.args.host.now) c.args.name.now file told is)))

pub returns-in_err-opening-clause-reading : goal.returns-in_err-opening-clause-reading
returns-in_err-opening-clause-reading g c = reads_passed c.in_err-opening.was c.from_residual-in_err-opening.ensures.1 (omega arith) (reads_then c.in_ok-has_file.ensures.reading c.read_opening.ensures.reading)

pub returns-clause-reading : goal.returns-clause-reading
returns-clause-reading g c = reads_ok (omega arith) (reads_then c.in_ok-has_file.ensures.reading c.in_ok-opening.ensures.reading)

pub returns-clause-sized : goal.returns-clause-sized
returns-clause-sized g c = c.in_ok-opening.ensures.sized
