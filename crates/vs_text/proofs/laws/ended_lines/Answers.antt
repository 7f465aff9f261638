use Rattle.vs_text.proofs.Reading.{lines_of-file_then}
use Rattle.vs_text.proofs.RoundTrips.{lines_in-file_then}
use Rattle.vs_text.proofs.laws.ended_lines.Goals as goal

pub returns-clause-dos : goal.returns-clause-dos
returns-clause-dos c = λ ended last h line dos. lines_in-file_then ended last h line dos

pub returns-clause-unix : goal.returns-clause-unix
returns-clause-unix c = λ ended last h. lines_of-file_then ended last h
