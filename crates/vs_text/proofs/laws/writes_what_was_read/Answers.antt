use Rattle.vs_text.proofs.RoundTrips.{file_in-document_of}
use Rattle.vs_text.proofs.laws.writes_what_was_read.Goals as goal

pub returns : goal.returns
returns c = file_in-document_of
