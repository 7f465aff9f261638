use Rattle.vs_text.proofs.RoundTrips.{document_of-file_in}
use Rattle.vs_text.proofs.laws.reads_what_was_written.Goals as goal

pub returns : goal.returns
returns c = document_of-file_in
