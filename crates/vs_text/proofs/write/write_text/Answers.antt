use Rattle.std.proofs.Common.{◌≡◌, ◌∙◌, ◌++◌, List, ℕ, ap, subst}
use Rattle.vs_text.specs.Text.{IsText}
use Rattle.vs_text.specs.Documents.{document_of, file_in}
use Rattle.vs_text.proofs.RoundTrips.{document_of-file_in}
use Rattle.vs_text.proofs.write.write_text.Goals as goal

pub returns-clause-reads_back : goal.returns-clause-reads_back
returns-clause-reads_back c = λ keeps.
    let text = c.args.text.now in
    let made = c.in_ok-append_lines_in.ensures in
    let bytes : c.append_lines_in.new.into.items ≡ file_in c.args.format c.lines.result.now =
    made.bytes ∙ ap (λ (before : List ℕ). before ++ file_in c.args.format c.lines.result.now) c.new-bytes.ensures.items in
    let written = ap document_of (bytes ∙ ap (file_in c.args.format) c.lines.ensures) in
    written ∙ document_of-file_in c.args.format text (subst IsText c.lines.ensures made.text) keeps
