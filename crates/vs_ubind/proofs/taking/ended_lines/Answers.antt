-- The bytes of lines with their ends are read back as those lines.
use Rattle.std.proofs.Common.{◌≡◌, ◌++◌, ◌∙◌, List, ℕ, ap, sym}
use Rattle.vs_text.specs.Text.{file_of, lines_of}
use Rattle.vs_text.proofs.FileForm.{lines_of-file_of}
use Rattle.vs_ubind.proofs.taking.ended_lines.Goals as goal

pub append-requires : goal.append-requires
append-requires c =
    let lines = c.args.lines.now in
    let form : c.deref.result.now ≡ file_of lines = c.deref.ensures.value ∙ c.in_ok-append_lines.ensures.bytes ∙ ap (λ (bytes : List ℕ). bytes ++ file_of lines) c.new-bytes.ensures.items in
    ap file_of (ap lines_of form ∙ lines_of-file_of lines c.in_ok-append_lines.ensures.text) ∙ sym form

pub returns : goal.returns
returns c =
    let lines = c.args.lines.now in
    let form : c.deref.result.now ≡ file_of lines = c.deref.ensures.value ∙ c.in_ok-append_lines.ensures.bytes ∙ ap (λ (bytes : List ℕ). bytes ++ file_of lines) c.new-bytes.ensures.items in
    c.in_ok-append.ensures.ok ∙ ap (λ (held : List (List ℕ)). held ++ lines_of c.deref.result.now) c.new-ended.ensures ∙ ap lines_of form ∙ lines_of-file_of lines c.in_ok-append_lines.ensures.text
