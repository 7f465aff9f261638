-- The bytes that the store gave are those of lines with their ends.
use Rattle.std.proofs.Common.{◌≡◌, ◌++◌, ◌∙◌, All, List, ℕ, ap, length, subst, sym}
use Rattle.vs_text.specs.Text.{file_of, lines_of}
use Rattle.vs_text.specs.Limits.{IsShort}
use Rattle.vs_text.proofs.FileForm.{lines_of-file_of}
use Rattle.vs_edit.specs.Splices.{cut_out}
use Rattle.vs_reads.proofs.ReadLemmas.{copied-text}
use Rattle.vs_entries.proofs.LineLemmas.{held-ended, held-lines}
use Rattle.vs_entries.proofs.lines.lines_at.Goals as goal

pub append-requires : goal.append-requires
append-requires g c = subst (λ (bytes : List ℕ). file_of (lines_of bytes) ≡ bytes) (sym c.deref.ensures.value) (held-ended c.in_ok-copy_lines.ensures.are_lines)

pub returns-clause-lines : goal.returns-clause-lines
returns-clause-lines g c = λ text has.
    let law = g.met.S.LineStore in
    let cut = cut_out text c.args.top c.args.count in
    c.in_ok-append.ensures.ok ∙ ap (λ (lines : List (List ℕ)). lines ++ lines_of c.deref.result.now) c.new-lines.ensures
    ∙ ap lines_of (c.deref.ensures.value ∙ c.in_ok-copy_lines.ensures.lines text has)
    ∙ lines_of-file_of cut (copied-text text c.args.top c.args.count (law.has_text c.args.store.now text c.requires.valid has))

pub returns-clause-count : goal.returns-clause-count
returns-clause-count g c =
    let holds = c.in_ok-copy_lines.ensures.are_lines in
    ap length (c.in_ok-append.ensures.ok ∙ ap (λ (lines : List (List ℕ)). lines ++ lines_of c.deref.result.now) c.new-lines.ensures ∙ ap lines_of c.deref.ensures.value ∙ held-lines holds)
    ∙ holds.counted

pub returns-clause-short : goal.returns-clause-short
returns-clause-short g c =
    let holds = c.in_ok-copy_lines.ensures.are_lines in
    let is : c.append.new.self ≡ holds.lines =
    c.in_ok-append.ensures.ok ∙ ap (λ (lines : List (List ℕ)). lines ++ lines_of c.deref.result.now) c.new-lines.ensures ∙ ap lines_of c.deref.ensures.value ∙ held-lines holds in
    subst (λ (lines : List (List ℕ)). All IsShort lines) (sym is) holds.short_lines
