-- The lines that are held are those of the text from the reader's place on.
use Rattle.std.proofs.Common.{◌<◌, ◌∙◌, length, arith}
use Rattle.vs_reads.specs.Reading.{line_of}
use Rattle.vs_reads.proofs.ReadLemmas.{copied-first, copied-rest, copied-some, copied-text}
use Rattle.vs_reads.proofs.reader.LineReader.advance.Goals as goal

pub returns-clause-line : goal.returns-clause-line
returns-clause-line g c = λ text has copied.
    let law = g.met.S.LineStore in
    let filled = c.in_ok-fill.ensures in
    let now = c.fill.new.self in
    let below : c.args.self.now.at < length text = omega (arith, law.has_lines c.args.view.now text has, c.requires.some, c.requires.within) in
    let first = c.pass_first.ensures.first _ (copied-text text now.at now.held (law.has_text c.args.view.now text c.requires.valid has))
    (copied-some text now.at now.held (omega (arith, below, filled.at.at_is)) filled.some) (filled.copied text has copied) in
    copied-first (line_of c.pass_first.new.self) text c.args.self.now.at now.held now.at filled.some filled.at.at_is first.0

pub returns-clause-copied : goal.returns-clause-copied
returns-clause-copied g c = λ text has copied.
    let law = g.met.S.LineStore in
    let filled = c.in_ok-fill.ensures in
    let passed = c.pass_first.ensures in
    let now = c.fill.new.self in
    let below : c.args.self.now.at < length text = omega (arith, law.has_lines c.args.view.now text has, c.requires.some, c.requires.within) in
    let first = passed.first _ (copied-text text now.at now.held (law.has_text c.args.view.now text c.requires.valid has))
    (copied-some text now.at now.held (omega (arith, below, filled.at.at_is)) filled.some) (filled.copied text has copied) in
    first.1 ∙ copied-rest text now.at now.held c.pass_first.new.self.at c.pass_first.new.self.held filled.some passed.at.at_is passed.held
