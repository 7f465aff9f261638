-- What a line has room for is the front of a line.
use Rattle.std.proofs.Common.{◌≢◌, sym, subst, length}
use Rattle.std.proofs.lemmas.List.Elements.{All-take}
use Rattle.vs_text.specs.Text.{IsLine}
use Rattle.vs_exparse.specs.Pieces.{replaced_by}
use Rattle.vs_excmd.proofs.WrittenLemmas.{replacement-line}
use Rattle.vs_excmd.proofs.replacing.replacement.Goals as goal

pub returns-clause-line : goal.returns-clause-line
returns-clause-line c =
    let whole = replacement-line c.args.found.now c.args.written.now c.requires.found_line c.requires.form in
    subst IsLine (sym c.in_ok-new.ensures.front) (All-take (λ byte. byte ≢ 10) (length c.in_ok-new.new.items) (replaced_by c.args.found.now c.args.written.now) whole)
