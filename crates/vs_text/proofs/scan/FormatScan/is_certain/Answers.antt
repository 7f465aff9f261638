use Rattle.std.proofs.Common.{Some, ap, sym, ◌∙◌}
use Rattle.vs_text.specs.Scan.{Scanning}
use Rattle.vs_text.proofs.Formats.{format_of-certain}
use Rattle.vs_text.proofs.scan.FormatScan.is_certain.Goals as goal

pub returns-in-Some-Unix-clause-certain : goal.returns-in-Some-Unix-clause-certain
returns-in-Some-Unix-clause-certain c = λ _ fed more h.
    let is = ap (λ (s : Scanning). s.found) c.self.view_is in
    let unix = rw c.in-Some-Unix.is at c.in-Some-Unix.field-0-is in
    format_of-certain fed more (sym h.found ∙ (sym is ∙ (c.in-Some-Unix.is ∙ ap Some unix)))
