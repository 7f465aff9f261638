use Rattle.std.proofs.Common.{ap, sym, ◌∙◌}
use Rattle.vs_text.specs.Documents.{last_byte}
use Rattle.vs_text.proofs.Formats.{last_byte-push}
use Rattle.vs_text.proofs.scan.last_byte.Goals as goal

pub returns-in-Some : goal.returns-in-Some
returns-in-Some c =
    sym (ap (last_byte c.args.before) c.in-Some.ensures.cases.0 ∙ last_byte-push c.args.before c.in-Some.last.now c.in-Some.field-0-1.now)
