use Rattle.std.proofs.Common.{◌≡◌, length, refl, ◌∙◌, arith}
use Rattle.vs_text.specs.Text.{stored}
use Rattle.vs_ubind.specs.Digest.{digest_of}
use Rattle.vs_ubind.proofs.Meant.{stored_count}
use Rattle.vs_ubind.proofs.binding.compare.Goals as goal

pub returns-then-history-count-clause-refused : goal.returns-then-history-count-clause-refused
returns-then-history-count-clause-refused g c = λ lines is.
    let law = g.met.S.LineStore in
    let digest : c.args.history.now.digest ≡ digest_of lines = c.is_same.ensures.0 c.if-not-is_same.false ∙ c.in_ok-own.ensures.digest lines is in
    let count : c.max-count.result ≡ length (stored lines) = omega (arith, c.max-count.ensures, c.len.ensures, law.has_lines c.args.text.now lines is, stored_count lines) in
    (digest, refl, count, c.if-history-count.true)

pub returns-clause-same : goal.returns-clause-same
returns-clause-same g c = λ lines is.
    let law = g.met.S.LineStore in
    record {
      digest = c.is_same.ensures.0 c.if-not-is_same.false ∙ c.in_ok-own.ensures.digest lines is;
      lines = omega (arith, c.max-count.ensures, c.len.ensures, law.has_lines c.args.text.now lines is, stored_count lines, c.if-history-count.false);
    }
