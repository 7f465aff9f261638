use Rattle.std.proofs.Common.{◌≡◌, ◌∙◌, ap, take, length, min, arith, ℕ}
use Rattle.std.proofs.lemmas.List.{take_min}
use Rattle.vs_exparse.proofs.parts.first_bytes.Goals as goal

pub returns-clause-first : goal.returns-clause-first
returns-clause-first c =
    let len : c.min-len.result ≡ min 1048577 (length c.args.line.now) = omega (arith, c.min-len.ensures) in
    c.split_at.ensures.front ∙ ap (λ (n : ℕ). take n c.args.line.now) len ∙ take_min 1048577 c.args.line.now
