use Rattle.std.proofs.Common.{◌≡◌, ◌∷◌, ◌++◌, ◌∙◌, [], ℕ, refl, ap, sym, arith, inl, inr}
use Rattle.std.proofs.lemmas.List.{nil_from_length}
use Rattle.vs_text.specs.Documents.{last_byte}
use Rattle.vs_text.proofs.Formats.{last_byte-push}
use Rattle.vs_text.proofs.line_ends.without_return.Goals as goal

pub returns-in_default : goal.returns-in_default
returns-in_default c =
    let none : c.args.line.now ≡ [] = nil_from_length c.args.line.now c.in_default.ensures.cases in
    inr (refl, λ is. let ten : 10 ≡ last_byte 10 c.args.line.now = sym (ap (last_byte 10) none) in omega (arith, ten, is))

pub returns-then-last-eq13 : goal.returns-then-last-eq13
returns-then-last-eq13 c = inl (c.in-Some.ensures.cases.0 ∙ ap (λ (byte : ℕ). c.in-Some.front.now ++ byte ∷ []) c.if-last-eq13.true)

pub returns-else-last-eq13 : goal.returns-else-last-eq13
returns-else-last-eq13 c =
    let ends : last_byte 10 c.args.line.now ≡ c.in-Some.last.now =
    ap (last_byte 10) c.in-Some.ensures.cases.0 ∙ last_byte-push 10 c.in-Some.last.now c.in-Some.front.now in
    inr (refl, λ is. c.if-last-eq13.false (sym ends ∙ is))
