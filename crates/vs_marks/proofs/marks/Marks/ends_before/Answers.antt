-- The far line that is kept first is the last of all.
use Rattle.std.proofs.Common.{◌≡◌, ◌∙◌, ◌<◌, ◌-◌, ◌∷◌, ℕ, length, drop, ap, sym, arith}
use Rattle.vs_marks.specs.Marks.{near_of}
use Rattle.vs_marks.proofs.MarksLemmas.{all-before}
use Rattle.std.proofs.Math.Seq.{drop-cons}
use Rattle.std.proofs.lemmas.Bool.Decides.{nat_tests}
use Rattle.vs_marks.proofs.marks.Marks.ends_before.Goals as goal

pub returns : goal.returns
returns c =
    let self = c.args.self.now in
    let far = self.far.items in
    let some : 0 < length far = omega (arith, c.if-len-eq0.false, c.len.ensures, self.far.ok.0) in
    let first : far ≡ c.index.result.now ∷ drop 1 far = drop-cons far 0 c.index.result.now some ∙ ap (λ (n : ℕ). n ∷ drop 1 far) (sym c.index.ensures) in
    λ before.
    let below : c.index.result.now - self.lead < c.args.line = grind (arith, nat_tests) in
    all-before self.lead c.index.result.now c.args.line (near_of self) (drop 1 far) far first below c.requires.ascends
