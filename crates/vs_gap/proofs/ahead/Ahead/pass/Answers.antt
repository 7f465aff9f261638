use Rattle.std.proofs.Common.{◌≡◌, ◌≤◌, ◌∙◌, ap, arith, drop, length, length-drop, sym, take}
use Rattle.vs_text.specs.Text.{bytes_of, lines_of}
use Rattle.vs_text.proofs.FileForm.{length-file_of}
use Rattle.vs_gap.proofs.AheadLemmas.{ahead-passed, lines-passed}
use Rattle.vs_gap.proofs.ahead.Ahead.pass.Goals as goal

pub overflow_add-self : goal.overflow_add-self
overflow_add-self c =
    let self = c.self.inside in
    let rest = drop self.from self.run.items in
    omega (
      arith,
      c.self.invariant.within,
      c.size-size.ensures.within,
      ap bytes_of c.self.view_is,
      length-file_of (lines_of rest),
      ap length c.self.invariant.ended,
      length-drop self.from self.run.items,
      self.run.small,
    )

pub invariant_of-self : goal.invariant_of-self
invariant_of-self c =
    let self = c.self.inside in
    ahead-passed self.run.items self.from self.held c.self.invariant c.args.count c.size-size.result (omega (arith, c.requires, ap length c.self.view_is))
    (c.size-size.ensures.is ∙ ap (λ l. bytes_of (take c.args.count l)) (sym c.self.view_is))

pub returns-clause-rest : goal.returns-clause-rest
returns-clause-rest c =
    let self = c.self.inside in
    lines-passed self.run.items self.from self.held c.self.invariant c.args.count c.size-size.result (omega (arith, c.requires, ap length c.self.view_is))
    (c.size-size.ensures.is ∙ ap (λ l. bytes_of (take c.args.count l)) (sym c.self.view_is)) ∙ ap (drop c.args.count) c.self.view_is
