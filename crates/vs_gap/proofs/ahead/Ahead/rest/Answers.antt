-- The bytes of the lines are their file form.
use Rattle.std.proofs.Common.{◌≡◌, ◌∙◌, ◌-◌, ap, arith, drop, length, length-drop, length-take, subst, take}
use Rattle.vs_text.specs.Text.{IsText, bytes_of, lines_of}
use Rattle.vs_text.proofs.FileForm.{length-file_of}
use Rattle.vs_text.proofs.LineEnds.{IsText-lines_of}
use Rattle.vs_gap.proofs.ahead.Ahead.rest.Goals as goal

pub returns-clause-size : goal.returns-clause-size
returns-clause-size c =
    let self = c.self.inside in
    let rest = drop self.from self.run.items in
    omega (
      arith,
      length-take (length c.deref.result.now - self.from) (drop self.from c.deref.result.now),
      length-drop self.from c.deref.result.now,
      ap length c.deref.ensures.value,
      length-drop self.from self.run.items,
      ap length c.self.invariant.ended,
      length-file_of (lines_of rest),
      ap bytes_of c.self.view_is,
    )

pub returns-clause-text : goal.returns-clause-text
returns-clause-text c = subst IsText c.self.view_is (IsText-lines_of (drop c.self.inside.from c.self.inside.run.items))
