-- The bytes that are left, and those that come.
use Rattle.std.proofs.Common.{◌≡◌, ◌∙◌, ◌++◌, ap, arith, drop, length, length-append}
use Rattle.vs_text.specs.Text.{bytes_of, lines_of}
use Rattle.vs_text.proofs.FileForm.{length-file_of}
use Rattle.vs_gap.proofs.AheadLemmas.{ahead-appended, lines-appended, many-bytes}
use Rattle.vs_gap.proofs.ahead.Ahead.append.Goals as goal

pub overflow_add-self : goal.overflow_add-self
overflow_add-self c =
    let self = c.self.inside in
    let rest = drop self.from self.run.items in
    let put : c.extend_from_slice.new.self.items ≡ rest ++ c.args.lines.now = c.in_ok-extend_from_slice.ensures.items ∙ ap (λ l. l ++ c.args.lines.now) (c.drop.ensures.items ∙ c.drain.ensures.kept) in
    omega (
      arith,
      ap length put,
      length-append rest c.args.lines.now,
      c.extend_from_slice.new.self.small,
      c.self.invariant.counted,
      many-bytes (lines_of rest),
      length-file_of (lines_of rest),
      ap length c.self.invariant.ended,
      c.requires.counted,
      many-bytes c.requires.lines,
      length-file_of c.requires.lines,
      ap length c.requires.form,
    )

pub invariant_of-self-2 : goal.invariant_of-self-2
invariant_of-self-2 c =
    let self = c.self.inside in
    ahead-appended self.run.items self.from self.held c.self.invariant c.args.lines.now c.extend_from_slice.new.self.items c.args.count c.requires
    (c.in_ok-extend_from_slice.ensures.items ∙ ap (λ l. l ++ c.args.lines.now) (c.drop.ensures.items ∙ c.drain.ensures.kept))

pub returns-clause-ok : goal.returns-clause-ok
returns-clause-ok c = λ text is_text form.
    let self = c.self.inside in
    lines-appended self.run.items self.from self.held c.self.invariant c.args.lines.now c.extend_from_slice.new.self.items c.args.count c.requires
    (c.in_ok-extend_from_slice.ensures.items ∙ ap (λ l. l ++ c.args.lines.now) (c.drop.ensures.items ∙ c.drain.ensures.kept)) text is_text form
    ∙ ap (λ l. l ++ text) c.self.view_is
