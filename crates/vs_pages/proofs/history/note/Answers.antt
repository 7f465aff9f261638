use Rattle.std.proofs.Common.{ℕ, ◌+◌, ◌∙◌, refl, set, arith}
use Rattle.vs_pages.specs.Table.{last_in}
use Rattle.vs_pages.proofs.Notes.{noted_next, numbers_set}
use Rattle.vs_pages.proofs.history.note.Goals as goal

pub loop-i-preserved : goal.loop-i-preserved
loop-i-preserved c =
    let at : ℕ = c.numbers_of-at.result.0 in
    let i : ℕ = c.loop-i.i in
    let old = c.loop-i.last.items in
    record {
      len = numbers_set old (at + i) c.args.commit ∙ c.loop-i.invariant.len;
      noted = noted_next (set old (at + i) c.args.commit) old (last_in c.args.last.now.items) at i c.args.commit refl
          (omega (arith, c.requires, c.numbers_of-at.ensures.end, c.loop-i.invariant.len, c.loop-i-test.true)) c.loop-i.invariant.noted;
    }
