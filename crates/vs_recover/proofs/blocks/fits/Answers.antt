use Rattle.std.proofs.Common.{◌≤◌, ◌^◌, arith, inl, inr}
use Rattle.std.proofs.lemmas.Bool.{cases_lt}
use Rattle.vs_tree_shape.specs.Places.{lines_below}
use Rattle.vs_recover.specs.Levels.{are_wide}
use Rattle.vs_recover.proofs.PageLaws.{too_many}
use Rattle.vs_recover.proofs.blocks.fits.Goals as goal

pub returns-in_default : goal.returns-in_default
returns-in_default c =
    let many : 2 ^ 64 ≤ lines_below c.args.found.now = elim (cases_lt (lines_below c.args.found.now) (2 ^ 64)) [ inl lt ↦ absurd (c.in_default.ensures lt) | inr le ↦ le ] in
    too_many c.args.entry.now.pages (lines_below c.args.found.now) c.args.entry.now.lines (are_wide c.args.found.now) many (omega arith)
