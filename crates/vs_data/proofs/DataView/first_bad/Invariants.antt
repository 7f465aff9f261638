use Rattle.std.proofs.Common.{◌≡◌, ◌<◌, ℕ, true}
use Rattle.vs_data.specs.Blocks.{is_good_entry}
use Rattle.vs_data.proofs.DataView.first_bad.Given as goal

-- the entries of the lines before this one are good
abbrev pub invariant-loop-line : goal.invariant-loop-line
invariant-loop-line l = (k : ℕ) → k < l.line → is_good_entry l.block k ≡ true
