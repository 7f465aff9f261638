use Rattle.std.proofs.Common.{◌≡◌}
use Rattle.vs_data.specs.Blocks.{end_at}
use Rattle.vs_data.proofs.Counting.{EndsFirst}
use Rattle.vs_data.proofs.DataView.ends_lines.Given as goal

-- the lines before this one end as they should, and this one ends at `end`
abbrev pub invariant-lines : goal.invariant-lines
invariant-lines l = (l.end ≡ end_at l.block l.line) × EndsFirst l.block l.line
