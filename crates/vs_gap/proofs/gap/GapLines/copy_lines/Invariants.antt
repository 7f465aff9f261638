use Rattle.std.proofs.Common.{◌≡◌}
use Rattle.vs_text.specs.Text.{IsText, file_of}
use Rattle.vs_edit.specs.Splices.{cut_out}
use Rattle.vs_gap.proofs.gap.GapLines.copy_lines.Given as goal

abbrev pub invariant-loop-i : goal.invariant-loop-i
invariant-loop-i l = record {
  bytes : l.into.items ≡ file_of (cut_out l.self l.at l.i);
  text : IsText (cut_out l.self l.at l.i);
}
