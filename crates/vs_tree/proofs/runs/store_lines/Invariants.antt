use Rattle.std.proofs.Common.{◌≡◌, ◌≤◌, map, take}
use Rattle.vs_text.specs.Text.{IsText, file_of}
use Rattle.vs_tree.specs.Reads.{exchanged_byte}
use Rattle.vs_tree.proofs.runs.store_lines.Given as goal

abbrev pub invariant-lines : goal.invariant-lines
invariant-lines l = record {
  size : l.used ≤ 4096;
  lines_are : take l.used l.page ≡ map exchanged_byte (file_of (take l.line-index l.lines));
  is_text : IsText (take l.line-index l.lines);
}
