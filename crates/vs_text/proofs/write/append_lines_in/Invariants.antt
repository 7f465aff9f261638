use Rattle.std.proofs.Common.{◌≡◌, ◌++◌, take}
use Rattle.vs_text.specs.Documents.{file_in}
use Rattle.vs_text.specs.Text.{IsText}
use Rattle.vs_text.proofs.write.append_lines_in.Given as goal

abbrev pub invariant-loop-line : goal.invariant-loop-line
invariant-loop-line l = record {
  bytes : l.into.items ≡ l.initial.into.items ++ file_in l.format (take l.line-index l.lines);
  text : IsText (take l.line-index l.lines);
}
